-- The faults of reading operands and of operators are among the checks of their statement.
use Rattle.std.proofs.Common.{inl, inr, Bool, true, false, cond, List, ◌∷◌, ◌++◌, Option, Some, None, Result, Ok, Err, refl}
use Rattle.std.specs.Prelude.{slice_index_or}
use Rattle.word_bits.specs.declared.word.Word.{Word}
use Rattle.word_bits.specs.Words.{complement, is_lawful, negated, recast}
use Rattle.vk_core.specs.declared.ids.BlockId.{BlockId}
use Rattle.vk_core.specs.declared.check.CheckClass.{CheckClass}
use Rattle.vk_core.specs.declared.check.CheckClass.TheVariants as class
use Rattle.mir_ir.specs.declared.tree.BinaryOp.{BinaryOp}
use Rattle.mir_ir.specs.declared.tree.BinaryOp.TheVariants as op
use Rattle.mir_ir.specs.declared.tree.CastKind.{CastKind}
use Rattle.mir_ir.specs.declared.tree.CastKind.TheVariants as cast
use Rattle.mir_ir.specs.declared.tree.Constant.{Constant}
use Rattle.mir_ir.specs.declared.tree.Constant.TheVariants as constant
use Rattle.mir_ir.specs.declared.tree.Function.{Function}
use Rattle.mir_ir.specs.declared.tree.Operand.{Operand}
use Rattle.mir_ir.specs.declared.tree.Operand.TheVariants as operand
use Rattle.mir_ir.specs.declared.tree.Rvalue.{Rvalue}
use Rattle.mir_ir.specs.declared.tree.Rvalue.TheVariants as rvalue
use Rattle.scalar_checks.specs.declared.checks.Check.{Check}
use Rattle.scalar_runs.specs.declared.kinds.ValueKind.{ValueKind}
use Rattle.scalar_runs.specs.declared.kinds.ValueKind.TheVariants as kind
use Rattle.scalar_checks.specs.Checks.{assign_checks, memory_checks}
use Rattle.scalar_runs.specs.Kinds.{is_word, kind_of, width_of_kind}
use Rattle.scalar_runs.specs.Look.{local_kind}
use Rattle.scalar_runs.specs.Operators.{are_operands, binary_value, cast_value, lawful, operated, operator_value, recast_value, unary_value}
use Rattle.scalar_runs.specs.Run.{Configuration, breach_at}
use Rattle.scalar_runs.specs.Values.{held_value, is_signed_operand, operand_value, read_as, rvalue_value, word_of_constant}
use Rattle.scalar_checks.specs.Complete.{HasCheck}

-- the block where a run stands
abbrev pub here : Configuration → BlockId
here s = record { 0 = s.block }

-- where there is no value, the fault is a check of the list
abbrev pub ErrListed : Configuration → List Check → Result Word CheckClass → Type 0
ErrListed s checks (Ok w) = Unit {0}
ErrListed s checks (Err c) = HasCheck checks (breach_at s c)

-- the faults of reading are checks of the list
pub record HasMemory (s : Configuration) (checks : List Check) : Type 0 where
  pub uninit : HasCheck checks (breach_at s class.Uninit)
  pub invalid : HasCheck checks (breach_at s class.Invalid)

pub memory_first : (s : Configuration) (more : List Check) → HasMemory s (memory_checks (here s) s.index ++ more)
memory_first s more = record { uninit = inr (inl refl); invalid = inr (inr (inl refl)) }

pub memory_alone : (s : Configuration) → HasMemory s (memory_checks (here s) s.index)
memory_alone s = record { uninit = inr (inl refl); invalid = inr (inr (inl refl)) }

pub memory_behind : (s : Configuration) (c : Check) (checks : List Check) → HasMemory s checks → HasMemory s (c ∷ checks)
memory_behind s c checks m = record { uninit = inr m.uninit; invalid = inr m.invalid }

pub held_listed : (s : Configuration) (checks : List Check) → HasMemory s checks → (held : Option Word) → ErrListed s checks (held_value held)
held_listed s checks m (Some w) = tt
held_listed s checks m None = m.uninit

pub read_listed : (s : Configuration) (checks : List Check) → HasMemory s checks → (k : Option ValueKind) (held : Option Word) → ErrListed s checks (read_as k held)
read_listed s checks m (Some kind.Unit) held = tt
read_listed s checks m (Some kind.Never) held = tt
read_listed s checks m (Some kind.Bool) held = held_listed s checks m held
read_listed s checks m (Some kind.Char) held = held_listed s checks m held
read_listed s checks m (Some (kind.Int i)) held = held_listed s checks m held
read_listed s checks m None held = m.invalid

pub constant_listed : (s : Configuration) (checks : List Check) → HasMemory s checks → (c : Constant) → ErrListed s checks (word_of_constant c)
constant_listed s checks m (constant.Integer t w) = tt
constant_listed s checks m (constant.Bool b) = tt
constant_listed s checks m (constant.Char c) = tt
constant_listed s checks m (constant.Text t) = m.invalid
constant_listed s checks m constant.Unit = m.invalid
constant_listed s checks m (constant.Named n) = m.invalid

pub operand_listed : (f : Function) (s : Configuration) (checks : List Check) → HasMemory s checks → (o : Operand) → ErrListed s checks (operand_value f s.values o)
operand_listed f s checks m (operand.Copy p) = read_listed s checks m (local_kind f p.local.0) (slice_index_or s.values p.local.0 None)
operand_listed f s checks m (operand.Move p) = read_listed s checks m (local_kind f p.local.0) (slice_index_or s.values p.local.0 None)
operand_listed f s checks m (operand.Const c) = constant_listed s checks m c

pub unary_listed : (s : Configuration) (checks : List Check) → HasMemory s checks → (g : Word → Word) (v : Result Word CheckClass) → ErrListed s checks v → ErrListed s checks (unary_value g v)
unary_listed s checks m g (Ok a) h = elim (is_word a) as (λ b. ErrListed s checks (cond b (Ok (g a)) (Err class.Invalid))) [ true ↦ tt | false ↦ m.invalid ]
unary_listed s checks m g (Err c) h = h

pub recast_listed : (s : Configuration) (checks : List Check) → HasMemory s checks → (signed : Bool) (k : Option ValueKind) (v : Result Word CheckClass) → ErrListed s checks v → ErrListed s checks (recast_value signed k v)
recast_listed s checks m signed (Some k) v h = unary_listed s checks m (λ w. recast w signed (width_of_kind k)) v h
recast_listed s checks m signed None v h = m.invalid

pub cast_listed : (s : Configuration) (checks : List Check) → HasMemory s checks → (how : CastKind) (signed : Bool) (k : Option ValueKind) (v : Result Word CheckClass) → ErrListed s checks v → ErrListed s checks (cast_value how signed k v)
cast_listed s checks m cast.IntToInt signed k v h = recast_listed s checks m signed k v h
cast_listed s checks m cast.PtrToPtr signed k v h = m.invalid
cast_listed s checks m cast.Unsize signed k v h = m.invalid
cast_listed s checks m cast.MutToConstPointer signed k v h = m.invalid

pub lawful_listed : (s : Configuration) (checks : List Check) → HasCheck checks (breach_at s class.Division) → (a b : Word) (signed : Bool) (w : Word) → ErrListed s checks (lawful a b signed w)
lawful_listed s checks d a b signed w = elim (is_lawful a b signed) as (λ t. ErrListed s checks (cond t (Ok w) (Err class.Division))) [ true ↦ tt | false ↦ d ]

-- the checks of a statement that stores what an operator gives
abbrev pub operator_checks : Configuration → BinaryOp → Operand → Operand → List Check
operator_checks s o x y = assign_checks (here s) s.index (rvalue.Binary o x y)

pub operated_listed : (s : Configuration) (o : BinaryOp) (x y : Operand) (signed : Bool) (a b : Word) → ErrListed s (operator_checks s o x y) (operated o signed a b)
operated_listed s op.Add x y signed a b = tt
operated_listed s op.Sub x y signed a b = tt
operated_listed s op.Mul x y signed a b = tt
operated_listed s op.Div x y signed a b = lawful_listed s (operator_checks s op.Div x y) (inr (inr (inr (inl refl)))) a b signed _
operated_listed s op.Rem x y signed a b = lawful_listed s (operator_checks s op.Rem x y) (inr (inr (inr (inl refl)))) a b signed _
operated_listed s op.BitXor x y signed a b = tt
operated_listed s op.BitAnd x y signed a b = tt
operated_listed s op.BitOr x y signed a b = tt
operated_listed s op.Shl x y signed a b = tt
operated_listed s op.Shr x y signed a b = tt
operated_listed s op.Eq x y signed a b = tt
operated_listed s op.Lt x y signed a b = tt
operated_listed s op.Le x y signed a b = tt
operated_listed s op.Ne x y signed a b = tt
operated_listed s op.Ge x y signed a b = tt
operated_listed s op.Gt x y signed a b = tt
operated_listed s op.Offset x y signed a b = inr (inr (inl refl))
operated_listed s op.AddWithOverflow x y signed a b = inr (inr (inl refl))
operated_listed s op.SubWithOverflow x y signed a b = inr (inr (inl refl))
operated_listed s op.MulWithOverflow x y signed a b = inr (inr (inl refl))

pub operator_listed : (s : Configuration) (o : BinaryOp) (x y : Operand) (signed : Bool) (a b : Word) → ErrListed s (operator_checks s o x y) (operator_value o signed a b)
operator_listed s o x y signed a b =
    elim (are_operands o a b) as (λ t. ErrListed s (operator_checks s o x y) (cond t (operated o signed a b) (Err class.Invalid)))
    [ true ↦ operated_listed s o x y signed a b | false ↦ inr (inr (inl refl)) ]

pub binary_listed : (s : Configuration) (o : BinaryOp) (x y : Operand) (signed : Bool) (a b : Result Word CheckClass)
    → ErrListed s (operator_checks s o x y) a → ErrListed s (operator_checks s o x y) b → ErrListed s (operator_checks s o x y) (binary_value o signed a b)
binary_listed s o x y signed (Ok a) (Ok b) ha hb = operator_listed s o x y signed a b
binary_listed s o x y signed (Ok a) (Err c) ha hb = hb
binary_listed s o x y signed (Err c) b ha hb = ha

-- the checks of a statement that stores a value
abbrev pub value_checks : Configuration → Rvalue → List Check
value_checks s value = assign_checks (here s) s.index value

pub memory_of : (s : Configuration) (value : Rvalue) → HasMemory s (value_checks s value)
memory_of s value = record { uninit = inr (inl refl); invalid = inr (inr (inl refl)) }

pub read_of : (f : Function) (s : Configuration) (value : Rvalue) (o : Operand) → ErrListed s (value_checks s value) (operand_value f s.values o)
read_of f s value o = operand_listed f s (value_checks s value) (memory_of s value) o

pub rvalue_listed : (f : Function) (s : Configuration) (value : Rvalue) → ErrListed s (value_checks s value) (rvalue_value f s.values value)
rvalue_listed f s (rvalue.Use o) = read_of f s (rvalue.Use o) o
rvalue_listed f s (rvalue.Cast o ty how) =
    cast_listed s (value_checks s (rvalue.Cast o ty how)) (memory_of s (rvalue.Cast o ty how)) how (is_signed_operand f o) (kind_of ty) (operand_value f s.values o) (read_of f s (rvalue.Cast o ty how) o)
rvalue_listed f s (rvalue.Binary o a b) =
    binary_listed s o a b (is_signed_operand f a) (operand_value f s.values a) (operand_value f s.values b) (read_of f s (rvalue.Binary o a b) a) (read_of f s (rvalue.Binary o a b) b)
rvalue_listed f s (rvalue.Not o) = unary_listed s (value_checks s (rvalue.Not o)) (memory_of s (rvalue.Not o)) complement (operand_value f s.values o) (read_of f s (rvalue.Not o) o)
rvalue_listed f s (rvalue.Neg o) = unary_listed s (value_checks s (rvalue.Neg o)) (memory_of s (rvalue.Neg o)) negated (operand_value f s.values o) (read_of f s (rvalue.Neg o) o)
rvalue_listed f s (rvalue.PtrMetadata o) = inr (inr (inl refl))
rvalue_listed f s (rvalue.RefOf mutable place) = inr (inr (inl refl))
rvalue_listed f s (rvalue.RawOf mutable place) = inr (inr (inl refl))
rvalue_listed f s (rvalue.Discriminant place) = inr (inr (inl refl))
rvalue_listed f s (rvalue.Len place) = inr (inr (inl refl))
rvalue_listed f s (rvalue.SizeOf t) = inr (inr (inl refl))
rvalue_listed f s (rvalue.AlignOf t) = inr (inr (inl refl))
rvalue_listed f s (rvalue.Array items) = inr (inr (inl refl))
rvalue_listed f s (rvalue.Repeat o count) = inr (inr (inl refl))
rvalue_listed f s (rvalue.Tuple items) = inr (inr (inl refl))
rvalue_listed f s (rvalue.PathUnit path) = inr (inr (inl refl))
rvalue_listed f s (rvalue.PathTuple path operands) = inr (inr (inl refl))
rvalue_listed f s (rvalue.PathFields path fields) = inr (inr (inl refl))
