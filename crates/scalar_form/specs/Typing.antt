-- Which statements and terminators are of the scalar form: on scalars, well typed, with places that are locals.
use Rattle.std.specs.Prelude.{ℕ, Bool, true, false, ◌&&◌, not, nat_lt, ◌==◌, if◌then◌else◌, List, [], ◌∷◌, Option, Some, None, length}
use Rattle.std.specs.List.{list_any}
use Rattle.vk_core.specs.declared.ids.BlockId.{BlockId}
use Rattle.mir_ir.specs.declared.places.PlaceExpr.{PlaceExpr}
use Rattle.mir_ir.specs.declared.places.Projection.{Projection}
use Rattle.mir_ir.specs.declared.tree.Arm.{Arm}
use Rattle.mir_ir.specs.declared.tree.BinaryOp.{BinaryOp}
use Rattle.mir_ir.specs.declared.tree.BinaryOp.TheVariants as op
use Rattle.mir_ir.specs.declared.tree.CastKind.{CastKind}
use Rattle.mir_ir.specs.declared.tree.CastKind.TheVariants as cast
use Rattle.mir_ir.specs.declared.tree.Constant.{Constant}
use Rattle.mir_ir.specs.declared.tree.Constant.TheVariants as constant
use Rattle.mir_ir.specs.declared.tree.Operand.{Operand}
use Rattle.mir_ir.specs.declared.tree.Operand.TheVariants as operand
use Rattle.mir_ir.specs.declared.tree.Rvalue.{Rvalue}
use Rattle.mir_ir.specs.declared.tree.Rvalue.TheVariants as rvalue
use Rattle.mir_ir.specs.declared.tree.Statement.{Statement}
use Rattle.mir_ir.specs.declared.tree.Statement.TheVariants as statement
use Rattle.mir_ir.specs.declared.tree.Terminator.{Terminator}
use Rattle.mir_ir.specs.declared.tree.Terminator.TheVariants as terminator
use Rattle.mir_ir.specs.declared.tree.Block.{Block}
use Rattle.mir_ir.specs.declared.tree.Function.{Function}
use Rattle.mir_ir.specs.Integers.{is_signed}
use Rattle.mir_ir.specs.declared.types.IntTy.TheVariants as int
use Rattle.scalar_runs.specs.declared.builtins.Builtin.{Builtin}
use Rattle.scalar_runs.specs.declared.builtins.Builtin.TheVariants as builtin
use Rattle.scalar_runs.specs.declared.kinds.ValueKind.{ValueKind}
use Rattle.scalar_runs.specs.declared.kinds.ValueKind.TheVariants as kind
use Rattle.scalar_runs.specs.Builtins.{builtin_of}
use Rattle.scalar_runs.specs.Kinds.{kind_of, is_word, width_of_kind, is_value, is_scalar_value, has_bytes, same_kind, same_int}
use Rattle.scalar_runs.specs.Look.{block_of, local_kind}
use Rattle.scalar_runs.specs.Values.{kind_of_operand}

-- the place is a local, with no steps
abbrev pub has_no_steps : List Projection → Bool
has_no_steps [] = true
has_no_steps (step ∷ steps) = false

abbrev pub is_local : PlaceExpr → Bool
is_local p = has_no_steps p.steps

-- a typed number or character of its type, or a truth value
abbrev pub is_constant : Constant → Bool
is_constant (constant.Integer t w) = is_value (kind.Int t) w
is_constant (constant.Bool b) = true
is_constant (constant.Char c) = is_scalar_value c
is_constant _ = false

abbrev pub is_plain : Operand → Bool
is_plain (operand.Copy p) = is_local p
is_plain (operand.Move p) = is_local p
is_plain (operand.Const c) = is_constant c

-- the kind of an operand of the form
abbrev pub operand_kind : Function → Operand → Option ValueKind
operand_kind f o = if is_plain o then kind_of_operand f o else None

-- two integers of one type
abbrev pub integers_kind : Option ValueKind → Option ValueKind → Option ValueKind
integers_kind (Some (kind.Int i)) (Some (kind.Int j)) = if same_int i j then Some (kind.Int i) else None
integers_kind _ _ = None

-- two integers of one type, or two truth values
abbrev pub bits_kind : Option ValueKind → Option ValueKind → Option ValueKind
bits_kind (Some (kind.Int i)) (Some (kind.Int j)) = if same_int i j then Some (kind.Int i) else None
bits_kind (Some kind.Bool) (Some kind.Bool) = Some kind.Bool
bits_kind _ _ = None

-- two integers, of which the left one is shifted
abbrev pub shift_kind : Option ValueKind → Option ValueKind → Option ValueKind
shift_kind (Some (kind.Int i)) (Some (kind.Int j)) = Some (kind.Int i)
shift_kind _ _ = None

-- two integers of one type, two truth values or two characters
abbrev pub order_kind : Option ValueKind → Option ValueKind → Option ValueKind
order_kind (Some (kind.Int i)) (Some (kind.Int j)) = if same_int i j then Some kind.Bool else None
order_kind (Some kind.Bool) (Some kind.Bool) = Some kind.Bool
order_kind (Some kind.Char) (Some kind.Char) = Some kind.Bool
order_kind _ _ = None

-- what an operator gives
abbrev pub binary_kind : BinaryOp → Option ValueKind → Option ValueKind → Option ValueKind
binary_kind op.Add a b = integers_kind a b
binary_kind op.Sub a b = integers_kind a b
binary_kind op.Mul a b = integers_kind a b
binary_kind op.Div a b = integers_kind a b
binary_kind op.Rem a b = integers_kind a b
binary_kind op.BitXor a b = bits_kind a b
binary_kind op.BitAnd a b = bits_kind a b
binary_kind op.BitOr a b = bits_kind a b
binary_kind op.Shl a b = shift_kind a b
binary_kind op.Shr a b = shift_kind a b
binary_kind op.Eq a b = order_kind a b
binary_kind op.Lt a b = order_kind a b
binary_kind op.Le a b = order_kind a b
binary_kind op.Ne a b = order_kind a b
binary_kind op.Ge a b = order_kind a b
binary_kind op.Gt a b = order_kind a b
binary_kind _ a b = None

-- an integer or a truth value
abbrev pub not_kind : Option ValueKind → Option ValueKind
not_kind (Some (kind.Int i)) = Some (kind.Int i)
not_kind (Some kind.Bool) = Some kind.Bool
not_kind _ = None

-- a number with a sign
abbrev pub neg_kind : Option ValueKind → Option ValueKind
neg_kind (Some (kind.Int i)) = if is_signed i then Some (kind.Int i) else None
neg_kind _ = None

-- to an integer from an integer, a truth value or a character; to a character from a u8
abbrev pub recast_kind : Option ValueKind → Option ValueKind → Option ValueKind
recast_kind (Some (kind.Int i)) (Some (kind.Int j)) = Some (kind.Int j)
recast_kind (Some kind.Bool) (Some (kind.Int j)) = Some (kind.Int j)
recast_kind (Some kind.Char) (Some (kind.Int j)) = Some (kind.Int j)
recast_kind (Some (kind.Int i)) (Some kind.Char) = if same_int i int.U8 then Some kind.Char else None
recast_kind _ _ = None

abbrev pub cast_kind : CastKind → Option ValueKind → Option ValueKind → Option ValueKind
cast_kind cast.IntToInt from to = recast_kind from to
cast_kind _ from to = None

-- what a rvalue of the form gives
abbrev pub rvalue_kind : Function → Rvalue → Option ValueKind
rvalue_kind f (rvalue.Use o) = operand_kind f o
rvalue_kind f (rvalue.Cast o ty how) = cast_kind how (operand_kind f o) (kind_of ty)
rvalue_kind f (rvalue.Binary o a b) = binary_kind o (operand_kind f a) (operand_kind f b)
rvalue_kind f (rvalue.Not o) = not_kind (operand_kind f o)
rvalue_kind f (rvalue.Neg o) = neg_kind (operand_kind f o)
rvalue_kind f _ = None

-- both are there, and are one kind
abbrev pub agree : Option ValueKind → Option ValueKind → Bool
agree (Some a) (Some b) = same_kind a b
agree _ _ = false

-- the kind of a place that is a local
abbrev pub place_kind : Function → PlaceExpr → Option ValueKind
place_kind f p = if is_local p then local_kind f p.local.0 else None

abbrev pub is_statement : Function → Statement → Bool
is_statement f (statement.Assign place value) = agree (place_kind f place) (rvalue_kind f value)
is_statement f _ = false

-- a block with a greater number than the one that jumps to it
abbrev pub is_there : Option Block → Bool
is_there (Some b) = true
is_there None = false

abbrev pub is_target : Function → ℕ → BlockId → Bool
is_target f from to = nat_lt from to.0 && is_there (block_of f to.0)

abbrev pub is_next : Function → ℕ → Option BlockId → Bool
is_next f from None = false
is_next f from (Some to) = is_target f from to

-- the width of what is switched on: an integer, a truth value or a character
abbrev pub switch_width : Option ValueKind → Option ℕ
switch_width (Some k) = if has_bytes k then Some (width_of_kind k) else None
switch_width None = None

-- the numbers are bit patterns of the width, all different, and the targets follow
abbrev pub are_arms : Function → ℕ → ℕ → List Arm → Bool
are_arms f from width [] = true
are_arms f from width (arm ∷ arms) =
    is_word (record { width = width; value = arm.number }) && is_target f from arm.target && not (list_any (λ other. other.number == arm.number) arms) && are_arms f from width arms

abbrev pub is_switch : Function → ℕ → Option ℕ → List Arm → BlockId → Bool
is_switch f from None arms otherwise = false
is_switch f from (Some width) arms otherwise = are_arms f from width arms && is_target f from otherwise

abbrev pub is_truth : Function → Operand → Bool
is_truth f o = agree (operand_kind f o) (Some kind.Bool)

abbrev pub has_kind : Option ValueKind → Bool
has_kind (Some k) = true
has_kind None = false

-- each operand is one of the form
abbrev pub are_shown : Function → List Operand → Bool
are_shown f [] = true
are_shown f (o ∷ os) = has_kind (operand_kind f o) && are_shown f os

abbrev pub is_text : Operand → Bool
is_text (operand.Const (constant.Text t)) = true
is_text _ = false

-- `any::<T>()`, T being an integer, `bool` or `char`
abbrev pub is_any_call : ValueKind → Option ValueKind → List Operand → Bool
is_any_call k destination [] = has_bytes k && agree destination (Some k)
is_any_call k destination (o ∷ os) = false

-- `assume(condition)`
abbrev pub is_assume_call : Function → Option ValueKind → List Operand → Bool
is_assume_call f destination (condition ∷ []) = is_truth f condition && agree destination (Some kind.Unit)
is_assume_call f destination _ = false

-- `assert(condition, "text")`
abbrev pub is_assert_call : Function → Option ValueKind → List Operand → Bool
is_assert_call f destination (condition ∷ text ∷ []) = is_truth f condition && is_text text && agree destination (Some kind.Unit)
is_assert_call f destination _ = false

-- `panic("text")`, which does not return
abbrev pub is_panic_call : Option ValueKind → List Operand → Option BlockId → Bool
is_panic_call destination (text ∷ []) None = is_text text && agree destination (Some kind.Never)
is_panic_call destination _ next = false

abbrev pub is_builtin_call : Function → ℕ → Option ValueKind → Builtin → List Operand → Option BlockId → Bool
is_builtin_call f from destination (builtin.Any k) arguments next = is_any_call k destination arguments && is_next f from next
is_builtin_call f from destination builtin.Assume arguments next = is_assume_call f destination arguments && is_next f from next
is_builtin_call f from destination builtin.Assert arguments next = is_assert_call f destination arguments && is_next f from next
is_builtin_call f from destination builtin.Panic arguments next = is_panic_call destination arguments next

abbrev pub is_call : Function → ℕ → Option ValueKind → Option Builtin → List Operand → Option BlockId → Bool
is_call f from destination None arguments next = false
is_call f from destination (Some called) arguments next = is_builtin_call f from destination called arguments next

-- a terminator of the block with this number
abbrev pub is_terminator : Function → ℕ → Terminator → Bool
is_terminator f from (terminator.Goto target) = is_target f from target
is_terminator f from (terminator.Switch o arms otherwise) = is_switch f from (switch_width (operand_kind f o)) arms otherwise
is_terminator f from terminator.Return = true
is_terminator f from (terminator.Assert o expected text shown next) = is_truth f o && are_shown f shown && is_target f from next
is_terminator f from (terminator.Call destination callee arguments next) = is_call f from (place_kind f destination) (builtin_of callee) arguments next
is_terminator f from _ = false

abbrev pub are_statements : Function → List Statement → Bool
are_statements f [] = true
are_statements f (s ∷ ss) = is_statement f s && are_statements f ss

-- statements are counted with 32 bits
abbrev pub is_block : Function → Block → Bool
is_block f b = nat_lt (length b.statements) 4294967296 && are_statements f b.statements && is_terminator f b.id.0 b.terminator

abbrev pub are_blocks : Function → List Block → Bool
are_blocks f [] = true
are_blocks f (b ∷ bs) = is_block f b && are_blocks f bs
