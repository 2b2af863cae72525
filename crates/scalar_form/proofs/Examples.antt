-- Worked runs: a negation that is guarded, a division, an exclusive or of wide words, assumptions, characters.
use Rattle.std.proofs.Common.{◌≡◌, ℕ, true, false, List, [], ◌∷◌, Some, None, refl}
use Rattle.std.specs.Prelude.{codes}
use Rattle.vk_core.specs.declared.check.CheckClass.{CheckClass}
use Rattle.vk_core.specs.declared.check.CheckClass.TheVariants as class
use Rattle.mir_ir.specs.declared.places.PlaceExpr.{PlaceExpr}
use Rattle.mir_ir.specs.declared.types.IntTy.TheVariants as int
use Rattle.mir_ir.specs.declared.types.IntTy.{IntTy}
use Rattle.mir_ir.specs.declared.types.Ty.{Ty}
use Rattle.mir_ir.specs.declared.types.Ty as tree_ty
use Rattle.mir_ir.specs.declared.types.Ty.TheBlock as rows
use Rattle.mir_ir.specs.declared.types.Ty.TheVariants as ty
use Rattle.mir_ir.specs.declared.tree.BinaryOp.TheVariants as op
use Rattle.mir_ir.specs.declared.tree.Block.{Block}
use Rattle.mir_ir.specs.declared.tree.Constant.TheVariants as constant
use Rattle.mir_ir.specs.declared.tree.Function.{Function}
use Rattle.mir_ir.specs.declared.tree.Local.{Local}
use Rattle.mir_ir.specs.declared.tree.Operand.{Operand}
use Rattle.mir_ir.specs.declared.tree.Operand.TheVariants as operand
use Rattle.mir_ir.specs.declared.tree.Rvalue.TheVariants as rvalue
use Rattle.mir_ir.specs.declared.tree.Statement.{Statement}
use Rattle.mir_ir.specs.declared.tree.Statement.TheVariants as statement
use Rattle.mir_ir.specs.declared.tree.Terminator.{Terminator}
use Rattle.mir_ir.specs.declared.tree.Terminator.TheVariants as terminator
use Rattle.scalar_runs.specs.declared.breach.Breach.{Breach}
use Rattle.scalar_runs.specs.declared.kinds.Choice.{Choice}
use Rattle.scalar_runs.specs.declared.kinds.ValueKind.{ValueKind}
use Rattle.scalar_runs.specs.declared.kinds.ValueKind.TheVariants as kind
use Rattle.scalar_form.specs.Form.{is_scalar}
use Rattle.scalar_form.specs.Size.{first_reached, size_of}
use Rattle.scalar_runs.specs.Run.{Cut, Ended, Faulted, Running, Wanting, run, start, step}

abbrev local : ℕ → Ty → Local
local n t = record { id = record { 0 = n }; ty = t }

abbrev place : ℕ → PlaceExpr
place n = record { local = record { 0 = n }; steps = [] }

abbrev copied : ℕ → Operand
copied n = operand.Copy (place n)

abbrev number : IntTy → ℕ → ℕ → Operand
number i width n = operand.Const (constant.Integer i (record { width = width; value = n }))

abbrev block : ℕ → List Statement → Terminator → Block
block n statements last = record { id = record { 0 = n }; statements = statements; terminator = last }

-- `_n = kani::any::<T>() -> bbM;`
abbrev any : ℕ → Ty → ℕ → Terminator
any n t next = terminator.Call (place n) (record { path = codes "kani::any<T>"; argument = Some t }) [] (Some (record { 0 = next }))

abbrev leave : ℕ → Block
leave n = block n [] terminator.Return

abbrev harness : List Local → List Block → Function
harness locals blocks = record {
  name = codes "check";
  place = record { line = 1; column = 4 };
  parameters = 0;
  result = ty.Tuple [];
  locals = local 0 (ty.Tuple []) ∷ locals;
  blocks = blocks;
}

abbrev choice : ValueKind → ℕ → ℕ → List Choice
choice k width n = record { kind = k; word = record { width = width; value = n } } ∷ []

abbrev breach : ℕ → ℕ → CheckClass → Breach
breach b i c = record { block = record { 0 = b }; index = i; class = c }

-- `_1` is any i8, and its negation is guarded against the least one
abbrev negate : Function
negate = harness (local 1 (ty.Int int.I8) ∷ local 2 ty.Bool ∷ local 3 (ty.Int int.I8) ∷ [])
    (block 0 [] (any 1 (ty.Int int.I8) 1)
    ∷ block 1 (statement.Assign (place 2) (rvalue.Binary op.Eq (copied 1) (number int.I8 8 128)) ∷ [])
    (terminator.Assert (operand.Move (place 2)) false (codes "attempt to negate") (copied 1 ∷ []) (record { 0 = 2 }))
    ∷ block 2 (statement.Assign (place 3) (rvalue.Neg (copied 1)) ∷ []) terminator.Return ∷ [])

negate_is_scalar : is_scalar negate ≡ true
unfolding is_scalar size_of first_reached tree_ty.out-Ty rows.shown-the_row-Ty-0 denote.Hole.Carrier.out denote.Hole.Carrier.shown
negate_is_scalar = refl

-- -128 is the bit pattern 128
negate_panics : run negate 3 (start negate) (choice (kind.Int int.I8) 8 128) ≡ Faulted (breach 1 1 class.Panic) []
unfolding run start step tree_ty.out-Ty rows.shown-the_row-Ty-0 denote.Hole.Carrier.out denote.Hole.Carrier.shown
negate_panics = refl

negate_runs_before : run negate 2 (start negate) (choice (kind.Int int.I8) 8 128) ≡ Running
unfolding run start step tree_ty.out-Ty rows.shown-the_row-Ty-0 denote.Hole.Carrier.out denote.Hole.Carrier.shown
negate_runs_before = refl

negate_ends : run negate 5 (start negate) (choice (kind.Int int.I8) 8 127) ≡ Ended
unfolding run start step tree_ty.out-Ty rows.shown-the_row-Ty-0 denote.Hole.Carrier.out denote.Hole.Carrier.shown
negate_ends = refl

-- `_2 = Div(const 1_u8, copy _1)`
abbrev divide : Function
divide = harness (local 1 (ty.Int int.U8) ∷ local 2 (ty.Int int.U8) ∷ [])
    (block 0 [] (any 1 (ty.Int int.U8) 1) ∷ block 1 (statement.Assign (place 2) (rvalue.Binary op.Div (number int.U8 8 1) (copied 1)) ∷ []) terminator.Return ∷ [])

divide_by_zero : run divide 2 (start divide) (choice (kind.Int int.U8) 8 0) ≡ Faulted (breach 1 0 class.Division) []
unfolding run start step tree_ty.out-Ty rows.shown-the_row-Ty-0 denote.Hole.Carrier.out denote.Hole.Carrier.shown
divide_by_zero = refl

divide_by_two : run divide 3 (start divide) (choice (kind.Int int.U8) 8 2) ≡ Ended
unfolding run start step tree_ty.out-Ty rows.shown-the_row-Ty-0 denote.Hole.Carrier.out denote.Hole.Carrier.shown
divide_by_two = refl

-- a surrogate is no character, and the run wants a choice
abbrev character : Function
character = harness (local 1 ty.Char ∷ []) (block 0 [] (any 1 ty.Char 1) ∷ leave 1 ∷ [])

character_ends : run character 2 (start character) (choice kind.Char 32 1114111) ≡ Ended
unfolding run start step tree_ty.out-Ty rows.shown-the_row-Ty-0 denote.Hole.Carrier.out denote.Hole.Carrier.shown
character_ends = refl

surrogate_is_wanted : run character 2 (start character) (choice kind.Char 32 55296) ≡ Wanting
unfolding run start step tree_ty.out-Ty rows.shown-the_row-Ty-0 denote.Hole.Carrier.out denote.Hole.Carrier.shown
surrogate_is_wanted = refl

-- `_1` is assumed, and asserted by a panic
abbrev assume : Function
assume = harness (local 1 ty.Bool ∷ local 2 (ty.Tuple []) ∷ local 3 ty.Never ∷ [])
    (block 0 [] (any 1 ty.Bool 1)
    ∷ block 1 [] (terminator.Call (place 2) (record { path = codes "kani::assume"; argument = None }) (copied 1 ∷ []) (Some (record { 0 = 2 })))
    ∷ block 2 (statement.Assign (place 2) (rvalue.Use (copied 2)) ∷ []) (terminator.Call (place 3) (record { path = codes "core::panicking::panic"; argument = None }) (operand.Const (constant.Text (codes "no")) ∷ []) None) ∷ [])

assume_is_scalar : is_scalar assume ≡ true
unfolding is_scalar size_of first_reached tree_ty.out-Ty rows.shown-the_row-Ty-0 denote.Hole.Carrier.out denote.Hole.Carrier.shown
assume_is_scalar = refl

assume_cuts : run assume 2 (start assume) (choice kind.Bool 1 0) ≡ Cut
unfolding run start step tree_ty.out-Ty rows.shown-the_row-Ty-0 denote.Hole.Carrier.out denote.Hole.Carrier.shown
assume_cuts = refl

assume_panics : run assume 4 (start assume) (choice kind.Bool 1 1) ≡ Faulted (breach 2 1 class.Panic) []
unfolding run start step tree_ty.out-Ty rows.shown-the_row-Ty-0 denote.Hole.Carrier.out denote.Hole.Carrier.shown
assume_panics = refl

-- a local that was not stored to
abbrev unset : Function
unset = harness (local 1 (ty.Int int.U128) ∷ local 2 (ty.Int int.U128) ∷ []) (block 0 (statement.Assign (place 2) (rvalue.Binary op.BitXor (copied 1) (copied 2)) ∷ []) terminator.Return ∷ [])

unset_is_read : run unset 1 (start unset) [] ≡ Faulted (breach 0 0 class.Uninit) []
unfolding run start step tree_ty.out-Ty rows.shown-the_row-Ty-0 denote.Hole.Carrier.out denote.Hole.Carrier.shown
unset_is_read = refl
