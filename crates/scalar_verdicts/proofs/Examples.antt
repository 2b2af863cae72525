-- In how many ways functions choose.
use Rattle.std.proofs.Common.{◌≡◌, ◌*◌, ℕ, List, [], ◌∷◌, Some, refl}
use Rattle.std.specs.Prelude.{codes}
use Rattle.mir_ir.specs.declared.places.PlaceExpr.{PlaceExpr}
use Rattle.mir_ir.specs.declared.types.IntTy.TheVariants as int
use Rattle.mir_ir.specs.declared.types.Ty.{Ty}
use Rattle.mir_ir.specs.declared.types.Ty as tree_ty
use Rattle.mir_ir.specs.declared.types.Ty.TheBlock as rows
use Rattle.mir_ir.specs.declared.types.Ty.TheVariants as ty
use Rattle.mir_ir.specs.declared.tree.Block.{Block}
use Rattle.mir_ir.specs.declared.tree.Function.{Function}
use Rattle.mir_ir.specs.declared.tree.Terminator.{Terminator}
use Rattle.mir_ir.specs.declared.tree.Terminator.TheVariants as terminator
use Rattle.scalar_form.specs.Size.{first_reached}
use Rattle.scalar_verdicts.specs.Choices.{choices_of}

abbrev place : ℕ → PlaceExpr
place n = record { local = record { 0 = n }; steps = [] }

abbrev block : ℕ → Terminator → Block
block n last = record { id = record { 0 = n }; statements = []; terminator = last }

-- `_n = kani::any::<T>() -> bbM;`
abbrev any : ℕ → Ty → ℕ → Terminator
any n t next = terminator.Call (place n) (record { path = codes "kani::any<T>"; argument = Some t }) [] (Some (record { 0 = next }))

abbrev harness : List Block → Function
harness blocks = record { name = codes "check"; place = record { line = 1; column = 4 }; parameters = 0; result = ty.Tuple []; locals = []; blocks = blocks }

-- a function that chooses nothing runs in one way
nothing_chosen : choices_of (harness (block 0 terminator.Return ∷ [])) ≡ 1
unfolding choices_of first_reached tree_ty.out-Ty rows.shown-the_row-Ty-0 denote.Hole.Carrier.out denote.Hole.Carrier.shown
nothing_chosen = refl

-- a u8, a bool and a character; the block with the u64 is not reached
chosen_in_turn : choices_of (harness (block 0 (any 1 (ty.Int int.U8) 1) ∷ block 1 (any 2 ty.Bool 2) ∷ block 2 (any 3 ty.Char 4) ∷ block 3 (any 4 (ty.Int int.U64) 4) ∷ block 4 terminator.Return ∷ [])) ≡ 256 * 2 * 1112064
unfolding choices_of first_reached tree_ty.out-Ty rows.shown-the_row-Ty-0 denote.Hole.Carrier.out denote.Hole.Carrier.shown
chosen_in_turn = refl
