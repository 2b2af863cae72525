-- The canonical lines of statements and terminators, without what stands before and behind them in a block.
use Rattle.std.specs.Prelude.{ℕ, Bool, true, false, List, [], ◌∷◌, ◌++◌, Option, Some, None, codes}
use Rattle.std.specs.Fmt.{decimal}
use Rattle.vk_core.specs.declared.ids.BlockId.{BlockId}
use Rattle.mir_ir.specs.declared.tree.Arm.{Arm}
use Rattle.mir_ir.specs.declared.tree.Callee.{Callee}
use Rattle.mir_ir.specs.declared.tree.Operand.{Operand}
use Rattle.mir_ir.specs.declared.tree.Rvalue.{Rvalue}
use Rattle.mir_ir.specs.declared.tree.Statement.{Statement}
use Rattle.mir_ir.specs.declared.tree.Statement.TheVariants as statement
use Rattle.mir_ir.specs.declared.tree.Terminator.{Terminator}
use Rattle.mir_ir.specs.declared.tree.Terminator.TheVariants as terminator
use Rattle.mir_ir.specs.declared.places.PlaceExpr.{PlaceExpr}
use Rattle.canonical_text.specs.declared.positions.Position.TheVariants.{AsValue}
use Rattle.canonical_text.specs.Names.{path_written}
use Rattle.canonical_text.specs.Places.{label_text, local_text, place_text}
use Rattle.canonical_text.specs.Operands.{more_operands, operand_text, operands_text, quoted}
use Rattle.canonical_text.specs.Rvalues.{rvalue_text}

unfoldable pub assign_text : PlaceExpr → Rvalue → List ℕ
assign_text place value = place_text place ++ codes " = " ++ rvalue_text value ++ codes ";"

unfoldable pub storage_text : List ℕ → ℕ → List ℕ
storage_text word local = word ++ codes "(" ++ local_text local ++ codes ");"

unfoldable pub set_variant_text : PlaceExpr → ℕ → List ℕ
set_variant_text place variant = codes "discriminant(" ++ place_text place ++ codes ") = " ++ decimal variant ++ codes ";"

abbrev pub statement_text : Statement → List ℕ
statement_text (statement.Assign place value) = assign_text place value
statement_text (statement.StorageLive local) = storage_text (codes "StorageLive") local.0
statement_text (statement.StorageDead local) = storage_text (codes "StorageDead") local.0
statement_text (statement.SetVariant place variant) = set_variant_text place variant

-- ` -> [return: bb1, unwind continue];`, with `success` behind an assert
unfoldable pub goes_on_text : List ℕ → ℕ → List ℕ
goes_on_text word next = codes " -> [" ++ word ++ codes ": " ++ label_text next ++ codes ", unwind continue];"

-- a call that never returns has no next block
abbrev pub call_end_text : Option BlockId → List ℕ
call_end_text (Some next) = goes_on_text (codes "return") next.0
call_end_text None = codes " -> unwind continue;"

-- `0: bb1, ` for each arm
abbrev pub arms_text : List Arm → List ℕ
arms_text [] = []
arms_text (arm ∷ arms) = decimal arm.number ++ codes ": " ++ label_text arm.target.0 ++ codes ", " ++ arms_text arms

unfoldable pub goto_text : ℕ → List ℕ
goto_text target = codes "goto -> " ++ label_text target ++ codes ";"

unfoldable pub switch_text : Operand → List Arm → ℕ → List ℕ
switch_text o arms otherwise = codes "switchInt(" ++ operand_text o ++ codes ") -> [" ++ arms_text arms ++ codes "otherwise: " ++ label_text otherwise ++ codes "];"

unfoldable pub drop_text : PlaceExpr → ℕ → List ℕ
drop_text place next = codes "drop(" ++ place_text place ++ codes ")" ++ goes_on_text (codes "return") next

abbrev pub expected_word : Bool → List ℕ
expected_word true = []
expected_word false = codes "!"

unfoldable pub assert_text : Operand → Bool → List ℕ → List Operand → ℕ → List ℕ
assert_text o expected text shown next = codes "assert(" ++ expected_word expected ++ operand_text o ++ codes ", " ++ quoted text ++ more_operands shown ++ codes ")" ++ goes_on_text (codes "success") next

unfoldable pub call_text : PlaceExpr → Callee → List Operand → Option BlockId → List ℕ
call_text destination callee arguments next = place_text destination ++ codes " = " ++ path_written AsValue callee.path ++ codes "(" ++ operands_text arguments ++ codes ")" ++ call_end_text next

abbrev pub terminator_text : Terminator → List ℕ
terminator_text (terminator.Goto target) = goto_text target.0
terminator_text (terminator.Switch o arms otherwise) = switch_text o arms otherwise.0
terminator_text terminator.Return = codes "return;"
terminator_text terminator.Unreachable = codes "unreachable;"
terminator_text (terminator.Drop place next) = drop_text place next.0
terminator_text (terminator.Assert o expected text shown next) = assert_text o expected text shown next.0
terminator_text (terminator.Call destination callee arguments next) = call_text destination callee arguments next
