use Rattle.std.proofs.Common.{◌≡◌, ◌++◌, drop, flat_map}
use Rattle.mir_program.specs.Mentions.{function_types}
use Rattle.type_layouts.specs.Rows.{rows_of}
use Rattle.layout_rules.proofs.code_rows.push_functions.Given as goal

abbrev pub invariant-loop-item : goal.invariant-loop-item
invariant-loop-item l = l.out.items ++ flat_map (function_types (rows_of l.scope)) (drop l.item-index l.items) ≡ l.initial.out.items ++ flat_map (function_types (rows_of l.scope)) l.items
