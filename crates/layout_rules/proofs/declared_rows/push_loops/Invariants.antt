use Rattle.std.proofs.Common.{◌≡◌, ◌++◌, drop, flat_map}
use Rattle.mir_program.specs.Mentions.{loop_types}
use Rattle.type_layouts.specs.Rows.{rows_of}
use Rattle.layout_rules.proofs.declared_rows.push_loops.Given as goal

abbrev pub invariant-loop-item : goal.invariant-loop-item
invariant-loop-item l = l.out.items ++ flat_map (loop_types (rows_of l.scope)) (drop l.item-index l.items) ≡ l.initial.out.items ++ flat_map (loop_types (rows_of l.scope)) l.items
