use Rattle.std.proofs.Common.{◌≡◌}
use Rattle.type_layouts.specs.Parts.{levels, parts_table}
use Rattle.type_layouts.proofs.parts.levelled_parts.Given as goal

abbrev pub invariant-loop-left : goal.invariant-loop-left
invariant-loop-left l = levels l.left l.outlines l.table.items ≡ parts_table l.outlines

abbrev pub decreases-loop-left : goal.decreases-loop-left
decreases-loop-left l = l.left
