use Rattle.type_layouts.specs.Ranks.{PassesBefore, is_ordered_at}
use Rattle.type_layouts.proofs.numbering.are_ordered.Given as goal

abbrev pub invariant-loop-place : goal.invariant-loop-place
invariant-loop-place l = PassesBefore (is_ordered_at l.outlines l.ranks) l.place
