use Rattle.type_layouts.specs.Ranks.{PassesBefore, is_ranked_at}
use Rattle.type_layouts.proofs.numbering.are_ranked.Given as goal

abbrev pub invariant-loop-place : goal.invariant-loop-place
invariant-loop-place l = PassesBefore (is_ranked_at l.outlines l.ranks) l.place
