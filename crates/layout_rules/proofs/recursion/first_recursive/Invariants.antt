use Rattle.layout_rules.specs.Rules.{NoneBefore}
use Rattle.layout_rules.proofs.recursion.first_recursive.Given as goal

abbrev pub invariant-loop-place : goal.invariant-loop-place
invariant-loop-place l = NoneBefore l.outlines l.place
