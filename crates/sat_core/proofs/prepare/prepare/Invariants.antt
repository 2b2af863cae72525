use Rattle.sat_core.specs.Preparing.{IsPreparing}
use Rattle.sat_core.proofs.prepare.prepare.Given as goal

abbrev pub invariant-loop-number : goal.invariant-loop-number
invariant-loop-number l = IsPreparing l.clauses l.log l.trail l.watching.pairs.items l.watching.lists l.number
