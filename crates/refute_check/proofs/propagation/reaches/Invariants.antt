use Rattle.std.proofs.Common.{drop}
use Rattle.std.specs.Prelude.{◌↔◌}
use Rattle.region_pool.specs.Refutation.{Reaches}
use Rattle.refute_check.specs.Marks.{true_literals, ArePast}
use Rattle.refute_check.specs.Propagation.{all_clauses}
use Rattle.refute_check.proofs.propagation.reaches.Given as goal

-- what the hints that are left reach is what all of them reach
abbrev pub invariant-loop-hint : goal.invariant-loop-hint
invariant-loop-hint l = record {
  past : ArePast l.stamp l.marks;
  rest : Reaches (all_clauses l.clauses l.log) (true_literals l.stamp l.marks) (drop l.hint-index l.hints) ↔ Reaches (all_clauses l.clauses l.log) (true_literals l.stamp l.fn.marks) l.hints;
}
