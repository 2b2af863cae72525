use Rattle.region_pool.specs.Clauses.{AreLiterals}
use Rattle.dimacs_solve.proofs.dimacs.read_dimacs.Given as goal

abbrev pub invariant-loop-line : goal.invariant-loop-line
invariant-loop-line l =
    (goal.iterator-loop-line).can_next l.line-iterator ×
    (goal.iterator-loop-line).is_finite l.line-iterator ×
    AreLiterals l.clauses.variables l.literals.items
