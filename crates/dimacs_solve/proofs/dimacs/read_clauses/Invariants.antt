use Rattle.std.proofs.Common.{◌≡◌}
use Rattle.region_pool.specs.Clauses.{AreLiterals}
use Rattle.dimacs_solve.proofs.dimacs.read_clauses.Given as goal

abbrev pub invariant-loop-word : goal.invariant-loop-word
invariant-loop-word l =
    (goal.iterator-loop-word).can_next l.word-iterator ×
    (goal.iterator-loop-word).is_finite l.word-iterator ×
    (l.clauses.variables ≡ l.fn.clauses.variables) ×
    AreLiterals l.clauses.variables l.literals.items
