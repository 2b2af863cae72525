use Rattle.std.proofs.Common.{◌≡◌, ◌++◌, take}
use Rattle.clause_form.specs.Form.{asserted}
use Rattle.clause_form.proofs.form.assert_all.Given as goal

abbrev pub invariant-loop-k : goal.invariant-loop-k
invariant-loop-k l = (l.list.variables ≡ l.fn.list.variables) × (l.list.clauses ≡ l.fn.list.clauses ++ asserted (take l.k l.literals))
