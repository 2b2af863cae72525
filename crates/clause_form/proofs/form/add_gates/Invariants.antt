use Rattle.std.proofs.Common.{◌≡◌, ◌++◌, take}
use Rattle.clause_form.specs.Form.{clauses_of}
use Rattle.clause_form.proofs.form.add_gates.Given as goal

abbrev pub invariant-loop-k : goal.invariant-loop-k
invariant-loop-k l = (l.list.variables ≡ l.fn.list.variables) × (l.list.clauses ≡ l.fn.list.clauses ++ clauses_of l.inputs (take l.k l.gates))
