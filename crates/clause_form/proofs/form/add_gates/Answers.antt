use Rattle.std.proofs.Common.{◌∙◌, refl, arith}
use Rattle.clause_form.proofs.FormLaws.{gate_inside, clauses_more}
use Rattle.clause_form.proofs.form.add_gates.Goals as goal

pub add_gate-requires-clause-reads_inside : goal.add_gate-requires-clause-reads_inside
add_gate-requires-clause-reads_inside c = gate_inside c.args.inputs c.loop-k.k _ c.args.gates.now _ c.requires.in_order c.loop-k-test.true refl (c.loop-k.invariant.0 ∙ c.requires.variables)

pub loop-k-preserved : goal.loop-k-preserved
loop-k-preserved c = (
  c.in_ok-add_gate.ensures.variables ∙ c.loop-k.invariant.0,
  clauses_more _ _ _ c.args.inputs c.args.gates.now c.loop-k.k _ c.loop-k-test.true refl c.loop-k.invariant.1 c.in_ok-add_gate.ensures.ok,
)
