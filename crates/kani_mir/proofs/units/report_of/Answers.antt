use Rattle.std.proofs.Common.{◌≡◌, ◌∙◌, Some, subst, sym, arith}
use Rattle.type_rules.specs.Lookup.{function_named}
use Rattle.kani_mir.proofs.UnitLemmas.{scalar_named}
use Rattle.kani_mir.proofs.units.report_of.Goals as goal

pub verify_scalar-requires : goal.verify_scalar-requires
verify_scalar-requires c = scalar_named c.args.functions.now _ c.in-Some.function.now c.in-Some.ensures c.requires.forms

pub returns-clause-report : goal.returns-clause-report
returns-clause-report c = record {
  harness = c.in_ok-harness.ensures ∙ c.as_bytes-2.ensures;
  function = c.in-Some.function.now;
  named = subst (λ name. function_named c.args.functions.now name ≡ Some c.in-Some.function.now) c.as_bytes.ensures (sym c.in-Some.ensures);
  form = scalar_named c.args.functions.now _ c.in-Some.function.now c.in-Some.ensures c.requires.forms;
  statuses = c.in_ok-statuses.ensures.fit;
  unspent = c.in_ok-statuses.ensures.unlimited (omega arith);
}
