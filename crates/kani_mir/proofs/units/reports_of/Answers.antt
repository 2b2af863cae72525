use Rattle.std.proofs.Common.{◌∙◌, ap, sym}
use Rattle.kani_mir.proofs.UnitLemmas.{forms_moved, known_moved}
use Rattle.kani_mir.proofs.units.reports_of.Goals as goal

pub reports_on-requires-clause-known : goal.reports_on-requires-clause-known
reports_on-requires-clause-known c = known_moved c.args.program.now _ _ (c.in_ok-functions.ensures ∙ c.functions.ensures.value) (c.as_slice.ensures ∙ ap (λ d. d.units) c.declarations.ensures.value) c.requires.typed

pub reports_on-requires-clause-forms : goal.reports_on-requires-clause-forms
reports_on-requires-clause-forms c = forms_moved c.args.program.now _ (c.in_ok-functions.ensures ∙ c.functions.ensures.value) c.requires.built
