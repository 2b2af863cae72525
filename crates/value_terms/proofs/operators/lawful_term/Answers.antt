use Rattle.std.proofs.Common.{sym, ◌∙◌, length}
use Rattle.sym_terms.specs.Terms.{width_of}
use Rattle.value_terms.proofs.OperatorLaws.{lawful_fit, lawful_test, no_division}
use Rattle.value_terms.proofs.operators.lawful_term.Goals as goal

pub apply-requires : goal.apply-requires
apply-requires c = lawful_fit (length c.args.terms.now) (width_of c.args.terms.now) c.args.op c.args.signed c.args.a.0 c.args.b.0 _ c.lawful_op.ensures (sym c.divides.ensures ∙ c.if-divides.true) c.requires.a_inside c.requires.b_inside c.requires.fits

pub returns-in_ok-id : goal.returns-in_ok-id
returns-in_ok-id c = lawful_test c.args.terms.now c.apply.new.terms c.args.op c.args.signed c.args.a.0 c.args.b.0 _ _ c.lawful_op.ensures (sym c.divides.ensures ∙ c.if-divides.true) c.in_ok-id.ensures

pub returns-in_ok-id-2 : goal.returns-in_ok-id-2
returns-in_ok-id-2 c = no_division c.args.terms.now c.bit.new.terms c.args.op c.args.signed c.args.a.0 c.args.b.0 _ (sym c.divides.ensures ∙ c.if-divides.false) c.in_ok-id-2.ensures
