use Rattle.std.proofs.Common.{subst, sym, ◌∙◌, length}
use Rattle.sym_terms.specs.Terms.{AreOperands, width_of}
use Rattle.value_terms.proofs.OperatorLaws.{applied_plain, applied_swapped, operands_fit, swapped_fit}
use Rattle.value_terms.proofs.operators.applied_term.Goals as goal

pub apply-requires : goal.apply-requires
apply-requires c = subst (λ t. AreOperands (length c.args.terms.now) (width_of c.args.terms.now) t c.args.b.0 c.args.a.0) (sym c.term_op.ensures)
    (swapped_fit (length c.args.terms.now) (width_of c.args.terms.now) c.args.op c.args.signed c.args.a.0 c.args.b.0 (sym c.is_swapped.ensures ∙ c.if-is_swapped.true) c.requires.a_inside c.requires.b_inside c.requires.fits)

pub apply-requires-else-is_swapped : goal.apply-requires-else-is_swapped
apply-requires-else-is_swapped c = subst (λ t. AreOperands (length c.args.terms.now) (width_of c.args.terms.now) t c.args.a.0 c.args.b.0) (sym c.term_op-else-is_swapped.ensures)
    (operands_fit (length c.args.terms.now) (width_of c.args.terms.now) c.args.op c.args.signed c.args.a.0 c.args.b.0 c.requires.a_inside c.requires.b_inside c.requires.fits)

pub returns-in_ok-id : goal.returns-in_ok-id
returns-in_ok-id c = applied_swapped c.args.terms.now c.apply.new.terms c.args.op c.args.signed c.args.a.0 c.args.b.0 _ _ c.term_op.ensures (sym c.is_swapped.ensures ∙ c.if-is_swapped.true) c.requires.fits c.in_ok-id.ensures

pub returns-in_ok-id-2 : goal.returns-in_ok-id-2
returns-in_ok-id-2 c = applied_plain c.args.terms.now c.apply-else-is_swapped.new.terms c.args.op c.args.signed c.args.a.0 c.args.b.0 _ _ c.term_op-else-is_swapped.ensures (sym c.is_swapped.ensures ∙ c.if-is_swapped.false) c.in_ok-id-2.ensures
