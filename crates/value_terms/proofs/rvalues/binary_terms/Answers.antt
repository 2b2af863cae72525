use Rattle.value_terms.proofs.RvalueLaws.{binary_made, fits_read, inside_kept, slots_kept}
use Rattle.value_terms.proofs.MadeLaws.{bit_kept}
use Rattle.value_terms.proofs.TypedLaws.{first_has, second_has}
use Rattle.value_terms.proofs.rvalues.binary_terms.Goals as goal

pub read-requires-clause-kind : goal.read-requires-clause-kind
read-requires-clause-kind c = first_has c.args.op _ _ c.requires.kind

pub read-requires-2-clause-kind : goal.read-requires-2-clause-kind
read-requires-2-clause-kind c = second_has c.args.op _ _ c.requires.kind

pub read-requires-2-clause-slots : goal.read-requires-2-clause-slots
read-requires-2-clause-slots c = slots_kept c.args.function.now c.args.terms.now c.read.new.terms c.args.slots.now c.in_ok-first.ensures.grown.keeps c.requires.slots

pub both-requires-clause-a_bit : goal.both-requires-clause-a_bit
both-requires-clause-a_bit c = bit_kept c.read.new.terms c.read-2.new.terms _ c.in_ok-second.ensures.grown.keeps c.in_ok-first.ensures.kept.set

pub operator_terms-requires-clause-fits : goal.operator_terms-requires-clause-fits
operator_terms-requires-clause-fits c = fits_read c.args.function.now c.read.new.terms c.read-2.new.terms c.both.new.terms c.args.op c.args.a.now c.args.b.now c.in_ok-first.first c.in_ok-second.second c.requires.kind c.in_ok-first.ensures.kept c.in_ok-second.ensures.grown.keeps c.in_ok-second.ensures.kept c.in_ok-set.ensures.grown.keeps

pub operator_terms-requires-clause-a_inside : goal.operator_terms-requires-clause-a_inside
operator_terms-requires-clause-a_inside c = inside_kept c.read-2.new.terms c.both.new.terms _ c.in_ok-set.ensures.grown.keeps (inside_kept c.read.new.terms c.read-2.new.terms _ c.in_ok-second.ensures.grown.keeps c.in_ok-first.ensures.kept.inside)

pub operator_terms-requires-clause-b_inside : goal.operator_terms-requires-clause-b_inside
operator_terms-requires-clause-b_inside c = inside_kept c.read-2.new.terms c.both.new.terms _ c.in_ok-set.ensures.grown.keeps c.in_ok-second.ensures.kept.inside

pub returns : goal.returns
returns c = binary_made c.args.function.now c.args.terms.now c.read.new.terms c.read-2.new.terms c.both.new.terms c.operator_terms.new.terms c.args.slots.now c.args.op _ c.args.a.now c.args.b.now c.in_ok-first.first c.in_ok-second.second _ c.requires.slots c.requires.kind
    c.in_ok-first.ensures c.in_ok-second.ensures c.in_ok-set.ensures (rw c.is_signed_operand.ensures at c.in_ok-result.ensures)
