use Rattle.std.proofs.Common.{refl, ◌∙◌}
use Rattle.sym_terms.specs.Terms.{applied, width_of}
use Rattle.value_terms.proofs.RvalueLaws.{unary_made, unary_width, width_read}
use Rattle.value_terms.proofs.rvalues.unary_terms.Goals as goal

pub returns : goal.returns
returns c = unary_made c.args.function.now c.args.terms.now c.read.new.terms c.bit.new.terms c.apply.new.terms c.args.slots.now _ c.args.operand.now (λ w. applied c.args.op w w) c.in_ok-slot.slot _ _ refl
    c.in_ok-slot.ensures c.term-known.ensures.values c.in_ok-lawful.ensures c.in_ok-word.ensures
    (unary_width c.args.op (width_of c.bit.new.terms c.in_ok-slot.slot.word.0) c.requires.unary ∙ c.in_ok-lawful.ensures.grown.keeps.widths_kept c.in_ok-slot.slot.word.0 c.in_ok-slot.ensures.kept.inside ∙ c.in_ok-slot.ensures.kept.width_is ∙ width_read c.args.function.now c.args.operand.now c.requires.kind)
