use Rattle.std.proofs.Common.{refl}
use Rattle.word_bits.specs.Words.{recast}
use Rattle.scalar_runs.specs.Kinds.{width_of_kind}
use Rattle.value_terms.proofs.RvalueLaws.{unary_made}
use Rattle.value_terms.proofs.rvalues.cast_terms.Goals as goal

pub returns : goal.returns
returns c = unary_made c.args.function.now c.args.terms.now c.read.new.terms c.bit.new.terms c.cast.new.terms c.args.slots.now _ c.args.operand.now (λ w. recast w c.args.signed (width_of_kind c.args.target)) c.in_ok-slot.slot _ _ refl
    c.in_ok-slot.ensures c.term-known.ensures.values c.in_ok-lawful.ensures (rw c.width.ensures.width at c.in_ok-word.ensures) refl
