use Rattle.std.proofs.Common.{◌&&◌, ap, ◌∙◌}
use Rattle.value_terms.specs.Made.{holds}
use Rattle.value_terms.proofs.MadeLaws.{bit_kept, holds_kept, test_later}
use Rattle.value_terms.proofs.made.but_not.Goals as goal

pub both-requires-clause-a_bit : goal.both-requires-clause-a_bit
both-requires-clause-a_bit c = bit_kept c.args.terms.now c.inverse.new.terms c.args.a.0 c.in_ok-other.ensures.grown.keeps c.requires.a_bit

pub returns : goal.returns
returns c = test_later c.args.terms.now c.inverse.new.terms c.both.new.terms _ _ _ c.in_ok-other.ensures.grown c.in_ok-id.ensures
    (λ inputs. ap (λ t. t && holds c.inverse.new.terms inputs c.in_ok-other.other.0) (holds_kept c.args.terms.now c.inverse.new.terms inputs c.args.a.0 c.in_ok-other.ensures.grown.keeps c.requires.a_bit.inside)
    ∙ ap (λ t. holds c.args.terms.now inputs c.args.a.0 && t) (c.in_ok-other.ensures.holds_is inputs))
