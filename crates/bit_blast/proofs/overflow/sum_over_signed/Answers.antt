use Rattle.std.proofs.Common.{◌≡◌, ◌<◌, ◌-◌, length, arith, get_or, subst, ℕ}
use Rattle.std.proofs.lemmas.List.{get_or_read}
use Rattle.bit_gates.proofs.LiteralLaws.{negation_inside}
use Rattle.bit_gates.specs.Values.{differ}
use Rattle.bit_gates.specs.Made.{IsMade}
use Rattle.bit_blast.proofs.Exceeded.{sum_signed_made}
use Rattle.bit_blast.proofs.overflow.sum_over_signed.Goals as goal

pub and-requires-clause-a_inside : goal.and-requires-clause-a_inside
and-requires-clause-a_inside c = rw c.negation.ensures (negation_inside _ _ (omega (arith, c.in_ok-apart.ensures.inside, c.in_ok-turned.ensures.extends.grown)))

pub returns : goal.returns
returns c =
    let low : length c.args.xs.now - 1 < length c.in_ok-sum.sum.literals.items = omega (arith, c.in_ok-sum.ensures.width_is) in
    let read : c.index.result.now ≡ get_or c.in_ok-sum.sum.literals.items (length c.args.xs.now - 1) 0 = get_or_read c.in_ok-sum.sum.literals.items _ _ low c.index.ensures 0 in
    sum_signed_made _ _ _ _ _ c.args.xs.now c.args.ys.now c.in_ok-sum.sum.literals.items _ _ _ _ _ _ _ c.requires.some_bits c.requires.few_bits c.requires.one_width c.requires.xs_inside c.requires.ys_inside c.in_ok-truth_word.ensures
    c.constant-falsity.ensures c.in_ok-sum.ensures c.in_ok-apart.ensures
    (subst (λ (k : ℕ). IsMade c.xor.new.self c.xor-2.new.self c.in_ok-turned.turned (λ v. differ (v (get_or c.args.xs.now (length c.args.xs.now - 1) 0)) (v k))) read c.in_ok-turned.ensures)
    c.negation.ensures c.in_ok-literal.ensures
