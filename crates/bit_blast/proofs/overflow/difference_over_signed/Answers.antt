use Rattle.std.proofs.Common.{◌≡◌, ◌<◌, ◌-◌, length, arith, get_or, subst, ℕ}
use Rattle.std.proofs.lemmas.List.{get_or_read}
use Rattle.bit_gates.specs.Values.{differ}
use Rattle.bit_gates.specs.Made.{IsMade}
use Rattle.bit_blast.proofs.Exceeded.{difference_signed_made}
use Rattle.bit_blast.proofs.overflow.difference_over_signed.Goals as goal

pub returns : goal.returns
returns c =
    let low : length c.args.xs.now - 1 < length c.in_ok-difference.difference.literals.items = omega (arith, c.in_ok-difference.ensures.width_is) in
    let read : c.index.result.now ≡ get_or c.in_ok-difference.difference.literals.items (length c.args.xs.now - 1) 0 = get_or_read c.in_ok-difference.difference.literals.items _ _ low c.index.ensures 0 in
    difference_signed_made _ _ _ _ _ c.args.xs.now c.args.ys.now c.in_ok-difference.difference.literals.items _ _ _ _ _ c.requires.some_bits c.requires.few_bits c.requires.one_width c.requires.xs_inside c.requires.ys_inside c.in_ok-truth_word.ensures
    c.in_ok-difference.ensures c.in_ok-apart.ensures
    (subst (λ (k : ℕ). IsMade c.xor.new.self c.xor-2.new.self c.in_ok-turned.turned (λ v. differ (v (get_or c.args.xs.now (length c.args.xs.now - 1) 0)) (v k))) read c.in_ok-turned.ensures)
    c.in_ok-literal.ensures
