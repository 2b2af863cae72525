use Rattle.std.proofs.Common.{◌≡◌, ◌∷◌, ◌-◌, ◌<◌, List, ℕ, cond, take, length, ◌∙◌, refl, subst, arith}
use Rattle.std.proofs.lemmas.List.{get_or_read}
use Rattle.bit_gates.specs.Made.{IsWordMade, IsDifference, number}
use Rattle.bit_gates.proofs.ProductLaws.{next_division}
use Rattle.bit_gates.proofs.products.take_away.Goals as goal

pub returns : goal.returns
returns c =
    let low : c.extend_from_slice.new.self.items ≡ c.args.x ∷ take (length c.args.ys.now - 1) c.args.above.remainder.items =
    c.in_ok-extend_from_slice.ensures.items ∙ (rw (c.in_ok-low.ensures, c.deref.ensures.value) refl) in
    let quotient : c.extend_from_slice-2.new.self.items ≡ c.in_ok-fits.fits ∷ c.args.above.quotient.items =
    c.in_ok-extend_from_slice-2.ensures.items ∙ (rw (c.in_ok-quotient.ensures, c.as_slice-4.ensures.value) refl) in
    let inside : length c.args.ys.now - 1 < length c.args.above.remainder.items = omega arith in
    next_division _ _ _ _ c.args.x c.index-top.result.now c.in_ok-fits.fits c.in_ok-difference.difference.carry c.args.above.quotient.items c.args.above.remainder.items c.args.ys.now
    c.extend_from_slice.new.self.items c.in_ok-difference.difference.literals.items _ _
    c.requires.some_bits c.requires.one_width c.requires.x_inside c.requires.quotient_inside c.requires.remainder_inside c.requires.ys_inside
    (get_or_read c.args.above.remainder.items _ _ inside c.index-top.ensures 0) low quotient
    (subst (λ (k : List ℕ). IsDifference c.args.net.now c.subtract.new.net k c.args.ys.now c.in_ok-difference.difference.literals.items c.in_ok-difference.difference.carry) c.as_slice.ensures.value c.in_ok-difference.ensures)
    c.in_ok-fits.ensures
    (subst (λ (k : List ℕ). IsWordMade c.or.new.self c.choose_words.new.net c.in_ok-remainder.remainder.items (length c.in_ok-difference.difference.literals.items) (λ v. cond (v c.in_ok-fits.fits) (number v c.in_ok-difference.difference.literals.items) (number v k))) c.as_slice-3.ensures.value
    (subst (λ (k : List ℕ). IsWordMade c.or.new.self c.choose_words.new.net c.in_ok-remainder.remainder.items (length k) (λ v. cond (v c.in_ok-fits.fits) (number v k) (number v c.as_slice-3.result.now))) c.as_slice-2.ensures.value c.in_ok-remainder.ensures))
