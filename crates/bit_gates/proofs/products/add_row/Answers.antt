use Rattle.std.proofs.Common.{◌≡◌, ◌++◌, List, ℕ, take, drop, ap, ◌∙◌, refl, subst}
use Rattle.std.proofs.lemmas.List.{take_rest}
use Rattle.bit_gates.specs.Made.{IsSum}
use Rattle.bit_gates.proofs.ProductLaws.{row_made}
use Rattle.bit_gates.proofs.products.add_row.Goals as goal

pub returns : goal.returns
returns c =
    let items : c.extend_from_slice.new.self.items ≡ take 1 c.in_ok-row.row.items ++ c.in_ok-sum.sum.literals.items =
    c.in_ok-extend_from_slice.ensures.items ∙ (rw (c.in_ok-word.ensures.items, c.as_slice.ensures.value, c.deref-2.ensures.value) refl) in
    rw items
    (row_made _ _ _ c.args.xs.now c.args.above.now c.in_ok-row.row.items c.in_ok-sum.sum.literals.items c.args.bit _ _ c.requires.widths c.requires.above_inside c.in_ok-row.ensures c.constant-falsity.ensures
    (subst (λ (k : List ℕ). IsSum c.mask.new.net c.add.new.net k c.args.above.now c.constant-falsity.result c.in_ok-sum.sum.literals.items c.in_ok-sum.sum.carry) (take_rest c.deref.result.now 1 ∙ ap (drop 1) c.deref.ensures.value) c.in_ok-sum.ensures))
