use Rattle.std.proofs.Common.{◌≡◌, ◌+◌, ◌*◌, ◌%◌, ◌^◌, ◌-◌, ℕ, List, length, take, drop, get_or, sym, subst, refl, arith, rules, cond}
use Rattle.std.proofs.lemmas.Bool.{eqb-true, eqb-false}
use Rattle.bit_gates.specs.Made.{IsWordMade, number}
use Rattle.bit_gates.proofs.NumberLaws.{list_parts, list_none, in_rest, in_take, in_at}
use Rattle.bit_gates.proofs.ProductLaws.{product_none, product_empty, product_more}
use Rattle.bit_gates.proofs.products.+multiply.Goals as goal

pub returns-then-is_empty : goal.returns-then-is_empty
returns-then-is_empty t c = product_empty _ _ _ _ (eqb-true _ _ (sym c.if-is_empty.ensures)) c.new.ensures.items

pub multiply-requires : goal.multiply-requires
multiply-requires t c = (search rules, (in_take _ _ _ c.requires.xs_inside, in_rest _ _ _ c.requires.ys_inside))

pub returns-in_ok-zeros-in-empty : goal.returns-in_ok-zeros-in-empty
returns-in_ok-zeros-in-empty t c =
    subst (λ (k : List ℕ). IsWordMade c.args.net.now c.args.net.now c.in_ok-zeros-in-empty.field-0.items (length c.args.xs.now) (λ v. number v c.args.xs.now * number v k % 2 ^ length c.args.xs.now))
    (sym (list_none c.args.ys.now c.in-empty.len_below)) (product_none _ _ _ c.in_ok-zeros-in-empty.ensures)

pub returns-in_ok-add_row-in-len1-up : goal.returns-in_ok-add_row-in-len1-up
returns-in_ok-add_row-in-len1-up t c =
    let none : length c.args.xs.now ≡ 0 → ⊥ = eqb-false _ _ (sym c.if-is_empty.ensures) in
    subst (λ (k : List ℕ). IsWordMade c.args.net.now c.add_row.new.net c.in_ok-add_row-in-len1-up.field-0.items (length c.args.xs.now) (λ v. number v c.args.xs.now * number v k % 2 ^ length c.args.xs.now))
    (list_parts c.args.ys.now c.in-len1-up.len_at_least)
    (product_more _ _ _ c.args.xs.now (take (length c.args.ys.now - 1) (drop 1 c.args.ys.now)) c.in_ok-above-in-len1-up.above.items _ (get_or c.args.ys.now 0 0) (omega arith) c.requires.xs_inside
    (in_at c.args.net.now c.args.ys.now 0 _ c.in-len1-up.len_at_least refl c.requires.ys_inside)
    c.in_ok-above-in-len1-up.ensures
    (subst (λ (k : List ℕ). IsWordMade c.multiply.new.net c.add_row.new.net c.in_ok-add_row-in-len1-up.field-0.items (length c.args.xs.now) (λ v. (cond (v (get_or c.args.ys.now 0 0)) (number v c.args.xs.now) 0 + 2 * number v k) % 2 ^ length c.args.xs.now)) c.as_slice.ensures.value c.in_ok-add_row-in-len1-up.ensures))
