use Rattle.std.proofs.Common.{ℕ, List, ◌-◌, length, take, drop, get_or, sym, subst, refl}
use Rattle.bit_gates.specs.Made.{IsDivision}
use Rattle.bit_gates.proofs.NumberLaws.{list_parts, list_none, in_at}
use Rattle.bit_gates.proofs.ProductLaws.{division_none, division_more}
use Rattle.bit_gates.proofs.products.+divide.Goals as goal

pub returns-in_ok-remainder-in-empty : goal.returns-in_ok-remainder-in-empty
returns-in_ok-remainder-in-empty t c =
    subst (λ (k : List ℕ). IsDivision c.args.net.now c.args.net.now k c.args.ys.now c.new.result.items c.in_ok-remainder-in-empty.remainder.items)
    (sym (list_none c.args.xs.now c.in-empty.len_below)) (division_none _ _ _ _ c.new.ensures.items c.in_ok-remainder-in-empty.ensures)

pub returns-in_ok-take_away-in-len1-up : goal.returns-in_ok-take_away-in-len1-up
returns-in_ok-take_away-in-len1-up t c =
    subst (λ (k : List ℕ). IsDivision c.args.net.now c.take_away.new.net k c.args.ys.now c.in_ok-take_away-in-len1-up.field-0.quotient.items c.in_ok-take_away-in-len1-up.field-0.remainder.items)
    (list_parts c.args.xs.now c.in-len1-up.len_at_least)
    (division_more _ _ _ (get_or c.args.xs.now 0 0) (take (length c.args.xs.now - 1) (drop 1 c.args.xs.now)) c.args.ys.now _ _ _ _ c.requires.ys_inside
    (in_at c.args.net.now c.args.xs.now 0 _ c.in-len1-up.len_at_least refl c.requires.xs_inside) c.in_ok-above-in-len1-up.ensures c.in_ok-take_away-in-len1-up.ensures)
