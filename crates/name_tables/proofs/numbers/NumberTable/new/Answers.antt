use Rattle.std.proofs.Common.{◌≡◌, suc, ◌-◌, ◌<◌, ◌==◌, length, ap, sym, arith}
use Rattle.std.specs.Prelude.{nat_eq}
use Rattle.name_tables.proofs.Finding.{found_all, found_step}
use Rattle.name_tables.proofs.numbers.NumberTable.new.Goals as goal

pub loop-place-preserved : goal.loop-place-preserved
loop-place-preserved g c =
    let before : c.loop-place.place ≡ suc (c.loop-place.place - 1) = omega arith in
    let within : c.loop-place.place - 1 < length c.args.items.now = omega arith in
    record {
      within = omega arith;
      found = λ number. found_step (λ x. g.T.Numbered.number_of x == number) c.args.items.now c.loop-place.place (c.loop-place.place - 1) c.index-items-place.result
          (nat_eq c.number.result number) _ _ before within c.index-items-place.is (ap (λ n. n == number) (sym c.number.ensures))
          (c.in_ok-insert.ensures.updates.0 number) (c.loop-place.invariant.found number);
    }

pub invariant_of-result : goal.invariant_of-result
invariant_of-result g c =
    let none : c.loop-place.place ≡ 0 = omega arith in
    record { finds = λ number. found_all (λ x. g.T.Numbered.number_of x == number) c.args.items.now c.loop-place.place _ none (c.loop-place.invariant.found number) }
