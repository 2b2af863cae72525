use Rattle.std.proofs.Common.{◌≡◌, suc, ◌-◌, ◌<◌, length, ap, sym, arith}
use Rattle.std.specs.Prelude.{option_copied}
use Rattle.type_rules.specs.Lookup.{is_name}
use Rattle.name_tables.proofs.Finding.{found_all, found_step}
use Rattle.name_tables.proofs.table.Table.new.Goals as goal

pub loop-place-preserved : goal.loop-place-preserved
loop-place-preserved g c =
    let before : c.loop-place.place ≡ suc (c.loop-place.place - 1) = omega arith in
    let within : c.loop-place.place - 1 < length c.args.items.now = omega arith in
    record {
      within = omega arith;
      found = λ name. found_step (λ x. is_name name (g.T.Named.name_of x)) c.args.items.now c.loop-place.place (c.loop-place.place - 1) c.index-items-place.result
          (is_name name (option_copied c.name.result)) _ _ before within c.index-items-place.is (ap (is_name name) (sym c.name.ensures))
          (c.in_ok-add.ensures.finds name) (c.loop-place.invariant.found name);
    }

pub invariant_of-result : goal.invariant_of-result
invariant_of-result g c =
    let none : c.loop-place.place ≡ 0 = omega arith in
    record { finds = λ name. found_all (λ x. is_name name (g.T.Named.name_of x)) c.args.items.now c.loop-place.place _ none (c.loop-place.invariant.found name) }
