use Rattle.std.proofs.Common.{◌≡◌, suc, ◌-◌, ◌<◌, length, arith, ◌∙◌, ap, sym, drop}
use Rattle.type_layouts.specs.Entries.{entry_from, entry_of}
use Rattle.canonical_text.specs.Types.{type_text}
use Rattle.type_layouts.proofs.EntryLaws.{found_step}
use Rattle.type_layouts.proofs.scope.Scope.new.Goals as goal

pub loop-place-preserved : goal.loop-place-preserved
loop-place-preserved c =
    let before : c.loop-place.place ≡ suc (c.loop-place.place - 1) = omega arith in
    let within : c.loop-place.place - 1 < length c.args.types.now = omega arith in
    record {
      within = omega arith;
      numbered = λ text. found_step (λ k. k.items) text c.args.types.now c.loop-place.place (c.loop-place.place - 1) c.index-types-place.result
          c.in_ok-from_slice.field-0 c.loop-place.numbers.entries c.insert.new.self.entries before within c.index-types-place.is
          c.in_ok-insert.ensures.entries (c.in_ok-from_slice.ensures.items ∙ c.as_bytes.ensures ∙ c.in_ok-text.ensures ∙ ap (λ own. type_text own.name) (sym c.index-types-place.is))
          (c.loop-place.invariant.numbered text);
    }

pub invariant_of-result : goal.invariant_of-result
unfolding entry_of
invariant_of-result c =
    let none : c.loop-place.place ≡ 0 = omega arith in
    record { numbered = λ text. c.loop-place.invariant.numbered text ∙ ap (λ n. entry_from n (drop n c.args.types.now) text) none }
