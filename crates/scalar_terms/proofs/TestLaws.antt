-- What is known behind a condition.
use Rattle.std.proofs.Common.{◌≡◌, ◌↔◌, ℕ, ◌<◌, ◌&&◌, not, Bool, true, false, cond, List, Option, Some, subst, sym, ap, ◌∙◌, refl, arith, ◌⊎◌, inl, inr, ◌==◌}
use Rattle.std.specs.Prelude.{Result, Ok, Err}
use Rattle.vk_core.specs.declared.check.CheckClass.{CheckClass}
use Rattle.vk_core.specs.declared.check.CheckClass.TheVariants as class
use Rattle.word_bits.specs.declared.word.Word.{Word}
use Rattle.mir_ir.specs.declared.tree.Function.{Function}
use Rattle.sym_terms.specs.declared.term.Term.{Term}
use Rattle.mir_ir.specs.declared.tree.Operand.{Operand}
use Rattle.sym_terms.specs.Terms.{IsValue, Keeps, value}
use Rattle.scalar_runs.specs.declared.breach.Breach.{Breach}
use Rattle.scalar_runs.specs.Run.{Goes, Faults, entry_of, is_expected, tested}
use Rattle.scalar_runs.specs.declared.kinds.ValueKind.TheVariants as kind
use Rattle.scalar_form.specs.Typing.{is_truth, operand_kind}
use Rattle.scalar_runs.specs.Values.{Values, kind_of_operand, operand_value}
use Rattle.scalar_terms.specs.declared.conditions.Condition.{Condition}
use Rattle.scalar_terms.specs.declared.failures.Failure.{Failure}
use Rattle.scalar_terms.specs.declared.ways.Split.{Split}
use Rattle.scalar_terms.specs.declared.ways.Way.{Way}
use Rattle.value_terms.specs.declared.slots.Slot.{Slot}
use Rattle.value_terms.specs.Made.{Grown, IsBit, IsTest, holds}
use Rattle.value_terms.specs.Slots.{AreHeld, AreSlots, IsRead, ReadIs, slot_width}
use Rattle.scalar_terms.specs.Joins.{AreQuiet, AreWays, IsJoined, WaysAre, WaysIn}
use Rattle.scalar_terms.specs.Places.{Fault, Place, Before, Done, Spot, Here, There, place_of, standing, stepped_place}
use Rattle.scalar_terms.specs.Steps.{IsNotedTwice, breach_of}
use Rattle.scalar_terms.specs.Tests.{IsCondition, IsLed, TestIs}
use Rattle.scalar_terms.specs.Ways.{AreFailures, IsFaultAt, IsSplit, IsWay, PointIs, Tells, ToldAt, ToldIn}
use Rattle.value_terms.proofs.MadeLaws.{below_two, bit_kept, grown_trans, holds_kept}
use Rattle.value_terms.proofs.RvalueLaws.{held_kept, width_read}
use Rattle.scalar_terms.proofs.StepLaws.{agree_first, agree_width, elsewhere, failures_kept, tells_kept, told_first, told_same, told_second}

-- what earlier terms say of the points, later ones say
pub quiet_kept : (f : Function) (old new : List Term) (inputs : ℕ → ℕ) (ways : List (Option Way)) → Keeps old new → AreWays f old ways → AreQuiet old inputs ways → AreQuiet new inputs ways
quiet_kept f old new inputs ways keeps are quiet n way at = holds_kept old new inputs way.guard.0 keeps (are n way at).guard.inside ∙ quiet n way at

pub ways_kept : (f : Function) (old new : List Term) (inputs : ℕ → ℕ) (ways : List (Option Way)) (p : Place) → Keeps old new → AreWays f old ways → WaysAre old inputs ways p → WaysAre new inputs ways p
ways_kept f old new inputs ways (Done e) keeps are quiet = quiet_kept f old new inputs ways keeps are quiet
ways_kept f old new inputs ways (Before t v) keeps are comes = record {
  way = comes.way;
  at = comes.at;
  guard = holds_kept old new inputs comes.way.guard.0 keeps (are t comes.way comes.at).guard.inside ∙ comes.guard;
  held = held_kept old new inputs f comes.way.slots.items v keeps (are t comes.way comes.at).slots comes.held;
  others = λ n other apart at. holds_kept old new inputs other.guard.0 keeps (are n other at).guard.inside ∙ comes.others n other apart at;
}

-- the failures stay where more terms come
pub told_kept : (old new : List Term) (inputs : ℕ → ℕ) (fs : List Failure) (S : Breach → Type 0) → Keeps old new → AreFailures old fs → ((z : Breach) → Tells old inputs fs z ↔ S z) → (z : Breach) → Tells new inputs fs z ↔ S z
told_kept old new inputs fs S keeps are told z = let same = tells_kept old new inputs fs z keeps are in (λ t. (told z).0 (same.0 t), λ s. same.1 ((told z).1 s))

-- behind a condition that faults where it is not as expected, at a point that the run passes
pub tested_here : (f : Function) (old mid next new : List Term) (inputs : ℕ → ℕ) (fs gs : List Failure) (ways joined : List (Option Way)) (b i target guard set ok : ℕ) (slots : List Slot) (v : Values) (c : CheckClass) (expected : Bool) (t : Split) (r : Result Word CheckClass)
    → Keeps old mid → Keeps old next → AreFailures old fs → AreWays f old ways → AreSlots f old slots → IsSplit mid next guard set ok t → IsNotedTwice next fs gs (breach_of b i class.Uninit) t.unset (breach_of b i c) t.unlawful
    → IsJoined f next new ways joined target t.guard.0 slots → AreFailures next gs
    → holds mid inputs guard ≡ true → AreHeld old inputs slots v → AreQuiet old inputs ways → ((z : Breach) → Tells old inputs fs z ↔ ⊥) → TestIs mid inputs expected set ok r
    → WaysAre new inputs joined (place_of inputs (standing b i v) (tested (Faults c) expected (standing b i v) target r)) × ToldAt new inputs gs (place_of inputs (standing b i v) (tested (Faults c) expected (standing b i v) target r))
tested_here f old mid next new inputs fs gs ways joined b i target guard set ok slots v c expected t (Err k) keeps_mid keeps are ways_are slots_are split noted join noted_are g held quiet told is =
    let none : holds next inputs t.guard.0 ≡ false = split.goes_is inputs ∙ ap (λ x. (x && holds mid inputs set) && holds mid inputs ok) g ∙ ap (λ x. x && holds mid inputs ok) is.1 in (
      join.stays inputs (Done (Fault (breach_of b i k))) none (quiet_kept f old next inputs ways keeps ways_are quiet),
      told_kept next new inputs gs (λ z. breach_of b i k ≡ z) join.grown.keeps noted_are
          (subst (λ x. (z : Breach) → Tells next inputs gs z ↔ (breach_of b i x ≡ z)) (sym is.0)
          (told_first old next inputs fs gs _ _ t.unset t.unlawful keeps are noted told
          (split.unset_is inputs ∙ ap (λ x. x && not (holds mid inputs set)) g ∙ ap not is.1)
          (split.unlawful_is inputs ∙ ap (λ x. (x && holds mid inputs set) && not (holds mid inputs ok)) g ∙ ap (λ x. x && not (holds mid inputs ok)) is.1))),
    )
tested_here f old mid next new inputs fs gs ways joined b i target guard set ok slots v c expected t (Ok w) keeps_mid keeps are ways_are slots_are split noted join noted_are g held quiet told is =
    by_test f old mid next new inputs fs gs ways joined b i target guard set ok slots v c t keeps are ways_are slots_are split noted join noted_are g held quiet told is.0 (is_expected expected w) is.1
  where
    by_test : (f : Function) (old mid next new : List Term) (inputs : ℕ → ℕ) (fs gs : List Failure) (ways joined : List (Option Way)) (b i target guard set ok : ℕ) (slots : List Slot) (v : Values) (c : CheckClass) (t : Split)
        → Keeps old next → AreFailures old fs → AreWays f old ways → AreSlots f old slots → IsSplit mid next guard set ok t → IsNotedTwice next fs gs (breach_of b i class.Uninit) t.unset (breach_of b i c) t.unlawful
        → IsJoined f next new ways joined target t.guard.0 slots → AreFailures next gs
        → holds mid inputs guard ≡ true → AreHeld old inputs slots v → AreQuiet old inputs ways → ((z : Breach) → Tells old inputs fs z ↔ ⊥) → holds mid inputs set ≡ true → (x : Bool) → holds mid inputs ok ≡ x
        → WaysAre new inputs joined (place_of inputs (standing b i v) (cond x (Goes (entry_of target v)) (Faults c))) × ToldAt new inputs gs (place_of inputs (standing b i v) (cond x (Goes (entry_of target v)) (Faults c)))
    by_test f old mid next new inputs fs gs ways joined b i target guard set ok slots v c t keeps are ways_are slots_are split noted join noted_are g held quiet told hs true hx = (
      join.comes inputs v (split.goes_is inputs ∙ ap (λ x. (x && holds mid inputs set) && holds mid inputs ok) g ∙ ap (λ x. x && holds mid inputs ok) hs ∙ hx) (quiet_kept f old next inputs ways keeps ways_are quiet) (held_kept old next inputs f slots v keeps slots_are held),
      told_kept next new inputs gs (λ z. ⊥) join.grown.keeps noted_are
          (told_same old next inputs fs gs _ _ t.unset t.unlawful (λ z. ⊥) keeps are noted told
          (split.unset_is inputs ∙ ap (λ x. x && not (holds mid inputs set)) g ∙ ap not hs)
          (split.unlawful_is inputs ∙ ap (λ x. (x && holds mid inputs set) && not (holds mid inputs ok)) g ∙ ap (λ x. x && not (holds mid inputs ok)) hs ∙ ap not hx)),
    )
    by_test f old mid next new inputs fs gs ways joined b i target guard set ok slots v c t keeps are ways_are slots_are split noted join noted_are g held quiet told hs false hx = (
      join.stays inputs (Done (Fault (breach_of b i c))) (split.goes_is inputs ∙ ap (λ x. (x && holds mid inputs set) && holds mid inputs ok) g ∙ ap (λ x. x && holds mid inputs ok) hs ∙ hx) (quiet_kept f old next inputs ways keeps ways_are quiet),
      told_kept next new inputs gs (λ z. breach_of b i c ≡ z) join.grown.keeps noted_are
          (told_second old next inputs fs gs _ _ t.unset t.unlawful keeps are noted told
          (split.unset_is inputs ∙ ap (λ x. x && not (holds mid inputs set)) g ∙ ap not hs)
          (split.unlawful_is inputs ∙ ap (λ x. (x && holds mid inputs set) && not (holds mid inputs ok)) g ∙ ap (λ x. x && not (holds mid inputs ok)) hs ∙ ap not hx)),
    )

-- a truth value is 0 or 1
one_or_none : (n : ℕ) → n < 2 → (n ≡ 0) ⊎ (n ≡ 1)
one_or_none n h = grind arith

expected_bit : (n : ℕ) → n < 2 → (n == 1) ≡ not (n == 0)
expected_bit n h = elim (one_or_none n h) [ inl e ↦ subst (λ k. (k == 1) ≡ not (k == 0)) (sym e) refl | inr e ↦ subst (λ k. (k == 1) ≡ not (k == 0)) (sym e) refl ]

unexpected_bit : (n : ℕ) → n < 2 → not (n == 1) ≡ (n == 0)
unexpected_bit n h = elim (one_or_none n h) [ inl e ↦ subst (λ k. not (k == 1) ≡ (k == 0)) (sym e) refl | inr e ↦ subst (λ k. not (k == 1) ≡ (k == 0)) (sym e) refl ]

truth_kind : (f : Function) (o : Operand) → is_truth f o ≡ true → slot_width (kind_of_operand f o) ≡ 1
truth_kind f o h = width_read f o (agree_first _ _ h) ∙ sym (agree_width (operand_kind f o) (Some kind.Bool) h)

pub condition_bit : (f : Function) (old new : List Term) (slots : List Slot) (o : Operand) (slot : Slot) → is_truth f o ≡ true → IsRead f old new slots (kind_of_operand f o) (λ values. operand_value f values o) slot → IsBit new slot.word.0
condition_bit f old new slots o slot h got = record { inside = got.kept.inside; width_is = got.kept.width_is ∙ truth_kind f o h }

met_case : (terms : List Term) (inputs : ℕ → ℕ) (slot : Slot) (r : Result Word CheckClass) → (value terms inputs slot.word.0).value < 2 → ReadIs terms inputs slot r → TestIs terms inputs true slot.set.0 slot.word.0 r
met_case terms inputs slot (Ok w) below is = (is.0, expected_bit (value terms inputs slot.word.0).value below ∙ ap (λ x. not (x.value == 0)) is.1)
met_case terms inputs slot (Err c) below is = is

pub condition_met : (f : Function) (old new : List Term) (slots : List Slot) (o : Operand) (slot : Slot) (expected : Bool) (t : Condition) → expected ≡ true → is_truth f o ≡ true → IsRead f old new slots (kind_of_operand f o) (λ values. operand_value f values o) slot
    → ((inputs : ℕ → ℕ) → IsValue new inputs slot.word.0) → t.set ≡ slot.set → t.met ≡ slot.word → IsCondition f old new slots expected o t
condition_met f old new slots o slot expected t yes_expected h got values e g =
    subst (λ x. IsCondition f old new slots x o t) (sym yes_expected) (record {
      grown = got.grown;
      set = subst (λ x. IsBit new x.0) (sym e) got.kept.set;
      met = subst (λ x. IsBit new x.0) (sym g) (condition_bit f old new slots o slot h got);
      is = λ inputs v held. subst (λ x. TestIs new inputs true x.0 t.met.0 (operand_value f v o)) (sym e) (subst (λ x. TestIs new inputs true slot.set.0 x.0 (operand_value f v o)) (sym g)
          (met_case new inputs slot (operand_value f v o) (below_two new inputs slot.word.0 (values inputs) (condition_bit f old new slots o slot h got).width_is) (got.is inputs v held)));
    })

unmet_case : (mid new : List Term) (inputs : ℕ → ℕ) (slot : Slot) (met : ℕ) (r : Result Word CheckClass) → (value mid inputs slot.word.0).value < 2 → holds new inputs slot.set.0 ≡ holds mid inputs slot.set.0 → holds new inputs met ≡ not (holds mid inputs slot.word.0) → ReadIs mid inputs slot r
    → TestIs new inputs false slot.set.0 met r
unmet_case mid new inputs slot met (Ok w) below set turned is = (set ∙ is.0, turned ∙ unexpected_bit (value mid inputs slot.word.0).value below ∙ ap (λ x. x.value == 0) is.1)
unmet_case mid new inputs slot met (Err c) below set turned is = (is.0, set ∙ is.1)

pub condition_unmet : (f : Function) (old mid new : List Term) (slots : List Slot) (o : Operand) (slot : Slot) (expected : Bool) (t : Condition) → expected ≡ false → is_truth f o ≡ true → IsRead f old mid slots (kind_of_operand f o) (λ values. operand_value f values o) slot
    → ((inputs : ℕ → ℕ) → IsValue mid inputs slot.word.0) → t.set ≡ slot.set → IsTest mid new t.met.0 (λ inputs. not (holds mid inputs slot.word.0)) → IsCondition f old new slots expected o t
condition_unmet f old mid new slots o slot expected t no_expected h got values e test =
    subst (λ x. IsCondition f old new slots x o t) (sym no_expected) (record {
      grown = grown_trans old mid new got.grown test.grown;
      set = subst (λ x. IsBit new x.0) (sym e) (bit_kept mid new slot.set.0 test.grown.keeps got.kept.set);
      met = test.bit;
      is = λ inputs v held. subst (λ x. TestIs new inputs false x.0 t.met.0 (operand_value f v o)) (sym e)
          (unmet_case mid new inputs slot t.met.0 (operand_value f v o) (below_two mid inputs slot.word.0 (values inputs) (condition_bit f old mid slots o slot h got).width_is)
          (holds_kept mid new inputs slot.set.0 test.grown.keeps got.kept.set.inside) (test.holds_is inputs) (got.is inputs v held));
    })

pub tested_made : (f : Function) (old mid next new : List Term) (was : Way) (ways joined : List (Option Way)) (fs gs : List Failure) (b i : ℕ) (c : CheckClass) (expected : Bool) (target : ℕ) (o : Operand) (condition : Condition) (t : Split)
    → IsWay f old was → AreWays f old ways → AreFailures old fs → IsCondition f old mid was.slots.items expected o condition → IsSplit mid next was.guard.0 condition.set.0 condition.met.0 t
    → IsNotedTwice next fs gs (breach_of b i class.Uninit) t.unset (breach_of b i c) t.unlawful → IsJoined f next new ways joined target t.guard.0 was.slots.items → IsLed f old new was ways joined fs gs b i (λ s. tested (Faults c) expected s target (operand_value f s.values o))
tested_made f old mid next new was ways joined fs gs b i c expected target o condition t way ways_are are got split noted join =
    let upto : Grown old next = grown_trans old mid next got.grown split.grown in
    let noted_are : AreFailures next gs = noted.failures (failures_kept old next fs upto.keeps are) in
    record {
      keeps = (grown_trans old next new upto join.grown).keeps;
      free = λ number apart free. (grown_trans old next new upto join.grown).free number free;
      one_each = join.one_each;
      are = join.are;
      failures = failures_kept next new gs join.grown.keeps noted_are;
      is = λ inputs spot point come told. by_spot f old mid next new inputs was ways joined fs gs b i c expected target o condition t way ways_are are got split noted join upto noted_are spot point come told;
    }
  where
    by_spot : (f : Function) (old mid next new : List Term) (inputs : ℕ → ℕ) (was : Way) (ways joined : List (Option Way)) (fs gs : List Failure) (b i : ℕ) (c : CheckClass) (expected : Bool) (target : ℕ) (o : Operand) (condition : Condition) (t : Split)
        → IsWay f old was → AreWays f old ways → AreFailures old fs → IsCondition f old mid was.slots.items expected o condition → IsSplit mid next was.guard.0 condition.set.0 condition.met.0 t
        → IsNotedTwice next fs gs (breach_of b i class.Uninit) t.unset (breach_of b i c) t.unlawful → IsJoined f next new ways joined target t.guard.0 was.slots.items → Grown old next → AreFailures next gs
        → (spot : Spot) → PointIs old inputs was spot → WaysIn old inputs ways spot → ToldIn old inputs fs spot
        → WaysAre new inputs joined (stepped_place inputs b i (λ s. tested (Faults c) expected s target (operand_value f s.values o)) spot) × ToldAt new inputs gs (stepped_place inputs b i (λ s. tested (Faults c) expected s target (operand_value f s.values o)) spot)
    by_spot f old mid next new inputs was ways joined fs gs b i c expected target o condition t way ways_are are got split noted join upto noted_are (Here v) point come told =
        tested_here f old mid next new inputs fs gs ways joined b i target was.guard.0 condition.set.0 condition.met.0 was.slots.items v c expected t (operand_value f v o) got.grown.keeps upto.keeps are ways_are way.slots split noted join noted_are
        (holds_kept old mid inputs was.guard.0 got.grown.keeps way.guard.inside ∙ point.0) point.1 come told (got.is inputs v point.1)
    by_spot f old mid next new inputs was ways joined fs gs b i c expected target o condition t way ways_are are got split noted join upto noted_are (There p) point come told =
        (let none = elsewhere old mid next inputs fs gs _ _ was.guard.0 condition.set.0 condition.met.0 t (IsFaultAt p) are upto.keeps split noted (holds_kept old mid inputs was.guard.0 got.grown.keeps way.guard.inside ∙ point) told in
        (join.stays inputs p none.0 (ways_kept f old next inputs ways p upto.keeps ways_are come), told_kept next new inputs gs (IsFaultAt p) join.grown.keeps noted_are none.1))
