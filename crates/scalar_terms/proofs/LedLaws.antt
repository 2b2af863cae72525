-- What is known behind an assumption, a jump and a panic.
use Rattle.std.proofs.Common.{◌≡◌, ◌↔◌, ℕ, ◌&&◌, not, Bool, true, false, cond, List, Option, subst, sym, ap, ◌∙◌, refl, inl, inr}
use Rattle.std.specs.Prelude.{Result, Ok, Err}
use Rattle.vk_core.specs.declared.check.CheckClass.{CheckClass}
use Rattle.vk_core.specs.declared.check.CheckClass.TheVariants as class
use Rattle.word_bits.specs.declared.word.Word.{Word}
use Rattle.mir_ir.specs.declared.tree.Function.{Function}
use Rattle.mir_ir.specs.declared.tree.Operand.{Operand}
use Rattle.sym_terms.specs.declared.term.Term.{Term}
use Rattle.sym_terms.specs.declared.term.TermId.{TermId}
use Rattle.sym_terms.specs.Terms.{Keeps}
use Rattle.scalar_runs.specs.declared.breach.Breach.{Breach}
use Rattle.scalar_runs.specs.Run.{Cuts, Faults, Goes, entry_of, is_expected, tested}
use Rattle.scalar_runs.specs.Values.{Values, operand_value}
use Rattle.scalar_terms.specs.declared.conditions.Condition.{Condition}
use Rattle.scalar_terms.specs.declared.failures.Failure.{Failure}
use Rattle.scalar_terms.specs.declared.ways.Split.{Split}
use Rattle.scalar_terms.specs.declared.ways.Way.{Way}
use Rattle.value_terms.specs.declared.slots.Slot.{Slot}
use Rattle.value_terms.specs.Made.{Grown, holds}
use Rattle.value_terms.specs.Slots.{AreHeld, AreSlots}
use Rattle.scalar_terms.specs.Joins.{AreQuiet, AreWays, IsJoined, WaysAre, WaysIn}
use Rattle.scalar_terms.specs.Places.{Cut, Fault, Done, Spot, Here, There, place_of, standing, stepped_place}
use Rattle.scalar_terms.specs.Steps.{breach_of}
use Rattle.scalar_terms.specs.Tests.{IsCondition, IsLed, TestIs}
use Rattle.scalar_terms.specs.Ways.{AreFailures, IsFaultAt, IsNoted, IsSplit, IsWay, PointIs, Tells, ToldAt, ToldIn}
use Rattle.value_terms.proofs.MadeLaws.{grown_same, grown_trans, holds_kept}
use Rattle.value_terms.proofs.RvalueLaws.{held_kept}
use Rattle.scalar_terms.proofs.StepLaws.{failures_kept, tells_kept}
use Rattle.scalar_terms.proofs.TestLaws.{quiet_kept, told_kept, ways_kept}

clash : (b : Bool) → b ≡ false → b ≡ true → ⊥
clash b e f = cc

-- a failure that does not come
pub noted_same : (old new : List Term) (inputs : ℕ → ℕ) (fs gs : List Failure) (x : Breach) (a : TermId) (S : Breach → Type 0) → Keeps old new → AreFailures old fs → IsNoted new fs gs x a → ((z : Breach) → Tells old inputs fs z ↔ S z) → holds new inputs a.0 ≡ false
    → (z : Breach) → Tells new inputs gs z ↔ S z
noted_same old new inputs fs gs x a S keeps are noted told h z =
    let same = tells_kept old new inputs fs z keeps are in (
      λ now. elim ((noted.tells inputs z).0 now) [ inl before ↦ (told z).0 (same.0 before) | inr this ↦ absurd (clash (holds new inputs a.0) h this.1) ],
      λ s. (noted.tells inputs z).1 (inl (same.1 ((told z).1 s))),
    )

-- one that comes
pub noted_first : (old new : List Term) (inputs : ℕ → ℕ) (fs gs : List Failure) (x : Breach) (a : TermId) → Keeps old new → AreFailures old fs → IsNoted new fs gs x a → ((z : Breach) → Tells old inputs fs z ↔ ⊥) → holds new inputs a.0 ≡ true
    → (z : Breach) → Tells new inputs gs z ↔ (x ≡ z)
noted_first old new inputs fs gs x a keeps are noted told h z =
    let same = tells_kept old new inputs fs z keeps are in (
      λ now. elim ((noted.tells inputs z).0 now) [ inl before ↦ absurd ((told z).0 (same.0 before)) | inr this ↦ this.0 ],
      λ s. (noted.tells inputs z).1 (inr (s, h)),
    )

pub jumped_made : (f : Function) (old new : List Term) (was : Way) (ways joined : List (Option Way)) (fs : List Failure) (b i target : ℕ) → IsWay f old was → AreWays f old ways → AreFailures old fs → IsJoined f old new ways joined target was.guard.0 was.slots.items
    → IsLed f old new was ways joined fs fs b i (λ s. Goes (entry_of target s.values))
jumped_made f old new was ways joined fs b i target way ways_are are join = record {
  keeps = join.grown.keeps;
  free = λ number apart free. join.grown.free number free;
  one_each = join.one_each;
  are = join.are;
  failures = failures_kept old new fs join.grown.keeps are;
  is = λ inputs spot point come told. by_spot f old new was ways joined fs b i target are join inputs spot point come told;
} where
  by_spot : (f : Function) (old new : List Term) (was : Way) (ways joined : List (Option Way)) (fs : List Failure) (b i target : ℕ) → AreFailures old fs → IsJoined f old new ways joined target was.guard.0 was.slots.items → (inputs : ℕ → ℕ) (spot : Spot)
      → PointIs old inputs was spot → WaysIn old inputs ways spot → ToldIn old inputs fs spot → WaysAre new inputs joined (stepped_place inputs b i (λ s. Goes (entry_of target s.values)) spot) × ToldAt new inputs fs (stepped_place inputs b i (λ s. Goes (entry_of target s.values)) spot)
  by_spot f old new was ways joined fs b i target are join inputs (Here v) point come told = (join.comes inputs v point.0 come point.1, told_kept old new inputs fs (λ z. ⊥) join.grown.keeps are told)
  by_spot f old new was ways joined fs b i target are join inputs (There p) point come told = (join.stays inputs p point come, told_kept old new inputs fs (IsFaultAt p) join.grown.keeps are told)

pub fault_made : (f : Function) (terms : List Term) (was : Way) (ways : List (Option Way)) (fs gs : List Failure) (b i : ℕ) (c : CheckClass) → IsWay f terms was → AreWays f terms ways → AreFailures terms fs → IsNoted terms fs gs (breach_of b i c) was.guard
    → IsLed f terms terms was ways ways fs gs b i (λ s. Faults c)
fault_made f terms was ways fs gs b i c way ways_are are noted = record {
  keeps = (grown_same terms).keeps;
  free = λ number apart free. free;
  one_each = refl;
  are = ways_are;
  failures = noted.failures are;
  is = λ inputs spot point come told. by_spot f terms was ways fs gs b i c are noted inputs spot point come told;
} where
  by_spot : (f : Function) (terms : List Term) (was : Way) (ways : List (Option Way)) (fs gs : List Failure) (b i : ℕ) (c : CheckClass) → AreFailures terms fs → IsNoted terms fs gs (breach_of b i c) was.guard → (inputs : ℕ → ℕ) (spot : Spot)
      → PointIs terms inputs was spot → WaysIn terms inputs ways spot → ToldIn terms inputs fs spot → WaysAre terms inputs ways (stepped_place inputs b i (λ s. Faults c) spot) × ToldAt terms inputs gs (stepped_place inputs b i (λ s. Faults c) spot)
  by_spot f terms was ways fs gs b i c are noted inputs (Here v) point come told = (come, noted_first terms terms inputs fs gs (breach_of b i c) was.guard (grown_same terms).keeps are noted told point.0)
  by_spot f terms was ways fs gs b i c are noted inputs (There p) point come told = (come, noted_same terms terms inputs fs gs (breach_of b i c) was.guard (IsFaultAt p) (grown_same terms).keeps are noted told point)

-- behind an assumption, at a point that the run passes
assumed_here : (f : Function) (old mid next new : List Term) (inputs : ℕ → ℕ) (fs gs : List Failure) (ways joined : List (Option Way)) (b i target guard set ok : ℕ) (slots : List Slot) (v : Values) (t : Split) (r : Result Word CheckClass)
    → Keeps old next → AreFailures old fs → AreWays f old ways → AreSlots f old slots → IsSplit mid next guard set ok t → IsNoted next fs gs (breach_of b i class.Uninit) t.unset
    → IsJoined f next new ways joined target t.guard.0 slots → AreFailures next gs
    → holds mid inputs guard ≡ true → AreHeld old inputs slots v → AreQuiet old inputs ways → ((z : Breach) → Tells old inputs fs z ↔ ⊥) → TestIs mid inputs true set ok r
    → WaysAre new inputs joined (place_of inputs (standing b i v) (tested Cuts true (standing b i v) target r)) × ToldAt new inputs gs (place_of inputs (standing b i v) (tested Cuts true (standing b i v) target r))
assumed_here f old mid next new inputs fs gs ways joined b i target guard set ok slots v t (Err k) keeps are ways_are slots_are split noted join noted_are g held quiet told is =
    let none : holds next inputs t.guard.0 ≡ false = split.goes_is inputs ∙ ap (λ x. (x && holds mid inputs set) && holds mid inputs ok) g ∙ ap (λ x. x && holds mid inputs ok) is.1 in (
      join.stays inputs (Done (Fault (breach_of b i k))) none (quiet_kept f old next inputs ways keeps ways_are quiet),
      told_kept next new inputs gs (λ z. breach_of b i k ≡ z) join.grown.keeps noted_are
          (subst (λ x. (z : Breach) → Tells next inputs gs z ↔ (breach_of b i x ≡ z)) (sym is.0)
          (noted_first old next inputs fs gs _ t.unset keeps are noted told (split.unset_is inputs ∙ ap (λ x. x && not (holds mid inputs set)) g ∙ ap not is.1))),
    )
assumed_here f old mid next new inputs fs gs ways joined b i target guard set ok slots v t (Ok w) keeps are ways_are slots_are split noted join noted_are g held quiet told is =
    by_test f old mid next new inputs fs gs ways joined b i target guard set ok slots v t keeps are ways_are slots_are split noted join noted_are g held quiet told is.0 (is_expected true w) is.1
  where
    by_test : (f : Function) (old mid next new : List Term) (inputs : ℕ → ℕ) (fs gs : List Failure) (ways joined : List (Option Way)) (b i target guard set ok : ℕ) (slots : List Slot) (v : Values) (t : Split)
        → Keeps old next → AreFailures old fs → AreWays f old ways → AreSlots f old slots → IsSplit mid next guard set ok t → IsNoted next fs gs (breach_of b i class.Uninit) t.unset
        → IsJoined f next new ways joined target t.guard.0 slots → AreFailures next gs
        → holds mid inputs guard ≡ true → AreHeld old inputs slots v → AreQuiet old inputs ways → ((z : Breach) → Tells old inputs fs z ↔ ⊥) → holds mid inputs set ≡ true → (x : Bool) → holds mid inputs ok ≡ x
        → WaysAre new inputs joined (place_of inputs (standing b i v) (cond x (Goes (entry_of target v)) Cuts)) × ToldAt new inputs gs (place_of inputs (standing b i v) (cond x (Goes (entry_of target v)) Cuts))
    by_test f old mid next new inputs fs gs ways joined b i target guard set ok slots v t keeps are ways_are slots_are split noted join noted_are g held quiet told hs true hx = (
      join.comes inputs v (split.goes_is inputs ∙ ap (λ x. (x && holds mid inputs set) && holds mid inputs ok) g ∙ ap (λ x. x && holds mid inputs ok) hs ∙ hx) (quiet_kept f old next inputs ways keeps ways_are quiet) (held_kept old next inputs f slots v keeps slots_are held),
      told_kept next new inputs gs (λ z. ⊥) join.grown.keeps noted_are
          (noted_same old next inputs fs gs _ t.unset (λ z. ⊥) keeps are noted told (split.unset_is inputs ∙ ap (λ x. x && not (holds mid inputs set)) g ∙ ap not hs)),
    )
    by_test f old mid next new inputs fs gs ways joined b i target guard set ok slots v t keeps are ways_are slots_are split noted join noted_are g held quiet told hs false hx = (
      join.stays inputs (Done Cut) (split.goes_is inputs ∙ ap (λ x. (x && holds mid inputs set) && holds mid inputs ok) g ∙ ap (λ x. x && holds mid inputs ok) hs ∙ hx) (quiet_kept f old next inputs ways keeps ways_are quiet),
      told_kept next new inputs gs (λ z. ⊥) join.grown.keeps noted_are
          (noted_same old next inputs fs gs _ t.unset (λ z. ⊥) keeps are noted told (split.unset_is inputs ∙ ap (λ x. x && not (holds mid inputs set)) g ∙ ap not hs)),
    )

pub assumed_made : (f : Function) (old mid next new : List Term) (was : Way) (ways joined : List (Option Way)) (fs gs : List Failure) (b i target : ℕ) (o : Operand) (condition : Condition) (t : Split)
    → IsWay f old was → AreWays f old ways → AreFailures old fs → IsCondition f old mid was.slots.items true o condition → IsSplit mid next was.guard.0 condition.set.0 condition.met.0 t
    → IsNoted next fs gs (breach_of b i class.Uninit) t.unset → IsJoined f next new ways joined target t.guard.0 was.slots.items → IsLed f old new was ways joined fs gs b i (λ s. tested Cuts true s target (operand_value f s.values o))
assumed_made f old mid next new was ways joined fs gs b i target o condition t way ways_are are got split noted join =
    let upto : Grown old next = grown_trans old mid next got.grown split.grown in
    let noted_are : AreFailures next gs = noted.failures (failures_kept old next fs upto.keeps are) in
    record {
      keeps = (grown_trans old next new upto join.grown).keeps;
      free = λ number apart free. (grown_trans old next new upto join.grown).free number free;
      one_each = join.one_each;
      are = join.are;
      failures = failures_kept next new gs join.grown.keeps noted_are;
      is = λ inputs spot point come told. by_spot f old mid next new inputs was ways joined fs gs b i target o condition t way ways_are are got split noted join upto noted_are spot point come told;
    }
  where
    by_spot : (f : Function) (old mid next new : List Term) (inputs : ℕ → ℕ) (was : Way) (ways joined : List (Option Way)) (fs gs : List Failure) (b i target : ℕ) (o : Operand) (condition : Condition) (t : Split)
        → IsWay f old was → AreWays f old ways → AreFailures old fs → IsCondition f old mid was.slots.items true o condition → IsSplit mid next was.guard.0 condition.set.0 condition.met.0 t
        → IsNoted next fs gs (breach_of b i class.Uninit) t.unset → IsJoined f next new ways joined target t.guard.0 was.slots.items → Grown old next → AreFailures next gs
        → (spot : Spot) → PointIs old inputs was spot → WaysIn old inputs ways spot → ToldIn old inputs fs spot
        → WaysAre new inputs joined (stepped_place inputs b i (λ s. tested Cuts true s target (operand_value f s.values o)) spot) × ToldAt new inputs gs (stepped_place inputs b i (λ s. tested Cuts true s target (operand_value f s.values o)) spot)
    by_spot f old mid next new inputs was ways joined fs gs b i target o condition t way ways_are are got split noted join upto noted_are (Here v) point come told =
        assumed_here f old mid next new inputs fs gs ways joined b i target was.guard.0 condition.set.0 condition.met.0 was.slots.items v t (operand_value f v o) upto.keeps are ways_are way.slots split noted join noted_are
        (holds_kept old mid inputs was.guard.0 got.grown.keeps way.guard.inside ∙ point.0) point.1 come told (got.is inputs v point.1)
    by_spot f old mid next new inputs was ways joined fs gs b i target o condition t way ways_are are got split noted join upto noted_are (There p) point come told =
        (let g : holds mid inputs was.guard.0 ≡ false = holds_kept old mid inputs was.guard.0 got.grown.keeps way.guard.inside ∙ point in (
          join.stays inputs p (split.goes_is inputs ∙ ap (λ x. (x && holds mid inputs condition.set.0) && holds mid inputs condition.met.0) g) (ways_kept f old next inputs ways p upto.keeps ways_are come),
          told_kept next new inputs gs (IsFaultAt p) join.grown.keeps noted_are
              (noted_same old next inputs fs gs _ t.unset (IsFaultAt p) upto.keeps are noted told (split.unset_is inputs ∙ ap (λ x. x && not (holds mid inputs condition.set.0)) g)),
        ))
