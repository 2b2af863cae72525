-- One block more.
use Rattle.std.proofs.Common.{◌≡◌, ◌≢◌, ℕ, zero, suc, ◌+◌, ◌<◌, ◌≤◌, ◌==◌, Bool, true, false, cond, List, [], ◌∷◌, Option, Some, None, length, subst, sym, ap, ◌∙◌, refl, arith, add-one}
use Rattle.std.specs.Prelude.{ltb, slice_set}
use Rattle.std.proofs.lemmas.Bool.{eqb-true, eqb-false, ltb-true, ltb-false}
use Rattle.std.proofs.lemmas.List.{get_or-set_same, get_or-set_other, length-set}
use Rattle.std.proofs.lemmas.Option.{same_Some}
use Rattle.mir_ir.specs.declared.tree.Block.{Block}
use Rattle.mir_ir.specs.declared.tree.Function.{Function}
use Rattle.mir_ir.specs.declared.tree.Statement.{Statement}
use Rattle.sym_terms.specs.declared.term.Term.{Term}
use Rattle.sym_terms.specs.Terms.{Keeps}
use Rattle.sym_terms.proofs.Grown.{Keeps-trans}
use Rattle.scalar_runs.specs.Look.{block_of}
use Rattle.scalar_runs.specs.Run.{Configuration, Stepped, Goes, Ends, Cuts, Faults, Chooses, Stuck, statement_step, terminator_step}
use Rattle.scalar_form.proofs.FormLaws.{found_number}
use Rattle.value_terms.specs.Made.{holds}
use Rattle.value_terms.specs.Slots.{AreHeld}
use Rattle.scalar_terms.specs.declared.failures.Failure.{Failure}
use Rattle.scalar_terms.specs.declared.ways.Way.{Way}
use Rattle.scalar_terms.specs.Ends.{AreStated, IsPassed}
use Rattle.scalar_terms.specs.Joins.{AreQuiet, AreWays, WaysAre, WaysIn, way_at}
use Rattle.scalar_terms.specs.Places.{Place, Before, Done, Spot, Here, There, all_stated, behind_block, entered, finished, passed_at, place, spot_of, standing, stated}
use Rattle.scalar_terms.specs.Sweeps.{AreSwept}
use Rattle.scalar_terms.specs.Tests.{IsLed}
use Rattle.scalar_terms.specs.Ways.{PointIs, ToldAt, ToldIn}
use Rattle.scalar_terms.proofs.RunLaws.{stated_there}
use Rattle.scalar_terms.proofs.TestLaws.{quiet_kept, ways_kept}

-- a statement leads elsewhere only to an end, so that no point was passed
spot_quiet : (terms : List Term) (inputs : ℕ → ℕ) (ways : List (Option Way)) (s : Configuration) (r : Stepped) → AreQuiet terms inputs ways → WaysIn terms inputs ways (spot_of s r)
spot_quiet terms inputs ways s (Goes t) quiet = quiet
spot_quiet terms inputs ways s Ends quiet = quiet
spot_quiet terms inputs ways s Cuts quiet = quiet
spot_quiet terms inputs ways s (Faults c) quiet = quiet
spot_quiet terms inputs ways s (Chooses k destination next) quiet = quiet
spot_quiet terms inputs ways s Stuck quiet = quiet

stated_ways : (f : Function) (terms : List Term) (inputs : ℕ → ℕ) (ways : List (Option Way)) (b i : ℕ) (this : Statement) (spot : Spot) → WaysIn terms inputs ways spot → WaysIn terms inputs ways (stated f b i this spot)
stated_ways f terms inputs ways b i this (Here v) come = spot_quiet terms inputs ways (standing b i v) (statement_step f (standing b i v) this) come
stated_ways f terms inputs ways b i this (There p) come = come

all_stated_ways : (f : Function) (terms : List Term) (inputs : ℕ → ℕ) (ways : List (Option Way)) (b i : ℕ) (xs : List Statement) (spot : Spot) → WaysIn terms inputs ways spot → WaysIn terms inputs ways (all_stated f b i xs spot)
all_stated_ways f terms inputs ways b i [] spot come = come
all_stated_ways f terms inputs ways b i (x ∷ xs) spot come = all_stated_ways f terms inputs ways b (i + 1) xs (stated f b i x spot) (stated_ways f terms inputs ways b i x spot come)

in_kept : (f : Function) (old new : List Term) (inputs : ℕ → ℕ) (ways : List (Option Way)) (spot : Spot) → Keeps old new → AreWays f old ways → WaysIn old inputs ways spot → WaysIn new inputs ways spot
in_kept f old new inputs ways (Here v) keeps are come = quiet_kept f old new inputs ways keeps are come
in_kept f old new inputs ways (There p) keeps are come = ways_kept f old new inputs ways p keeps are come

-- a block, by its statements and its terminator
pub passed_made : (f : Function) (old mid new : List Term) (was next : Way) (ways joined : List (Option Way)) (fs gs hs : List Failure) (b : Block) (count : ℕ) → count ≡ length b.statements → AreWays f old ways → AreStated f old mid was next fs gs b.id.0 0 b.statements
    → IsLed f mid new next ways joined gs hs b.id.0 count (λ s. terminator_step f s b.terminator) → IsPassed f old new was ways joined fs hs b
passed_made f old mid new was next ways joined fs gs hs b count same are stated_is led_at =
    let led : IsLed f mid new next ways joined gs hs b.id.0 (length b.statements) (λ s. terminator_step f s b.terminator) = subst (λ n. IsLed f mid new next ways joined gs hs b.id.0 n (λ s. terminator_step f s b.terminator)) same led_at in
    record {
      keeps = Keeps-trans old mid new stated_is.grown.keeps led.keeps;
      free = λ number apart free. led.free number apart (stated_is.grown.free number free);
      one_each = led.one_each;
      are = led.are;
      failures = led.failures;
      is = λ inputs spot point come told.
          let there = stated_is.is inputs spot point told in
          led.is inputs (all_stated f b.id.0 0 b.statements spot) there.0 (all_stated_ways f mid inputs ways b.id.0 0 b.statements spot (in_kept f old mid inputs ways spot stated_is.grown.keeps are come)) there.1;
    }

way_none : (w : Way) → ◌≡◌ {A = Option Way} None (Some w) → ⊥
way_none w e = cc

-- nothing stands beyond the end
pub beyond : (ways : List (Option Way)) (n : ℕ) → length ways ≤ n → way_at ways n ≡ None
beyond [] n h = refl
beyond (x ∷ xs) zero h = absurd (omega (arith, h))
beyond (x ∷ xs) (suc n) h = beyond xs n (omega (arith, h))

way_within : (ways : List (Option Way)) (n : ℕ) (w : Way) → way_at ways n ≡ Some w → n < length ways
way_within [] n w e = absurd (way_none w e)
way_within (x ∷ xs) zero w e = omega arith
way_within (x ∷ xs) (suc n) w e = let below : n < length xs = way_within xs n w e in omega arith

-- the ways without this one
pub record IsTaken (ways left : List (Option Way)) (n : ℕ) : Type 0 where
  pub one_each : length left ≡ length ways
  pub here : way_at left n ≡ None
  pub there : (m : ℕ) → m ≢ n → way_at left m ≡ way_at ways m

pub taken_some : (ways left : List (Option Way)) (n : ℕ) (w : Way) → way_at ways n ≡ Some w → left ≡ slice_set ways n None → IsTaken ways left n
taken_some ways left n w at e = record {
  one_each = ap length e ∙ length-set ways n None;
  here = ap (λ l. way_at l n) e ∙ get_or-set_same ways n None None (way_within ways n w at);
  there = λ m apart. ap (λ l. way_at l m) e ∙ get_or-set_other ways n m None None apart;
}

pub taken_way : (ways left : List (Option Way)) (n m : ℕ) (w : Way) → IsTaken ways left n → way_at left m ≡ Some w → way_at ways m ≡ Some w
taken_way ways left n m w taken at = by_cases (m == n) refl where
  by_cases : (t : Bool) → (m == n) ≡ t → way_at ways m ≡ Some w
  by_cases true e = absurd (way_none w (sym (ap (way_at left) (eqb-true m n e) ∙ taken.here) ∙ at))
  by_cases false e = sym (taken.there m (eqb-false m n e)) ∙ at

taken_apart : (ways left : List (Option Way)) (n m : ℕ) (w : Way) → IsTaken ways left n → way_at left m ≡ Some w → m ≢ n
taken_apart ways left n m w taken at e = way_none w (sym (ap (way_at left) e ∙ taken.here) ∙ at)

pub taken_are : (f : Function) (terms : List Term) (ways left : List (Option Way)) (n : ℕ) → IsTaken ways left n → AreWays f terms ways → AreWays f terms left
taken_are f terms ways left n taken are m w at = are m w (taken_way ways left n m w taken at)

apart_back : (a b : ℕ) → a ≢ b → b ≢ a
apart_back a b h e = h (sym e)

-- where the run stands at the entry of a block, by the way that was taken out
pub entry_facts : (terms : List Term) (inputs : ℕ → ℕ) (ways left : List (Option Way)) (fs : List Failure) (n : ℕ) (way : Way) (p : Place) → way_at ways n ≡ Some way → IsTaken ways left n → WaysAre terms inputs ways p → ToldAt terms inputs fs p
    → PointIs terms inputs way (entered n p) × WaysIn terms inputs left (entered n p) × ToldIn terms inputs fs (entered n p)
entry_facts terms inputs ways left fs n way (Done e) at taken come told = (come n way at, (λ m w there. come m w (taken_way ways left n m w taken there)), told)
entry_facts terms inputs ways left fs n way (Before t v) at taken come told = by_cases (t == n) refl where
  by_cases : (x : Bool) → (t == n) ≡ x → PointIs terms inputs way (cond x (Here v) (There (Before t v))) × WaysIn terms inputs left (cond x (Here v) (There (Before t v))) × ToldIn terms inputs fs (cond x (Here v) (There (Before t v)))
  by_cases true e =
      let same : t ≡ n = eqb-true t n e in
      let this : come.way ≡ way = same_Some come.way way (sym come.at ∙ ap (way_at ways) same ∙ at) in (
        (subst (λ w. holds terms inputs w.guard.0 ≡ true) this come.guard, subst (λ w. AreHeld terms inputs w.slots.items v) this come.held),
        (λ m w there. come.others m w (subst (λ k. m ≢ k) (sym same) (taken_apart ways left n m w taken there)) (taken_way ways left n m w taken there)),
        told,
      )
  by_cases false e =
      let far : t ≢ n = eqb-false t n e in (
        come.others n way (apart_back t n far) at,
        record {
          way = come.way;
          at = taken.there t far ∙ come.at;
          guard = come.guard;
          held = come.held;
          others = λ m w apart there. come.others m w apart (taken_way ways left n m w taken there);
        },
        told,
      )

-- the place behind a block
pub place_behind : (f : Function) (inputs : ℕ → ℕ) (n : ℕ) (b : Block) → block_of f n ≡ Some b → place f inputs (suc n) ≡ behind_block f inputs b (entered n (place f inputs n))
place_behind f inputs n b found = ap (λ x. passed_at f inputs x (place f inputs n)) found ∙ ap (λ k. behind_block f inputs b (entered k (place f inputs n))) (found_number f.blocks n b found)

pub swept_block : (f : Function) (old new : List Term) (ways left joined : List (Option Way)) (fs gs : List Failure) (n : ℕ) (b : Block) (way : Way) → AreSwept f old ways fs n → block_of f n ≡ Some b → way_at ways n ≡ Some way → IsTaken ways left n
    → IsPassed f old new way left joined fs gs b → AreSwept f new joined gs (n + 1)
swept_block f old new ways left joined fs gs n b way swept found at taken is = record {
  are = is.are;
  failures = is.failures;
  free = λ number above. is.free number (apart number above) (swept.free number (below number above));
  is = λ inputs.
      let facts = entry_facts old inputs ways left fs n way (place f inputs n) at taken (swept.is inputs).0 (swept.is inputs).1 in
      subst (λ m. WaysAre new inputs joined (place f inputs m) × ToldAt new inputs gs (place f inputs m)) (sym (add-one n))
      (subst (λ p. WaysAre new inputs joined p × ToldAt new inputs gs p) (sym (place_behind f inputs n b found)) (is.is inputs (entered n (place f inputs n)) facts.0 facts.1 facts.2));
} where
  number_is : b.id.0 ≡ n
  number_is = found_number f.blocks n b found

  below : (number : ℕ) → n + 1 ≤ number → n ≤ number
  below number above = omega (arith, above)

  apart : (number : ℕ) → n + 1 ≤ number → number ≢ b.id.0
  apart number above e = let same : number ≡ n = e ∙ number_is in omega (arith, above)

-- a place that the block is not at
elsewhere_stays : (f : Function) (inputs : ℕ → ℕ) (b : Block) (n : ℕ) (p : Place) → entered n p ≡ There p → behind_block f inputs b (entered n p) ≡ p
elsewhere_stays f inputs b n p e = ap (behind_block f inputs b) e ∙ there_stays f inputs b p where
  there_stays : (f : Function) (inputs : ℕ → ℕ) (b : Block) (p : Place) → behind_block f inputs b (There p) ≡ p
  there_stays f inputs b p = ap (λ spot. finished f inputs b.id.0 (length b.statements) b.terminator spot) (stated_there f b.id.0 0 b.statements p)

-- no run comes to a block that there is no way to
not_entered : (terms : List Term) (inputs : ℕ → ℕ) (ways : List (Option Way)) (n : ℕ) (p : Place) → way_at ways n ≡ None → WaysAre terms inputs ways p → entered n p ≡ There p
not_entered terms inputs ways n (Done e) none come = refl
not_entered terms inputs ways n (Before t v) none come = by_cases (t == n) refl where
  by_cases : (x : Bool) → (t == n) ≡ x → cond x (Here v) (There (Before t v)) ≡ There (Before t v)
  by_cases true e = absurd (way_none come.way (sym none ∙ ap (way_at ways) (sym (eqb-true t n e)) ∙ come.at))
  by_cases false e = refl

pub same_ways : (terms : List Term) (inputs : ℕ → ℕ) (ways left : List (Option Way)) (p : Place) → ((m : ℕ) → way_at left m ≡ way_at ways m) → WaysAre terms inputs ways p → WaysAre terms inputs left p
same_ways terms inputs ways left (Done e) same come = λ m w at. come m w (sym (same m) ∙ at)
same_ways terms inputs ways left (Before t v) same come = record { way = come.way; at = same t ∙ come.at; guard = come.guard; held = come.held; others = λ m w apart at. come.others m w apart (sym (same m) ∙ at) }

-- a list in which nothing was taken out
untaken : (ways left : List (Option Way)) (n : ℕ) → way_at ways n ≡ None → left ≡ slice_set ways n None → (m : ℕ) → way_at left m ≡ way_at ways m
untaken ways left n none e m = by_cases (m == n) refl where
  inside : (t : Bool) → (ltb n (length ways)) ≡ t → way_at (slice_set ways n None) n ≡ None
  inside true h = get_or-set_same ways n None None (ltb-true n (length ways) h)
  inside false h = beyond (slice_set ways n None) n (subst (λ k. k ≤ n) (sym (length-set ways n None)) (ltb-false n (length ways) h))

  by_cases : (t : Bool) → (m == n) ≡ t → way_at left m ≡ way_at ways m
  by_cases true h = ap (way_at left) (eqb-true m n h) ∙ ap (λ l. way_at l n) e ∙ inside (ltb n (length ways)) refl ∙ sym none ∙ ap (way_at ways) (sym (eqb-true m n h))
  by_cases false h = ap (λ l. way_at l m) e ∙ get_or-set_other ways n m None None (eqb-false m n h)

pub swept_missed : (f : Function) (terms : List Term) (ways left : List (Option Way)) (fs : List Failure) (n : ℕ) (b : Block) → AreSwept f terms ways fs n → block_of f n ≡ Some b → way_at ways n ≡ None → left ≡ slice_set ways n None → AreSwept f terms left fs (n + 1)
swept_missed f terms ways left fs n b swept found none e = record {
  are = λ m w at. swept.are m w (sym (untaken ways left n none e m) ∙ at);
  failures = swept.failures;
  free = λ number above. swept.free number (omega (arith, above));
  is = λ inputs.
      let stays : place f inputs (suc n) ≡ place f inputs n = place_behind f inputs n b found ∙ elsewhere_stays f inputs b n (place f inputs n) (not_entered terms inputs ways n (place f inputs n) none (swept.is inputs).0) in
      subst (λ p. WaysAre terms inputs left p × ToldAt terms inputs fs p) (sym (ap (place f inputs) (add-one n) ∙ stays))
      (same_ways terms inputs ways left (place f inputs n) (untaken ways left n none e) (swept.is inputs).0, (swept.is inputs).1);
}

pub swept_gap : (f : Function) (terms : List Term) (ways : List (Option Way)) (fs : List Failure) (n : ℕ) → AreSwept f terms ways fs n → block_of f n ≡ None → AreSwept f terms ways fs (n + 1)
swept_gap f terms ways fs n swept none = record {
  are = swept.are;
  failures = swept.failures;
  free = λ number above. swept.free number (omega (arith, above));
  is = λ inputs.
      let stays : place f inputs (suc n) ≡ place f inputs n = ap (λ x. passed_at f inputs x (place f inputs n)) none in
      subst (λ p. WaysAre terms inputs ways p × ToldAt terms inputs fs p) (sym (ap (place f inputs) (add-one n) ∙ stays)) (swept.is inputs);
}
