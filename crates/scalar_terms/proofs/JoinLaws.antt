-- A point that runs come to on one way more.
use Rattle.std.proofs.Common.{◌≡◌, ◌≢◌, ℕ, ◌<◌, ◌==◌, Bool, true, false, List, length, Option, Some, None, subst, sym, ap, ◌∙◌, refl, get_or}
use Rattle.std.specs.Prelude.{slice_set}
use Rattle.std.proofs.lemmas.Bool.{eqb-true, eqb-false}
use Rattle.std.proofs.lemmas.List.{get_or-set_same, get_or-set_other, length-set}
use Rattle.std.proofs.lemmas.Option.{same_Some}
use Rattle.mir_ir.specs.declared.tree.Function.{Function}
use Rattle.sym_terms.specs.declared.term.Term.{Term}
use Rattle.sym_terms.specs.Terms.{Keeps}
use Rattle.scalar_runs.specs.Values.{Values}
use Rattle.value_terms.specs.declared.slots.Slot.{Slot}
use Rattle.value_terms.specs.Made.{IsBit, holds}
use Rattle.value_terms.specs.Slots.{AreHeld, AreSlots}
use Rattle.scalar_terms.specs.declared.ways.Way.{Way}
use Rattle.scalar_terms.specs.Joins.{AreWays, ComesAt, IsEntry, IsJoined, WaysAre, way_at}
use Rattle.scalar_terms.specs.Picks.{IsMerged}
use Rattle.scalar_terms.specs.Places.{Place, Before, Done}
use Rattle.scalar_terms.specs.Ways.{IsWay}
use Rattle.value_terms.proofs.MadeLaws.{bit_kept, grown_same, holds_kept}
use Rattle.value_terms.proofs.RvalueLaws.{held_kept, slots_kept}

none_some : (x : Way) → ◌≡◌ {A = Option Way} None (Some x) → ⊥
none_some x e = cc

pub way_kept : (f : Function) (old new : List Term) (way : Way) → Keeps old new → IsWay f old way → IsWay f new way
way_kept f old new way keeps is = record { guard = bit_kept old new way.guard.0 keeps is.guard; slots = slots_kept f old new way.slots.items keeps is.slots }

pub entry_new : (f : Function) (terms : List Term) (was : Option Way) (guard : ℕ) (slots : List Slot) (way : Way) → was ≡ None → IsBit terms way.guard.0 → AreSlots f terms slots → way.guard.0 ≡ guard → way.slots.items ≡ slots → IsEntry f terms terms was guard slots way
entry_new f terms was guard slots way none bit are e g = record {
  grown = grown_same terms;
  is_way = record { guard = bit; slots = subst (AreSlots f terms) (sym g) are };
  first = λ inputs v h held. (ap (holds terms inputs) e ∙ h, subst (λ s. AreHeld terms inputs s v) (sym g) held);
  second = λ inputs v x some h k held. absurd (none_some x (sym none ∙ some));
  neither = λ inputs h quiet. ap (holds terms inputs) e ∙ h;
}

pub entry_merged : (f : Function) (old new : List Term) (was : Option Way) (guard : ℕ) (slots : List Slot) (x way : Way) → was ≡ Some x → IsMerged f old new guard slots x way → IsEntry f old new was guard slots way
entry_merged f old new was guard slots x way e merged = record {
  grown = merged.grown;
  is_way = merged.is_way;
  first = merged.first;
  second = λ inputs v y some h k held.
      let same : x ≡ y = same_Some x y (sym e ∙ some) in
      merged.second inputs v h (subst (λ z. holds old inputs z.guard.0 ≡ true) (sym same) k) (subst (λ z. AreHeld old inputs z.slots.items v) (sym same) held);
  neither = λ inputs h quiet. merged.neither inputs h (quiet x e);
}

-- the ways with one at this number
pub record IsPut (ways joined : List (Option Way)) (target : ℕ) (way : Way) : Type 0 where
  pub one_each : length joined ≡ length ways
  pub here : way_at joined target ≡ Some way
  pub there : (n : ℕ) → n ≢ target → way_at joined n ≡ way_at ways n

pub put_made : (ways left joined : List (Option Way)) (target : ℕ) (way : Way) → target < length ways → left ≡ slice_set ways target None → joined ≡ slice_set left target (Some way) → IsPut ways joined target way
put_made ways left joined target way inside e g = record {
  one_each = ap length g ∙ length-set left target (Some way) ∙ ap length e ∙ length-set ways target None;
  here = ap (λ l. get_or l target None) g ∙ get_or-set_same left target (Some way) None (subst (λ k. target < k) (sym (ap length e ∙ length-set ways target None)) inside);
  there = λ n apart. ap (λ l. get_or l n None) g ∙ get_or-set_other left target n (Some way) None apart ∙ ap (λ l. get_or l n None) e ∙ get_or-set_other ways target n None None apart;
}

-- a way of another number, or this one
way_cases : (ways joined : List (Option Way)) (target n : ℕ) (way other : Way) (P : Way → Type 0) → IsPut ways joined target way → way_at joined n ≡ Some other → (n ≡ target → P way) → (n ≢ target → way_at ways n ≡ Some other → P other) → P other
way_cases ways joined target n way other P put at here there = by_cases (n == target) refl where
  by_cases : (t : Bool) → (n == target) ≡ t → P other
  by_cases true e =
      let same : n ≡ target = eqb-true n target e in
      subst P (same_Some way other (sym put.here ∙ ap (way_at joined) (sym same) ∙ at)) (here same)
  by_cases false e =
      let apart : n ≢ target = eqb-false n target e in
      there apart (sym (put.there n apart) ∙ at)

apart_back : (a b : ℕ) → a ≢ b → b ≢ a
apart_back a b h e = h (sym e)

pub joined_made : (f : Function) (old new : List Term) (ways joined : List (Option Way)) (target guard : ℕ) (slots : List Slot) (way : Way) → AreWays f old ways → IsEntry f old new (way_at ways target) guard slots way → IsPut ways joined target way
    → IsJoined f old new ways joined target guard slots
joined_made f old new ways joined target guard slots way are entry put = record {
  grown = entry.grown;
  one_each = put.one_each;
  are = λ n other at. way_cases ways joined target n way other (IsWay f new) put at (λ same. entry.is_way) (λ apart before. way_kept f old new other entry.grown.keeps (are n other before));
  comes = λ inputs v h quiet held.
      let now = entry.first inputs v h held in
      record {
        way = way;
        at = put.here;
        guard = now.0;
        held = now.1;
        others = λ n other apart at. kept_quiet f old new ways inputs n other are entry.grown.keeps (sym (put.there n apart) ∙ at) (quiet n other (sym (put.there n apart) ∙ at));
      };
  stays = λ inputs p h before. stay f old new ways joined target guard slots way are entry put inputs p h before;
} where
  kept_quiet : (f : Function) (old new : List Term) (ways : List (Option Way)) (inputs : ℕ → ℕ) (n : ℕ) (other : Way) → AreWays f old ways → Keeps old new → way_at ways n ≡ Some other → holds old inputs other.guard.0 ≡ false → holds new inputs other.guard.0 ≡ false
  kept_quiet f old new ways inputs n other are keeps at h = holds_kept old new inputs other.guard.0 keeps (are n other at).guard.inside ∙ h

  -- the run comes to this very point already
  stay_here : (f : Function) (old new : List Term) (ways joined : List (Option Way)) (target guard : ℕ) (slots : List Slot) (way : Way) → AreWays f old ways → IsEntry f old new (way_at ways target) guard slots way → IsPut ways joined target way → (inputs : ℕ → ℕ) (v : Values) → holds old inputs guard ≡ false
      → ComesAt old inputs ways target v → ComesAt new inputs joined target v
  stay_here f old new ways joined target guard slots way are entry put inputs v h before =
      let now = entry.second inputs v before.way before.at h before.guard before.held in
      record {
        way = way;
        at = put.here;
        guard = now.0;
        held = now.1;
        others = λ n other apart at. kept_quiet f old new ways inputs n other are entry.grown.keeps (sym (put.there n apart) ∙ at) (before.others n other apart (sym (put.there n apart) ∙ at));
      }

  stay_there : (f : Function) (old new : List Term) (ways joined : List (Option Way)) (target guard : ℕ) (slots : List Slot) (way : Way) → AreWays f old ways → IsEntry f old new (way_at ways target) guard slots way → IsPut ways joined target way → (inputs : ℕ → ℕ) (to : ℕ) (v : Values) → to ≢ target
      → holds old inputs guard ≡ false → ComesAt old inputs ways to v → ComesAt new inputs joined to v
  stay_there f old new ways joined target guard slots way are entry put inputs to v apart h before =
      let keeps = entry.grown.keeps in
      record {
        way = before.way;
        at = put.there to apart ∙ before.at;
        guard = holds_kept old new inputs before.way.guard.0 keeps (are to before.way before.at).guard.inside ∙ before.guard;
        held = held_kept old new inputs f before.way.slots.items v keeps (are to before.way before.at).slots before.held;
        others = λ n other far at. way_cases ways joined target n way other (λ x. holds new inputs x.guard.0 ≡ false) put at
            (λ same. entry.neither inputs h (λ x e. before.others target x (apart_back to target apart) e))
            (λ other_apart was. kept_quiet f old new ways inputs n other are keeps was (before.others n other far was));
      }

  stay : (f : Function) (old new : List Term) (ways joined : List (Option Way)) (target guard : ℕ) (slots : List Slot) (way : Way) → AreWays f old ways → IsEntry f old new (way_at ways target) guard slots way → IsPut ways joined target way → (inputs : ℕ → ℕ) (p : Place) → holds old inputs guard ≡ false
      → WaysAre old inputs ways p → WaysAre new inputs joined p
  stay f old new ways joined target guard slots way are entry put inputs (Done e) h before = λ n other at. way_cases ways joined target n way other (λ x. holds new inputs x.guard.0 ≡ false) put at
      (λ same. entry.neither inputs h (λ x e. before target x e))
      (λ apart was. kept_quiet f old new ways inputs n other are entry.grown.keeps was (before n other was))
  stay f old new ways joined target guard slots way are entry put inputs (Before to v) h before = by_cases (to == target) refl where
    by_cases : (t : Bool) → (to == target) ≡ t → ComesAt new inputs joined to v
    by_cases true e =
        let same : to ≡ target = eqb-true to target e in
        subst (λ k. ComesAt new inputs joined k v) (sym same) (stay_here f old new ways joined target guard slots way are entry put inputs v h (subst (λ k. ComesAt old inputs ways k v) same before))
    by_cases false e = stay_there f old new ways joined target guard slots way are entry put inputs to v (eqb-false to target e) h before
