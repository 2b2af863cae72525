-- Numbers that rise along what is held.
use Rattle.std.proofs.Common.{◌≡◌, ℕ, zero, suc, ◌+◌, ◌*◌, ◌<◌, ◌≤◌, Bool, true, false, true≢false, ◌&&◌, ◌==◌, nat_lt, nat_le, bytes_eq, List, [], ◌∷◌, Option, Some, None, Decides, length, replicate, slice_get, slice_index, inl, inr, refl, ap, sym, subst, ◌∙◌, arith, eq-eqb}
use Rattle.std.specs.Bool.{OnTrue}
use Rattle.std.proofs.lemmas.Bool.{and_parts, cases_lt, eqb-true, leb-true, ltb-true, or_cases, or_left, or_right}
use Rattle.std.proofs.lemmas.List.{length-map, length-replicate}
use Rattle.std.proofs.lemmas.Option.{slice_get_past}
use Rattle.std.proofs.lemmas.Slice.Eq.{bytes_eq-Decides}
use Rattle.type_layouts.specs.declared.extent.Held.{Held}
use Rattle.type_layouts.specs.declared.outline.Outline.{Outline}
use Rattle.type_layouts.specs.Extents.{within_parts}
use Rattle.type_layouts.specs.Parts.{counted, levels, one_level, outline_parts, parts_table}
use Rattle.type_layouts.specs.Ranks.{IsOrdered, IsRanked, PassesBefore, are_below, is_above_at, is_ordered_at, is_ranked_at}
use Rattle.type_layouts.specs.Recursion.{Holds, IsRecursive, Leads, held_at, held_of, is_held}
use Rattle.type_layouts.proofs.HeldLaws.{index_past, index_zeros, same_by_index}

-- ---- tests at one place after the other

pub passes_first : (test : ℕ → Bool) → PassesBefore test 0
passes_first test = record { each = λ i lt. absurd (omega arith) }

pub passes_more : (test : ℕ → Bool) (n : ℕ) → PassesBefore test n → test n ≡ true → PassesBefore test (n + 1)
passes_more test n before here = record {
  each = λ i lt. elim (cases_lt i n) [
    | inl less ↦ before.each i less
    | inr le ↦
        let e : n ≡ i = omega arith in
        subst (λ k. test k ≡ true) e here
  ];
}

-- ---- from the test to the fact

below_all : (ranks : List ℕ) (n : ℕ) (held : List Held) (k : ℕ) → are_below ranks n held ≡ true → is_held k held ≡ true → slice_index ranks k < n
below_all ranks n [] k h m = absurd (true≢false (sym m))
below_all ranks n (g ∷ held) k h m =
    let parts = and_parts (nat_lt (slice_index ranks g.entry) n) (are_below ranks n held) h in
    elim (or_cases (g.entry == k) (is_held k held) m) [
      | inl is ↦ subst (λ e. slice_index ranks e < n) (eqb-true g.entry k is) (ltb-true (slice_index ranks g.entry) n parts.0)
      | inr more ↦ below_all ranks n held k parts.1 more
    ]

none_held : (outlines : List Outline) (i k : ℕ) → length outlines ≤ i → Holds outlines i k → ⊥
none_held outlines i k le holds = true≢false (sym holds ∙ ap (λ o. is_held k (held_of o)) (slice_get_past outlines i le))

above_all : (outlines : List Outline) (ranks : List ℕ) (i k : ℕ) → is_above_at outlines ranks i ≡ true → Holds outlines i k → slice_index ranks k < slice_index ranks i
above_all outlines ranks i k above holds = below_all ranks (slice_index ranks i) (held_at outlines i) k above holds

ranked_parts : (outlines : List Outline) (ranks : List ℕ) (i : ℕ) → is_ranked_at outlines ranks i ≡ true
    → (0 < slice_index ranks i) × (slice_index ranks i ≤ length outlines) × (is_above_at outlines ranks i ≡ true)
ranked_parts outlines ranks i h =
    let n = slice_index ranks i in
    let one = and_parts (nat_lt 0 n && nat_le n (length outlines)) (is_above_at outlines ranks i) h in
    let two = and_parts (nat_lt 0 n) (nat_le n (length outlines)) one.0 in
    (ltb-true 0 n two.0, leb-true n (length outlines) two.1, one.1)

pub all_ordered : (outlines : List Outline) (ranks : List ℕ) (n : ℕ) → length outlines ≤ n → PassesBefore (is_ordered_at outlines ranks) n → IsOrdered outlines ranks
all_ordered outlines ranks n all before = record {
  down = λ i k holds. elim (cases_lt i (length outlines)) [
    | inl lt ↦
        let within : slice_index ranks k < slice_index ranks i + 1 = below_all ranks (slice_index ranks i + 1) (held_at outlines i) k (before.each i (omega arith)) holds in
        omega arith
    | inr le ↦ absurd (none_held outlines i k le holds)
  ];
}

pub all_ranked : (outlines : List Outline) (ranks : List ℕ) (n : ℕ) → length outlines ≤ n → PassesBefore (is_ranked_at outlines ranks) n → IsRanked outlines ranks
all_ranked outlines ranks n all before = record {
  above = λ i k holds. elim (cases_lt i (length outlines)) [
    | inl lt ↦ above_all outlines ranks i k (ranked_parts outlines ranks i (before.each i (omega arith))).2 holds
    | inr le ↦ absurd (none_held outlines i k le holds)
  ];
  first = λ i lt. (ranked_parts outlines ranks i (before.each i (omega arith))).0;
  last = λ i lt. (ranked_parts outlines ranks i (before.each i (omega arith))).1;
}

-- ---- a type above all that it holds does not hold itself

module _ (outlines : List Outline) (ranks : List ℕ) (ordered : IsOrdered outlines ranks) where
  leads_down : (i k : ℕ) (path : List ℕ) → Leads outlines i path k → slice_index ranks k ≤ slice_index ranks i
  leads_down i k [] h = ordered.down i k h
  leads_down i k (j ∷ more) h =
      let first : slice_index ranks j ≤ slice_index ranks i = ordered.down i j h.0 in
      let rest : slice_index ranks k ≤ slice_index ranks j = leads_down j k more h.1 in
      omega arith

  no_way_back : (i : ℕ) (path : List ℕ) → is_above_at outlines ranks i ≡ true → Leads outlines i path i → ⊥
  no_way_back i [] above h =
      let lt : slice_index ranks i < slice_index ranks i = above_all outlines ranks i i above h in
      omega arith
  no_way_back i (j ∷ more) above h =
      let first : slice_index ranks j < slice_index ranks i = above_all outlines ranks i j above h.0 in
      let rest : slice_index ranks i ≤ slice_index ranks j = leads_down j i more h.1 in
      omega arith

pub not_recursive : (outlines : List Outline) (ranks : List ℕ) (i : ℕ) → IsOrdered outlines ranks → is_above_at outlines ranks i ≡ true → Decides false (IsRecursive outlines i)
not_recursive outlines ranks i ordered above = ((λ e. absurd (true≢false (sym e))), (λ r. absurd (no_way_back outlines ranks ordered i r.path above r.leads)))

-- ---- levels of parts

abbrev parts_of : List ℕ → Option Outline → ℕ
parts_of table None = 0
parts_of table (Some o) = outline_parts table o

level_at : (table : List ℕ) (outlines : List Outline) (i : ℕ) → slice_index (one_level outlines table) i ≡ parts_of table (slice_get outlines i)
level_at table [] i = refl
level_at table (o ∷ outlines) zero = refl
level_at table (o ∷ outlines) (suc i) = level_at table outlines i

length_levels : (n : ℕ) (outlines : List Outline) (table : List ℕ) → length table ≡ length outlines → length (levels n outlines table) ≡ length outlines
length_levels zero outlines table e = e
length_levels (suc n) outlines table e = length_levels n outlines (one_level outlines table) (length-map outlines (outline_parts table))

module _ (outlines : List Outline) (ranks table : List ℕ) (ranked : IsRanked outlines ranks) (fixed : one_level outlines table ≡ table) where
  -- the parts of the types with numbers up to m
  abbrev Agrees : ℕ → List ℕ → Type 0
  Agrees m now = (i : ℕ) → slice_index ranks i ≤ m → slice_index now i ≡ slice_index table i

  same_counted : (m n : ℕ) (now : List ℕ) (held : List Held) → Agrees m now → ((k : ℕ) → is_held k held ≡ true → slice_index ranks k ≤ m) → counted now n held ≡ counted table n held
  same_counted m n now [] agrees low = refl
  same_counted m n now (h ∷ held) agrees low =
      let here : slice_index now h.entry ≡ slice_index table h.entry = agrees h.entry (low h.entry (or_left (h.entry == h.entry) (is_held h.entry held) (eq-eqb h.entry h.entry refl))) in
      ap (λ p. counted now (within_parts (n + h.times * p)) held) here
      ∙ same_counted m (within_parts (n + h.times * slice_index table h.entry)) now held agrees (λ k more. low k (or_right (h.entry == k) (is_held k held) more))

  same_parts : (m : ℕ) (now : List ℕ) (o : Option Outline) → Agrees m now → ((k : ℕ) → is_held k (held_of o) ≡ true → slice_index ranks k ≤ m) → parts_of now o ≡ parts_of table o
  same_parts m now None agrees low = refl
  same_parts m now (Some o) agrees low = same_counted m o.parts now o.held agrees low

  next_agrees : (m : ℕ) (now : List ℕ) → Agrees m now → Agrees (suc m) (one_level outlines now)
  next_agrees m now agrees i le =
      level_at now outlines i
      ∙ same_parts m now (slice_get outlines i) agrees (λ k holds. let lt : slice_index ranks k < slice_index ranks i = ranked.above i k holds in omega arith)
      ∙ sym (level_at table outlines i) ∙ ap (λ t. slice_index t i) fixed

  levels_agree : (n m : ℕ) (now : List ℕ) → Agrees m now → Agrees (m + n) (levels n outlines now)
  levels_agree zero m now agrees i le = agrees i (omega arith)
  levels_agree (suc n) m now agrees i le = levels_agree n (suc m) (one_level outlines now) (next_agrees m now agrees) i (omega arith)

  as_long : length table ≡ length outlines
  as_long = ap length (sym fixed) ∙ length-map outlines (outline_parts table)

  first_agrees : Agrees 0 (replicate (length outlines) 0)
  first_agrees i le = elim (cases_lt i (length outlines)) [
    | inl lt ↦
        let some : 0 < slice_index ranks i = ranked.first i lt in
        absurd (omega arith)
    | inr past ↦
        let long : length table ≤ i = omega (arith, as_long) in
        index_zeros (length outlines) i ∙ sym (index_past table i long)
  ]

  pub parts_settled : table ≡ parts_table outlines
  unfolding parts_table
  parts_settled =
      let long : length (levels (length outlines) outlines (replicate (length outlines) 0)) ≡ length outlines = length_levels (length outlines) outlines (replicate (length outlines) 0) (length-replicate (length outlines) 0) in
      sym (same_by_index (levels (length outlines) outlines (replicate (length outlines) 0)) table (long ∙ sym as_long)
      (λ i lt.
      let within : i < length outlines = omega (arith, long) in
      let low : slice_index ranks i ≤ 0 + length outlines = omega (arith, ranked.last i within) in
      levels_agree (length outlines) 0 (replicate (length outlines) 0) first_agrees i low))

-- one level more changes nothing
settled : (outlines : List Outline) (ranks parts next : List ℕ) → IsRanked outlines ranks → next ≡ one_level outlines parts → bytes_eq next parts ≡ true → next ≡ parts_table outlines
settled outlines ranks parts next ranked made same =
    let e : next ≡ parts = (bytes_eq-Decides next parts).0 same in
    let fixed : one_level outlines next ≡ next = ap (one_level outlines) e ∙ sym made in
    parts_settled outlines ranks next ranked fixed

pub settled_when : (outlines : List Outline) (ranks parts next : List ℕ) (r : Bool) → IsRanked outlines ranks → next ≡ one_level outlines parts → r ≡ bytes_eq next parts → OnTrue r (next ≡ parts_table outlines)
settled_when outlines ranks parts next true ranked made same = settled outlines ranks parts next ranked made (sym same)
settled_when outlines ranks parts next false ranked made same = tt
