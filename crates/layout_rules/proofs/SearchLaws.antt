-- A search that marks what it reaches finds the types that hold themselves.
use Rattle.std.proofs.Common.{◌≡◌, ℕ, zero, suc, ◌+◌, ◌<◌, ◌≤◌, Bool, true, false, true≢false, ◌||◌, ◌==◌, List, [], ◌∷◌, Some, None, drop, length, get_or, set, replicate, ◌⊎◌, inl, inr, refl, ap, sym, subst, ◌∙◌, arith, Decides}
use Rattle.std.proofs.lemmas.Bool.{cases_eq, cases_lt, eqb-true, or_cases}
use Rattle.std.proofs.lemmas.Option.{slice_get_past}
use Rattle.std.proofs.lemmas.List.{drop_all, get_or-replicate, get_or-set_other, get_or-set_same, length-replicate, length-set}
use Rattle.std.proofs.Math.Seq.{drop-cons}
use Rattle.type_layouts.specs.declared.extent.Held.{Held}
use Rattle.type_layouts.specs.declared.outline.Outline.{Outline}
use Rattle.type_layouts.specs.Recursion.{Holds, IsRecursive, Leads, Reaches, held_at, held_of, is_held}
use Rattle.layout_rules.specs.Rules.{NoneBefore}
use Rattle.type_layouts.specs.Marks.{IsIn, IsMarked}
use Rattle.type_layouts.proofs.HeldLaws.{held_there, set_fewer}
use Rattle.layout_rules.specs.Search.{Entered, IsClosed, IsFirstPlace, Spread, Visited, Walked}

-- ---- lists of marks

set_kept : (b : List Bool) (x k : ℕ) → x < length b → IsMarked b k → IsMarked (set b x true) k
set_kept b x k lt m = elim (cases_eq k x) [
  | inl e ↦ ap (λ n. get_or (set b x true) n false) e ∙ get_or-set_same b x true false lt
  | inr ne ↦ get_or-set_other b x k true false ne ∙ m
]

set_marked : (b : List Bool) (x k : ℕ) → IsMarked (set b x true) k → (k ≡ x) ⊎ IsMarked b k
set_marked b x k m = elim (cases_eq k x) [
  | inl e ↦ inl e
  | inr ne ↦ inr (sym (get_or-set_other b x k true false ne) ∙ m)
]

-- ---- what is held

same_at : (held : List Held) (i : ℕ) (a b : Held) → i < length held → get_or held i a ≡ get_or held i b
same_at [] i a b lt = absurd (omega arith)
same_at (h ∷ held) zero a b lt = refl
same_at (h ∷ held) (suc i) a b lt = same_at held i a b (omega arith)

-- what is held from a place on is there, or behind
pub held_from : (held : List Held) (i : ℕ) (h : Held) (k : ℕ) → i < length held → h ≡ get_or held i h → is_held k (drop i held) ≡ true → (h.entry ≡ k) ⊎ (is_held k (drop (i + 1) held) ≡ true)
held_from held i h k lt e m =
    let at : drop i held ≡ get_or held i h ∷ drop (suc i) held = drop-cons held i h lt in
    let more : i + 1 ≡ suc i = omega arith in
    elim (or_cases (h.entry == k) (is_held k (drop (suc i) held)) ((λ j. (e j).entry == k || is_held k (drop (suc i) held)) ∙ sym (ap (is_held k) at) ∙ m)) [
      | inl is ↦ inl (eqb-true h.entry k is)
      | inr is ↦ inr (ap (λ n. is_held k (drop n held)) more ∙ is)
    ]

module _ (outlines : List Outline) where
  reaches_by : (j x k : ℕ) → Holds outlines j x → Reaches outlines x k → Reaches outlines j k
  reaches_by j x k h r = record { path = x ∷ r.path; leads = (h, r.leads) }

  reaches_at_once : (j k : ℕ) → Holds outlines j k → Reaches outlines j k
  reaches_at_once j k h = record { path = []; leads = h }

  spread_none : (j : ℕ) (a : List Bool) → Spread outlines j a a
  spread_none j a = record {
    kept = λ k m. m;
    reached = λ k m. inl m;
    closed = λ k m. inl m;
    fewer = omega arith;
    as_long = refl;
  }

  pub entered_none : (x : ℕ) (a : List Bool) → IsIn a x → Entered outlines x a a
  entered_none x a there = record {
    kept = λ k m. m;
    reached = λ k m. inl m;
    closed = λ k m. inl m;
    there = there;
    fewer = omega arith;
    as_long = refl;
  }

  pub entered_on : (x : ℕ) (a d : List Bool) → x < length a → get_or a x false ≡ false → Visited outlines x (set a x true) d → Entered outlines x a d
  entered_on x a d lt free v = record {
    kept = λ k m. v.spread.kept k (set_kept a x k lt m);
    reached = λ k m. elim (v.spread.reached k m) [
      | inl old ↦ elim (set_marked a x k old) [ inl e ↦ inr (inl e) | inr before ↦ inl before ]
      | inr r ↦ inr (inr r)
    ];
    closed = λ k m. elim (v.spread.closed k m) [
      | inl old ↦ elim (set_marked a x k old) [ inl e ↦ inr (subst (λ n. IsClosed outlines d n) (sym e) v.own) | inr before ↦ inl before ]
      | inr closed ↦ inr closed
    ];
    there = λ within. v.spread.kept x (get_or-set_same a x true false lt);
    fewer = omega (arith, v.spread.fewer, set_fewer a x lt free);
    as_long = v.spread.as_long ∙ length-set a x true;
  }

  module _ (j : ℕ) (a b d : List Bool) (x : ℕ) (spread : Spread outlines j a b) (e : Entered outlines x b d) where
    in_on : (k : ℕ) → IsIn b k → IsIn d k
    in_on k m = λ within. e.kept k (m (subst (λ n. k < n) e.as_long within))

    spread_on : Holds outlines j x → Spread outlines j a d
    spread_on holds = record {
      kept = λ k m. e.kept k (spread.kept k m);
      reached = λ k m. elim (e.reached k m) [
        | inl before ↦ spread.reached k before
        | inr more ↦ inr (elim more [
          | inl is ↦ subst (λ n. Reaches outlines j n) (sym is) (reaches_at_once j x holds)
          | inr r ↦ reaches_by j x k holds r
        ])
      ];
      closed = λ k m. elim (e.closed k m) [
        | inl before ↦ elim (spread.closed k before) [
          | inl first ↦ inl first
          | inr closed ↦ inr (λ n held. in_on n (closed n held))
        ]
        | inr closed ↦ inr closed
      ];
      fewer = omega (arith, e.fewer, spread.fewer);
      as_long = e.as_long ∙ spread.as_long;
    }

  pub visit_first : (j : ℕ) (a : List Bool) (held : List Held) → held ≡ held_at outlines j → Walked outlines j a a held 0
  visit_first j a held listed = record {
    spread = spread_none j a;
    begun = λ k holds. inr (ap (is_held k) listed ∙ holds);
    listed = listed;
  }

  pub visit_step : (j : ℕ) (a b d : List Bool) (held : List Held) (i : ℕ) (h : Held) → i < length held → h ≡ get_or held i h
      → Walked outlines j a b held i → Entered outlines h.entry b d → Walked outlines j a d held (i + 1)
  visit_step j a b d held i h lt is w e = record {
    spread = spread_on j a b d h.entry w.spread e (ap (is_held h.entry) (sym w.listed) ∙ held_there held i h lt is);
    begun = λ k holds. elim (w.begun k holds) [
      | inl m ↦ inl (in_on j a b d h.entry w.spread e k m)
      | inr m ↦ elim (held_from held i h k lt is m) [
        | inl at ↦ inl (subst (λ n. IsIn d n) at e.there)
        | inr more ↦ inr more
      ]
    ];
    listed = w.listed;
  }

  pub visit_at : (j : ℕ) (a b d : List Bool) (held : List Held) (i : ℕ) (h : Held) → i < length held
      → Walked outlines j a b held i → Entered outlines (get_or held i h).entry b d → Walked outlines j a d held (i + 1)
  visit_at j a b d held i h lt w e = visit_step j a b d held i (get_or held i h) lt (same_at held i h (get_or held i h) lt) w e

  pub visit_done : (j : ℕ) (a b : List Bool) (held : List Held) (i : ℕ) → length held ≤ i → Walked outlines j a b held i → Visited outlines j a b
  visit_done j a b held i le w = record {
    spread = w.spread;
    own = λ k holds. elim (w.begun k holds) [
      | inl m ↦ m
      | inr m ↦ absurd (true≢false (sym m ∙ ap (is_held k) (drop_all i held le)))
    ];
  }

  none_past : (i k : ℕ) → length outlines ≤ i → Holds outlines i k → ⊥
  none_past i k le holds = true≢false (sym holds ∙ ap (λ o. is_held k (held_of o)) (slice_get_past outlines i le))

  first_held : (i k : ℕ) (path : List ℕ) → Leads outlines i path k → (x : ℕ) × Holds outlines i x
  first_held i k [] h = (k, h)
  first_held i k (x ∷ more) h = (x, h.0)

  pub none_recursive_past : (i : ℕ) → length outlines ≤ i → IsRecursive outlines i → ⊥
  none_recursive_past i le r = let first = first_held i i r.path r.leads in none_past i first.0 le first.1

  module _ (j : ℕ) (new : List Bool) (long : length new ≡ length outlines) (v : Visited outlines j (replicate (length outlines) false) new) where
    unmarked_first : (k : ℕ) → IsMarked (replicate (length outlines) false) k → ⊥
    unmarked_first k m = elim (cases_lt k (length outlines)) [
      | inl lt ↦ true≢false (sym m ∙ get_or-replicate (length outlines) k false false lt)
      | inr le ↦ true≢false (sym m ∙ past (length outlines) k le)
    ]
      where
        past : (n i : ℕ) → n ≤ i → get_or (replicate n false) i false ≡ false
        past zero i le = refl
        past (suc n) zero le = refl
        past (suc n) (suc i) le = past n i (omega arith)

    closed_at : (x : ℕ) → IsIn new x → IsClosed outlines new x
    closed_at x there = elim (cases_lt x (length new)) [
      | inl lt ↦ elim (v.spread.closed x (there lt)) [ inl old ↦ absurd (unmarked_first x old) | inr closed ↦ closed ]
      | inr le ↦ λ k holds. absurd (none_past x k (subst (λ n. n ≤ x) long le) holds)
    ]

    follow : (x k : ℕ) (path : List ℕ) → IsClosed outlines new x → Leads outlines x path k → IsIn new k
    follow x k [] closed h = closed k h
    follow x k (y ∷ more) closed h = follow y k more (closed_at y (closed y h.0)) h.1

    pub found_recursive : get_or new j false ≡ true → IsRecursive outlines j
    found_recursive m = elim (v.spread.reached j m) [ inl old ↦ absurd (unmarked_first j old) | inr r ↦ r ]

    pub finds_recursive : j < length outlines → IsRecursive outlines j → get_or new j false ≡ true
    finds_recursive lt r = follow j j r.path v.own r.leads (subst (λ n. j < n) (sym long) lt)

  pub search_tells : (j : ℕ) (old new : List Bool) → old ≡ replicate (length outlines) false → j < length outlines → Visited outlines j old new
      → Decides (get_or new j false) (IsRecursive outlines j)
  search_tells j old new none lt v =
      let w : Visited outlines j (replicate (length outlines) false) new = subst (λ marks. Visited outlines j marks new) none v in
      let long : length new ≡ length outlines = w.spread.as_long ∙ length-replicate (length outlines) false in
      (found_recursive j new long w, finds_recursive j new long w lt)

  -- none holds itself before a place, and then not at it
  pub none_first : NoneBefore outlines 0
  none_first = record { none = λ i lt recursive. absurd (omega arith) }

  pub none_more : (n : ℕ) (r : Bool) → NoneBefore outlines n → Decides r (IsRecursive outlines n) → r ≡ false → NoneBefore outlines (n + 1)
  none_more n r before tells fails = record {
    none = λ i lt recursive. elim (cases_lt i n) [
      | inl less ↦ before.none i less recursive
      | inr le ↦
          let e : i ≡ n = omega arith in
          true≢false (sym (tells.1 (subst (λ k. IsRecursive outlines k) e recursive)) ∙ fails)
    ];
  }

  pub first_found : (n : ℕ) (r : Bool) → n < length outlines → NoneBefore outlines n → Decides r (IsRecursive outlines n) → r ≡ true → IsFirstPlace outlines (Some n)
  first_found n r lt before tells passes = (lt, tells.0 passes, before)

  pub first_none : (n : ℕ) → length outlines ≤ n → NoneBefore outlines n → IsFirstPlace outlines None
  first_none n le before = λ i recursive. elim (cases_lt i n) [
    | inl less ↦ before.none i less recursive
    | inr past ↦ none_recursive_past i (omega arith) recursive
  ]
