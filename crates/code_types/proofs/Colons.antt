-- The last `::` of a path, sought from its end.
use Rattle.std.proofs.Common.{◌≡◌, ℕ, zero, suc, ◌+◌, ◌-◌, ◌<◌, ◌≤◌, Bool, true, false, ◌&&◌, ◌==◌, cond, List, [], ◌∷◌, Some, None, drop, length, refl, ap, sym, ◌∙◌, arith}
use Rattle.std.specs.Prelude.{slice_index}
use Rattle.std.proofs.Math.Seq.{drop-cons}
use Rattle.type_rules.specs.Aggregates.{colons_from, has_colons, last_colons}

pub last_cons : (c : ℕ) (rest : List ℕ) → last_colons (c ∷ rest) ≡ colons_from c rest (last_colons rest)
unfolding last_colons
last_cons c rest = refl

pub last_none : last_colons [] ≡ None
unfolding last_colons
last_none = refl

-- what is found behind a place is the last of all
found_behind : (path : List ℕ) (q k : ℕ) → last_colons (drop q path) ≡ Some k → last_colons path ≡ Some (k + q)
found_behind [] zero k h = absurd (let e : None ≡ Some k = sym last_none ∙ h in cc)
found_behind [] (suc q) k h = absurd (let e : None ≡ Some k = sym last_none ∙ h in cc)
found_behind (c ∷ rest) zero k h = let e : k ≡ k + 0 = omega arith in h ∙ ap (λ n. Some n) e
found_behind (c ∷ rest) (suc q) k h =
    let e : k + q + 1 ≡ k + suc q = omega arith in
    last_cons c rest ∙ ap (colons_from c rest) (found_behind rest q k h) ∙ ap (λ n. Some n) e

-- two bytes and what is behind them, where no `::` begins at the second or behind it
two_bytes : (path : List ℕ) (n : ℕ) (a b : ℕ) → suc n < length path → a ≡ slice_index path n → b ≡ slice_index path (suc n) → last_colons (drop (suc n) path) ≡ None
    → last_colons (drop n path) ≡ cond (a == 58 && b == 58) (Some 0) None
two_bytes path n a b lt is second none =
    ap last_colons (drop-cons path n 0 (omega arith)) ∙ last_cons (slice_index path n) (drop (suc n) path) ∙ ap (colons_from (slice_index path n) (drop (suc n) path)) none
    ∙ ap (λ rest. cond (has_colons (slice_index path n) rest) (Some 0) None) (drop-cons path (suc n) 0 lt)
    ∙ (λ i. cond (sym is i == 58 && sym second i == 58) (Some 0) None)

-- at the end no `::` begins
pub colons_start : (path : List ℕ) (n : ℕ) → n ≡ length path → last_colons (drop (n - 1) path) ≡ None
colons_start [] n e = by (n - 1)
  where
    by : (k : ℕ) → last_colons (drop k []) ≡ None
    by zero = last_none
    by (suc k) = last_none
colons_start (c ∷ []) n e = let none : n - 1 ≡ 0 = omega arith in ap (λ k. last_colons (drop k (c ∷ []))) none ∙ last_cons c [] ∙ ap (colons_from c []) last_none
colons_start (c ∷ (b ∷ rest)) n e =
    let next : n - 1 ≡ suc (length rest) = omega arith in
    let inner : length rest ≡ suc (length rest) - 1 = omega arith in
    ap (λ k. last_colons (drop k (c ∷ (b ∷ rest)))) next ∙ ap (λ k. last_colons (drop k (b ∷ rest))) inner ∙ colons_start (b ∷ rest) (suc (length rest)) refl

pub colons_none : (path : List ℕ) (old new : ℕ) (a b : ℕ) (test : Bool) → 1 < old → new ≡ old - 1 → old ≤ length path → a ≡ slice_index path (new - 1) → b ≡ slice_index path new
    → test ≡ (a == 58 && b == 58) → test ≡ false → last_colons (drop (old - 1) path) ≡ None → last_colons (drop (new - 1) path) ≡ None
colons_none path old new a b test lt e le first second tells fails none =
    let at : suc (new - 1) ≡ new = omega arith in
    let before : old - 1 ≡ suc (new - 1) = omega arith in
    two_bytes path (new - 1) a b (omega arith) first (second ∙ ap (slice_index path) (sym at)) (ap (λ k. last_colons (drop k path)) (sym before) ∙ none)
    ∙ ap (λ r. cond r (Some 0) None) (sym tells ∙ fails)

pub colons_found : (path : List ℕ) (old new : ℕ) (a b : ℕ) (test : Bool) → 1 < old → new ≡ old - 1 → old ≤ length path → a ≡ slice_index path (new - 1) → b ≡ slice_index path new
    → test ≡ (a == 58 && b == 58) → test ≡ true → last_colons (drop (old - 1) path) ≡ None → Some (new - 1) ≡ last_colons path
colons_found path old new a b test lt e le first second tells passes none =
    let at : suc (new - 1) ≡ new = omega arith in
    let before : old - 1 ≡ suc (new - 1) = omega arith in
    sym (found_behind path (new - 1) 0
    (two_bytes path (new - 1) a b (omega arith) first (second ∙ ap (slice_index path) (sym at)) (ap (λ k. last_colons (drop k path)) (sym before) ∙ none)
    ∙ ap (λ r. cond r (Some 0) None) (sym tells ∙ passes))
    ∙ ap (λ n. Some n) (let zero_more : 0 + (new - 1) ≡ new - 1 = omega arith in zero_more))

pub colons_end : (path : List ℕ) (end : ℕ) → end ≤ 1 → last_colons (drop (end - 1) path) ≡ None → None ≡ last_colons path
colons_end path end le none = let first : end - 1 ≡ 0 = omega arith in sym (ap (λ k. last_colons (drop k path)) (sym first) ∙ none)
