-- What is held, and lists by their places.
use Rattle.std.proofs.Common.{◌≡◌, ℕ, zero, suc, ◌+◌, ◌<◌, ◌≤◌, Bool, true, false, not, ◌==◌, cond, List, [], ◌∷◌, length, get_or, set, replicate, slice_index, refl, ap, sym, arith, eq-eqb}
use Rattle.std.proofs.lemmas.Bool.{or_left, or_right}
use Rattle.std.proofs.lemmas.List.Sums.{sum_by-set}
use Rattle.type_layouts.specs.declared.extent.Held.{Held}
use Rattle.type_layouts.specs.Marks.{unmarked}
use Rattle.type_layouts.specs.Recursion.{is_held}

-- what a mark adds to the count of those without one
abbrev weight : Bool → ℕ
weight v = cond {A = ℕ} (not v) 1 0

one_less : (new old own : ℕ) → new + own ≡ old + 0 → own ≡ 1 → new + 1 ≡ old
one_less new old own p q = omega arith

-- one mark more
pub set_fewer : (b : List Bool) (x : ℕ) → x < length b → get_or b x false ≡ false → unmarked (set b x true) + 1 ≡ unmarked b
set_fewer b x lt e = one_less (unmarked (set b x true)) (unmarked b) (weight (get_or b x false)) (sum_by-set weight b x true false lt) (ap weight e)

pub held_there : (held : List Held) (i : ℕ) (h : Held) → i < length held → h ≡ get_or held i h → is_held h.entry held ≡ true
held_there [] i h lt e = absurd (omega arith)
held_there (g ∷ held) zero h lt e = or_left (g.entry == h.entry) (is_held h.entry held) (eq-eqb g.entry h.entry (ap (λ v. v.entry) (sym e)))
held_there (g ∷ held) (suc i) h lt e = or_right (g.entry == h.entry) (is_held h.entry held) (held_there held i h (omega arith) e)

-- lists by their numbers

pub index_past : (xs : List ℕ) (i : ℕ) → length xs ≤ i → slice_index xs i ≡ 0
index_past [] i le = refl
index_past (x ∷ xs) zero le = absurd (omega arith)
index_past (x ∷ xs) (suc i) le = index_past xs i (omega arith)

pub index_zeros : (n i : ℕ) → slice_index (replicate n 0) i ≡ 0
index_zeros zero i = refl
index_zeros (suc n) zero = refl
index_zeros (suc n) (suc i) = index_zeros n i

pub same_by_index : (xs ys : List ℕ) → length xs ≡ length ys → ((i : ℕ) → i < length xs → slice_index xs i ≡ slice_index ys i) → xs ≡ ys
same_by_index [] [] e at = refl
same_by_index [] (y ∷ ys) e at = absurd (omega arith)
same_by_index (x ∷ xs) [] e at = absurd (omega arith)
same_by_index (x ∷ xs) (y ∷ ys) e at = λ i. at 0 (omega arith) i ∷ same_by_index xs ys (omega arith) (λ k lt. at (suc k) (omega arith)) i
