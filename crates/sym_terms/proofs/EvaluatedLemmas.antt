-- Values of a list whose items take their values from those of earlier items.
use Rattle.std.proofs.Common.{◌≡◌, ◌≢◌, ℕ, zero, suc, ◌+◌, ◌<◌, List, [], ◌∷◌, ◌++◌, length, take, drop, ap, sym, ◌∙◌, refl, arith, if◌then◌else◌, add-zero, zero-add, get_or, drop-cons, length-take}
use Rattle.std.proofs.lemmas.Option.{slice_get_within, get_or_from_slice_get}
use Rattle.std.proofs.lemmas.List.{take-append-drop}
use Rattle.std.proofs.lemmas.Bool.{eq-eqb, ne_eqb}
use Rattle.std.specs.Prelude.{slice_get, Some}
use Rattle.sym_terms.specs.Evaluated.{evaluated, with_entry}

module _ {V : Type 0} (values : ℕ → V) (at : ℕ) (v : V) where
  pub with_entry_same : with_entry values at v at ≡ v
  with_entry_same = ap (λ t. if t then v else values at) (eq-eqb at at refl)

  pub with_entry_other : (n : ℕ) → n ≢ at → with_entry values at v n ≡ values n
  with_entry_other n h = ap (λ t. if t then v else values n) (ne_eqb n at h)

module _ {X V : Type 0} (step : (ℕ → V) → X → V) where
  -- a value that is there before stays
  pub evaluated-below : (values : ℕ → V) (at : ℕ) (xs : List X) (n : ℕ) → n < at → evaluated step values at xs n ≡ values n
  unfolding evaluated
  evaluated-below values at [] n h = refl
  evaluated-below values at (x ∷ xs) n h =
      let other : n ≢ at = λ e. omega arith in
      evaluated-below (with_entry values at (step values x)) (at + 1) xs n (omega arith) ∙ with_entry_other values at (step values x) n other

  -- one list after another
  pub evaluated-append : (values : ℕ → V) (at : ℕ) (xs ys : List X) → evaluated step values at (xs ++ ys) ≡ evaluated step (evaluated step values at xs) (at + length xs) ys
  unfolding evaluated
  evaluated-append values at [] ys = ap (λ k. evaluated step values k ys) (sym (add-zero at))
  evaluated-append values at (x ∷ xs) ys =
      let e : at + 1 + length xs ≡ at + suc (length xs) = omega arith in
      evaluated-append (with_entry values at (step values x)) (at + 1) xs ys
      ∙ ap (λ k. evaluated step (evaluated step (with_entry values at (step values x)) (at + 1) xs) k ys) e

  -- values do not change where the list grows
  pub evaluated-append_below : (values : ℕ → V) (xs ys : List X) (n : ℕ) → n < length xs → evaluated step values 0 (xs ++ ys) n ≡ evaluated step values 0 xs n
  evaluated-append_below values xs ys n h =
      ap (λ (f : ℕ → V). f n) (evaluated-append values 0 xs ys)
      ∙ evaluated-below (evaluated step values 0 xs) (0 + length xs) ys n (omega arith)

  -- the value of an item comes from those before it
  pub evaluated-append_at : (values : ℕ → V) (xs : List X) (x : X) (ys : List X) → evaluated step values 0 (xs ++ x ∷ ys) (length xs) ≡ step (evaluated step values 0 xs) x
  unfolding evaluated
  evaluated-append_at values xs x ys =
      let before = evaluated step values 0 xs in
      ap (λ (f : ℕ → V). f (length xs)) (evaluated-append values 0 xs (x ∷ ys))
      ∙ ap (λ k. evaluated step before k (x ∷ ys) (length xs)) (zero-add (length xs))
      ∙ evaluated-below (with_entry before (length xs) (step before x)) (length xs + 1) ys (length xs) (omega arith)
      ∙ with_entry_same before (length xs) (step before x)

-- an item, and the lists before and after it
pub split_at : {X : Type 0} → (xs : List X) (n : ℕ) (x : X) → slice_get xs n ≡ Some x → (length (take n xs) ≡ n) × (xs ≡ take n xs ++ x ∷ drop (suc n) xs)
split_at xs n x h =
    let within : n < length xs = slice_get_within xs n x h in
    let item : get_or xs n x ≡ x = get_or_from_slice_get xs n x x h in
    let rest : drop n xs ≡ x ∷ drop (suc n) xs = drop-cons xs n x within ∙ ap (λ y. y ∷ drop (suc n) xs) item in
    (omega (arith, length-take n xs), sym (take-append-drop n xs) ∙ ap (λ ys. take n xs ++ ys) rest)

pub slice_get-append_left : {X : Type 0} → (xs ys : List X) (n : ℕ) → n < length xs → slice_get (xs ++ ys) n ≡ slice_get xs n
slice_get-append_left [] ys n h = absurd (omega arith)
slice_get-append_left (x ∷ xs) ys zero h = refl
slice_get-append_left (x ∷ xs) ys (suc n) h = slice_get-append_left xs ys n (omega arith)

pub slice_get-push : {X : Type 0} → (xs : List X) (x : X) → slice_get (xs ++ x ∷ []) (length xs) ≡ Some x
slice_get-push [] x = refl
slice_get-push (y ∷ xs) x = slice_get-push xs x
