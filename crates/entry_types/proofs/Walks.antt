-- A walk along a list whose items may be refused: what is left is refused as the whole is.
use Rattle.std.proofs.Common.{◌≡◌, ℕ, suc, ◌+◌, ◌<◌, ◌≤◌, List, [], ◌∷◌, Ok, Err, drop, length, ap, sym, ◌∙◌, arith}
use Rattle.std.specs.Prelude.{slice_index_or}
use Rattle.std.proofs.Math.Seq.{drop-cons}
use Rattle.std.proofs.lemmas.List.{drop_all}
use Rattle.type_rules.specs.declared.refusal.Refusal.{Refusal}
use Rattle.type_rules.specs.Code.{Refused, ◌>>>◌}

-- the items of a list from this place on, from the first to the last
pub record IsWalk {X : Type 0} (whole : ℕ → List X → Refused) (one : ℕ → X → Refused) : Type 0 where
  pub none : (n : ℕ) → whole n [] ≡ Ok tt
  pub more : (n : ℕ) (x : X) (xs : List X) → whole n (x ∷ xs) ≡ (one n x >>> whole (n + 1) xs)

module _ {X : Type 0} {whole : ℕ → List X → Refused} {one : ℕ → X → Refused} (walk : IsWalk whole one) where
  behind : (xs : List X) (n : ℕ) (x : X) → n < length xs → x ≡ slice_index_or xs n x → whole n (drop n xs) ≡ (one n x >>> whole (n + 1) (drop (n + 1) xs))
  behind xs n x lt is =
      let next : suc n ≡ n + 1 = omega arith in
      ap (whole n) (drop-cons xs n x lt) ∙ walk.more n _ _ ∙ (λ i. one n (sym is i) >>> whole (n + 1) (drop (next i) xs))

  -- an item that fits leaves the others
  pub walked_on : (xs : List X) (n : ℕ) (x : X) (all : Refused) → n < length xs → x ≡ slice_index_or xs n x → whole n (drop n xs) ≡ all → Ok tt ≡ one n x
      → whole (n + 1) (drop (n + 1) xs) ≡ all
  walked_on xs n x all lt is h fits = sym (sym h ∙ behind xs n x lt is ∙ ap (λ r. r >>> whole (n + 1) (drop (n + 1) xs)) (sym fits))

  -- one that is refused decides
  pub walked_off : (xs : List X) (n : ℕ) (x : X) (why : Refusal) (all : Refused) → n < length xs → x ≡ slice_index_or xs n x → whole n (drop n xs) ≡ all → Err why ≡ one n x
      → Err why ≡ all
  walked_off xs n x why all lt is h refused = sym (sym h ∙ behind xs n x lt is ∙ ap (λ r. r >>> whole (n + 1) (drop (n + 1) xs)) (sym refused))

  -- where all items fit, the list does
  pub walked_through : (xs : List X) (n : ℕ) (all : Refused) → length xs ≤ n → whole n (drop n xs) ≡ all → Ok tt ≡ all
  walked_through xs n all le h = sym (walk.none n) ∙ ap (whole n) (sym (drop_all n xs le)) ∙ h
