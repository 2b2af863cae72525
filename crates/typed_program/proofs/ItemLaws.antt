-- The lists as the vectors that keep them.
use Rattle.std.proofs.Common.{◌≡◌, ℕ, ◌<◌, List, [], ◌∷◌, ◌++◌, length, map, get_or, set, Vec, Global, inl, inr, sym, ap, ◌∙◌, arith}
use Rattle.std.proofs.lemmas.Bool.{cases_lt}
use Rattle.std.proofs.lemmas.List.{map-set, get_or-map, length-map, get_or_append_left, get_or_push, get_or_past, length_push}
use Rattle.typed_program.specs.Filed.{file_at}

abbrev pub lists : List (Vec ℕ Global) → List (List ℕ)
lists files = map (λ v. v.items) files

pub lists_set : (files : List (Vec ℕ Global)) (now : List (List ℕ)) (at : ℕ) (new : Vec ℕ Global) → lists files ≡ now → lists (set files at new) ≡ set now at new.items
lists_set files now at new e = map-set (λ (v : Vec ℕ Global). v.items) files at new ∙ ap (λ (s : List (List ℕ)). set s at new.items) e

pub lists_at : (files : List (Vec ℕ Global)) (now : List (List ℕ)) (at : ℕ) (old : Vec ℕ Global) → lists files ≡ now → at < length now → old ≡ get_or files at old → old.items ≡ file_at now at
lists_at files now at old e h is =
    let long : length files ≡ length now = rw length-map at (ap length e) in
    ap (λ (v : Vec ℕ Global). v.items) is ∙ sym (get_or-map (λ (v : Vec ℕ Global). v.items) files at old [] (omega arith)) ∙ ap (λ (s : List (List ℕ)). file_at s at) e

pub empty_push : (files : List (List ℕ)) → ((number : ℕ) → file_at files number ≡ []) → (number : ℕ) → file_at (files ++ [] ∷ []) number ≡ []
empty_push files h number = elim (cases_lt number (length files)) [
  | inl k ↦ get_or_append_left files ([] ∷ []) [] number k ∙ h number
  | inr k ↦ elim (cases_lt (length files) number) [
    | inl l ↦ get_or_past (files ++ [] ∷ []) number [] (omega (arith, length_push files []))
    | inr l ↦ let e : length files ≡ number = omega arith in get_or_push files [] [] number e
  ]
]
