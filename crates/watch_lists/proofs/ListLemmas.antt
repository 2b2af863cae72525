-- The lists as the vectors that keep them.
use Rattle.std.proofs.Common.{◌≡◌, ℕ, zero, suc, ◌<◌, List, [], ◌∷◌, ◌++◌, length, map, get_or, set, Vec, Global, inl, inr, refl, sym, ap, ◌∙◌, arith}
use Rattle.std.proofs.lemmas.Bool.{cases_lt}
use Rattle.std.proofs.lemmas.List.{map-set, get_or-map, length-map, get_or_append_left, get_or_push, get_or_past, length_push}
use Rattle.watch_lists.specs.declared.lists.Watch.{Watch}
use Rattle.watch_lists.specs.Lists.{list_at}

abbrev pub items : List (Vec Watch Global) → List (List Watch)
items lists = map (λ v. v.items) lists

pub items-set : (lists : List (Vec Watch Global)) (now : List (List Watch)) (number : ℕ) (new : Vec Watch Global) → items lists ≡ now → items (set lists number new) ≡ set now number new.items
items-set lists now number new e = map-set (λ (v : Vec Watch Global). v.items) lists number new ∙ ap (λ (s : List (List Watch)). set s number new.items) e

pub items-at : (lists : List (Vec Watch Global)) (now : List (List Watch)) (number : ℕ) (old : Vec Watch Global) → items lists ≡ now → number < length now → old ≡ get_or lists number old → old.items ≡ list_at now number
items-at lists now number old e h is =
    let long : length lists ≡ length now = rw length-map at (ap length e) in
    ap (λ (v : Vec Watch Global). v.items) is ∙ sym (get_or-map (λ (v : Vec Watch Global). v.items) lists number old [] (omega arith)) ∙ ap (λ (s : List (List Watch)). list_at s number) e

pub empty-push : (lists : List (List Watch)) → ((number : ℕ) → list_at lists number ≡ []) → (number : ℕ) → list_at (lists ++ [] ∷ []) number ≡ []
empty-push lists h number = elim (cases_lt number (length lists)) [
  | inl k ↦ get_or_append_left lists ([] ∷ []) [] number k ∙ h number
  | inr k ↦ elim (cases_lt (length lists) number) [
    | inl l ↦ get_or_past (lists ++ [] ∷ []) number [] (omega (arith, length_push lists []))
    | inr l ↦ let e : length lists ≡ number = omega arith in get_or_push lists [] [] number e
  ]
]

pub read_any : (list : List Watch) (at : ℕ) (d e : Watch) → at < length list → get_or list at d ≡ get_or list at e
read_any [] at d e h = absurd (omega arith)
read_any (x ∷ list) zero d e h = refl
read_any (x ∷ list) (suc at) d e h = read_any list at d e (omega arith)
