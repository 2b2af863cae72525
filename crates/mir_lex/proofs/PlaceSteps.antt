-- The line and the column behind one more byte.
use Rattle.std.proofs.Common.{◌≡◌, ℕ, ◌+◌, ◌<◌, ◌==◌, Bool, true, false, not, cond, List, [], ◌∷◌, ◌++◌, length, get_or, take, reverse, refl, ◌∙◌, ap, arith}
use Rattle.std.specs.List.{sum_by, prefix_len}
use Rattle.std.proofs.lemmas.Bool.{eq-eqb, ne_eqb}
use Rattle.std.proofs.lemmas.List.{take_more, reverse-append}
use Rattle.std.proofs.lemmas.List.Sums.{sum_by-append}
use Rattle.mir_lex.specs.Places.{line_behind, column_behind}

abbrev stays : ℕ → Bool
stays b = not (b == 10)

front_of : (b : ℕ) (xs : List ℕ) (c : Bool) → (b == 10) ≡ c → prefix_len stays (b ∷ xs) + 1 ≡ cond c 1 (prefix_len stays xs + 1 + 1)
front_of b xs true h = rw h refl
front_of b xs false h = rw h (omega arith)

column_end : (xs : List ℕ) (b : ℕ) (c : Bool) → (b == 10) ≡ c → column_behind (xs ++ b ∷ []) ≡ cond c 1 (column_behind xs + 1)
column_end xs b c h = ap (λ r. prefix_len stays r + 1) (reverse-append xs (b ∷ [])) ∙ front_of b (reverse xs) c h

pub column_new : (xs : List ℕ) (i : ℕ) → i < length xs → get_or xs i 0 ≡ 10 → column_behind (take (i + 1) xs) ≡ 1
column_new xs i h e = ap column_behind (take_more xs i 0 h) ∙ column_end (take i xs) (get_or xs i 0) true (eq-eqb (get_or xs i 0) 10 e)

pub column_on : (xs : List ℕ) (i : ℕ) → i < length xs → (get_or xs i 0 ≡ 10 → ⊥) → column_behind (take (i + 1) xs) ≡ column_behind (take i xs) + 1
column_on xs i h e = ap column_behind (take_more xs i 0 h) ∙ column_end (take i xs) (get_or xs i 0) false (ne_eqb (get_or xs i 0) 10 e)

abbrev feeds : ℕ → ℕ
feeds b = cond (b == 10) 1 0

line_end : (xs : List ℕ) (b : ℕ) (c : Bool) → (b == 10) ≡ c → line_behind (xs ++ b ∷ []) ≡ line_behind xs + cond c 1 0
line_end xs b true h = let e : sum_by feeds (b ∷ []) ≡ 1 = rw h refl in omega (arith, sum_by-append feeds xs (b ∷ []), e)
line_end xs b false h = let e : sum_by feeds (b ∷ []) ≡ 0 = rw h refl in omega (arith, sum_by-append feeds xs (b ∷ []), e)

pub line_new : (xs : List ℕ) (i : ℕ) → i < length xs → get_or xs i 0 ≡ 10 → line_behind (take (i + 1) xs) ≡ line_behind (take i xs) + 1
line_new xs i h e = ap line_behind (take_more xs i 0 h) ∙ line_end (take i xs) (get_or xs i 0) true (eq-eqb (get_or xs i 0) 10 e)

pub line_on : (xs : List ℕ) (i : ℕ) → i < length xs → (get_or xs i 0 ≡ 10 → ⊥) → line_behind (take (i + 1) xs) ≡ line_behind (take i xs)
line_on xs i h e = let q = ap line_behind (take_more xs i 0 h) ∙ line_end (take i xs) (get_or xs i 0) false (ne_eqb (get_or xs i 0) 10 e) in omega (arith, q)
