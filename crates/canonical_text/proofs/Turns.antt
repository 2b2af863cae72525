-- A turn of the loop that writes a name.
use Rattle.std.proofs.Common.{◌≡◌, ℕ, ◌+◌, ◌-◌, ◌≤◌, ◌<◌, Bool, true, false, ◌&&◌, ◌==◌, not, if◌then◌else◌, List, [], ◌∷◌, ◌++◌, length, take, drop, get_or, sym, ◌∙◌, ap, arith, append_assoc}
use Rattle.std.proofs.lemmas.List.{drop_more, get_or-drop, length-drop, take_more}
use Rattle.mir_lex.specs.Bytes.{is_word_byte}
use Rattle.mir_lex.specs.Tokens.{opens_impl}
use Rattle.canonical_text.specs.declared.positions.Position.{Position}
use Rattle.canonical_text.specs.Names.{colons_before, open_behind, position_behind, rest_written, word_behind}

abbrev pub start_behind : ℕ → ℕ → ℕ → ℕ
start_behind start at byte = if is_word_byte byte then start else at + 1

longer : (xs : List ℕ) (s k b d : ℕ) → k < length xs → s ≤ k → b ≡ get_or xs k d → take (k - s) (drop s xs) ++ b ∷ [] ≡ take (k + 1 - s) (drop s xs)
longer xs s k b d l m e =
    let n : k - s < length (drop s xs) = omega (arith, length-drop s xs, l, m) in
    let i : s + (k - s) ≡ k = omega (arith, m) in
    let j : k + 1 - s ≡ k - s + 1 = omega (arith, m) in
    ap (λ x. take (k - s) (drop s xs) ++ x ∷ []) (e ∙ ap (λ z. get_or xs z d) (sym i) ∙ sym (get_or-drop s xs (k - s) d)) ∙ sym (take_more (drop s xs) (k - s) d n) ∙ ap (λ z. take z (drop s xs)) (sym j)

none : (xs : List ℕ) (k : ℕ) → [] ≡ take (k + 1 - (k + 1)) (drop (k + 1) xs)
none xs k = let i : k + 1 - (k + 1) ≡ 0 = omega arith in ap (λ z. take z (drop (k + 1) xs)) (sym i)

word_by : (xs : List ℕ) (s k b d : ℕ) → k < length xs → s ≤ k → b ≡ get_or xs k d → (c : Bool)
    → (if c then take (k - s) (drop s xs) ++ b ∷ [] else []) ≡ take (k + 1 - (if c then s else k + 1)) (drop (if c then s else k + 1) xs)
word_by xs s k b d l m e true = longer xs s k b d l m e
word_by xs s k b d l m e false = none xs k

rest_more : (p : Position) (w : List ℕ) (o : ℕ) (xs : List ℕ) (k b d : ℕ) → k < length xs → b ≡ get_or xs k d
    → rest_written p w o (drop k xs) ≡ colons_before p w o b (drop (k + 1) xs) ++ (b ∷ rest_written (position_behind p w b) (word_behind w b) (open_behind o b (drop (k + 1) xs)) (drop (k + 1) xs))
rest_more p w o xs k b d l e = ap (rest_written p w o) (drop_more xs k d l ∙ ap (λ x. x ∷ drop (k + 1) xs) (sym e))

four : (a b c e : List ℕ) → ((a ++ b) ++ c) ++ e ≡ a ++ (b ++ (c ++ e))
four a b c e = append_assoc (a ++ b) c e ∙ append_assoc a b (c ++ e)

-- what is written and what is left are the whole, as before
pub written_turn : (xs out mid after_ all : List ℕ) (here there : Position) (s k o b d t p n : ℕ) → k < length xs → s ≤ k → b ≡ get_or xs k d → out ++ rest_written here (take (k - s) (drop s xs)) o (drop k xs) ≡ all
    → mid ≡ out ++ colons_before here (take (k - s) (drop s xs)) o b (drop (k + 1) xs) → after_ ≡ mid ++ b ∷ [] → there ≡ position_behind here (take (k - s) (drop s xs)) b → p ≡ open_behind o b (drop (k + 1) xs) → t ≡ start_behind s k b → n ≡ k + 1
    → after_ ++ rest_written there (take (n - t) (drop t xs)) p (drop n xs) ≡ all
written_turn xs out mid after_ all here there s k o b d t p n l m e h i j a f g q =
    ap (λ z. after_ ++ rest_written there (take (z - t) (drop t xs)) p (drop z xs)) q
    ∙ ap (λ z. after_ ++ rest_written z (take (k + 1 - t) (drop t xs)) p (drop (k + 1) xs)) a
    ∙ ap (λ z. after_ ++ rest_written (position_behind here (take (k - s) (drop s xs)) b) (take (k + 1 - z) (drop z xs)) p (drop (k + 1) xs)) g
    ∙ ap (λ z. after_ ++ rest_written (position_behind here (take (k - s) (drop s xs)) b) z p (drop (k + 1) xs)) (sym (word_by xs s k b d l m e (is_word_byte b)))
    ∙ ap (λ z. after_ ++ rest_written (position_behind here (take (k - s) (drop s xs)) b) (word_behind (take (k - s) (drop s xs)) b) z (drop (k + 1) xs)) f
    ∙ ap (λ z. z ++ rest_written (position_behind here (take (k - s) (drop s xs)) b) (word_behind (take (k - s) (drop s xs)) b) (open_behind o b (drop (k + 1) xs)) (drop (k + 1) xs)) (j ∙ ap (λ z. z ++ b ∷ []) i)
    ∙ four out (colons_before here (take (k - s) (drop s xs)) o b (drop (k + 1) xs)) (b ∷ []) (rest_written (position_behind here (take (k - s) (drop s xs)) b) (word_behind (take (k - s) (drop s xs)) b) (open_behind o b (drop (k + 1) xs)) (drop (k + 1) xs))
    ∙ ap (λ z. out ++ z) (sym (rest_more here (take (k - s) (drop s xs)) o xs k b d l e)) ∙ h

open_by : (o : ℕ) (c u e : Bool) → (if c then (if u then 0 else o + 1) else (if e then o - 1 else o)) ≤ o + 1
open_by o true true e = omega arith
open_by o true false e = omega arith
open_by o false u true = omega arith
open_by o false u false = omega arith

-- no more are open than bytes are written
pub open_within : (o b k p n : ℕ) (rest : List ℕ) → o ≤ k → p ≡ open_behind o b rest → n ≡ k + 1 → p ≤ n
open_within o b k p n rest l f q = let i : open_behind o b rest ≤ o + 1 = open_by o (b == 60) ((o == 0) && not (opens_impl rest)) (b == 62) in omega (arith, l, f, q, i)

start_by : (s k : ℕ) (c : Bool) → s ≤ k → (if c then s else k + 1) ≤ k + 1
start_by s k true l = omega (arith, l)
start_by s k false l = omega arith

pub start_within : (s b k t n : ℕ) → s ≤ k → t ≡ start_behind s k b → n ≡ k + 1 → t ≤ n
start_within s b k t n l g q = let i : start_behind s k b ≤ k + 1 = start_by s k (is_word_byte b) l in omega (arith, g, q, i)
