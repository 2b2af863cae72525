-- The kind of a token by its class.
use Rattle.std.proofs.Common.{◌≡◌, ◌⊎◌, inl, inr, ℕ, zero, suc, ◌+◌, ◌-◌, ◌≤◌, ◌<◌, Bool, true, false, ◌==◌, nat_le, if◌then◌else◌, List, [], ◌∷◌, length, drop, Option, Some, None, refl, sym, ◌∙◌, ap, arith}
use Rattle.std.proofs.lemmas.Bool.{eqb-true, le-leb, lt-leb, ne_eqb}
use Rattle.std.specs.Str.{bytes_eq}
use Rattle.std.proofs.lemmas.Slice.Eq.{bytes_eq-Decides}
use Rattle.mir_lex.specs.declared.token.TokenKind.{TokenKind}
use Rattle.mir_lex.specs.declared.token.TokenKind.TheVariants as kind
use Rattle.mir_lex.specs.Views.{is_local, is_label, decimal}
use Rattle.mir_ir.specs.declared.types.IntTy.{IntTy}
use Rattle.grammar_words.specs.Classes.{has}
use Rattle.mir_grammar.specs.Lexemes.{Lexeme, class_of, kind_class, number_among, words, signs, suffix_class, typed_class, number_value, number_type, fits_plus, fits_minus}

-- the number of a kind, from a class
abbrev pub band : ℕ → ℕ
band n = if nat_le n 29 then 0 else (if nat_le n 33 then 1 else (if nat_le n 39 then 2 else (if n == 40 then 3 else (if n == 41 then 4 else (if n == 42 then 5 else (if n == 43 then 6 else 1))))))

abbrev pub band_of : TokenKind → ℕ
band_of kind.Sign = 0
band_of kind.Word = 1
band_of kind.Number = 2
band_of kind.Text = 3
band_of kind.Character = 4
band_of kind.Lifetime = 5
band_of kind.ImplSegment = 6

pub among_most : (ts : List (List ℕ)) (n : ℕ) (text : List ℕ) (other : ℕ) → (number_among ts n text other ≡ other) ⊎ ((n ≤ number_among ts n text other) × (number_among ts n text other < n + length ts))
among_most [] n text other = inl refl
among_most (t ∷ ts) n text other = among_by (bytes_eq t text) (among_most ts (n + 1) text other)
  where
    among_by : (c : Bool) → ((number_among ts (n + 1) text other ≡ other) ⊎ ((n + 1 ≤ number_among ts (n + 1) text other) × (number_among ts (n + 1) text other < n + 1 + length ts)))
        → ((if c then n else number_among ts (n + 1) text other) ≡ other) ⊎ ((n ≤ (if c then n else number_among ts (n + 1) text other)) × ((if c then n else number_among ts (n + 1) text other) < n + length (t ∷ ts)))
    among_by true h = inr (omega arith, omega arith)
    among_by false (inl h) = inl h
    among_by false (inr h) = inr (let a = h.0 in omega arith, let b = h.1 in omega arith)

low_band : (n : ℕ) → n ≤ 29 → band n ≡ 0
low_band n h = rw (le-leb n 29 h) refl

high_band : (n : ℕ) → 100 ≤ n → band n ≡ 1
high_band n h = rw (lt-leb n 29 (omega arith)) (rw (lt-leb n 33 (omega arith)) (rw (lt-leb n 39 (omega arith)) (rw (ne_eqb n 40 (λ e. absurd (omega arith))) (rw (ne_eqb n 41 (λ e. absurd (omega arith))) (rw (ne_eqb n 42 (λ e. absurd (omega arith))) (rw (ne_eqb n 43 (λ e. absurd (omega arith))) refl))))))

sign_band : (text : List ℕ) → band (number_among signs 1 text 0) ≡ 0
sign_band text = elim (among_most signs 1 text 0) [ inl e ↦ ap band e | inr e ↦ low_band (number_among signs 1 text 0) (let a : number_among signs 1 text 0 < 22 = e.1 in omega arith) ]

among_words : (text : List ℕ) → band (number_among words 100 text 33) ≡ 1
among_words text = elim (among_most words 100 text 33) [ inl e ↦ ap band e | inr e ↦ high_band (number_among words 100 text 33) e.0 ]

word_by : (local zero_ label : Bool) (other : ℕ) → band other ≡ 1 → band (if local then (if zero_ then 30 else 31) else (if label then 32 else other)) ≡ 1
word_by true true label other e = refl
word_by true false label other e = refl
word_by false z true other e = refl
word_by false z false other e = e

typed_band : (a b : Bool) → band (typed_class a b) ≡ 2
typed_band true true = refl
typed_band true false = refl
typed_band false true = refl
typed_band false false = refl

number_band : (n : ℕ) (o : Option IntTy) → band (suffix_class n o) ≡ 2
number_band n None = refl
number_band n (Some i) = typed_band (fits_plus i n) (fits_minus i n)

kind_band : (k : TokenKind) (l : Lexeme) → band (kind_class k l) ≡ band_of k
kind_band kind.Word l = word_by (is_local l.text) (decimal (drop 1 l.text) == 0) (is_label l.text) (number_among words 100 l.text 33) (among_words l.text)
kind_band kind.Number l = number_band (number_value l) (number_type l)
kind_band kind.Text l = refl
kind_band kind.Character l = refl
kind_band kind.Lifetime l = refl
kind_band kind.ImplSegment l = refl
kind_band kind.Sign l = sign_band l.text

-- each class is of this kind
abbrev pub all_of : ℕ → List ℕ → Bool
all_of x [] = true
all_of x (n ∷ set) = if band n == x then all_of x set else false

band_by : (x n m : ℕ) (set : List ℕ) → (has set n ≡ true → all_of x set ≡ true → band n ≡ x) → (t u : Bool) → (m == n) ≡ t → (band m == x) ≡ u → (if t then true else has set n) ≡ true → (if u then all_of x set else false) ≡ true → band n ≡ x
band_by x n m set i t false e f h a = absurd cc
band_by x n m set i true true e f h a = ap band (sym (eqb-true m n e)) ∙ eqb-true (band m) x f
band_by x n m set i false true e f h a = i h a

set_band : (x n : ℕ) (set : List ℕ) → has set n ≡ true → all_of x set ≡ true → band n ≡ x
set_band x n [] h a = absurd cc
set_band x n (m ∷ set) h a = band_by x n m set (set_band x n set) (m == n) (band m == x) refl refl h a

class_band : (x : ℕ) (set : List ℕ) (t : Lexeme) → has set (class_of t) ≡ true → all_of x set ≡ true → band_of t.kind ≡ x
unfolding class_of
class_band x set t h a = sym (kind_band t.kind t) ∙ set_band x (class_of t) set h a

word_of : (k : TokenKind) → band_of k ≡ 1 → k ≡ kind.Word
word_of kind.Word e = refl
word_of kind.Number e = absurd cc
word_of kind.Text e = absurd cc
word_of kind.Character e = absurd cc
word_of kind.Lifetime e = absurd cc
word_of kind.ImplSegment e = absurd cc
word_of kind.Sign e = absurd cc

number_of : (k : TokenKind) → band_of k ≡ 2 → k ≡ kind.Number
number_of kind.Word e = absurd cc
number_of kind.Number e = refl
number_of kind.Text e = absurd cc
number_of kind.Character e = absurd cc
number_of kind.Lifetime e = absurd cc
number_of kind.ImplSegment e = absurd cc
number_of kind.Sign e = absurd cc

lifetime_of : (k : TokenKind) → band_of k ≡ 5 → k ≡ kind.Lifetime
lifetime_of kind.Word e = absurd cc
lifetime_of kind.Number e = absurd cc
lifetime_of kind.Text e = absurd cc
lifetime_of kind.Character e = absurd cc
lifetime_of kind.Lifetime e = refl
lifetime_of kind.ImplSegment e = absurd cc
lifetime_of kind.Sign e = absurd cc

segment_of : (k : TokenKind) → band_of k ≡ 6 → k ≡ kind.ImplSegment
segment_of kind.Word e = absurd cc
segment_of kind.Number e = absurd cc
segment_of kind.Text e = absurd cc
segment_of kind.Character e = absurd cc
segment_of kind.Lifetime e = absurd cc
segment_of kind.ImplSegment e = refl
segment_of kind.Sign e = absurd cc

sign_of : (k : TokenKind) → band_of k ≡ 0 → k ≡ kind.Sign
sign_of kind.Word e = absurd cc
sign_of kind.Number e = absurd cc
sign_of kind.Text e = absurd cc
sign_of kind.Character e = absurd cc
sign_of kind.Lifetime e = absurd cc
sign_of kind.ImplSegment e = absurd cc
sign_of kind.Sign e = refl

text_kind_of : (k : TokenKind) → band_of k ≡ 3 → k ≡ kind.Text
text_kind_of kind.Word e = absurd cc
text_kind_of kind.Number e = absurd cc
text_kind_of kind.Text e = refl
text_kind_of kind.Character e = absurd cc
text_kind_of kind.Lifetime e = absurd cc
text_kind_of kind.ImplSegment e = absurd cc
text_kind_of kind.Sign e = absurd cc

character_of : (k : TokenKind) → band_of k ≡ 4 → k ≡ kind.Character
character_of kind.Word e = absurd cc
character_of kind.Number e = absurd cc
character_of kind.Text e = absurd cc
character_of kind.Character e = refl
character_of kind.Lifetime e = absurd cc
character_of kind.ImplSegment e = absurd cc
character_of kind.Sign e = absurd cc

pub is_text_kind : (set : List ℕ) (t : Lexeme) → has set (class_of t) ≡ true → all_of 3 set ≡ true → t.kind ≡ kind.Text
is_text_kind set t h a = text_kind_of t.kind (class_band 3 set t h a)

pub is_character_kind : (set : List ℕ) (t : Lexeme) → has set (class_of t) ≡ true → all_of 4 set ≡ true → t.kind ≡ kind.Character
is_character_kind set t h a = character_of t.kind (class_band 4 set t h a)

pub is_word_kind : (set : List ℕ) (t : Lexeme) → has set (class_of t) ≡ true → all_of 1 set ≡ true → t.kind ≡ kind.Word
is_word_kind set t h a = word_of t.kind (class_band 1 set t h a)

pub is_number_kind : (set : List ℕ) (t : Lexeme) → has set (class_of t) ≡ true → all_of 2 set ≡ true → t.kind ≡ kind.Number
is_number_kind set t h a = number_of t.kind (class_band 2 set t h a)

pub is_lifetime_kind : (set : List ℕ) (t : Lexeme) → has set (class_of t) ≡ true → all_of 5 set ≡ true → t.kind ≡ kind.Lifetime
is_lifetime_kind set t h a = lifetime_of t.kind (class_band 5 set t h a)

pub is_segment_kind : (set : List ℕ) (t : Lexeme) → has set (class_of t) ≡ true → all_of 6 set ≡ true → t.kind ≡ kind.ImplSegment
is_segment_kind set t h a = segment_of t.kind (class_band 6 set t h a)

-- the text of a sign
abbrev pub nth : ℕ → List (List ℕ) → List ℕ
nth n [] = []
nth zero (t ∷ ts) = t
nth (suc n) (t ∷ ts) = nth n ts

text_by : (t : List ℕ) (ts : List (List ℕ)) (n k : ℕ) (text : List ℕ) → 1 ≤ k → (number_among ts (n + 1) text 0 ≡ k → bytes_eq (nth (k - (n + 1)) ts) text ≡ true)
    → (c : Bool) → bytes_eq t text ≡ c → (if c then n else number_among ts (n + 1) text 0) ≡ k → bytes_eq (nth (k - n) (t ∷ ts)) text ≡ true
text_by t ts n k text l ih true h e = let z : k - n ≡ 0 = omega arith in rw z h
text_by t ts n k text l ih false h e = elim (among_most ts (n + 1) text 0) [
  | inl i ↦ absurd (omega arith)
  | inr i ↦ let low = i.0 in let z : k - n ≡ suc (k - (n + 1)) = omega arith in rw z (ih e)
]

among_text : (ts : List (List ℕ)) (n k : ℕ) (text : List ℕ) → number_among ts n text 0 ≡ k → 1 ≤ k → bytes_eq (nth (k - n) ts) text ≡ true
among_text [] n k text e l = absurd (omega arith)
among_text (t ∷ ts) n k text e l = text_by t ts n k text l (λ h. among_text ts (n + 1) k text h l) (bytes_eq t text) refl e

-- the text of a sign by its class
pub sign_text : (t : Lexeme) (n : ℕ) → t.kind ≡ kind.Sign → class_of t ≡ n → 1 ≤ n → t.text ≡ nth (n - 1) signs
unfolding class_of
sign_text t n k e l = sym ((bytes_eq-Decides (nth (n - 1) signs) t.text).0 (among_text signs 1 n t.text (ap (λ x. kind_class x t) (sym k) ∙ e) l))

pub is_sign_kind : (set : List ℕ) (t : Lexeme) → has set (class_of t) ≡ true → all_of 0 set ≡ true → t.kind ≡ kind.Sign
is_sign_kind set t h a = sign_of t.kind (class_band 0 set t h a)

-- the text of a word of the grammar
word_text_by : (t : List ℕ) (ts : List (List ℕ)) (n k : ℕ) (text : List ℕ) → 34 ≤ k → (number_among ts (n + 1) text 33 ≡ k → bytes_eq (nth (k - (n + 1)) ts) text ≡ true)
    → (c : Bool) → bytes_eq t text ≡ c → (if c then n else number_among ts (n + 1) text 33) ≡ k → bytes_eq (nth (k - n) (t ∷ ts)) text ≡ true
word_text_by t ts n k text l ih true h e = let z : k - n ≡ 0 = omega arith in rw z h
word_text_by t ts n k text l ih false h e = elim (among_most ts (n + 1) text 33) [
  | inl i ↦ absurd (omega arith)
  | inr i ↦ let low = i.0 in let z : k - n ≡ suc (k - (n + 1)) = omega arith in rw z (ih e)
]

among_word : (ts : List (List ℕ)) (n k : ℕ) (text : List ℕ) → number_among ts n text 33 ≡ k → 34 ≤ k → bytes_eq (nth (k - n) ts) text ≡ true
among_word [] n k text e l = absurd (omega arith)
among_word (t ∷ ts) n k text e l = word_text_by t ts n k text l (λ h. among_word ts (n + 1) k text h l) (bytes_eq t text) refl e

pub word_text : (text : List ℕ) (k : ℕ) → number_among words 100 text 33 ≡ k → 34 ≤ k → text ≡ nth (k - 100) words
word_text text k e l = sym ((bytes_eq-Decides (nth (k - 100) words) text).0 (among_word words 100 k text e l))
