-- Locals and labels within the limit are written in one way alone.
use Rattle.std.proofs.Common.{◌≡◌, inl, inr, ℕ, ◌+◌, ◌*◌, ◌-◌, ◌≤◌, ◌<◌, ◌==◌, ◌&&◌, not, nat_le, Bool, true, false, if◌then◌else◌, List, [], ◌∷◌, length, get_or, drop, refl, sym, ◌∙◌, ap, arith}
use Rattle.std.specs.Fmt.{decimal}
use Rattle.std.specs.List.{list_all}
use Rattle.std.proofs.lemmas.Bool.{and_from, and_parts, eqb-true, eq-eqb, leb-true, le-leb, ne_eqb}
use Rattle.std.proofs.lemmas.Fmt.{decimal-digits_value}
use Rattle.std.proofs.lemmas.Str.Parse.{IsDigitsTest, FoldsDigits, numerals_by_fold}
use Rattle.mir_lex.specs.Bytes.{is_digit, digit_value, value_from}
use Rattle.mir_lex.specs.Views.{is_index, is_local, is_label, capped}
use Rattle.grammar_words.specs.Classes.{has}
use Rattle.mir_grammar.specs.Lexemes.{Lexeme, class_of, kind_class, word_class, words, number_among, local_number, label_number}
use Rattle.mir_grammar.specs.Places.{locals}
use Rattle.canonical_text.specs.Places.{local_text, label_text}
use Rattle.print_laws.proofs.Bands.{among_most, is_word_kind}

digits_test : IsDigitsTest (λ ds. list_all is_digit ds ≡ true)
digits_test = record {
  empty = refl;
  parts = λ c cs e. let p = and_parts (is_digit c) (list_all is_digit cs) e in let q = and_parts (nat_le 48 c) (nat_le c 57) p.0 in ((leb-true 48 c q.0, leb-true c 57 q.1), p.1);
  more = λ c cs k e. and_from (is_digit c) (list_all is_digit cs) (and_from (nat_le 48 c) (nat_le c 57) (le-leb 48 c k.0) (le-leb c 57 k.1)) e;
}

one_value : (n c : ℕ) → 48 ≤ c → c ≤ 57 → 10 * n + digit_value c ≡ n * 10 + (c - 48)
one_value n c h k = rw (le-leb c 57 k) (omega arith)

value_folds : FoldsDigits (value_from 10)
value_folds = record { empty = λ n. refl; more = λ n c cs k. ap (λ m. value_from 10 m cs) (one_value n c k.0 k.1) }

index_all : (ds : List ℕ) → is_index ds ≡ true → list_all is_digit ds ≡ true
index_all [] h = refl
index_all (d ∷ []) h = and_from (is_digit d) true h refl
index_all (d ∷ e ∷ ds) h = (and_parts (not (d == 48)) (list_all is_digit (d ∷ e ∷ ds)) h).1

index_some : (ds : List ℕ) → is_index ds ≡ true → 0 < length ds
index_some [] h = absurd cc
index_some (d ∷ ds) h = omega arith

index_lead : (ds : List ℕ) → is_index ds ≡ true → get_or ds 0 0 ≡ 48 → length ds ≡ 1
index_lead [] h e = absurd cc
index_lead (d ∷ []) h e = refl
index_lead (d ∷ f ∷ ds) h e = absurd (cc (ap not (eq-eqb d 48 e), (and_parts (not (d == 48)) (list_all is_digit (d ∷ f ∷ ds)) h).0))

index_decimal : (ds : List ℕ) → is_index ds ≡ true → value_from 10 0 ds ≤ 4095 → decimal (value_from 10 0 ds) ≡ ds
index_decimal ds h l = decimal-digits_value (numerals_by_fold (λ xs. list_all is_digit xs ≡ true) digits_test (value_from 10) value_folds) ds (index_all ds h) (index_some ds h) (index_lead ds h) (omega (arith, l))

capped_within : (n : ℕ) → capped n ≤ 4095 → n ≤ 4095
capped_within n h = within_by (nat_le n 4095) refl h
  where
    within_by : (c : Bool) → nat_le n 4095 ≡ c → (if c then n else 4096) ≤ 4095 → n ≤ 4095
    within_by true e k = leb-true n 4095 e
    within_by false e k = absurd (omega (arith, k))

capped_same : (n : ℕ) → n ≤ 4095 → capped n ≡ n
capped_same n h = rw (le-leb n 4095 h) refl

-- The classes of locals and labels.

not_local : (n : ℕ) → 32 ≤ n → has locals n ≡ false
not_local n h = rw (ne_eqb 30 n (λ e. absurd (omega (arith, h, e)))) (rw (ne_eqb 31 n (λ e. absurd (omega (arith, h, e)))) refl)

not_label : (n : ℕ) → 33 ≤ n → has (32 ∷ []) n ≡ false
not_label n h = rw (ne_eqb 32 n (λ e. absurd (omega (arith, h, e)))) refl

is_high : (text : List ℕ) → 33 ≤ number_among words 100 text 33
is_high text = elim (among_most words 100 text 33) [ inl h ↦ omega (arith, h) | inr h ↦ omega (arith, h.0) ]

local_by : (local zero_ label : Bool) (n : ℕ) → 33 ≤ n → has locals (if local then (if zero_ then 30 else 31) else (if label then 32 else n)) ≡ true → local ≡ true
local_by true z label n h e = refl
local_by false z true n h e = absurd (cc e)
local_by false z false n h e = absurd (cc (e, not_local n (omega (arith, h))))

label_by : (local zero_ label : Bool) (n : ℕ) → 33 ≤ n → has (32 ∷ []) (if local then (if zero_ then 30 else 31) else (if label then 32 else n)) ≡ true → label ≡ true
label_by true true label n h e = absurd (cc e)
label_by true false label n h e = absurd (cc e)
label_by false z true n h e = refl
label_by false z false n h e = absurd (cc (e, not_label n h))

local_word : (t : Lexeme) → has locals (class_of t) ≡ true → is_local t.text ≡ true
unfolding class_of
local_word t h =
    let k = is_word_kind locals t h refl in
    let e : has locals (word_class t.text) ≡ true = ap (λ x. has locals (kind_class x t)) (sym k) ∙ h in
    local_by (is_local t.text) (value_from 10 0 (drop 1 t.text) == 0) (is_label t.text) (number_among words 100 t.text 33) (is_high t.text) e

label_word : (t : Lexeme) → has (32 ∷ []) (class_of t) ≡ true → is_label t.text ≡ true
unfolding class_of
label_word t h =
    let k = is_word_kind (32 ∷ []) t h refl in
    let e : has (32 ∷ []) (word_class t.text) ≡ true = ap (λ x. has (32 ∷ []) (kind_class x t)) (sym k) ∙ h in
    label_by (is_local t.text) (value_from 10 0 (drop 1 t.text) == 0) (is_label t.text) (number_among words 100 t.text 33) (is_high t.text) e

-- Their texts.

local_again : (text : List ℕ) → is_local text ≡ true → value_from 10 0 (drop 1 text) ≤ 4095 → text ≡ local_text (value_from 10 0 (drop 1 text))
unfolding local_text
local_again [] h l = absurd cc
local_again (a ∷ ds) h l = let p = and_parts (a == 95) (is_index ds) h in ap (λ x. x ∷ ds) (eqb-true a 95 p.0) ∙ ap (λ x. 95 ∷ x) (sym (index_decimal ds p.1 l))

label_again : (text : List ℕ) → is_label text ≡ true → value_from 10 0 (drop 2 text) ≤ 4095 → text ≡ label_text (value_from 10 0 (drop 2 text))
unfolding label_text
label_again [] h l = absurd cc
label_again (a ∷ []) h l = absurd cc
label_again (a ∷ b ∷ ds) h l = let p = and_parts (a == 98) (b == 98 && is_index ds) h in let q = and_parts (b == 98) (is_index ds) p.1 in
    ap (λ x. x ∷ b ∷ ds) (eqb-true a 98 p.0) ∙ ap (λ x. 98 ∷ x ∷ ds) (eqb-true b 98 q.0) ∙ ap (λ x. 98 ∷ 98 ∷ x) (sym (index_decimal ds q.1 l))

pub local_canonical : (t : Lexeme) → has locals (class_of t) ≡ true → local_number t ≤ 4095 → t.text ≡ local_text (local_number t)
unfolding local_number
local_canonical t h l = let v = capped_within (value_from 10 0 (drop 1 t.text)) l in local_again t.text (local_word t h) v ∙ ap local_text (sym (capped_same (value_from 10 0 (drop 1 t.text)) v))

pub label_canonical : (t : Lexeme) → has (32 ∷ []) (class_of t) ≡ true → label_number t ≤ 4095 → t.text ≡ label_text (label_number t)
unfolding label_number
label_canonical t h l = let v = capped_within (value_from 10 0 (drop 2 t.text)) l in label_again t.text (label_word t h) v ∙ ap label_text (sym (capped_same (value_from 10 0 (drop 2 t.text)) v))
