-- Locals and labels, as they are printed.
use Rattle.std.proofs.Common.{◌≡◌, ℕ, ◌+◌, ◌/◌, ◌%◌, ◌<◌, ◌≤◌, Bool, true, false, not, ◌==◌, nat_le, if◌then◌else◌, List, [], ◌∷◌, ◌++◌, length, drop, refl, ◌∙◌, ap, subst, arith}
use Rattle.std.proofs.lemmas.Bool.{and_from, and_parts, leb-true, leb-false, or_right, ne_eqb}
use Rattle.std.proofs.lemmas.Fmt.{decimal_by_steps_wide, length-decimal-le}
use Rattle.std.specs.List.{list_all}
use Rattle.std.specs.Fmt.{decimal}
use Rattle.mir_lex.specs.Bytes.{is_digit, is_word_start, is_word_byte, first_is, value_from}
use Rattle.mir_lex.specs.Views.{is_index, capped}
use Rattle.grammar_words.specs.Classes.{has, inside}
use Rattle.mir_grammar.specs.Lexemes.{class_of, word, local_number, label_number}
use Rattle.mir_grammar.specs.Places.{locals}
use Rattle.canonical_text.specs.Places.{local_text, label_text}
use Rattle.print_laws.specs.Printed.{ArePrintable}
use Rattle.print_laws.proofs.Leads.{word_follow}
use Rattle.print_laws.proofs.Fits.{Fits, written_word}
use Rattle.print_laws.proofs.Digits.{digit_is, decimal_digits}
use Rattle.print_laws.proofs.Again.{past_token}
use Rattle.print_laws.proofs.Told.{Told}
use Rattle.grammar_words.specs.Classes.{Tok}

-- digits without a leading zero
pub record IsIndexOf (n : ℕ) (ds : List ℕ) : Type 0 where
  pub all : list_all is_digit ds ≡ true
  pub index : is_index ds ≡ true
  pub lead : 1 ≤ n → first_is (λ b. not (b == 48)) ds ≡ true

no_zero : (k : ℕ) → 1 ≤ k → not ((48 + k) == 48) ≡ true
no_zero k h = ap not (ne_eqb (48 + k) 48 (λ e. absurd (omega arith)))

one_index : (k : ℕ) → k < 10 → IsIndexOf k ((48 + k) ∷ [])
one_index k h = record { all = rw (digit_is k h) refl; index = digit_is k h; lead = no_zero k }

all_more : (d : ℕ) (ds : List ℕ) → list_all is_digit ds ≡ true → is_digit d ≡ true → list_all is_digit (ds ++ d ∷ []) ≡ true
all_more d [] h i = rw i refl
all_more d (c ∷ ds) h i = let p = and_parts (is_digit c) (list_all is_digit ds) h in and_from (is_digit c) (list_all is_digit (ds ++ d ∷ [])) p.0 (all_more d ds p.1 i)

index_more : (d : ℕ) (ds : List ℕ) → first_is (λ b. not (b == 48)) ds ≡ true → list_all is_digit (ds ++ d ∷ []) ≡ true → is_index (ds ++ d ∷ []) ≡ true
index_more d [] h a = absurd cc
index_more d (c ∷ []) h a = and_from (not (c == 48)) (list_all is_digit (c ∷ d ∷ [])) h a
index_more d (c ∷ e ∷ ds) h a = and_from (not (c == 48)) (list_all is_digit ((c ∷ e ∷ ds) ++ d ∷ [])) h a

lead_more : (d : ℕ) (ds : List ℕ) → first_is (λ b. not (b == 48)) ds ≡ true → first_is (λ b. not (b == 48)) (ds ++ d ∷ []) ≡ true
lead_more d [] h = absurd cc
lead_more d (c ∷ ds) h = h

more_index : (n : ℕ) (ds : List ℕ) → 10 ≤ n → IsIndexOf (n / 10) ds → IsIndexOf n (ds ++ (48 + n % 10) ∷ [])
more_index n ds h i =
    let low : n % 10 < 10 = omega arith in
    let some : 1 ≤ n / 10 = omega arith in
    let all = all_more (48 + n % 10) ds i.all (digit_is (n % 10) low) in record {
      all = all;
      index = index_more (48 + n % 10) ds (i.lead some) all;
      lead = λ e. lead_more (48 + n % 10) ds (i.lead some);
    }

pub index_of : (n : ℕ) → n ≤ 4096 → IsIndexOf n (decimal n)
index_of n h = decimal_by_steps_wide IsIndexOf one_index more_index n (omega arith)

digit_byte : (d : ℕ) → is_digit d ≡ true → is_word_byte d ≡ true
digit_byte d h = or_right (is_word_start d) (is_digit d) h

word_bytes : (ds : List ℕ) → list_all is_digit ds ≡ true → list_all is_word_byte ds ≡ true
word_bytes [] h = refl
word_bytes (d ∷ ds) h = let p = and_parts (is_digit d) (list_all is_digit ds) h in and_from (is_word_byte d) (list_all is_word_byte ds) (digit_byte d p.0) (word_bytes ds p.1)

short : (n : ℕ) → n ≤ 4096 → length (decimal n) ≤ 4
short n h = length-decimal-le 4 n (omega arith) (omega arith) (omega arith)

capped_low : (n : ℕ) → n ≤ 4096 → capped n ≡ n
capped_low n h = capped_by n (nat_le n 4095) refl h
  where
    capped_by : (n : ℕ) (c : Bool) → nat_le n 4095 ≡ c → n ≤ 4096 → (if c then n else 4096) ≡ n
    capped_by n true e h = refl
    capped_by n false e h = let f = leb-false n 4095 e in omega arith

pub capped_is_low : (n : ℕ) → capped n ≤ 4096
capped_is_low n = low_by n (nat_le n 4095) refl
  where
    low_by : (n : ℕ) (c : Bool) → nat_le n 4095 ≡ c → (if c then n else 4096) ≤ 4096
    low_by n true e = let f = leb-true n 4095 e in omega arith
    low_by n false e = omega arith

-- Locals.

pub local_value : (n : ℕ) → n ≤ 4096 → local_number (word (local_text n)) ≡ n
unfolding local_number local_text
local_value n h = ap capped ((decimal_digits n (omega arith)).value) ∙ capped_low n h

local_class_by : (z : Bool) → has locals (if z then 30 else 31) ≡ true
local_class_by true = refl
local_class_by false = refl

pub local_inside : (n : ℕ) → n ≤ 4096 → inside class_of locals (word (local_text n)) ≡ true
unfolding inside class_of local_text
local_inside n h = rw ((index_of n h).index) (local_class_by (value_from 10 0 (decimal n) == 0))

pub local_fits : (n : ℕ) → n ≤ 4096 → Fits word_follow (1 ∷ []) (local_text n) (word (local_text n) ∷ [])
unfolding local_text
local_fits n h = written_word (95 ∷ decimal n) (word_bytes (decimal n) (index_of n h).all) (let s = short n h in omega arith) refl

pub local_told : Told word_follow (1 ∷ []) (Tok class_of locals) (Tok class_of locals) local_number local_text
unfolding inside local_number
local_told = record {
  tell = λ ts rest t r p. let n = local_number t in let h = capped_is_low (value_from 10 0 (drop 1 t.text)) in record {
    lexemes = word (local_text n) ∷ [];
    value = word (local_text n);
    same = local_value n h;
    reads = λ k. (local_inside n h, refl);
    fits = local_fits n h;
  };
  left = λ ts rest t r p. past_token locals t rest refl r.0 (subst ArePrintable r.1 p);
}

-- Labels.

label_value : (n : ℕ) → n ≤ 4096 → label_number (word (label_text n)) ≡ n
unfolding label_number label_text
label_value n h = ap capped ((decimal_digits n (omega arith)).value) ∙ capped_low n h

label_inside : (n : ℕ) → n ≤ 4096 → inside class_of (32 ∷ []) (word (label_text n)) ≡ true
unfolding inside class_of label_text
label_inside n h = rw ((index_of n h).index) refl

label_fits : (n : ℕ) → n ≤ 4096 → Fits word_follow (1 ∷ []) (label_text n) (word (label_text n) ∷ [])
unfolding label_text
label_fits n h = written_word (98 ∷ 98 ∷ decimal n) (word_bytes (decimal n) (index_of n h).all) (let s = short n h in omega arith) refl

pub label_told : Told word_follow (1 ∷ []) (Tok class_of (32 ∷ [])) (Tok class_of (32 ∷ [])) label_number label_text
unfolding inside label_number
label_told = record {
  tell = λ ts rest t r p. let n = label_number t in let h = capped_is_low (value_from 10 0 (drop 2 t.text)) in record {
    lexemes = word (label_text n) ∷ [];
    value = word (label_text n);
    same = label_value n h;
    reads = λ k. (label_inside n h, refl);
    fits = label_fits n h;
  };
  left = λ ts rest t r p. past_token (32 ∷ []) t rest refl r.0 (subst ArePrintable r.1 p);
}
