-- A number that is printed in decimal is a token with this value.
use Rattle.std.proofs.Common.{◌≡◌, ℕ, suc, ◌+◌, ◌^◌, ◌<◌, true, false, ◌==◌, List, [], ◌∷◌, ◌++◌, length, drop, refl, sym, ◌∙◌, ap, subst, arith, append-nil}
use Rattle.std.proofs.lemmas.Bool.{and_from, and_parts, eqb-true}
use Rattle.std.proofs.lemmas.List.{take_at}
use Rattle.std.specs.List.{list_all, prefix_len}
use Rattle.std.specs.Fmt.{decimal}
use Rattle.mir_lex.specs.declared.token.TokenKind.TheVariants as kind
use Rattle.mir_lex.specs.Bytes.{is_digit, first_is, value_from, is_integer_name}
use Rattle.mir_lex.specs.Tokens.{is_suffix, IsToken}
use Rattle.mir_lex.specs.Views.{digits_of, suffix_of}
use Rattle.mir_lex.proofs.Runs.{run_ends}
use Rattle.grammar_words.specs.Classes.{has, inside}
use Rattle.mir_ir.specs.Names.{int_of_name, is_int_named, name_of_int}
use Rattle.mir_grammar.specs.Lexemes.{Lexeme, class_of, number, number_value, number_type, suffix_class}
use Rattle.print_laws.proofs.Leads.{word_follow}
use Rattle.print_laws.proofs.Fits.{Fits, number_fits}
use Rattle.print_laws.proofs.Digits.{IsDecimalOf, decimal_digits}
use Rattle.print_laws.proofs.Bands.{is_number_kind}

-- the digits at the front of a text
pub front_digits : (text digits rest : List ℕ) → text ≡ digits ++ rest → list_all is_digit digits ≡ true → first_is is_digit rest ≡ false → digits_of text ≡ digits
front_digits text digits rest e a f = ap digits_of e ∙ take_at digits rest (prefix_len is_digit (digits ++ rest)) (sym (run_ends is_digit digits rest a f))

drop_past : (xs : List ℕ) → drop (length xs + 1) xs ≡ []
drop_past [] = refl
drop_past (x ∷ xs) = let e : length (x ∷ xs) + 1 ≡ suc (length xs + 1) = omega arith in rw e (drop_past xs)

no_suffix : (digits : List ℕ) → list_all is_digit digits ≡ true → suffix_of digits ≡ []
no_suffix digits a = let e = run_ends is_digit digits [] a refl in let f : prefix_len is_digit digits ≡ length digits = ap (prefix_len is_digit) (sym (append-nil digits)) ∙ e in ap (λ n. drop (n + 1) digits) f ∙ drop_past digits

number_at : (n : ℕ) → IsDecimalOf n (decimal n) → number_value (number (decimal n)) ≡ n
unfolding number_value
number_at n d = ap (value_from 10 0) (front_digits (decimal n) (decimal n) [] (sym (append-nil (decimal n))) d.all refl) ∙ d.value

number_plain : (n : ℕ) → IsDecimalOf n (decimal n) → class_of (number (decimal n)) ≡ 35
unfolding class_of number_type is_int_named name_of_int
number_plain n d = ap (λ s. suffix_class (number_value (number (decimal n))) (int_of_name s)) (no_suffix (decimal n) d.all)

pub printed_value : (n : ℕ) → n < 2 ^ 128 → number_value (number (decimal n)) ≡ n
printed_value n h = number_at n (decimal_digits n (omega arith))

pub printed_inside : (n : ℕ) → n < 2 ^ 128 → inside class_of (35 ∷ []) (number (decimal n)) ≡ true
unfolding inside
printed_inside n h = ap (has (35 ∷ [])) (number_plain n (decimal_digits n (omega arith)))

is_number : (n : ℕ) → n < 2 ^ 128 → IsDecimalOf n (decimal n) → IsToken kind.Number (decimal n)
is_number n h d = (decimal n, [], sym (append-nil (decimal n)), and_from (first_is is_digit (decimal n)) (list_all is_digit (decimal n)) d.some d.all, subst (λ m. m < 2 ^ 128) (sym d.value) h, refl)

pub printed_fits : (n : ℕ) → n < 2 ^ 128 → Fits word_follow (1 ∷ []) (decimal n) (number (decimal n) ∷ [])
printed_fits n h = number_fits (number (decimal n)) refl (is_number n h (decimal_digits n (omega arith)))

suffix_no_digit : (suffix : List ℕ) → is_suffix suffix ≡ true → first_is is_digit suffix ≡ false
suffix_no_digit [] h = refl
suffix_no_digit (a ∷ name) h = ap is_digit (eqb-true a 95 (and_parts (a == 95) (is_integer_name name) h).0)

-- the number of a token is within the limit
pub number_low : (t : Lexeme) → has (35 ∷ []) (class_of t) ≡ true → IsToken t.kind t.text → number_value t < 2 ^ 128
unfolding number_value
number_low t h i =
    let j = subst (λ k. IsToken k t.text) (is_number_kind (35 ∷ []) t h refl) i in
    let a = (and_parts (first_is is_digit j.0) (list_all is_digit j.0) j.3).1 in
    subst (λ x. value_from 10 0 x < 2 ^ 128) (sym (front_digits t.text j.0 j.1 j.2 a (suffix_no_digit j.1 j.5))) j.4
