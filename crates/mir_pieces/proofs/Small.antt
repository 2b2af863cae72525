-- The number in a token is below 2^128.
use Rattle.std.proofs.Common.{◌≡◌, ℕ, ◌^◌, ◌<◌, ◌≤◌, ◌==◌, true, false, List, [], ◌∷◌, ◌++◌, length, take, get_or, refl, sym, ap, subst, arith}
use Rattle.std.proofs.lemmas.Bool.{and_parts}
use Rattle.std.proofs.lemmas.Bool.Decides.{nat_tests}
use Rattle.std.proofs.lemmas.List.{take_at}
use Rattle.std.specs.List.{prefix_len, list_all}
use Rattle.mir_lex.specs.declared.token.TokenKind.{TokenKind}
use Rattle.mir_lex.specs.declared.token.TokenKind.TheVariants as kind
use Rattle.mir_lex.specs.Bytes.{is_digit, is_word_start, is_word_byte, is_sign_byte, is_double, is_integer_name, first_is, value_from}
use Rattle.mir_lex.specs.Tokens.{IsToken, Lexes, is_word, is_sign, is_decimal, is_suffix}
use Rattle.mir_lex.specs.declared.token.Token.{Token}
use Rattle.mir_lex.specs.Views.{AreSlices, text_of, decimal, digits_of}
use Rattle.mir_lex.proofs.Agreeing.{has_one_lexing}
use Rattle.mir_lex.proofs.Runs.{run_none, run_ends}

none_small : (text : List ℕ) → first_is is_digit text ≡ false → decimal (digits_of text) < 2 ^ 128
none_small text h = let e = run_none is_digit text h in rw e (omega arith)

word_first : (text : List ℕ) → is_word text ≡ true → first_is is_digit text ≡ false
word_first [] h = refl
word_first (b ∷ text) h = start_no_digit b (and_parts (is_word_start b) (list_all is_word_byte (b ∷ text)) h).0
  where
    start_no_digit : (b : ℕ) → is_word_start b ≡ true → is_digit b ≡ false
    start_no_digit b h = grind (arith, nat_tests)

sign_byte : (b : ℕ) → is_sign_byte b ≡ true → is_digit b ≡ false
sign_byte b h = grind (arith, nat_tests)

double_byte : (a b : ℕ) → is_double a b ≡ true → is_digit a ≡ false
double_byte a b h = grind (arith, nat_tests)

sign_first : (text : List ℕ) → is_sign text ≡ true → first_is is_digit text ≡ false
sign_first [] h = refl
sign_first (a ∷ []) h = sign_byte a h
sign_first (a ∷ b ∷ []) h = double_byte a b h
sign_first (a ∷ b ∷ c ∷ more) h = cc

under : (a : ℕ) → (a == 95) ≡ true → is_digit a ≡ false
under a h = grind (arith, nat_tests)

suffix_first : (suffix : List ℕ) → is_suffix suffix ≡ true → first_is is_digit suffix ≡ false
suffix_first [] h = refl
suffix_first (a ∷ name) h = under a (and_parts (a == 95) (is_integer_name name) h).0

number_small : (digits suffix : List ℕ) → is_decimal digits ≡ true → value_from 10 0 digits < 2 ^ 128 → is_suffix suffix ≡ true → decimal (digits_of (digits ++ suffix)) < 2 ^ 128
number_small digits suffix d v s =
    let n : prefix_len is_digit (digits ++ suffix) ≡ length digits = run_ends is_digit digits suffix (and_parts (first_is is_digit digits) (list_all is_digit digits) d).1 (suffix_first suffix s) in
    let t : take (length digits) (digits ++ suffix) ≡ digits = take_at digits suffix (length digits) refl in
    rw n (rw t v)

pub token_small : (k : TokenKind) (text : List ℕ) → IsToken k text → decimal (digits_of text) < 2 ^ 128
token_small kind.Word text g = none_small text (word_first text g.0)
token_small kind.Number text g = subst (λ t. decimal (digits_of t) < 2 ^ 128) (sym g.2) (number_small g.0 g.1 g.3 g.4 g.5)
token_small kind.Text text g = none_small text (ap (first_is is_digit) g.1)
token_small kind.Character text g = none_small text (ap (first_is is_digit) g.1)
token_small kind.Lifetime text g = none_small text (ap (first_is is_digit) g.1)
token_small kind.ImplSegment text g = none_small text (ap (first_is is_digit) g.2)
token_small kind.Sign text g = none_small text (sign_first text g)

pub first_small : (source : List ℕ) (other : Token) (left : List Token) (text : List ℕ) → 1 ≤ length left → AreSlices source left → text ≡ text_of source (get_or left 0 other) → decimal (digits_of text) < 2 ^ 128
first_small source other [] text l s e = absurd (omega arith)
first_small source other (t ∷ ts) text l s e = subst (λ b. decimal (digits_of b) < 2 ^ 128) (sym e) (token_small t.kind (text_of source t) s.0)

-- the tokens that a text was read as are slices of it
pub are_slices : (source : List ℕ) (tokens seen : List Token) → Lexes source tokens → seen ≡ tokens → AreSlices source seen
are_slices source tokens seen h e = subst (AreSlices source) (sym e) ((has_one_lexing source).slices tokens h)
