-- Classes of numbers.
use Rattle.std.proofs.Common.{◌≡◌, ℕ, ◌-◌, ◌^◌, ◌<◌, ◌≤◌, Bool, true, false, List, Option, Some, None, nat_le, ◌==◌, ◌||◌, refl, sym, ◌∙◌, ap, arith, if◌then◌else◌}
use Rattle.std.proofs.lemmas.Bool.{le-ltb, lt-leb, leb-false, ne_eqb, or_from}
use Rattle.mir_ir.specs.declared.types.IntTy.{IntTy}
use Rattle.mir_ir.specs.declared.types.IntTy.TheVariants as int
use Rattle.mir_lex.specs.declared.token.TokenKind.{TokenKind}
use Rattle.mir_lex.specs.declared.token.TokenKind.TheVariants as kind
use Rattle.mir_lex.specs.Bytes.{value_from, number_within}
use Rattle.mir_lex.specs.Views.{decimal, digits_of}
use Rattle.mir_grammar.specs.Lexemes.{Lexeme, class_of, fits_plus, fits_minus, typed_class, suffix_class, number_value, number_type}
use Rattle.mir_pieces.specs.Seen.{class_in}

pub class_is : (k : TokenKind) (text : List ℕ) (start : ℕ) → class_in k text ≡ class_of (record { kind = k; text = text; start = start })
unfolding class_of number_value number_type
class_is kind.Word text start = refl
class_is kind.Number text start = refl
class_is kind.Text text start = refl
class_is kind.Character text start = refl
class_is kind.Lifetime text start = refl
class_is kind.ImplSegment text start = refl
class_is kind.Sign text start = refl

within_by : (c : Bool) (v n : ℕ) → (if c then Some v else None) ≡ Some n → v ≡ n
within_by true v n h = cc
within_by false v n h = cc

within_not : (c : Bool) (v : ℕ) → (if c then Some v else None) ≡ None → c ≡ false
within_not true v h = cc
within_not false v h = refl

value_is : (digits : List ℕ) (n most : ℕ) → number_within 10 most digits ≡ Some n → decimal digits ≡ n
unfolding number_within
value_is digits n most h = within_by (nat_le (value_from 10 0 digits) most) (value_from 10 0 digits) n h

value_past : (digits : List ℕ) (most : ℕ) → number_within 10 most digits ≡ None → most < decimal digits
unfolding number_within
value_past digits most h = leb-false (value_from 10 0 digits) most (within_not (nat_le (value_from 10 0 digits) most) (value_from 10 0 digits) h)

wide_plus : (i : IntTy) (n : ℕ) → 2 ^ 128 ≤ n → fits_plus i n ≡ false
wide_plus int.I8 n h = le-ltb n 128 (omega arith)
wide_plus int.I16 n h = le-ltb n 32768 (omega arith)
wide_plus int.I32 n h = le-ltb n 2147483648 (omega arith)
wide_plus int.I64 n h = le-ltb n 9223372036854775808 (omega arith)
wide_plus int.I128 n h = le-ltb n 170141183460469231731687303715884105728 (omega arith)
wide_plus int.Isize n h = le-ltb n 9223372036854775808 (omega arith)
wide_plus int.U8 n h = le-ltb n 256 (omega arith)
wide_plus int.U16 n h = le-ltb n 65536 (omega arith)
wide_plus int.U32 n h = le-ltb n 4294967296 (omega arith)
wide_plus int.U64 n h = le-ltb n 18446744073709551616 (omega arith)
wide_plus int.U128 n h = le-ltb n (2 ^ 128) h
wide_plus int.Usize n h = le-ltb n 18446744073709551616 (omega arith)

no_zero : (n : ℕ) → 2 ^ 128 ≤ n → (n == 0) ≡ false
no_zero n h = ne_eqb n 0 (λ e. absurd (omega arith))

signed_minus : (n most : ℕ) → 2 ^ 128 ≤ n → most < 2 ^ 128 → ((n == 0) || nat_le n most) ≡ false
signed_minus n most h m = or_from (n == 0) (nat_le n most) (no_zero n h) (lt-leb n most (omega arith))

wide_minus : (i : IntTy) (n : ℕ) → 2 ^ 128 ≤ n → fits_minus i n ≡ false
wide_minus int.I8 n h = signed_minus n 128 h (omega arith)
wide_minus int.I16 n h = signed_minus n 32768 h (omega arith)
wide_minus int.I32 n h = signed_minus n 2147483648 h (omega arith)
wide_minus int.I64 n h = signed_minus n 9223372036854775808 h (omega arith)
wide_minus int.I128 n h = signed_minus n 170141183460469231731687303715884105728 h (omega arith)
wide_minus int.Isize n h = signed_minus n 9223372036854775808 h (omega arith)
wide_minus int.U8 n h = or_from (n == 0) false (no_zero n h) refl
wide_minus int.U16 n h = or_from (n == 0) false (no_zero n h) refl
wide_minus int.U32 n h = or_from (n == 0) false (no_zero n h) refl
wide_minus int.U64 n h = or_from (n == 0) false (no_zero n h) refl
wide_minus int.U128 n h = or_from (n == 0) false (no_zero n h) refl
wide_minus int.Usize n h = or_from (n == 0) false (no_zero n h) refl

-- The value of a number's digits.

pub value_found : (l : Lexeme) (digits : List ℕ) (o : Option ℕ) (n : ℕ) → digits ≡ digits_of l.text → o ≡ number_within 10 (2 ^ 128 - 1) digits → o ≡ Some n → n ≡ number_value l
unfolding number_value
value_found l digits o n d e s = sym (value_is digits n (2 ^ 128 - 1) (sym e ∙ s)) ∙ ap decimal d

pub value_missing : (l : Lexeme) (digits : List ℕ) (o : Option ℕ) → decimal (digits_of l.text) < 2 ^ 128 → digits ≡ digits_of l.text → o ≡ number_within 10 (2 ^ 128 - 1) digits → o ≡ None → 0 ≡ number_value l
value_missing l digits o small d e s =
    let p : 2 ^ 128 - 1 < decimal digits = value_past digits (2 ^ 128 - 1) (sym e ∙ s) in
    let q : decimal digits ≡ decimal (digits_of l.text) = ap decimal d in
    absurd (omega arith)

pub wide_class : (digits : List ℕ) (i : IntTy) (o : Option IntTy) → o ≡ Some i → number_within 10 (2 ^ 128 - 1) digits ≡ None → 39 ≡ suffix_class (decimal digits) o
wide_class digits i o e h =
    let w = value_past digits (2 ^ 128 - 1) h in
    let l : 2 ^ 128 ≤ decimal digits = omega arith in
    rw e (rw (wide_plus i (decimal digits) l) (rw (wide_minus i (decimal digits) l) refl))

pub value_class : (digits : List ℕ) (i : IntTy) (o : Option IntTy) (n c : ℕ) (plus minus : Bool) → o ≡ Some i → number_within 10 (2 ^ 128 - 1) digits ≡ Some n → plus ≡ fits_plus i n → minus ≡ fits_minus i n → c ≡ typed_class plus minus
    → c ≡ suffix_class (decimal digits) o
value_class digits i o n c plus minus e h p m k =
    k ∙ ap (λ b. typed_class b minus) p ∙ ap (typed_class (fits_plus i n)) m ∙ ap (λ v. suffix_class v (Some i)) (sym (value_is digits n (2 ^ 128 - 1) h)) ∙ ap (suffix_class (decimal digits)) (sym e)
