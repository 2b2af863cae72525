-- Integer constants, as they are printed.
use Rattle.std.proofs.Common.{◌≡◌, ℕ, suc, ◌+◌, ◌-◌, ◌^◌, ◌<◌, ◌≤◌, Bool, true, false, List, [], ◌∷◌, ◌++◌, length, drop, Some, refl, sym, ◌∙◌, ap, subst, arith}
use Rattle.std.proofs.lemmas.Bool.{and_from}
use Rattle.std.specs.List.{list_all, prefix_len}
use Rattle.std.specs.Fmt.{decimal}
use Rattle.mir_lex.specs.Bytes.{is_digit, first_is, value_from}
use Rattle.mir_lex.specs.Tokens.{is_suffix}
use Rattle.mir_lex.specs.Views.{suffix_of}
use Rattle.mir_lex.proofs.Runs.{run_ends}
use Rattle.mir_ir.specs.declared.types.IntTy.{IntTy}
use Rattle.mir_ir.specs.declared.types.IntTy.TheVariants as int
use Rattle.mir_ir.specs.Integers.{width_of}
use Rattle.mir_ir.specs.Names.{name_of_int, is_int_named, int_of_name}
use Rattle.grammar_words.specs.Classes.{has, inside}
use Rattle.mir_grammar.specs.Lexemes.{class_of, number, number_value, number_type, fits_plus, fits_minus, typed_class, suffix_class}
use Rattle.print_laws.proofs.Leads.{word_follow}
use Rattle.print_laws.proofs.Fits.{Fits, number_fits}
use Rattle.print_laws.proofs.Digits.{IsDecimalOf, decimal_digits}
use Rattle.print_laws.proofs.Numbers.{front_digits}

-- The widths.

pub half : (i : IntTy) → 2 ^ width_of i ≡ 2 ^ (width_of i - 1) + 2 ^ (width_of i - 1)
half int.I8 = refl
half int.I16 = refl
half int.I32 = refl
half int.I64 = refl
half int.I128 = refl
half int.Isize = refl
half int.U8 = refl
half int.U16 = refl
half int.U32 = refl
half int.U64 = refl
half int.U128 = refl
half int.Usize = refl

pub low : (i : IntTy) → 2 ^ width_of i ≤ 2 ^ 128
low int.I8 = omega arith
low int.I16 = omega arith
low int.I32 = omega arith
low int.I64 = omega arith
low int.I128 = omega arith
low int.Isize = omega arith
low int.U8 = omega arith
low int.U16 = omega arith
low int.U32 = omega arith
low int.U64 = omega arith
low int.U128 = omega arith
low int.Usize = omega arith

pub some_number : (i : IntTy) → 0 < 2 ^ width_of i
some_number int.I8 = omega arith
some_number int.I16 = omega arith
some_number int.I32 = omega arith
some_number int.I64 = omega arith
some_number int.I128 = omega arith
some_number int.Isize = omega arith
some_number int.U8 = omega arith
some_number int.U16 = omega arith
some_number int.U32 = omega arith
some_number int.U64 = omega arith
some_number int.U128 = omega arith
some_number int.Usize = omega arith

-- The names.

named_suffix : (i : IntTy) → is_suffix (95 ∷ name_of_int i) ≡ true
unfolding name_of_int
named_suffix int.I8 = refl
named_suffix int.I16 = refl
named_suffix int.I32 = refl
named_suffix int.I64 = refl
named_suffix int.I128 = refl
named_suffix int.Isize = refl
named_suffix int.U8 = refl
named_suffix int.U16 = refl
named_suffix int.U32 = refl
named_suffix int.U64 = refl
named_suffix int.U128 = refl
named_suffix int.Usize = refl

found_name : (i : IntTy) → int_of_name (name_of_int i) ≡ Some i
unfolding name_of_int is_int_named
found_name int.I8 = refl
found_name int.I16 = refl
found_name int.I32 = refl
found_name int.I64 = refl
found_name int.I128 = refl
found_name int.Isize = refl
found_name int.U8 = refl
found_name int.U16 = refl
found_name int.U32 = refl
found_name int.U64 = refl
found_name int.U128 = refl
found_name int.Usize = refl

-- A number with its type behind it.

abbrev pub typed_text : IntTy → ℕ → List ℕ
typed_text i n = decimal n ++ (95 ∷ name_of_int i)

typed_suffix : (i : IntTy) (n : ℕ) → IsDecimalOf n (decimal n) → suffix_of (typed_text i n) ≡ name_of_int i
typed_suffix i n d =
    let e : prefix_len is_digit (typed_text i n) ≡ length (decimal n) = run_ends is_digit (decimal n) (95 ∷ name_of_int i) d.all refl in
    ap (λ k. drop (k + 1) (typed_text i n)) e ∙ past_one (decimal n) 95 (name_of_int i)
  where
    past_one : (xs : List ℕ) (y : ℕ) (ys : List ℕ) → drop (length xs + 1) (xs ++ y ∷ ys) ≡ ys
    past_one [] y ys = refl
    past_one (x ∷ xs) y ys = let e : length (x ∷ xs) + 1 ≡ suc (length xs + 1) = omega arith in rw e (past_one xs y ys)

pub typed_type : (i : IntTy) (n : ℕ) → n < 2 ^ 128 → number_type (number (typed_text i n)) ≡ Some i
unfolding number_type
typed_type i n h = ap int_of_name (typed_suffix i n (decimal_digits n (omega arith))) ∙ found_name i

pub typed_value : (i : IntTy) (n : ℕ) → n < 2 ^ 128 → number_value (number (typed_text i n)) ≡ n
unfolding number_value
typed_value i n h = let d = decimal_digits n (omega arith) in ap (value_from 10 0) (front_digits (typed_text i n) (decimal n) (95 ∷ name_of_int i) refl d.all refl) ∙ d.value

pub typed_fits : (i : IntTy) (n : ℕ) → n < 2 ^ 128 → Fits word_follow (1 ∷ []) (typed_text i n) (number (typed_text i n) ∷ [])
typed_fits i n h = let d = decimal_digits n (omega arith) in number_fits (number (typed_text i n)) refl
    (decimal n, 95 ∷ name_of_int i, refl, and_from (first_is is_digit (decimal n)) (list_all is_digit (decimal n)) d.some d.all, subst (λ m. m < 2 ^ 128) (sym d.value) h, named_suffix i)

class_is : (i : IntTy) (n : ℕ) → n < 2 ^ 128 → class_of (number (typed_text i n)) ≡ typed_class (fits_plus i n) (fits_minus i n)
unfolding class_of
class_is i n h = ap (λ o. suffix_class (number_value (number (typed_text i n))) o) (typed_type i n h) ∙ ap (λ m. typed_class (fits_plus i m) (fits_minus i m)) (typed_value i n h)

plus_class : (m : Bool) → has (36 ∷ 37 ∷ []) (typed_class true m) ≡ true
plus_class true = refl
plus_class false = refl

minus_class : (p : Bool) → has (36 ∷ 38 ∷ []) (typed_class p true) ≡ true
minus_class true = refl
minus_class false = refl

pub plus_inside : (i : IntTy) (n : ℕ) → n < 2 ^ 128 → fits_plus i n ≡ true → inside class_of (36 ∷ 37 ∷ []) (number (typed_text i n)) ≡ true
unfolding inside
plus_inside i n h f = ap (has (36 ∷ 37 ∷ [])) (class_is i n h ∙ ap (λ b. typed_class b (fits_minus i n)) f) ∙ plus_class (fits_minus i n)

pub minus_inside : (i : IntTy) (n : ℕ) → n < 2 ^ 128 → fits_minus i n ≡ true → inside class_of (36 ∷ 38 ∷ []) (number (typed_text i n)) ≡ true
unfolding inside
minus_inside i n h f = ap (has (36 ∷ 38 ∷ [])) (class_is i n h ∙ ap (λ b. typed_class (fits_plus i n) b) f) ∙ minus_class (fits_plus i n)
