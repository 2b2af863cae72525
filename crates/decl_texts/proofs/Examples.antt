-- Words, decimal texts and the numbers that they write, by computation.
use Rattle.std.proofs.Common.{◌≡◌, true, false, codes, Some, None, refl}
use Rattle.mir_ir.specs.declared.types.IntTy.TheVariants as int
use Rattle.mir_lex.specs.Bytes.{number_within}
use Rattle.decl_texts.specs.declared.forms.Scalar.TheVariants as scalar
use Rattle.decl_texts.specs.Decimals.{is_decimal, number_word, value_word}
use Rattle.decl_texts.specs.Texts.{is_word}

zero_is_decimal : is_decimal (codes "0") ≡ true
zero_is_decimal = refl

below_zero_is_decimal : is_decimal (codes "-17") ≡ true
below_zero_is_decimal = refl

minus_zero : is_decimal (codes "-0") ≡ false
minus_zero = refl

plus_sign : is_decimal (codes "+1") ≡ false
plus_sign = refl

leading_zero : is_decimal (codes "01") ≡ false
leading_zero = refl

minus_alone : is_decimal (codes "-") ≡ false
minus_alone = refl

empty : is_decimal (codes "") ≡ false
empty = refl

least_i8 : number_word (scalar.Int int.I8) (codes "-128") ≡ Some (record { width = 8; value = 128 })
unfolding number_within
least_i8 = refl

past_i8 : number_word (scalar.Int int.I8) (codes "128") ≡ None
unfolding number_within
past_i8 = refl

below_u8 : number_word (scalar.Int int.U8) (codes "-1") ≡ None
unfolding number_within
below_u8 = refl

greatest_u128 : number_word (scalar.Int int.U128) (codes "340282366920938463463374607431768211455") ≡ Some (record { width = 128; value = 340282366920938463463374607431768211455 })
unfolding number_within
greatest_u128 = refl

past_u128 : number_word (scalar.Int int.U128) (codes "340282366920938463463374607431768211456") ≡ None
unfolding number_within
past_u128 = refl

-- a tag of bool is 0 or 1
bit : number_word scalar.Bool (codes "1") ≡ Some (record { width = 1; value = 1 })
unfolding number_within
bit = refl

past_bool : number_word scalar.Bool (codes "2") ≡ None
unfolding number_within
past_bool = refl

below_bool : number_word scalar.Bool (codes "-1") ≡ None
unfolding number_within
below_bool = refl

below_char : number_word scalar.Char (codes "-97") ≡ None
below_char = refl

-- a value of bool is written as a word, and a character by its number
value_of_bool : value_word scalar.Bool (codes "true") ≡ Some (record { width = 1; value = 1 })
value_of_bool = refl

number_of_bool : value_word scalar.Bool (codes "1") ≡ None
number_of_bool = refl

letter : value_word scalar.Char (codes "97") ≡ Some (record { width = 32; value = 97 })
unfolding number_within
letter = refl

surrogate : value_word scalar.Char (codes "55296") ≡ None
unfolding number_within
surrogate = refl

value_with_zero : value_word (scalar.Int int.U8) (codes "07") ≡ None
value_with_zero = refl

a_word : is_word (codes "_07") ≡ true
unfolding is_word
a_word = refl

a_local : is_word (codes "_7") ≡ false
unfolding is_word
a_local = refl

a_label : is_word (codes "bb0") ≡ false
unfolding is_word
a_label = refl

a_blank : is_word (codes "a b") ≡ false
unfolding is_word
a_blank = refl
