-- Decimal texts, and the numbers of types that they write.
use Rattle.std.specs.Prelude.{ℕ, ◌-◌, ◌^◌, Bool, false, ◌&&◌, not, ◌==◌, List, [], ◌∷◌, codes, if◌then◌else◌, Option, Some, None, option_map}
use Rattle.std.specs.Str.{bytes_eq}
use Rattle.word_bits.specs.declared.word.Word.{Word}
use Rattle.mir_ir.specs.declared.types.IntTy.{IntTy}
use Rattle.mir_ir.specs.Integers.{width_of, is_signed}
use Rattle.mir_lex.specs.Bytes.{first_is, number_within, is_char}
use Rattle.mir_lex.specs.Views.{is_index}
use Rattle.mir_grammar.specs.Values.{plus_word, minus_word}
use Rattle.decl_texts.specs.declared.forms.Scalar.{Scalar}
use Rattle.decl_texts.specs.declared.forms.Scalar.TheVariants as scalar

-- a decimal integer without a sign `+`, without leading zeros and not `-0`
abbrev pub is_decimal : List ℕ → Bool
is_decimal [] = false
is_decimal (a ∷ digits) = if a == 45 then is_index digits && not (first_is (λ d. d == 48) digits) else is_index (a ∷ digits)

-- the greatest number of an integer type, and how far below zero its numbers go
abbrev pub greatest : IntTy → ℕ
greatest i = if is_signed i then 2 ^ (width_of i - 1) - 1 else 2 ^ width_of i - 1

abbrev pub deepest : IntTy → ℕ
deepest i = if is_signed i then 2 ^ (width_of i - 1) else 0

-- the word of the number that a decimal text writes, where it is one of the type's
abbrev pub int_word : IntTy → List ℕ → Option Word
int_word i [] = None
int_word i (a ∷ digits) = if a == 45 then option_map (minus_word (width_of i)) (number_within 10 (deepest i) digits)
    else option_map (plus_word (width_of i)) (number_within 10 (greatest i) (a ∷ digits))

abbrev pub char_word : Option ℕ → Option Word
char_word None = None
char_word (Some n) = if is_char n then Some (record { width = 32; value = n }) else None

abbrev pub bit_word : Option ℕ → Option Word
bit_word None = None
bit_word (Some n) = Some (record { width = 1; value = n })

-- the number that a decimal text without a minus writes, where it is at most this
abbrev pub unsigned_within : ℕ → List ℕ → Option ℕ
unsigned_within most text = if first_is (λ d. d == 45) text then None else number_within 10 most text

-- the same of a scalar type: 0 and 1 are the numbers of bool
abbrev pub number_word : Scalar → List ℕ → Option Word
number_word (scalar.Int i) text = int_word i text
number_word scalar.Bool text = bit_word (unsigned_within 1 text)
number_word scalar.Char text = char_word (unsigned_within 1114111 text)

-- a value text of bool
abbrev pub bool_word : List ℕ → Option Word
bool_word text = if bytes_eq text (codes "false") then bit_word (Some 0) else (if bytes_eq text (codes "true") then bit_word (Some 1) else None)

abbrev pub decimal_word : Scalar → List ℕ → Option Word
decimal_word s text = if is_decimal text then number_word s text else None

-- a value text of a scalar type: a decimal text of one of its numbers, `false` or `true`, a character's number in decimal
abbrev pub value_word : Scalar → List ℕ → Option Word
value_word (scalar.Int i) text = decimal_word (scalar.Int i) text
value_word scalar.Bool text = bool_word text
value_word scalar.Char text = decimal_word scalar.Char text
