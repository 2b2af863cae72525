-- Tokens as the grammar sees them, and their classes.
use Rattle.std.specs.Prelude.{ℕ, ◌+◌, ◌-◌, ◌^◌, Bool, true, false, ◌&&◌, ◌||◌, ◌==◌, nat_lt, nat_le, if◌then◌else◌, List, [], ◌∷◌, drop, codes, Option, Some, None}
use Rattle.std.specs.Str.{bytes_eq}
use Rattle.mir_ir.specs.declared.types.IntTy.{IntTy}
use Rattle.mir_ir.specs.Integers.{width_of, is_signed}
use Rattle.mir_ir.specs.Names.{int_of_name}
use Rattle.mir_lex.specs.declared.token.TokenKind.{TokenKind}
use Rattle.mir_lex.specs.declared.token.TokenKind.TheVariants as kind
use Rattle.mir_lex.specs.Views.{is_local, is_label, decimal, capped, digits_of, suffix_of, between, character_value}

-- a token by what it is, its bytes as they are written, and where they start in the text
pub record Lexeme : Type 0 where
  pub kind : TokenKind
  pub text : List ℕ
  pub start : ℕ

-- Numbers in tokens.

-- the number of a local or a block, where 4096 stands for each one past the limit
unfoldable pub local_number : Lexeme → ℕ
local_number l = capped (decimal (drop 1 l.text))

unfoldable pub label_number : Lexeme → ℕ
label_number l = capped (decimal (drop 2 l.text))

-- the value of a number's digits
unfoldable pub number_value : Lexeme → ℕ
number_value l = decimal (digits_of l.text)

-- the type behind a number
unfoldable pub number_type : Lexeme → Option IntTy
number_type l = int_of_name (suffix_of l.text)

-- what stands between the quotes of a text
unfoldable pub text_body : Lexeme → List ℕ
text_body l = between l.text

-- the number of a character
unfoldable pub char_value : Lexeme → ℕ
char_value l = character_value l.text

-- n is a number of the type, and so is -n
abbrev pub fits_plus : IntTy → ℕ → Bool
fits_plus i n = nat_lt n (2 ^ (if is_signed i then width_of i - 1 else width_of i))

abbrev pub fits_minus : IntTy → ℕ → Bool
fits_minus i n = n == 0 || (is_signed i && nat_le n (2 ^ (width_of i - 1)))

-- Classes of tokens. Signs have the classes from 1, and words of the grammar those from 100, in the order of these lists.

abbrev pub signs : List (List ℕ)
signs = codes "(" ∷ codes ")" ∷ codes "[" ∷ codes "]" ∷ codes "{" ∷ codes "}" ∷ codes "<" ∷ codes ">" ∷ codes "," ∷ codes ";" ∷ codes ":" ∷ codes "::" ∷ codes "." ∷ codes "="
    ∷ codes "&" ∷ codes "*" ∷ codes "!" ∷ codes "+" ∷ codes "-" ∷ codes "->" ∷ codes "=>" ∷ []

abbrev pub words : List (List ℕ)
words = codes "bool" ∷ codes "char" ∷ codes "i8" ∷ codes "i16" ∷ codes "i32" ∷ codes "i64" ∷ codes "i128" ∷ codes "isize" ∷ codes "u8" ∷ codes "u16" ∷ codes "u32" ∷ codes "u64"
    ∷ codes "u128" ∷ codes "usize" ∷ codes "str" ∷ codes "dyn" ∷ codes "const" ∷ codes "mut" ∷ codes "as" ∷ codes "of" ∷ codes "copy" ∷ codes "move" ∷ codes "true" ∷ codes "false"
    ∷ codes "Add" ∷ codes "Sub" ∷ codes "Mul" ∷ codes "Div" ∷ codes "Rem" ∷ codes "BitXor" ∷ codes "BitAnd" ∷ codes "BitOr" ∷ codes "Shl" ∷ codes "Shr" ∷ codes "Eq" ∷ codes "Lt"
    ∷ codes "Le" ∷ codes "Ne" ∷ codes "Ge" ∷ codes "Gt" ∷ codes "Offset" ∷ codes "AddWithOverflow" ∷ codes "SubWithOverflow" ∷ codes "MulWithOverflow"
    ∷ codes "Not" ∷ codes "Neg" ∷ codes "PtrMetadata" ∷ codes "discriminant" ∷ codes "Len" ∷ codes "SizeOf" ∷ codes "AlignOf" ∷ codes "raw"
    ∷ codes "IntToInt" ∷ codes "PtrToPtr" ∷ codes "PointerCoercion" ∷ codes "Unsize" ∷ codes "MutToConstPointer"
    ∷ codes "StorageLive" ∷ codes "StorageDead" ∷ codes "nop" ∷ codes "ConstEvalCounter" ∷ codes "PlaceMention"
    ∷ codes "goto" ∷ codes "return" ∷ codes "unreachable" ∷ codes "switchInt" ∷ codes "otherwise" ∷ codes "drop" ∷ codes "assert" ∷ codes "success" ∷ codes "unwind"
    ∷ codes "continue" ∷ codes "terminate" ∷ codes "resume" ∷ codes "cleanup" ∷ codes "fn" ∷ codes "let" ∷ codes "debug" ∷ codes "scope" ∷ []

-- the number of the first of these texts that it is, counted from n, or another number
abbrev pub number_among : List (List ℕ) → ℕ → List ℕ → ℕ → ℕ
number_among [] n text other = other
number_among (t ∷ ts) n text other = if bytes_eq t text then n else number_among ts (n + 1) text other

-- 30 the local _0, 31 another local, 32 a label, 33 a word that the grammar has no place for by itself
abbrev pub word_class : List ℕ → ℕ
word_class text = if is_local text then (if decimal (drop 1 text) == 0 then 30 else 31) else (if is_label text then 32 else number_among words 100 text 33)

-- by whether the number is one of its type without a sign and with one
abbrev pub typed_class : Bool → Bool → ℕ
typed_class true true = 36
typed_class true false = 37
typed_class false true = 38
typed_class false false = 39

abbrev pub suffix_class : ℕ → Option IntTy → ℕ
suffix_class n None = 35
suffix_class n (Some i) = typed_class (fits_plus i n) (fits_minus i n)

-- 35 a number without a type, 36 to 39 one with a type
abbrev pub number_class : Lexeme → ℕ
number_class l = suffix_class (number_value l) (number_type l)

abbrev pub kind_class : TokenKind → Lexeme → ℕ
kind_class kind.Word l = word_class l.text
kind_class kind.Number l = number_class l
kind_class kind.Text l = 40
kind_class kind.Character l = 41
kind_class kind.Lifetime l = 42
kind_class kind.ImplSegment l = 43
kind_class kind.Sign l = number_among signs 1 l.text 0

unfoldable pub class_of : Lexeme → ℕ
class_of l = kind_class l.kind l

-- tokens as they are written, for examples
abbrev pub sign : List ℕ → Lexeme
sign text = record { kind = kind.Sign; text = text; start = 0 }

abbrev pub word : List ℕ → Lexeme
word text = record { kind = kind.Word; text = text; start = 0 }

abbrev pub number : List ℕ → Lexeme
number text = record { kind = kind.Number; text = text; start = 0 }
