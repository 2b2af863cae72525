-- How the name of a path is written. Canonical paths leave the `::` before `<` out. It is written again where the text would not
-- read back without it: behind a word that begins something else where it stands, and a path only before `::`.
use Rattle.std.specs.Prelude.{ℕ, ◌+◌, ◌-◌, Bool, ◌&&◌, ◌||◌, not, ◌==◌, if◌then◌else◌, List, [], ◌∷◌, ◌++◌, codes}
use Rattle.std.specs.Borrow.{Bor}
use Rattle.std.specs.List.{list_any}
use Rattle.std.specs.Str.{bytes_eq}
use Rattle.mir_lex.specs.Bytes.{is_word_byte}
use Rattle.mir_lex.specs.Tokens.{opens_impl}
use Rattle.canonical_text.specs.declared.positions.Position.{Position}
use Rattle.canonical_text.specs.declared.positions.Position.TheVariants.{AsValue, AsConstant, AsType, Alone}

-- a table of texts without references
abbrev pub texts_now : List (Bor (List ℕ)) → List (List ℕ)
texts_now [] = []
texts_now (t ∷ ts) = t.now ∷ texts_now ts

-- Words that begin something else than a path at a position, by the grammar of texts. `mut` does so behind `&`.
abbrev pub words_of : Position → List (List ℕ)
words_of AsValue = codes "const" ∷ codes "copy" ∷ codes "move"
    ∷ codes "Add" ∷ codes "Sub" ∷ codes "Mul" ∷ codes "Div" ∷ codes "Rem" ∷ codes "BitXor" ∷ codes "BitAnd" ∷ codes "BitOr" ∷ codes "Shl" ∷ codes "Shr" ∷ codes "Eq" ∷ codes "Lt"
    ∷ codes "Le" ∷ codes "Ne" ∷ codes "Ge" ∷ codes "Gt" ∷ codes "Offset" ∷ codes "AddWithOverflow" ∷ codes "SubWithOverflow" ∷ codes "MulWithOverflow"
    ∷ codes "Not" ∷ codes "Neg" ∷ codes "PtrMetadata" ∷ codes "discriminant" ∷ codes "Len" ∷ codes "SizeOf" ∷ codes "AlignOf" ∷ []
words_of AsConstant = codes "true" ∷ codes "false" ∷ []
words_of AsType = codes "bool" ∷ codes "char" ∷ codes "i8" ∷ codes "i16" ∷ codes "i32" ∷ codes "i64" ∷ codes "i128" ∷ codes "isize" ∷ codes "u8" ∷ codes "u16" ∷ codes "u32" ∷ codes "u64"
    ∷ codes "u128" ∷ codes "usize" ∷ codes "str" ∷ codes "dyn" ∷ codes "mut" ∷ []
words_of Alone = []

unfoldable pub is_reserved : Position → List ℕ → Bool
is_reserved position word = list_any (bytes_eq word) (words_of position)

-- a path alone stands behind this word and a blank
abbrev pub announces_path : List ℕ → Bool
announces_path word = bytes_eq word (codes "as") || bytes_eq word (codes "dyn")

-- The word that stands directly before what comes, behind one more byte.
abbrev pub word_behind : List ℕ → ℕ → List ℕ
word_behind word b = if is_word_byte b then word ++ b ∷ [] else []

-- The position of that word. Behind `::`, `as ` and `dyn ` every word goes on or begins a path, and behind other bytes a type begins.
abbrev pub position_behind : Position → List ℕ → ℕ → Position
position_behind position word b = if is_word_byte b then position else (if (b == 58) || ((b == 32) && announces_path word) then Alone else AsType)

-- of the `<` of an impl segment so many are open behind a byte, before these bytes
abbrev pub open_behind : ℕ → ℕ → List ℕ → ℕ
open_behind depth b rest = if b == 60 then (if (depth == 0) && not (opens_impl rest) then 0 else depth + 1) else (if b == 62 then depth - 1 else depth)

-- `::` before the arguments of such a word; what an impl segment has stays as it is
abbrev pub colons_before : Position → List ℕ → ℕ → ℕ → List ℕ → List ℕ
colons_before position word depth b rest = if (b == 60) && ((depth == 0) && (not (opens_impl rest) && is_reserved position word)) then codes "::" else []

-- what is left of a name, where this word stands before it, at this position, and so many `<` are open
abbrev pub rest_written : Position → List ℕ → ℕ → List ℕ → List ℕ
rest_written position word depth [] = []
rest_written position word depth (b ∷ rest) = colons_before position word depth b rest ++ (b ∷ rest_written (position_behind position word b) (word_behind word b) (open_behind depth b rest) rest)

-- A path at a position: `Add<u8>` as it is in a type, and `Add::<u8>` as a value.
unfoldable pub path_written : Position → List ℕ → List ℕ
path_written position name = rest_written position [] 0 name
