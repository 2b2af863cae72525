-- What the bytes of a token say.
use Rattle.std.specs.Prelude.{⊤, ℕ, ◌+◌, ◌-◌, ◌*◌, ◌<◌, ◌≤◌, Bool, false, ◌&&◌, not, ◌==◌, nat_le, if◌then◌else◌, List, [], ◌∷◌, length, take, drop, Option, Some, None}
use Rattle.std.specs.List.{list_all, prefix_len}
use Rattle.mir_lex.specs.declared.token.Token.{Token}
use Rattle.mir_lex.specs.Bytes.{is_digit, value_from, number_within}
use Rattle.mir_lex.specs.Tokens.{IsToken}

-- the bytes from start up to end; none where there are no such bytes
abbrev pub slice_of : List ℕ → ℕ → ℕ → List ℕ
slice_of source start end = if (nat_le start end && nat_le end (length source)) then take (end - start) (drop start source) else []

-- the bytes of a token, as they are written
abbrev pub text_of : List ℕ → Token → List ℕ
text_of source t = slice_of source t.start t.end

-- decimal digits without a leading zero
abbrev pub is_index : List ℕ → Bool
is_index [] = false
is_index (d ∷ []) = is_digit d
is_index (d ∷ e ∷ ds) = not (d == 48) && list_all is_digit (d ∷ e ∷ ds)

-- _ and such digits: a word that is a local
abbrev pub is_local : List ℕ → Bool
is_local [] = false
is_local (a ∷ digits) = a == 95 && is_index digits

-- bb and such digits: a word that is a label
abbrev pub is_label : List ℕ → Bool
is_label [] = false
is_label (a ∷ []) = false
is_label (a ∷ b ∷ digits) = a == 98 && (b == 98 && is_index digits)

abbrev pub decimal : List ℕ → ℕ
decimal digits = value_from 10 0 digits

-- the number of a local or a block, where 4096 stands for each one past the limit
abbrev pub capped : ℕ → ℕ
capped n = if nat_le n 4095 then n else 4096

-- the digits of a number
abbrev pub digits_of : List ℕ → List ℕ
digits_of text = take (prefix_len is_digit text) text

-- what stands behind the _ of a number, as the name of a type; nothing where there is no suffix
abbrev pub suffix_of : List ℕ → List ℕ
suffix_of text = drop (prefix_len is_digit text + 1) text

-- what stands between the first and the last byte, as between the quotes of a text
abbrev pub between : List ℕ → List ℕ
between text = take (length text - 2) (drop 1 text)

-- what a backslash and one byte mean
abbrev pub escaped : ℕ → ℕ
escaped b = if b == 110 then 10 else (if b == 114 then 13 else (if b == 116 then 9 else (if b == 48 then 0 else b)))

-- the number of a UTF-8 sequence
abbrev pub scalar_value : List ℕ → ℕ
scalar_value [] = 0
scalar_value (a ∷ []) = a
scalar_value (a ∷ b ∷ []) = 64 * (a - 192) + (b - 128)
scalar_value (a ∷ b ∷ c ∷ []) = 4096 * (a - 224) + (64 * (b - 128) + (c - 128))
scalar_value (a ∷ b ∷ c ∷ d ∷ more) = 262144 * (a - 240) + (4096 * (b - 128) + (64 * (c - 128) + (d - 128)))

abbrev pub or_zero : Option ℕ → ℕ
or_zero None = 0
or_zero (Some n) = n

-- what stands between the quotes of a character: a sequence, a backslash with one byte, or \u{h}
abbrev pub quoted_value : List ℕ → ℕ
quoted_value [] = 0
quoted_value (a ∷ []) = a
quoted_value (a ∷ b ∷ []) = if a == 92 then escaped b else scalar_value (a ∷ b ∷ [])
quoted_value (a ∷ b ∷ c ∷ rest) = if a == 92 then or_zero (number_within 16 1114111 (take (length rest - 1) rest)) else scalar_value (a ∷ b ∷ c ∷ rest)

-- the number of a character, from its bytes as they are written
unfoldable pub character_value : List ℕ → ℕ
character_value text = quoted_value (between text)

-- each token is the bytes of the source from its start to its end
abbrev pub AreSlices : List ℕ → List Token → Type 0
AreSlices source [] = ⊤
AreSlices source (t ∷ ts) = IsToken t.kind (text_of source t) × AreSlices source ts

-- tokens stand behind one another, from here to the end of the source
abbrev pub AreInOrder : ℕ → ℕ → List Token → Type 0
AreInOrder here size [] = here ≤ size
AreInOrder here size (t ∷ ts) = (here ≤ t.start) × (t.start < t.end) × AreInOrder t.end size ts
