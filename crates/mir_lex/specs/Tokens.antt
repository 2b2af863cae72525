-- The tokens of a text, and the fault of a text that has none.
use Rattle.std.specs.Prelude.{◌≡◌, ◌⊎◌, ⊤, ℕ, ◌+◌, ◌-◌, ◌^◌, ◌<◌, ◌≤◌, Bool, true, false, ◌&&◌, ◌||◌, not, ◌==◌, nat_le, nat_lt, if◌then◌else◌, List, [], ◌∷◌, ◌++◌, length, codes, Result, Ok, Err}
use Rattle.std.specs.List.{list_all}
use Rattle.vk_core.specs.declared.text_place.TextPlace.{TextPlace}
use Rattle.mir_lex.specs.declared.token.TokenKind.{TokenKind}
use Rattle.mir_lex.specs.declared.token.TokenKind.TheVariants as kind
use Rattle.mir_lex.specs.declared.token.Token.{Token}
use Rattle.mir_lex.specs.declared.fault.FaultKind.{FaultKind}
use Rattle.mir_lex.specs.declared.fault.FaultKind.TheVariants as fault
use Rattle.mir_lex.specs.declared.fault.LexFault.{LexFault}
use Rattle.mir_lex.specs.declared.fault.LexFault.TheVariants as answer
use Rattle.mir_lex.specs.Bytes.{is_separator, is_blank, is_digit, is_hex, is_word_start, is_word_byte, is_quote, is_apostrophe, is_sign_byte, is_double, is_scalar, is_char, is_integer_name, first_is, value_from}
use Rattle.mir_lex.specs.Places.{text_place}

-- What separates tokens.

abbrev pub has_no_line_feed : List ℕ → Bool
has_no_line_feed bytes = list_all (λ b. not (b == 10)) bytes

-- a separating byte, or a comment with these bytes between its // and the line feed that ends it
pub data Separator : Type 0 where
  Blank : ℕ → Separator
  Comment : List ℕ → Separator

-- the bytes begin with these separators, and rest stands behind them
abbrev pub Separates : List ℕ → List Separator → List ℕ → Type 0
Separates bytes [] rest = bytes ≡ rest
Separates bytes (Blank b ∷ more) rest = (mid : List ℕ) × (bytes ≡ b ∷ mid) × (is_separator b ≡ true) × Separates mid more rest
Separates bytes (Comment body ∷ more) rest = (mid : List ℕ) × (bytes ≡ 47 ∷ 47 ∷ (body ++ 10 ∷ mid)) × (has_no_line_feed body ≡ true) × Separates mid more rest

-- a separator begins here
abbrev pub begins_separator : List ℕ → Bool
begins_separator [] = false
begins_separator (b ∷ rest) = is_separator b || ((b == 47) && first_is (λ c. c == 47) rest)

-- nothing is left, or a comment that the text's end ends
abbrev pub IsEnd : List ℕ → Type 0
IsEnd bytes = (bytes ≡ []) ⊎ ((body : List ℕ) × (bytes ≡ 47 ∷ 47 ∷ body) × (has_no_line_feed body ≡ true))

-- What is a token, kind by kind.

-- a letter or _, then letters, digits and _
abbrev pub is_word : List ℕ → Bool
is_word text = first_is is_word_start text && list_all is_word_byte text

-- decimal digits, at least one
abbrev pub is_decimal : List ℕ → Bool
is_decimal text = first_is is_digit text && list_all is_digit text

-- nothing, or _ and the name of an integer type
abbrev pub is_suffix : List ℕ → Bool
is_suffix [] = true
is_suffix (a ∷ name) = (a == 95) && is_integer_name name

-- what stands between the quotes of a text: bytes from 0x20 on, of which a backslash takes the next one with it,
-- and a quote stands only behind a backslash. The test says whether a backslash stands before these bytes.
abbrev pub is_text_body : Bool → List ℕ → Bool
is_text_body escaped [] = not escaped
is_text_body true (b ∷ rest) = nat_le 32 b && is_text_body false rest
is_text_body false (b ∷ rest) = if b == 92 then is_text_body true rest else (nat_le 32 b && (not (b == 34) && is_text_body false rest))

-- what stands between the quotes of a character: a UTF-8 sequence as it is, a backslash with one byte, or \u{h} with
-- these digits
pub data Quoted : Type 0 where
  Scalar : List ℕ → Quoted
  Escape : ℕ → Quoted
  Code : List ℕ → Quoted

abbrev pub written : Quoted → List ℕ
written (Scalar bytes) = bytes
written (Escape b) = 92 ∷ b ∷ []
written (Code digits) = 92 ∷ 117 ∷ 123 ∷ digits ++ 125 ∷ []

-- n, r, t, 0, a backslash, ' or "
abbrev pub is_escape : ℕ → Bool
is_escape b = (b == 110) || ((b == 114) || ((b == 116) || ((b == 48) || ((b == 92) || ((b == 39) || (b == 34))))))

-- 1 to 6 hexadecimal digits of a char
abbrev pub is_code : List ℕ → Bool
is_code digits = list_all is_hex digits && ((nat_le 1 (length digits) && nat_le (length digits) 6) && is_char (value_from 16 0 digits))

-- ' or a backslash
abbrev pub is_special : ℕ → Bool
is_special b = (b == 39) || (b == 92)

abbrev pub is_quoted : Quoted → Bool
is_quoted (Scalar bytes) = is_scalar bytes && not (first_is is_special bytes)
is_quoted (Escape b) = is_escape b
is_quoted (Code digits) = is_code digits

-- what stands in an impl segment behind its blank: bytes from 0x20 on in which each > ends a <, and of the < that are
-- open, so many at the start, all but the first end
abbrev pub is_segment_body : ℕ → List ℕ → Bool
is_segment_body depth [] = depth == 1
is_segment_body depth (b ∷ rest) = if b == 60 then is_segment_body (depth + 1) rest
    else (if b == 62 then (nat_lt 1 depth && is_segment_body (depth - 1) rest) else (nat_le 32 b && is_segment_body depth rest))

abbrev pub is_sign : List ℕ → Bool
is_sign [] = false
is_sign (a ∷ []) = is_sign_byte a
is_sign (a ∷ b ∷ []) = is_double a b
is_sign (a ∷ b ∷ c ∷ more) = false

-- the text is a token of this kind
abbrev pub IsToken : TokenKind → List ℕ → Type 0
IsToken kind.Word text = (is_word text ≡ true) × (length text ≤ 256)
IsToken kind.Number text = (digits suffix : List ℕ) × (text ≡ digits ++ suffix) × (is_decimal digits ≡ true) × (value_from 10 0 digits < 2 ^ 128) × (is_suffix suffix ≡ true)
IsToken kind.Text text = (body : List ℕ) × (text ≡ 34 ∷ (body ++ 34 ∷ [])) × (is_text_body false body ≡ true)
IsToken kind.Character text = (quoted : Quoted) × (text ≡ 39 ∷ (written quoted ++ 39 ∷ [])) × (is_quoted quoted ≡ true)
IsToken kind.Lifetime text = (word : List ℕ) × (text ≡ 39 ∷ word) × (is_word word ≡ true) × (length word ≤ 256)
IsToken kind.ImplSegment text = (blank : ℕ) × (body : List ℕ) × (text ≡ codes "<impl" ++ blank ∷ (body ++ 62 ∷ [])) × (is_blank blank ≡ true) × (is_segment_body 1 body ≡ true)
IsToken kind.Sign text = is_sign text ≡ true

-- impl and a blank
abbrev pub opens_impl : List ℕ → Bool
opens_impl [] = false
opens_impl (a ∷ []) = false
opens_impl (a ∷ b ∷ []) = false
opens_impl (a ∷ b ∷ c ∷ []) = false
opens_impl (a ∷ b ∷ c ∷ d ∷ []) = false
opens_impl (a ∷ b ∷ c ∷ d ∷ e ∷ rest) = (a == 105) && ((b == 109) && ((c == 112) && ((d == 108) && is_blank e)))

-- a sign of one byte ends before rest: no sign of two bytes and no impl segment begins here
abbrev pub sign_ends : List ℕ → List ℕ → Bool
sign_ends [] rest = true
sign_ends (a ∷ []) rest = not (first_is (is_double a) rest) && not ((a == 60) && opens_impl rest)
sign_ends (a ∷ b ∷ more) rest = true

-- such a token ends before rest: no longer one begins here. A lifetime has no ' behind it.
abbrev pub ends : TokenKind → List ℕ → List ℕ → Bool
ends kind.Word text rest = not (first_is is_word_byte rest)
ends kind.Number text rest = not (first_is is_word_byte rest)
ends kind.Text text rest = true
ends kind.Character text rest = true
ends kind.Lifetime text rest = not (first_is is_word_byte rest) && not (first_is is_apostrophe rest)
ends kind.ImplSegment text rest = true
ends kind.Sign text rest = sign_ends text rest

-- a token of this kind stands at the front of the bytes
abbrev pub Begins : TokenKind → List ℕ → Type 0
Begins k bytes = (text rest : List ℕ) × (bytes ≡ text ++ rest) × IsToken k text × (ends k text rest ≡ true)

-- What is no token, fault by fault.

-- a word of more than 256 bytes
abbrev pub BeginsLongWord : List ℕ → Type 0
BeginsLongWord bytes = (word rest : List ℕ) × (bytes ≡ word ++ rest) × (is_word word ≡ true) × (first_is is_word_byte rest ≡ false) × (256 < length word)

-- ' and such a word, with no ' behind it
abbrev pub BeginsLongLifetime : List ℕ → Type 0
BeginsLongLifetime bytes = (word rest : List ℕ) × (bytes ≡ 39 ∷ (word ++ rest)) × (is_word word ≡ true) × (ends kind.Lifetime (39 ∷ word) rest ≡ true) × (256 < length word)

-- digits of a number that is too great
abbrev pub BeginsWideNumber : List ℕ → Type 0
BeginsWideNumber bytes = (digits rest : List ℕ) × (bytes ≡ digits ++ rest) × (is_decimal digits ≡ true) × (first_is is_digit rest ≡ false) × (2 ^ 128 ≤ value_from 10 0 digits)

-- the longest digits with a suffix at the front are a number of n bytes, and a letter, _ or digit stands directly behind
abbrev pub GoesOn : ℕ → List ℕ → Type 0
GoesOn n bytes = (digits suffix rest : List ℕ) × (bytes ≡ (digits ++ suffix) ++ rest) × (is_decimal digits ≡ true) × (value_from 10 0 digits < 2 ^ 128) × (is_suffix suffix ≡ true)
    × (length (digits ++ suffix) ≡ n) × (first_is is_word_byte rest ≡ true)
    × ((more end behind : List ℕ) → bytes ≡ (more ++ end) ++ behind → is_decimal more ≡ true → is_suffix end ≡ true → length (more ++ end) ≤ n)

-- a byte with which a token may begin
abbrev pub is_first : ℕ → Bool
is_first b = is_word_start b || (is_digit b || (is_quote b || (is_apostrophe b || is_sign_byte b)))

abbrev pub opens_segment : List ℕ → Bool
opens_segment [] = false
opens_segment (a ∷ rest) = (a == 60) && opens_impl rest

-- a " that begins no text, a ' that begins no character and no lifetime, or an <impl with its blank that begins no
-- impl segment
pub data OpensOnly (bytes : List ℕ) : Type 0 where
  OpenQuote : first_is is_quote bytes ≡ true → (Begins kind.Text bytes → ⊥) → OpensOnly bytes
  OpenApostrophe : first_is is_apostrophe bytes ≡ true → (Begins kind.Character bytes → ⊥) → (Begins kind.Lifetime bytes → ⊥) → (BeginsLongLifetime bytes → ⊥) → OpensOnly bytes
  OpenSegment : opens_segment bytes ≡ true → (Begins kind.ImplSegment bytes → ⊥) → OpensOnly bytes

-- No token stands at the front of the bytes, and the fault stands so many bytes on: a bad byte is any other one, or the
-- one directly behind a number; a lifetime whose word is too long faults at that word.
abbrev pub IsFault : FaultKind → ℕ → List ℕ → Type 0
IsFault fault.BadByte skip bytes = ((skip ≡ 0) × (b : ℕ) × (rest : List ℕ) × (bytes ≡ b ∷ rest) × (is_first b ≡ false)) ⊎ GoesOn skip bytes
IsFault fault.OpenText skip bytes = (skip ≡ 0) × OpensOnly bytes
IsFault fault.NumberTooWide skip bytes = (skip ≡ 0) × BeginsWideNumber bytes
IsFault fault.NameTooLong skip bytes = ((skip ≡ 0) × BeginsLongWord bytes) ⊎ ((skip ≡ 1) × BeginsLongLifetime bytes)

-- Whole texts.

-- The last bytes of a text of this size begin with these tokens in order, with separators between them, and rest stands
-- behind them. What stands before a token is what the text has more than the bytes from the token on.
abbrev pub LexesTo : ℕ → List ℕ → List Token → List ℕ → Type 0
LexesTo size bytes [] rest = bytes ≡ rest
LexesTo size bytes (t ∷ ts) rest = (gap : List Separator) × (mid text behind : List ℕ) × Separates bytes gap mid × (mid ≡ text ++ behind) × IsToken t.kind text
    × (ends t.kind text behind ≡ true) × (t.start ≡ size - length mid) × (t.end ≡ t.start + length text) × LexesTo size behind ts rest

-- the text is these tokens, and separators
abbrev pub Lexes : List ℕ → List Token → Type 0
Lexes text ts = (rest mid : List ℕ) × (gap : List Separator) × LexesTo (length text) text ts rest × Separates rest gap mid × IsEnd mid

-- The text begins with tokens, and behind separators, where no other stands, the fault is found so many bytes into the
-- text. This is the earliest place at which no token begins: before it all is tokens and separators.
abbrev pub Fails : List ℕ → FaultKind → ℕ → Type 0
Fails text kind offset = (ts : List Token) × (rest mid : List ℕ) × (gap : List Separator) × (skip : ℕ) × LexesTo (length text) text ts rest × Separates rest gap mid
    × (begins_separator mid ≡ false) × IsFault kind skip mid × (offset ≡ length text - length mid + skip)

abbrev pub FailsAt : List ℕ → FaultKind → TextPlace → Type 0
FailsAt text kind place = (offset : ℕ) × Fails text kind offset × (place ≡ text_place text offset)

-- the right answer for a text; want of memory is the one that needs no cause
abbrev pub IsLexing : List ℕ → Result (List Token) LexFault → Type 0
IsLexing text (Ok ts) = Lexes text ts
IsLexing text (Err (answer.BadByte place)) = FailsAt text fault.BadByte place
IsLexing text (Err (answer.OpenText place)) = FailsAt text fault.OpenText place
IsLexing text (Err (answer.NumberTooWide place)) = FailsAt text fault.NumberTooWide place
IsLexing text (Err (answer.NameTooLong place)) = FailsAt text fault.NameTooLong place
IsLexing text (Err answer.Memory) = ⊤
