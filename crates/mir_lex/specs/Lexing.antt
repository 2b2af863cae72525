-- The token at the front of bytes, as functions.
use Rattle.std.specs.Prelude.{ℕ, zero, suc, ◌+◌, ◌-◌, ◌^◌, Bool, true, false, ◌&&◌, ◌||◌, not, ◌==◌, nat_le, nat_lt, if◌then◌else◌, List, [], ◌∷◌, length, take, drop, codes, Option, Some, None, unwrap_or, Result, Ok, Err}
use Rattle.std.specs.List.{prefix_len}
use Rattle.mir_lex.specs.declared.token.TokenKind.{TokenKind}
use Rattle.mir_lex.specs.declared.token.TokenKind.TheVariants as kind
use Rattle.mir_lex.specs.declared.token.Token.{Token}
use Rattle.mir_lex.specs.declared.fault.FaultKind.{FaultKind}
use Rattle.mir_lex.specs.declared.fault.FaultKind.TheVariants as fault
use Rattle.mir_lex.specs.declared.front.Found.{Found}
use Rattle.mir_lex.specs.declared.front.Fault.{Fault}
use Rattle.mir_lex.specs.Bytes.{is_separator, is_digit, is_hex, is_word_start, is_word_byte, is_quote, is_apostrophe, is_sign_byte, is_double, is_scalar, is_char, first_is, starts, number_within}
use Rattle.mir_lex.specs.Tokens.{is_escape, opens_segment}

-- a token and how many bytes it has, or a fault and how many bytes stand before it
abbrev pub Front : Type 0
Front = Result Found Fault

abbrev pub token_of : TokenKind → ℕ → Front
token_of k n = Ok (record { kind = k; size = n })

abbrev pub failed : FaultKind → ℕ → Front
failed k n = Err (record { kind = k; skip = n })

-- Without the separators at the front. The test says whether a comment is open.
abbrev pub skipped : Bool → List ℕ → List ℕ
skipped comment [] = []
skipped true (b ∷ rest) = skipped (not (b == 10)) rest
skipped false (b ∷ rest) = if is_separator b then skipped false rest else (if (b == 47 && first_is (λ c. c == 47) rest) then skipped true rest else b ∷ rest)

abbrev pub more : Option ℕ → Option ℕ
more None = None
more (Some n) = Some (n + 1)

unfoldable pub word_at : List ℕ → Front
word_at bytes = if nat_le (prefix_len is_word_byte bytes) 256 then token_of kind.Word (prefix_len is_word_byte bytes) else failed fault.NameTooLong 0

-- how many bytes 8, 16, 32, 64, 128 or size takes at the front
abbrev pub width_len : List ℕ → Option ℕ
width_len bytes = if starts (codes "8") bytes then Some 1 else (if (starts (codes "16") bytes || (starts (codes "32") bytes || starts (codes "64") bytes)) then Some 2
    else (if starts (codes "128") bytes then Some 3 else (if starts (codes "size") bytes then Some 4 else None)))

abbrev pub name_len : List ℕ → Option ℕ
name_len [] = None
name_len (a ∷ rest) = if (a == 105 || a == 117) then more (width_len rest) else None

unfoldable pub suffix_len : List ℕ → Option ℕ
suffix_len [] = None
suffix_len (a ∷ rest) = if a == 95 then more (name_len rest) else None

-- a number of n bytes
abbrev pub number_of : ℕ → List ℕ → Front
number_of n bytes = if first_is is_word_byte (drop n bytes) then failed fault.BadByte n else token_of kind.Number n

-- a number of n digits
abbrev pub digits_of : ℕ → List ℕ → Option ℕ → Front
digits_of n bytes None = failed fault.NumberTooWide 0
digits_of n bytes (Some value) = number_of (n + unwrap_or (suffix_len (drop n bytes)) 0) bytes

unfoldable pub number_at : List ℕ → Front
number_at bytes = digits_of (prefix_len is_digit bytes) bytes (number_within 10 (2 ^ 128 - 1) (take (prefix_len is_digit bytes) bytes))

-- how many bytes stand before the quote that ends a text; the test says whether a backslash stands before these bytes
abbrev pub body_len : Bool → List ℕ → Option ℕ
body_len escaped [] = None
body_len true (b ∷ rest) = if nat_le 32 b then more (body_len false rest) else None
body_len false (b ∷ rest) = if b == 34 then Some 0 else (if b == 92 then more (body_len true rest) else (if nat_le 32 b then more (body_len false rest) else None))

-- a token with so many bytes beside these, if it ends
abbrev pub closed : TokenKind → ℕ → Option ℕ → Front
closed k beside None = failed fault.OpenText 0
closed k beside (Some n) = token_of k (n + beside)

-- behind the first quote
unfoldable pub text_at : List ℕ → Front
text_at bytes = closed kind.Text 2 (body_len false bytes)

-- how many bytes the UTF-8 sequence at the front has
unfoldable pub scalar_len : List ℕ → Option ℕ
scalar_len bytes = if is_scalar (take 1 bytes) then Some 1 else (if is_scalar (take 2 bytes) then Some 2
    else (if is_scalar (take 3 bytes) then Some 3 else (if is_scalar (take 4 bytes) then Some 4 else None)))

abbrev pub codes_char : Option ℕ → Bool
codes_char None = false
codes_char (Some c) = is_char c

-- so many digits at the front, and a bracket behind them, are those of \u{h}
abbrev pub is_code_of : ℕ → List ℕ → Bool
is_code_of n bytes = (nat_le 1 n && nat_le n 6) && (codes_char (number_within 16 1114111 (take n bytes)) && first_is (λ c. c == 125) (drop n bytes))

-- how many bytes the digits of \u{h} and their bracket have
unfoldable pub code_len : List ℕ → Option ℕ
code_len bytes = if is_code_of (prefix_len is_hex bytes) bytes then Some (prefix_len is_hex bytes + 1) else None

-- behind a backslash
abbrev pub escape_len : List ℕ → Option ℕ
escape_len [] = None
escape_len (a ∷ []) = if is_escape a then Some 1 else None
escape_len (a ∷ b ∷ rest) = if is_escape a then Some 1 else (if (a == 117 && b == 123) then more (more (code_len rest)) else None)

-- between the quotes of a character
abbrev pub quoted_len : List ℕ → Option ℕ
quoted_len [] = None
quoted_len (a ∷ rest) = if a == 92 then more (escape_len rest) else (if a == 39 then None else scalar_len (a ∷ rest))

-- where a ' stands behind n bytes
abbrev pub quote_behind : List ℕ → Option ℕ → Option ℕ
quote_behind bytes None = None
quote_behind bytes (Some n) = if first_is is_apostrophe (drop n bytes) then Some n else None

-- a word of n bytes behind a '
abbrev pub lifetime_of : ℕ → List ℕ → Front
lifetime_of n bytes = if first_is is_apostrophe (drop n bytes) then failed fault.OpenText 0
    else (if nat_le n 256 then token_of kind.Lifetime (n + 1) else failed fault.NameTooLong 1)

unfoldable pub lifetime_at : List ℕ → Front
lifetime_at bytes = if first_is is_word_start bytes then lifetime_of (prefix_len is_word_byte bytes) bytes else failed fault.OpenText 0

abbrev pub character_or : Front → Option ℕ → Front
character_or lifetime None = lifetime
character_or lifetime (Some n) = token_of kind.Character (n + 2)

-- behind a '
unfoldable pub quote_at : List ℕ → Front
quote_at bytes = character_or (lifetime_at bytes) (quote_behind bytes (quoted_len bytes))

-- how many bytes stand before the > that ends the first of the < that are open, so many at the start
abbrev pub segment_len : ℕ → List ℕ → Option ℕ
segment_len depth [] = None
segment_len depth (b ∷ rest) = if b == 60 then more (segment_len (depth + 1) rest)
    else (if b == 62 then (if nat_lt 1 depth then more (segment_len (depth - 1) rest) else Some 0)
    else (if nat_le 32 b then more (segment_len depth rest) else None))

-- behind <impl and its blank
unfoldable pub segment_at : List ℕ → Front
segment_at bytes = closed kind.ImplSegment 7 (segment_len 1 bytes)

unfoldable pub sign_at : List ℕ → Front
sign_at [] = failed fault.BadByte 0
sign_at (a ∷ rest) = if first_is (is_double a) rest then token_of kind.Sign 2 else (if is_sign_byte a then token_of kind.Sign 1 else failed fault.BadByte 0)

-- the token that comes
unfoldable pub token_at : List ℕ → Front
token_at [] = failed fault.BadByte 0
token_at (b ∷ rest) = if is_word_start b then word_at (b ∷ rest)
    else (if is_digit b then number_at (b ∷ rest)
    else (if is_quote b then text_at rest
    else (if is_apostrophe b then quote_at rest
    else (if opens_segment (b ∷ rest) then segment_at (drop 6 (b ∷ rest))
    else sign_at (b ∷ rest)))))

-- tokens, or a fault and how many bytes of the text stand before it
abbrev pub Lexed : Type 0
Lexed = Result (List Token) Fault

abbrev pub before : Token → Lexed → Lexed
before t (Err e) = Err e
before t (Ok ts) = Ok (t ∷ ts)

-- what comes at the front of mid, so many bytes into the text, before those behind it, more being what reads them
abbrev pub with_front : (List ℕ → Lexed) → ℕ → List ℕ → Front → Lexed
with_front more start mid (Err e) = Err (record { kind = e.kind; skip = start + e.skip })
with_front more start mid (Ok f) = before (record { kind = f.kind; start = start; end = start + f.size }) (more (drop f.size mid))

-- tokens of a text of this size, of which these bytes are left, without separators at the front
abbrev pub lexed_here : (List ℕ → Lexed) → ℕ → List ℕ → Lexed
lexed_here more size [] = Ok []
lexed_here more size (b ∷ rest) = with_front more (size - length (b ∷ rest)) (b ∷ rest) (token_at (b ∷ rest))

-- the same with separators at the front, and at most so many tokens less one
abbrev pub lexed_from : ℕ → ℕ → List ℕ → Lexed
lexed_from zero size bytes = Err (record { kind = fault.BadByte; skip = 0 })
lexed_from (suc n) size bytes = lexed_here (lexed_from n size) size (skipped false bytes)

unfoldable pub lexed : List ℕ → Lexed
lexed text = lexed_from (length text + 1) (length text) text
