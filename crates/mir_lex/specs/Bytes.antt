-- Classes of bytes, and what runs of them write.
use Rattle.std.specs.Prelude.{ℕ, ◌+◌, ◌-◌, ◌*◌, Bool, true, false, ◌&&◌, ◌||◌, ◌==◌, nat_le, nat_lt, if◌then◌else◌, List, [], ◌∷◌, codes, Option, Some, None}
use Rattle.std.specs.Str.{bytes_eq}

abbrev pub within : ℕ → ℕ → ℕ → Bool
within low high b = nat_le low b && nat_le b high

-- a space, a tab, a carriage return or a line feed
abbrev pub is_separator : ℕ → Bool
is_separator b = (b == 32) || ((b == 9) || ((b == 13) || (b == 10)))

-- a space or a tab
abbrev pub is_blank : ℕ → Bool
is_blank b = (b == 32) || (b == 9)

abbrev pub is_digit : ℕ → Bool
is_digit b = within 48 57 b

-- a digit, or a to f of either case
abbrev pub is_hex : ℕ → Bool
is_hex b = is_digit b || (within 97 102 b || within 65 70 b)

-- a letter or _
abbrev pub is_word_start : ℕ → Bool
is_word_start b = within 97 122 b || (within 65 90 b || (b == 95))

abbrev pub is_word_byte : ℕ → Bool
is_word_byte b = is_word_start b || is_digit b

-- "
abbrev pub is_quote : ℕ → Bool
is_quote b = b == 34

-- '
abbrev pub is_apostrophe : ℕ → Bool
is_apostrophe b = b == 39

-- ( ) { } [ ] < >
abbrev pub is_bracket : ℕ → Bool
is_bracket b = (b == 40) || ((b == 41) || ((b == 123) || ((b == 125) || ((b == 91) || ((b == 93) || ((b == 60) || (b == 62)))))))

-- , ; : . = & * ! + -
abbrev pub is_point : ℕ → Bool
is_point b = (b == 44) || ((b == 59) || ((b == 58) || ((b == 46) || ((b == 61) || ((b == 38) || ((b == 42) || ((b == 33) || ((b == 43) || (b == 45)))))))))

-- the signs of one byte
abbrev pub is_sign_byte : ℕ → Bool
is_sign_byte b = is_bracket b || is_point b

-- the signs of two bytes: -> => ::
abbrev pub is_double : ℕ → ℕ → Bool
is_double a b = ((a == 45) && (b == 62)) || (((a == 61) && (b == 62)) || ((a == 58) && (b == 58)))

-- the bytes begin with one that passes
abbrev pub first_is : (ℕ → Bool) → List ℕ → Bool
first_is p [] = false
first_is p (b ∷ rest) = p b

-- the bytes begin with these
abbrev pub starts : List ℕ → List ℕ → Bool
starts [] bytes = true
starts (c ∷ needle) [] = false
starts (c ∷ needle) (b ∷ bytes) = (b == c) && starts needle bytes

-- what a digit, or a to f of either case, counts
abbrev pub digit_value : ℕ → ℕ
digit_value b = if nat_le b 57 then b - 48 else (if nat_le b 70 then b - 55 else b - 87)

-- the number that digits write behind n, in this base
abbrev pub value_from : ℕ → ℕ → List ℕ → ℕ
value_from base n [] = n
value_from base n (d ∷ ds) = value_from base (base * n + digit_value d) ds

-- the number that digits write, where it is at most this
unfoldable pub number_within : ℕ → ℕ → List ℕ → Option ℕ
number_within base most digits = if nat_le (value_from base 0 digits) most then Some (value_from base 0 digits) else None

-- 8, 16, 32, 64, 128 or size
abbrev pub is_width : List ℕ → Bool
is_width text = bytes_eq text (codes "8") || (bytes_eq text (codes "16") || (bytes_eq text (codes "32") || (bytes_eq text (codes "64")
    || (bytes_eq text (codes "128") || bytes_eq text (codes "size")))))

-- the name of an integer type
abbrev pub is_integer_name : List ℕ → Bool
is_integer_name [] = false
is_integer_name (a ∷ width) = ((a == 105) || (a == 117)) && is_width width

-- a byte that goes on with a UTF-8 sequence
abbrev pub is_tail : ℕ → Bool
is_tail b = within 128 191 b

-- the first two bytes of a well-formed UTF-8 sequence of three, and of four
abbrev pub is_head_of_three : ℕ → ℕ → Bool
is_head_of_three a b = ((a == 224) && within 160 191 b) || ((within 225 236 a && is_tail b) || (((a == 237) && within 128 159 b) || (within 238 239 a && is_tail b)))

abbrev pub is_head_of_four : ℕ → ℕ → Bool
is_head_of_four a b = ((a == 240) && within 144 191 b) || ((within 241 243 a && is_tail b) || ((a == 244) && within 128 143 b))

-- One well-formed UTF-8 sequence, by the rows of the Unicode Standard's table of them: 00..7F; C2..DF 80..BF;
-- E0 A0..BF, E1..EC 80..BF, ED 80..9F and EE..EF 80..BF with one more 80..BF; F0 90..BF, F1..F3 80..BF and F4 80..8F
-- with two more.
abbrev pub is_scalar : List ℕ → Bool
is_scalar [] = false
is_scalar (a ∷ []) = nat_le a 127
is_scalar (a ∷ b ∷ []) = within 194 223 a && is_tail b
is_scalar (a ∷ b ∷ c ∷ []) = is_head_of_three a b && is_tail c
is_scalar (a ∷ b ∷ c ∷ d ∷ []) = is_head_of_four a b && (is_tail c && is_tail d)
is_scalar (a ∷ b ∷ c ∷ d ∷ e ∷ more) = false

-- 0 to 0xD7FF, or 0xE000 to 0x10FFFF
abbrev pub is_char : ℕ → Bool
is_char c = nat_lt c 55296 || within 57344 1114111 c
