-- Characters, as they are printed.
use Rattle.std.proofs.Common.{◌≡◌, inl, inr, ℕ, zero, suc, ◌+◌, ◌-◌, ◌*◌, ◌/◌, ◌%◌, ◌<◌, ◌≤◌, Bool, true, false, ◌&&◌, not, ◌==◌, nat_le, nat_lt, if◌then◌else◌, List, [], ◌∷◌, ◌++◌, length, take, Some, None, refl, sym, ◌∙◌, ap, subst, arith, append_assoc, append-nil, length-append}
use Rattle.std.proofs.lemmas.Bool.{and_from, and_parts, eqb-true, le-leb, lt-ltb, leb-true, leb-false, ltb-true, ltb-false, lt-leb, or_cases, or_right, ne_eqb}
use Rattle.std.proofs.lemmas.List.{take_at}
use Rattle.std.specs.List.{list_all}
use Rattle.std.specs.Fmt.{digits, digits_onto, digit_glyph}
use Rattle.mir_lex.specs.declared.token.TokenKind.TheVariants as kind
use Rattle.mir_lex.specs.Bytes.{within, is_hex, is_scalar, is_tail, is_head_of_three, is_head_of_four, is_char, first_is, value_from, digit_value, number_within}
use Rattle.mir_lex.specs.Tokens.{Quoted, Scalar, Escape, Code, written, is_escape, is_code, is_special, is_quoted, IsToken}
use Rattle.mir_lex.specs.Views.{between, escaped, or_zero, quoted_value, character_value}

-- Hexadecimal digits.

abbrev limit : ℕ → ℕ
limit zero = 16
limit (suc j) = 16 * limit j

-- digits behind which these stand
record IsHexOf (n most : ℕ) (acc all : List ℕ) : Type 0 where
  pub ds : List ℕ
  pub joins : all ≡ ds ++ acc
  pub hex : list_all is_hex ds ≡ true
  pub some : 1 ≤ length ds
  pub short : length ds ≤ most
  pub value : value_from 16 0 ds ≡ n

glyph_hex_by : (d : ℕ) → d < 16 → (c : Bool) → nat_lt d 10 ≡ c → is_hex (if c then 48 + d else 87 + d) ≡ true
glyph_hex_by d h true e = let f = ltb-true d 10 e in rw (le-leb 48 (48 + d) (omega arith)) (rw (le-leb (48 + d) 57 (omega arith)) refl)
glyph_hex_by d h false e = let f = ltb-false d 10 e in rw (lt-leb (87 + d) 57 (omega arith)) (rw (le-leb 48 (87 + d) (omega arith)) (rw (le-leb 97 (87 + d) (omega arith)) (rw (le-leb (87 + d) 102 (omega arith)) refl)))

glyph_hex : (d : ℕ) → d < 16 → is_hex (digit_glyph false d) ≡ true
glyph_hex d h = glyph_hex_by d h (nat_lt d 10) refl

glyph_value_by : (d : ℕ) → d < 16 → (c : Bool) → nat_lt d 10 ≡ c → digit_value (if c then 48 + d else 87 + d) ≡ d
glyph_value_by d h true e = let f = ltb-true d 10 e in rw (le-leb (48 + d) 57 (omega arith)) (omega arith)
glyph_value_by d h false e = let f = ltb-false d 10 e in rw (lt-leb (87 + d) 57 (omega arith)) (rw (lt-leb (87 + d) 70 (omega arith)) (omega arith))

glyph_value : (d : ℕ) → d < 16 → digit_value (digit_glyph false d) ≡ d
glyph_value d h = glyph_value_by d h (nat_lt d 10) refl

value_more : (n d : ℕ) (ds : List ℕ) → value_from 16 n (ds ++ d ∷ []) ≡ 16 * value_from 16 n ds + digit_value d
value_more n d [] = refl
value_more n d (c ∷ ds) = value_more (16 * n + digit_value c) d ds

hex_more : (d : ℕ) (ds : List ℕ) → list_all is_hex ds ≡ true → is_hex d ≡ true → list_all is_hex (ds ++ d ∷ []) ≡ true
hex_more d [] h i = rw i refl
hex_more d (c ∷ ds) h i = let p = and_parts (is_hex c) (list_all is_hex ds) h in and_from (is_hex c) (list_all is_hex (ds ++ d ∷ [])) p.0 (hex_more d ds p.1 i)

last_hex : (j n : ℕ) (acc : List ℕ) → n / 16 ≡ 0 → IsHexOf n (suc j) acc (digit_glyph false (n % 16) ∷ acc)
last_hex j n acc h = let low : n % 16 < 16 = omega arith in record {
  ds = digit_glyph false (n % 16) ∷ [];
  joins = refl;
  hex = rw (glyph_hex (n % 16) low) refl;
  some = omega arith;
  short = omega arith;
  value = let e = glyph_value (n % 16) low in omega arith;
}

next_hex : (j n : ℕ) (acc all : List ℕ) → IsHexOf (n / 16) (suc j) (digit_glyph false (n % 16) ∷ acc) all → IsHexOf n (suc (suc j)) acc all
next_hex j n acc all i = let low : n % 16 < 16 = omega arith in record {
  ds = i.ds ++ digit_glyph false (n % 16) ∷ [];
  joins = i.joins ∙ sym (append_assoc i.ds (digit_glyph false (n % 16) ∷ []) acc);
  hex = hex_more (digit_glyph false (n % 16)) i.ds i.hex (glyph_hex (n % 16) low);
  some = let a = i.some in omega (arith, length-append i.ds (digit_glyph false (n % 16) ∷ []));
  short = let a = i.short in omega (arith, length-append i.ds (digit_glyph false (n % 16) ∷ []));
  value = let e = glyph_value (n % 16) low in let f = i.value in value_more 0 (digit_glyph false (n % 16)) i.ds ∙ (let q : 16 * value_from 16 0 i.ds + digit_value (digit_glyph false (n % 16)) ≡ n = omega arith in q);
}

hex_by : (j n : ℕ) (acc more : List ℕ) → IsHexOf (n / 16) (suc j) (digit_glyph false (n % 16) ∷ acc) more → (c : Bool) → (n / 16 == 0) ≡ c → IsHexOf n (suc (suc j)) acc (if c then digit_glyph false (n % 16) ∷ acc else more)
hex_by j n acc more i true e = last_hex (suc j) n acc (eqb-true (n / 16) 0 e)
hex_by j n acc more i false e = next_hex j n acc more i

hex_onto : (j k n : ℕ) (acc : List ℕ) → j ≤ k → n < limit j → IsHexOf n (suc j) acc (digits_onto (suc k) 16 false n acc)
hex_onto zero k n acc h l = let e : n / 16 ≡ 0 = omega arith in rw e (last_hex zero n acc e)
hex_onto (suc j) zero n acc h l = absurd (omega arith)
hex_onto (suc j) (suc k) n acc h l = hex_by j n acc (digits_onto (suc k) 16 false (n / 16) (digit_glyph false (n % 16) ∷ acc)) (hex_onto j k (n / 16) (digit_glyph false (n % 16) ∷ acc) (omega arith) (omega arith)) (n / 16 == 0) refl

char_low : (n : ℕ) → is_char n ≡ true → n < 1114112
char_low n h = elim (or_cases (nat_lt n 55296) (within 57344 1114111 n) h) [
  | inl i ↦ let e = ltb-true n 55296 i in omega arith
  | inr i ↦ let e = leb-true n 1114111 (and_parts (nat_le 57344 n) (nat_le n 1114111) i).1 in omega arith
]

hex_digits : (n : ℕ) → is_char n ≡ true → IsHexOf n 6 [] (digits 16 false n)
unfolding digits
hex_digits n h = let l = char_low n h in hex_onto 5 63 n [] (omega arith) (omega arith)

-- the digits of a character are those of a code
pub char_code : (n : ℕ) → is_char n ≡ true → (is_code (digits 16 false n) ≡ true) × (value_from 16 0 (digits 16 false n) ≡ n)
char_code n h =
    let i = hex_digits n h in
    let e : digits 16 false n ≡ i.ds = i.joins ∙ append-nil i.ds in (
      subst (λ x. is_code x ≡ true) (sym e) (and_from (list_all is_hex i.ds) _ i.hex (and_from (nat_le 1 (length i.ds) && nat_le (length i.ds) 6) (is_char (value_from 16 0 i.ds))
          (and_from (nat_le 1 (length i.ds)) (nat_le (length i.ds) 6) (le-leb 1 (length i.ds) i.some) (le-leb (length i.ds) 6 i.short)) (subst (λ x. is_char x ≡ true) (sym i.value) h))),
      ap (value_from 16 0) e ∙ i.value,
    )

-- What stands between quotes.

between_at : (q : ℕ) (body : List ℕ) → between (q ∷ (body ++ q ∷ [])) ≡ body
between_at q body = let e : length (q ∷ (body ++ q ∷ [])) - 2 ≡ length body = omega (arith, length-append body (q ∷ [])) in ap (λ n. take n (body ++ q ∷ [])) e ∙ take_at body (q ∷ []) (length body) refl

pub between_quotes : (body : List ℕ) → between (34 ∷ (body ++ 34 ∷ [])) ≡ body
between_quotes body = between_at 34 body

small_char : (n : ℕ) → n < 55296 → is_char n ≡ true
small_char n h = rw (lt-ltb n 55296 h) refl

char_within : (n : ℕ) → is_char n ≡ true → (c : Bool) → nat_le n 1114111 ≡ c → or_zero (if c then Some n else None) ≡ n
char_within n h true e = refl
char_within n h false e = let l = char_low n h in absurd (let f = leb-false n 1114111 e in omega arith)

-- the number of \u{h}
code_value : (digits : List ℕ) → is_char (value_from 16 0 digits) ≡ true → quoted_value (written (Code digits)) ≡ value_from 16 0 digits
unfolding number_within
code_value digits h =
    let e : length (digits ++ 125 ∷ []) - 1 ≡ length digits = omega (arith, length-append digits (125 ∷ [])) in
    ap (λ n. or_zero (number_within 16 1114111 (take n (digits ++ 125 ∷ [])))) e ∙ ap (λ x. or_zero (number_within 16 1114111 x)) (take_at digits (125 ∷ []) (length digits) refl)
    ∙ char_within (value_from 16 0 digits) h (nat_le (value_from 16 0 digits) 1114111) refl

pub printed_character : (n : ℕ) → is_char n ≡ true → character_value (39 ∷ (written (Code (digits 16 false n)) ++ 39 ∷ [])) ≡ n
unfolding character_value
printed_character n h = let c = char_code n h in ap quoted_value (between_at 39 (written (Code (digits 16 false n)))) ∙ code_value (digits 16 false n) (subst (λ x. is_char x ≡ true) (sym c.1) h) ∙ c.1

-- The number of each character token is a char.

great_char : (n : ℕ) → 57344 ≤ n → n ≤ 1114111 → is_char n ≡ true
great_char n h i = or_right (nat_lt n 55296) (within 57344 1114111 n) (and_from (nat_le 57344 n) (nat_le n 1114111) (le-leb 57344 n h) (le-leb n 1114111 i))

bounds : (low high x : ℕ) → within low high x ≡ true → (low ≤ x) × (x ≤ high)
bounds low high x h = let p = and_parts (nat_le low x) (nat_le x high) h in (leb-true low x p.0, leb-true x high p.1)

two_char : (a b : ℕ) → within 194 223 a ≡ true → is_tail b ≡ true → is_char (64 * (a - 192) + (b - 128)) ≡ true
two_char a b h i = let p = bounds 194 223 a h in let q = bounds 128 191 b i in let r = p.0 in let s = p.1 in let t = q.0 in let u = q.1 in small_char (64 * (a - 192) + (b - 128)) (omega arith)

abbrev three : ℕ → ℕ → ℕ → ℕ
three a b c = 4096 * (a - 224) + (64 * (b - 128) + (c - 128))

three_small : (a b c : ℕ) → a ≤ 236 → b ≤ 191 → c ≤ 191 → is_char (three a b c) ≡ true
three_small a b c h i j = small_char (three a b c) (omega arith)

three_char : (a b c : ℕ) → is_head_of_three a b ≡ true → is_tail c ≡ true → is_char (three a b c) ≡ true
three_char a b c h i = let q = (bounds 128 191 c i).1 in elim (or_cases ((a == 224) && within 160 191 b) _ h) [
  | inl x ↦ let e = and_parts (a == 224) (within 160 191 b) x in let f = eqb-true a 224 e.0 in three_small a b c (omega arith) (bounds 160 191 b e.1).1 q
  | inr x ↦ elim (or_cases (within 225 236 a && is_tail b) _ x) [
    | inl y ↦ let e = and_parts (within 225 236 a) (is_tail b) y in three_small a b c (bounds 225 236 a e.0).1 (bounds 128 191 b e.1).1 q
    | inr y ↦ elim (or_cases ((a == 237) && within 128 159 b) (within 238 239 a && is_tail b) y) [
      | inl z ↦ let e = and_parts (a == 237) (within 128 159 b) z in let f = eqb-true a 237 e.0 in let g = (bounds 128 159 b e.1).1 in small_char (three a b c) (omega arith)
      | inr z ↦ let e = and_parts (within 238 239 a) (is_tail b) z in let f = bounds 238 239 a e.0 in let g = (bounds 128 191 b e.1).1 in let k = f.0 in let l = f.1 in great_char (three a b c) (omega arith) (omega arith)
    ]
  ]
]

abbrev four : ℕ → ℕ → ℕ → ℕ → ℕ
four a b c d = 262144 * (a - 240) + (4096 * (b - 128) + (64 * (c - 128) + (d - 128)))

four_char : (a b c d : ℕ) → is_head_of_four a b ≡ true → is_tail c ≡ true → is_tail d ≡ true → is_char (four a b c d) ≡ true
four_char a b c d h i j = let q = (bounds 128 191 c i).1 in let r = (bounds 128 191 d j).1 in elim (or_cases ((a == 240) && within 144 191 b) _ h) [
  | inl x ↦ let e = and_parts (a == 240) (within 144 191 b) x in let f = eqb-true a 240 e.0 in let g = bounds 144 191 b e.1 in let k = g.0 in let l = g.1 in great_char (four a b c d) (omega arith) (omega arith)
  | inr x ↦ elim (or_cases (within 241 243 a && is_tail b) ((a == 244) && within 128 143 b) x) [
    | inl y ↦ let e = and_parts (within 241 243 a) (is_tail b) y in let f = bounds 241 243 a e.0 in let g = (bounds 128 191 b e.1).1 in let k = f.0 in let l = f.1 in great_char (four a b c d) (omega arith) (omega arith)
    | inr y ↦ let e = and_parts (a == 244) (within 128 143 b) y in let f = eqb-true a 244 e.0 in let g = (bounds 128 143 b e.1).1 in great_char (four a b c d) (omega arith) (omega arith)
  ]
]

escape_char : (b : ℕ) → is_escape b ≡ true → is_char (escaped b) ≡ true
escape_char b h = elim (or_cases (b == 110) _ h) [
  | inl i ↦ let e = eqb-true b 110 i in rw e refl
  | inr i ↦ elim (or_cases (b == 114) _ i) [
    | inl j ↦ let e = eqb-true b 114 j in rw e refl
    | inr j ↦ elim (or_cases (b == 116) _ j) [
      | inl k ↦ let e = eqb-true b 116 k in rw e refl
      | inr k ↦ elim (or_cases (b == 48) _ k) [
        | inl l ↦ let e = eqb-true b 48 l in rw e refl
        | inr l ↦ elim (or_cases (b == 92) _ l) [
          | inl m ↦ let e = eqb-true b 92 m in rw e refl
          | inr m ↦ elim (or_cases (b == 39) (b == 34) m) [ inl o ↦ let e = eqb-true b 39 o in rw e refl | inr o ↦ let e = eqb-true b 34 o in rw e refl ]
        ]
      ]
    ]
  ]
]

no_slash : (a : ℕ) → 192 ≤ a → (a == 92) ≡ false
no_slash a h = ne_eqb a 92 (λ e. absurd (omega arith))

three_head : (a b : ℕ) → is_head_of_three a b ≡ true → 192 ≤ a
three_head a b h = elim (or_cases ((a == 224) && within 160 191 b) _ h) [
  | inl x ↦ let f = eqb-true a 224 (and_parts (a == 224) (within 160 191 b) x).0 in omega arith
  | inr x ↦ elim (or_cases (within 225 236 a && is_tail b) _ x) [
    | inl y ↦ let f = (bounds 225 236 a (and_parts (within 225 236 a) (is_tail b) y).0).0 in omega arith
    | inr y ↦ elim (or_cases ((a == 237) && within 128 159 b) (within 238 239 a && is_tail b) y) [
      | inl z ↦ let f = eqb-true a 237 (and_parts (a == 237) (within 128 159 b) z).0 in omega arith
      | inr z ↦ let f = (bounds 238 239 a (and_parts (within 238 239 a) (is_tail b) z).0).0 in omega arith
    ]
  ]
]

four_head : (a b : ℕ) → is_head_of_four a b ≡ true → 192 ≤ a
four_head a b h = elim (or_cases ((a == 240) && within 144 191 b) _ h) [
  | inl x ↦ let f = eqb-true a 240 (and_parts (a == 240) (within 144 191 b) x).0 in omega arith
  | inr x ↦ elim (or_cases (within 241 243 a && is_tail b) ((a == 244) && within 128 143 b) x) [
    | inl y ↦ let f = (bounds 241 243 a (and_parts (within 241 243 a) (is_tail b) y).0).0 in omega arith
    | inr y ↦ let f = eqb-true a 244 (and_parts (a == 244) (within 128 143 b) y).0 in omega arith
  ]
]

scalar_char : (bytes : List ℕ) → is_scalar bytes ≡ true → is_char (quoted_value bytes) ≡ true
scalar_char [] h = absurd cc
scalar_char (a ∷ []) h = let l = leb-true a 127 h in small_char a (omega arith)
scalar_char (a ∷ b ∷ []) h = let p = and_parts (within 194 223 a) (is_tail b) h in let l = (bounds 194 223 a p.0).0 in rw (no_slash a (omega arith)) (two_char a b p.0 p.1)
scalar_char (a ∷ b ∷ c ∷ []) h = let p = and_parts (is_head_of_three a b) (is_tail c) h in rw (no_slash a (three_head a b p.0)) (three_char a b c p.0 p.1)
scalar_char (a ∷ b ∷ c ∷ d ∷ []) h = let p = and_parts (is_head_of_four a b) (is_tail c && is_tail d) h in let q = and_parts (is_tail c) (is_tail d) p.1 in rw (no_slash a (four_head a b p.0)) (four_char a b c d p.0 q.0 q.1)
scalar_char (a ∷ b ∷ c ∷ d ∷ e ∷ more) h = absurd cc

quoted_char : (q : Quoted) → is_quoted q ≡ true → is_char (quoted_value (written q)) ≡ true
quoted_char (Scalar bytes) h = scalar_char bytes (and_parts (is_scalar bytes) (not (first_is is_special bytes)) h).0
quoted_char (Escape b) h = escape_char b h
quoted_char (Code digits) h = let p = and_parts (list_all is_hex digits) ((nat_le 1 (length digits) && nat_le (length digits) 6) && is_char (value_from 16 0 digits)) h in
    let c = (and_parts (nat_le 1 (length digits) && nat_le (length digits) 6) (is_char (value_from 16 0 digits)) p.1).1 in subst (λ n. is_char n ≡ true) (sym (code_value digits c)) c

pub token_char : (text : List ℕ) → IsToken kind.Character text → is_char (character_value text) ≡ true
unfolding character_value
token_char text i = subst (λ x. is_char (quoted_value x) ≡ true) (sym (ap between i.1 ∙ between_at 39 (written i.0))) (quoted_char i.0 i.2)
