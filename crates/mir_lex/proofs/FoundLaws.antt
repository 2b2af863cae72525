-- Each token is found at the front of its bytes.
use Rattle.std.proofs.Common.{◌≡◌, ℕ, ◌+◌, ◌<◌, ◌≤◌, Bool, true, false, ◌==◌, not, ◌&&◌, ◌||◌, nat_le, List, [], ◌∷◌, ◌++◌, length, codes, Some, None, refl, sym, ◌∙◌, ap, subst, arith, append_assoc, length-append}
use Rattle.std.proofs.lemmas.Bool.{and_parts, and_left, or_left, or_from, or_parts, not-true}
use Rattle.std.proofs.lemmas.Bool.Decides.{nat_tests}
use Rattle.std.specs.List.{list_all}
use Rattle.mir_lex.specs.declared.token.TokenKind.{TokenKind}
use Rattle.mir_lex.specs.declared.token.TokenKind.TheVariants as kind
use Rattle.mir_lex.specs.Bytes.{is_digit, is_word_start, is_word_byte, is_quote, is_apostrophe, is_separator, is_sign_byte, is_double, first_is}
use Rattle.mir_lex.specs.Tokens.{is_word, is_decimal, written, is_sign, sign_ends, opens_impl, opens_segment, begins_separator, IsToken, ends}
use Rattle.mir_lex.specs.Lexing.{token_of, scalar_len, quoted_len, quote_behind, character_or, lifetime_at, quote_at, sign_at, token_at}
use Rattle.mir_lex.proofs.WordLaws.{lifetime_again}
use Rattle.mir_lex.proofs.TokenLaws.{token_text, token_quote, token_segment, token_sign, word_found, number_found, text_found, character_found, segment_again_at}

-- a word behind a ' is no character, where no ' stands behind it
ascii_start : (a : ℕ) → is_word_start a ≡ true → nat_le a 127 ≡ true
ascii_start a h = grind (arith, nat_tests)

start_no_slash : (a : ℕ) → is_word_start a ≡ true → (a == 92) ≡ false
start_no_slash a h = grind (arith, nat_tests)

byte_no_apostrophe : (a : ℕ) → is_word_byte a ≡ true → is_apostrophe a ≡ false
byte_no_apostrophe a h = grind (arith, nat_tests)

one_scalar : (a : ℕ) (rest : List ℕ) → is_word_start a ≡ true → scalar_len (a ∷ rest) ≡ Some 1
unfolding scalar_len
one_scalar a rest h = rw (ascii_start a h) refl

start_is_byte : (b : ℕ) → is_word_start b ≡ true → is_word_byte b ≡ true
start_is_byte b h = or_left (is_word_start b) (is_digit b) h

one_quoted : (a : ℕ) (rest : List ℕ) → is_word_start a ≡ true → quoted_len (a ∷ rest) ≡ Some 1
one_quoted a rest h = rw (start_no_slash a h) (rw (byte_no_apostrophe a (start_is_byte a h)) (one_scalar a rest h))

no_quote_behind : (a : ℕ) (rest : List ℕ) → is_word_start a ≡ true → first_is is_apostrophe rest ≡ false → quote_behind (a ∷ rest) (quoted_len (a ∷ rest)) ≡ None
no_quote_behind a rest h n = ap (quote_behind (a ∷ rest)) (one_quoted a rest h) ∙ rw n refl

word_no_quote : (word rest : List ℕ) → list_all is_word_byte word ≡ true → first_is is_apostrophe rest ≡ false → first_is is_apostrophe (word ++ rest) ≡ false
word_no_quote [] rest g n = n
word_no_quote (b ∷ word) rest g n = byte_no_apostrophe b (and_parts (is_word_byte b) (list_all is_word_byte word) g).0

word_no_character : (word rest : List ℕ) → is_word word ≡ true → first_is is_apostrophe rest ≡ false → quote_behind (word ++ rest) (quoted_len (word ++ rest)) ≡ None
word_no_character [] rest g n = cc
word_no_character (a ∷ word) rest g n =
    let p = and_parts (is_word_start a) (list_all is_word_byte (a ∷ word)) g in
    let q = and_parts (is_word_byte a) (list_all is_word_byte word) p.1 in
    no_quote_behind a (word ++ rest) p.0 (word_no_quote word rest q.1 n)

pub quote_lifetime : (word rest : List ℕ) → is_word word ≡ true → ends kind.Lifetime (39 ∷ word) rest ≡ true → quote_at (word ++ rest) ≡ lifetime_at (word ++ rest)
unfolding quote_at
quote_lifetime word rest g e =
    let s = and_parts (not (first_is is_word_byte rest)) (not (first_is is_apostrophe rest)) e in
    ap (character_or (lifetime_at (word ++ rest))) (word_no_character word rest g (not-true (first_is is_apostrophe rest) s.1))

lifetime_found : (word rest : List ℕ) → is_word word ≡ true → length word ≤ 256 → ends kind.Lifetime (39 ∷ word) rest ≡ true → quote_at (word ++ rest) ≡ token_of kind.Lifetime (length (39 ∷ word))
lifetime_found word rest g l e =
    let n : length word + 1 ≡ length (39 ∷ word) = omega arith in
    quote_lifetime word rest g e ∙ lifetime_again word rest g l e ∙ ap (token_of kind.Lifetime) n

sign_no_word : (a : ℕ) → is_sign_byte a ≡ true → is_word_start a ≡ false
sign_no_word a h = grind (arith, nat_tests)

sign_no_digit : (a : ℕ) → is_sign_byte a ≡ true → is_digit a ≡ false
sign_no_digit a h = grind (arith, nat_tests)

sign_no_quote : (a : ℕ) → is_sign_byte a ≡ true → is_quote a ≡ false
sign_no_quote a h = grind (arith, nat_tests)

sign_no_apostrophe : (a : ℕ) → is_sign_byte a ≡ true → is_apostrophe a ≡ false
sign_no_apostrophe a h = grind (arith, nat_tests)

pub double_sign : (a b : ℕ) → is_double a b ≡ true → is_sign_byte a ≡ true
double_sign a b h = grind (arith, nat_tests)

double_no_open : (a b : ℕ) → is_double a b ≡ true → (a == 60) ≡ false
double_no_open a b h = grind (arith, nat_tests)

sign_front : (a : ℕ) (rest : List ℕ) → is_sign_byte a ≡ true → opens_segment (a ∷ rest) ≡ false → token_at (a ∷ rest) ≡ sign_at (a ∷ rest)
sign_front a rest s o = token_sign a rest (sign_no_word a s) (sign_no_digit a s) (sign_no_quote a s) (sign_no_apostrophe a s) o

single_at : (a : ℕ) (rest : List ℕ) → is_sign_byte a ≡ true → first_is (is_double a) rest ≡ false → sign_at (a ∷ rest) ≡ token_of kind.Sign 1
unfolding sign_at
single_at a rest s d = rw d (rw s refl)

double_at : (a b : ℕ) (rest : List ℕ) → is_double a b ≡ true → sign_at (a ∷ b ∷ rest) ≡ token_of kind.Sign 2
unfolding sign_at
double_at a b rest d = rw d refl

sign_found : (text rest : List ℕ) → is_sign text ≡ true → sign_ends text rest ≡ true → token_at (text ++ rest) ≡ token_of kind.Sign (length text)
sign_found [] rest g e = cc
sign_found (a ∷ []) rest g e =
    let p = and_parts (not (first_is (is_double a) rest)) (not ((a == 60) && opens_impl rest)) e in
    sign_front a rest g (not-true ((a == 60) && opens_impl rest) p.1) ∙ single_at a rest g (not-true (first_is (is_double a) rest) p.0)
sign_found (a ∷ b ∷ []) rest g e =
    let o : ((a == 60) && opens_impl (b ∷ rest)) ≡ false = and_left (a == 60) (opens_impl (b ∷ rest)) (double_no_open a b g) in
    sign_front a (b ∷ rest) (double_sign a b g) o ∙ double_at a b rest g
sign_found (a ∷ b ∷ c ∷ more) rest g e = cc

-- a token with nothing behind it that makes it longer is found
pub token_again : (k : TokenKind) (text rest : List ℕ) → IsToken k text → ends k text rest ≡ true → token_at (text ++ rest) ≡ token_of k (length text)
token_again kind.Word text rest g e = word_found text rest g.0 g.1 (not-true (first_is is_word_byte rest) e)
token_again kind.Number text rest g e = number_found text rest g.0 g.1 g.2 g.3 g (not-true (first_is is_word_byte rest) e)
token_again kind.Text text rest g e = subst (λ t. token_at (t ++ rest) ≡ token_of kind.Text (length t)) (sym g.1) (token_text ((g.0 ++ 34 ∷ []) ++ rest) ∙ text_found g.0 rest g.2)
token_again kind.Character text rest g e = subst (λ t. token_at (t ++ rest) ≡ token_of kind.Character (length t)) (sym g.1) (token_quote ((written g.0 ++ 39 ∷ []) ++ rest) ∙ character_found g.0 rest g.2)
token_again kind.Lifetime text rest g e = subst (λ t. token_at (t ++ rest) ≡ token_of kind.Lifetime (length t)) (sym g.1) (token_quote (g.0 ++ rest) ∙ lifetime_found g.0 rest g.2 g.3 e)
token_again kind.ImplSegment text rest g e =
    let n : length g.1 + 7 ≡ length (codes "<impl" ++ g.0 ∷ (g.1 ++ 62 ∷ [])) = omega (arith, length-append g.1 (62 ∷ [])) in
    subst (λ t. token_at (t ++ rest) ≡ token_of kind.ImplSegment (length t)) (sym g.2) (token_segment g.0 ((g.1 ++ 62 ∷ []) ++ rest) g.3 ∙ segment_again_at g.1 rest _ g.4 n)
token_again kind.Sign text rest g e = sign_found text rest g e

-- a token is no separator, and has bytes
word_no_separator : (b : ℕ) → is_word_start b ≡ true → (is_separator b || (b == 47)) ≡ false
word_no_separator b h = grind (arith, nat_tests)

digit_no_separator : (b : ℕ) → is_digit b ≡ true → (is_separator b || (b == 47)) ≡ false
digit_no_separator b h = grind (arith, nat_tests)

sign_no_separator : (b : ℕ) → is_sign_byte b ≡ true → (is_separator b || (b == 47)) ≡ false
sign_no_separator b h = grind (arith, nat_tests)

stays_at : (b : ℕ) (rest : List ℕ) → (is_separator b || (b == 47)) ≡ false → begins_separator (b ∷ rest) ≡ false
stays_at b rest h = let p = or_parts (is_separator b) (b == 47) h in or_from (is_separator b) ((b == 47) && first_is (λ c. c == 47) rest) p.0 (and_left (b == 47) (first_is (λ c. c == 47) rest) p.1)

stays_word : (text rest : List ℕ) → is_word text ≡ true → begins_separator (text ++ rest) ≡ false
stays_word [] rest g = cc
stays_word (b ∷ text) rest g = stays_at b (text ++ rest) (word_no_separator b (and_parts (is_word_start b) (list_all is_word_byte (b ∷ text)) g).0)

stays_decimal : (digits rest : List ℕ) → is_decimal digits ≡ true → begins_separator (digits ++ rest) ≡ false
stays_decimal [] rest g = cc
stays_decimal (b ∷ text) rest g = stays_at b (text ++ rest) (digit_no_separator b (and_parts (is_digit b) (list_all is_digit (b ∷ text)) g).0)

stays_sign : (text rest : List ℕ) → is_sign text ≡ true → begins_separator (text ++ rest) ≡ false
stays_sign [] rest g = cc
stays_sign (a ∷ []) rest g = stays_at a rest (sign_no_separator a g)
stays_sign (a ∷ b ∷ []) rest g = stays_at a (b ∷ rest) (sign_no_separator a (double_sign a b g))
stays_sign (a ∷ b ∷ c ∷ more) rest g = cc

pub token_stays : (k : TokenKind) (text rest : List ℕ) → IsToken k text → begins_separator (text ++ rest) ≡ false
token_stays kind.Word text rest g = stays_word text rest g.0
token_stays kind.Number text rest g = subst (λ t. begins_separator (t ++ rest) ≡ false) (sym g.2) (ap begins_separator (append_assoc g.0 g.1 rest) ∙ stays_decimal g.0 (g.1 ++ rest) g.3)
token_stays kind.Text text rest g = subst (λ t. begins_separator (t ++ rest) ≡ false) (sym g.1) refl
token_stays kind.Character text rest g = subst (λ t. begins_separator (t ++ rest) ≡ false) (sym g.1) refl
token_stays kind.Lifetime text rest g = subst (λ t. begins_separator (t ++ rest) ≡ false) (sym g.1) refl
token_stays kind.ImplSegment text rest g = subst (λ t. begins_separator (t ++ rest) ≡ false) (sym g.2) refl
token_stays kind.Sign text rest g = stays_sign text rest g

first_long : (p : ℕ → Bool) (text : List ℕ) → first_is p text ≡ true → 0 < length text
first_long p [] h = cc
first_long p (b ∷ text) h = omega arith

sign_long : (text : List ℕ) → is_sign text ≡ true → 0 < length text
sign_long [] h = cc
sign_long (b ∷ text) h = omega arith

pub token_long : (k : TokenKind) (text : List ℕ) → IsToken k text → 0 < length text
token_long kind.Word text g = first_long is_word_start text (and_parts (first_is is_word_start text) (list_all is_word_byte text) g.0).0
token_long kind.Number text g = let f = first_long is_digit g.0 (and_parts (first_is is_digit g.0) (list_all is_digit g.0) g.3).0 in let e = ap length g.2 in omega (arith, length-append g.0 g.1)
token_long kind.Text text g = subst (λ t. 0 < length t) (sym g.1) (omega arith)
token_long kind.Character text g = subst (λ t. 0 < length t) (sym g.1) (omega arith)
token_long kind.Lifetime text g = subst (λ t. 0 < length t) (sym g.1) (omega arith)
token_long kind.ImplSegment text g = subst (λ t. 0 < length t) (sym g.2) (omega arith)
token_long kind.Sign text g = sign_long text g
