-- The token at the front of bytes is found exactly.
use Rattle.std.proofs.Common.{◌≡◌, inl, inr, ℕ, ◌+◌, ◌≤◌, true, false, ◌==◌, not, ◌&&◌, List, [], ◌∷◌, ◌++◌, length, drop, codes, Option, Some, None, Ok, refl, sym, ◌∙◌, ap, subst, arith, append_assoc, length-append}
use Rattle.std.proofs.lemmas.Bool.{and_parts, and_from, eqb-true, not_from_false}
use Rattle.std.proofs.lemmas.Bool.Decides.{nat_tests}
use Rattle.std.specs.List.{list_all}
use Rattle.mir_lex.specs.declared.token.TokenKind.TheVariants as kind
use Rattle.mir_lex.specs.declared.front.Found.{Found}
use Rattle.mir_lex.specs.Bytes.{is_blank, is_digit, is_word_start, is_word_byte, is_quote, is_apostrophe, is_sign_byte, is_double, first_is}
use Rattle.mir_lex.specs.Tokens.{is_word, is_decimal, opens_impl, opens_segment, is_text_body, is_segment_body, Quoted, written, is_quoted, IsToken}
use Rattle.mir_lex.specs.Lexing.{token_of, body_len, text_at, quoted_len, quote_behind, character_or, lifetime_at, quote_at, segment_len, segment_at, sign_at, word_at, number_at, token_at}
use Rattle.mir_lex.proofs.Runs.{if_cases, same_ok}
use Rattle.mir_lex.proofs.NumberLaws.{IsAt, number_takes, number_again}
use Rattle.mir_lex.proofs.WordLaws.{word_takes, word_again, lifetime_takes}
use Rattle.mir_lex.proofs.TextLaws.{body_takes, body_again, segment_takes, segment_again, closed_ok}
use Rattle.mir_lex.proofs.QuotedLaws.{character_takes, character_again}

-- What is found is a token.

text_takes : (b : ℕ) (rest : List ℕ) (f : Found) → is_quote b ≡ true → text_at rest ≡ Ok f → IsAt (b ∷ rest) f.kind f.size
unfolding text_at
text_takes b rest f q h =
    let c = closed_ok kind.Text 2 (body_len false rest) f h in
    let i = body_takes false rest c.0 c.1 in
    subst (λ x. IsAt (x ∷ rest) f.kind f.size) (sym (eqb-true b 34 q)) (subst (λ (g : Found). IsAt (34 ∷ rest) g.kind g.size) (sym c.2)
    (record {
      text = 34 ∷ (i.body ++ 34 ∷ []);
      rest = i.rest;
      joins = ap (λ x. 34 ∷ x) (i.joins ∙ sym (append_assoc i.body (34 ∷ []) i.rest));
      size = let e = i.size in omega (arith, length-append i.body (34 ∷ []));
      good = (i.body, refl, i.good);
      stops = refl;
    }))

character_at : (rest : List ℕ) (n : ℕ) → quote_behind rest (quoted_len rest) ≡ Some n → IsAt (39 ∷ rest) kind.Character (n + 2)
character_at rest n h = let c = character_takes rest n h in
    record {
      text = 39 ∷ (written c.quoted ++ 39 ∷ []);
      rest = c.rest;
      joins = ap (λ x. 39 ∷ x) (c.joins ∙ sym (append_assoc (written c.quoted) (39 ∷ []) c.rest));
      size = let e = c.size in omega (arith, length-append (written c.quoted) (39 ∷ []));
      good = (c.quoted, refl, c.good);
      stops = refl;
    }

quote_by : (rest : List ℕ) (f : Found) (o : Option ℕ) → quote_behind rest (quoted_len rest) ≡ o → character_or (lifetime_at rest) o ≡ Ok f → IsAt (39 ∷ rest) f.kind f.size
quote_by rest f None e h = lifetime_takes rest f h
quote_by rest f (Some n) e h = subst (λ (g : Found). IsAt (39 ∷ rest) g.kind g.size) (same_ok (record { kind = kind.Character; size = n + 2 }) f h) (character_at rest n e)

quote_takes : (b : ℕ) (rest : List ℕ) (f : Found) → is_apostrophe b ≡ true → quote_at rest ≡ Ok f → IsAt (b ∷ rest) f.kind f.size
unfolding quote_at
quote_takes b rest f q h = subst (λ x. IsAt (x ∷ rest) f.kind f.size) (sym (eqb-true b 39 q)) (quote_by rest f (quote_behind rest (quoted_len rest)) refl h)

-- what stands behind <impl and its blank
pub record IsOpened (bytes : List ℕ) : Type 0 where
  pub blank : ℕ
  pub rest : List ℕ
  pub joins : bytes ≡ codes "<impl" ++ blank ∷ rest
  pub good : is_blank blank ≡ true

six_same : (a b c d e x : ℕ) (rest : List ℕ) → a ≡ 60 → b ≡ 105 → c ≡ 109 → d ≡ 112 → e ≡ 108 → a ∷ b ∷ c ∷ d ∷ e ∷ x ∷ rest ≡ 60 ∷ 105 ∷ 109 ∷ 112 ∷ 108 ∷ x ∷ rest
six_same a b c d e x rest h i j k l = cc

impl_opens : (a : ℕ) (bytes : List ℕ) → (a == 60) ≡ true → opens_impl bytes ≡ true → IsOpened (a ∷ bytes)
impl_opens a [] h k = cc
impl_opens a (b ∷ []) h k = cc
impl_opens a (b ∷ c ∷ []) h k = cc
impl_opens a (b ∷ c ∷ d ∷ []) h k = cc
impl_opens a (b ∷ c ∷ d ∷ e ∷ []) h k = cc
impl_opens a (b ∷ c ∷ d ∷ e ∷ x ∷ rest) h k =
    let p = and_parts (b == 105) ((c == 109) && ((d == 112) && ((e == 108) && is_blank x))) k in
    let q = and_parts (c == 109) ((d == 112) && ((e == 108) && is_blank x)) p.1 in
    let r = and_parts (d == 112) ((e == 108) && is_blank x) q.1 in
    let s = and_parts (e == 108) (is_blank x) r.1 in
    record { blank = x; rest = rest; joins = six_same a b c d e x rest (eqb-true a 60 h) (eqb-true b 105 p.0) (eqb-true c 109 q.0) (eqb-true d 112 r.0) (eqb-true e 108 s.0); good = s.1 }

pub opened : (bytes : List ℕ) → opens_segment bytes ≡ true → IsOpened bytes
opened [] h = cc
opened (a ∷ bytes) h = let p = and_parts (a == 60) (opens_impl bytes) h in impl_opens a bytes p.0 p.1

segment_found : (blank : ℕ) (rest : List ℕ) (f : Found) → is_blank blank ≡ true → segment_at rest ≡ Ok f → IsAt (codes "<impl" ++ blank ∷ rest) f.kind f.size
unfolding segment_at
segment_found blank rest f g h =
    let c = closed_ok kind.ImplSegment 7 (segment_len 1 rest) f h in
    let i = segment_takes 1 rest c.0 (omega arith) c.1 in
    subst (λ (g : Found). IsAt (codes "<impl" ++ blank ∷ rest) g.kind g.size) (sym c.2)
    (record {
      text = codes "<impl" ++ blank ∷ (i.body ++ 62 ∷ []);
      rest = i.rest;
      joins = ap (λ x. codes "<impl" ++ blank ∷ x) (i.joins ∙ sym (append_assoc i.body (62 ∷ []) i.rest));
      size = let e = i.size in omega (arith, length-append i.body (62 ∷ []));
      good = (blank, i.body, refl, g, i.good);
      stops = refl;
    })

segment_by : (bytes : List ℕ) (f : Found) → opens_segment bytes ≡ true → segment_at (drop 6 bytes) ≡ Ok f → IsAt bytes f.kind f.size
segment_by bytes f o h = let p = opened bytes o in
    subst (λ x. IsAt x f.kind f.size) (sym p.joins) (segment_found p.blank p.rest f p.good (ap (λ x. segment_at (drop 6 x)) (sym p.joins) ∙ h))

single_takes : (a : ℕ) (rest : List ℕ) → first_is (is_double a) rest ≡ false → is_sign_byte a ≡ true → opens_segment (a ∷ rest) ≡ false → IsAt (a ∷ rest) kind.Sign 1
single_takes a rest d s o = record {
  text = a ∷ [];
  rest = rest;
  joins = refl;
  size = refl;
  good = s;
  stops = and_from (not (first_is (is_double a) rest)) (not ((a == 60) && opens_impl rest)) (not_from_false (first_is (is_double a) rest) d) (not_from_false ((a == 60) && opens_impl rest) o);
}

double_takes : (a : ℕ) (rest : List ℕ) → first_is (is_double a) rest ≡ true → IsAt (a ∷ rest) kind.Sign 2
double_takes a [] h = cc
double_takes a (b ∷ rest) h = record { text = a ∷ b ∷ []; rest = rest; joins = refl; size = refl; good = h; stops = refl }

sign_takes : (a : ℕ) (rest : List ℕ) (f : Found) → opens_segment (a ∷ rest) ≡ false → sign_at (a ∷ rest) ≡ Ok f → IsAt (a ∷ rest) f.kind f.size
unfolding sign_at
sign_takes a rest f o h = elim (if_cases (first_is (is_double a) rest) _ _ _ h) [
  | inl p ↦ subst (λ (g : Found). IsAt (a ∷ rest) g.kind g.size) (same_ok (record { kind = kind.Sign; size = 2 }) f p.1) (double_takes a rest p.0)
  | inr p ↦ elim (if_cases (is_sign_byte a) _ _ _ p.1) [
    | inl q ↦ subst (λ (g : Found). IsAt (a ∷ rest) g.kind g.size) (same_ok (record { kind = kind.Sign; size = 1 }) f q.1) (single_takes a rest p.0 q.0 o)
    | inr q ↦ cc (q.1)
  ]
]

pub token_takes : (b : ℕ) (rest : List ℕ) (f : Found) → token_at (b ∷ rest) ≡ Ok f → IsAt (b ∷ rest) f.kind f.size
unfolding token_at
token_takes b rest f h = elim (if_cases (is_word_start b) _ _ _ h) [
  | inl p ↦ word_takes b rest f p.0 p.1
  | inr p ↦ elim (if_cases (is_digit b) _ _ _ p.1) [
    | inl q ↦ number_takes b rest f q.0 q.1
    | inr q ↦ elim (if_cases (is_quote b) _ _ _ q.1) [
      | inl r ↦ text_takes b rest f r.0 r.1
      | inr r ↦ elim (if_cases (is_apostrophe b) _ _ _ r.1) [
        | inl s ↦ quote_takes b rest f s.0 s.1
        | inr s ↦ elim (if_cases (opens_segment (b ∷ rest)) _ _ _ s.1) [
          | inl t ↦ segment_by (b ∷ rest) f t.0 t.1
          | inr t ↦ sign_takes b rest f t.0 t.1
        ]
      ]
    ]
  ]
]

-- A token is found.

pub token_word : (b : ℕ) (rest : List ℕ) → is_word_start b ≡ true → token_at (b ∷ rest) ≡ word_at (b ∷ rest)
unfolding token_at
token_word b rest h = rw h refl

digit_no_start : (b : ℕ) → is_digit b ≡ true → is_word_start b ≡ false
digit_no_start b h = grind (arith, nat_tests)

pub token_number : (b : ℕ) (rest : List ℕ) → is_digit b ≡ true → token_at (b ∷ rest) ≡ number_at (b ∷ rest)
unfolding token_at
token_number b rest h = rw (digit_no_start b h) (rw h refl)

pub token_text : (rest : List ℕ) → token_at (34 ∷ rest) ≡ text_at rest
unfolding token_at
token_text rest = refl

pub token_quote : (rest : List ℕ) → token_at (39 ∷ rest) ≡ quote_at rest
unfolding token_at
token_quote rest = refl

pub token_segment : (blank : ℕ) (rest : List ℕ) → is_blank blank ≡ true → token_at (codes "<impl" ++ blank ∷ rest) ≡ segment_at rest
unfolding token_at
token_segment blank rest h = rw h refl

pub token_sign : (a : ℕ) (rest : List ℕ) → is_word_start a ≡ false → is_digit a ≡ false → is_quote a ≡ false → is_apostrophe a ≡ false → opens_segment (a ∷ rest) ≡ false → token_at (a ∷ rest) ≡ sign_at (a ∷ rest)
unfolding token_at
token_sign a rest w d q p o = rw w (rw d (rw q (rw p (rw o refl))))

pub word_found : (text rest : List ℕ) → is_word text ≡ true → length text ≤ 256 → first_is is_word_byte rest ≡ false → token_at (text ++ rest) ≡ token_of kind.Word (length text)
word_found [] rest g l s = cc
word_found (b ∷ text) rest g l s = token_word b (text ++ rest) (and_parts (is_word_start b) (list_all is_word_byte (b ∷ text)) g).0 ∙ word_again (b ∷ text) rest g l s

pub number_found : (text rest digits suffix : List ℕ) → text ≡ digits ++ suffix → is_decimal digits ≡ true → IsToken kind.Number text → first_is is_word_byte rest ≡ false → token_at (text ++ rest) ≡ token_of kind.Number (length text)
number_found text rest [] suffix e d g s = cc
number_found [] rest (c ∷ digits) suffix e d g s = cc
number_found (b ∷ text) rest (c ∷ digits) suffix e d g s =
    let k : c ≡ b = cc in
    token_number b (text ++ rest) (subst (λ x. is_digit x ≡ true) k (and_parts (is_digit c) (list_all is_digit (c ∷ digits)) d).0) ∙ number_again (b ∷ text) rest g s

pub text_found : (body rest : List ℕ) → is_text_body false body ≡ true → text_at ((body ++ 34 ∷ []) ++ rest) ≡ token_of kind.Text (length (34 ∷ (body ++ 34 ∷ [])))
unfolding text_at
text_found body rest g =
    let n : length body + 2 ≡ length (34 ∷ (body ++ 34 ∷ [])) = omega (arith, length-append body (34 ∷ [])) in
    rw (append_assoc body (34 ∷ []) rest) (rw (body_again false body rest g) (ap (token_of kind.Text) n))

pub character_found : (quoted : Quoted) (rest : List ℕ) → is_quoted quoted ≡ true → quote_at ((written quoted ++ 39 ∷ []) ++ rest) ≡ token_of kind.Character (length (39 ∷ (written quoted ++ 39 ∷ [])))
unfolding quote_at
character_found quoted rest g =
    let n : length (written quoted) + 2 ≡ length (39 ∷ (written quoted ++ 39 ∷ [])) = omega (arith, length-append (written quoted) (39 ∷ [])) in
    let j : (written quoted ++ 39 ∷ []) ++ rest ≡ written quoted ++ 39 ∷ rest = append_assoc (written quoted) (39 ∷ []) rest in
    subst (λ x. character_or (lifetime_at x) (quote_behind x (quoted_len x)) ≡ token_of kind.Character (length (39 ∷ (written quoted ++ 39 ∷ [])))) (sym j)
    (ap (character_or (lifetime_at (written quoted ++ 39 ∷ rest))) (character_again quoted rest g) ∙ ap (token_of kind.Character) n)

pub segment_again_at : (body rest : List ℕ) (n : ℕ) → is_segment_body 1 body ≡ true → length body + 7 ≡ n → segment_at ((body ++ 62 ∷ []) ++ rest) ≡ token_of kind.ImplSegment n
unfolding segment_at
segment_again_at body rest n g e = rw (append_assoc body (62 ∷ []) rest) (rw (segment_again 1 body rest g) (ap (token_of kind.ImplSegment) e))
