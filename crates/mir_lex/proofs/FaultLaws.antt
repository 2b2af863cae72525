-- The fault at the front of bytes is found exactly.
use Rattle.std.proofs.Common.{◌≡◌, inl, inr, ℕ, ◌+◌, Bool, true, false, ◌==◌, ◌||◌, nat_le, if◌then◌else◌, List, [], ◌∷◌, ◌++◌, drop, codes, Option, Some, None, Err, refl, sym, ◌∙◌, ap, subst, arith, append_assoc}
use Rattle.std.proofs.lemmas.Bool.{and_parts, and_left, or_from, or_parts, eqb-true, false_from_ne_true}
use Rattle.std.proofs.lemmas.Bool.Decides.{nat_tests}
use Rattle.std.specs.List.{prefix_len, list_all}
use Rattle.mir_lex.specs.declared.token.TokenKind.{TokenKind}
use Rattle.mir_lex.specs.declared.token.TokenKind.TheVariants as kind
use Rattle.mir_lex.specs.declared.fault.FaultKind.{FaultKind}
use Rattle.mir_lex.specs.declared.fault.FaultKind.TheVariants as fault
use Rattle.mir_lex.specs.declared.front.Fault.{Fault}
use Rattle.mir_lex.specs.Bytes.{is_blank, is_digit, is_word_start, is_word_byte, is_quote, is_apostrophe, is_sign_byte, is_double, first_is}
use Rattle.mir_lex.specs.Tokens.{is_word, is_decimal, is_first, opens_impl, opens_segment, Begins, BeginsLongWord, BeginsLongLifetime, OpensOnly, OpenQuote, OpenApostrophe, OpenSegment, IsFault}
use Rattle.mir_lex.specs.Lexing.{Front, token_of, failed, closed, word_at, number_at, body_len, text_at, quoted_len, quote_behind, character_or, lifetime_at, quote_at, segment_len, segment_at, sign_at, token_at}
use Rattle.mir_lex.proofs.Runs.{if_cases, same_err}
use Rattle.mir_lex.proofs.NumberLaws.{IsAt, NumberFault, Wide, On, number_faults, goes_on_again, wide_again}
use Rattle.mir_lex.proofs.WordLaws.{word_faults, long_word_again, LifetimeFault, NoLifetime, LongLifetime, lifetime_faults, long_lifetime_read}
use Rattle.mir_lex.proofs.TextLaws.{closed_err}
use Rattle.mir_lex.proofs.TokenLaws.{token_takes, token_word, token_number, token_text, token_quote, token_segment, token_sign, opened}
use Rattle.mir_lex.proofs.FoundLaws.{token_again, quote_lifetime, double_sign}

-- no token begins where a fault is found
pub none_begins : (bytes : List ℕ) (f : Fault) → token_at bytes ≡ Err f → (k : TokenKind) → Begins k bytes → ⊥
none_begins bytes f h k b = cc (ap token_at b.2 ∙ token_again k b.0 b.1 b.3 b.4, h)

pub long_lifetime_again : (bytes : List ℕ) → BeginsLongLifetime bytes → token_at bytes ≡ failed fault.NameTooLong 1
long_lifetime_again bytes b = ap token_at b.2 ∙ token_quote (b.0 ++ b.1) ∙ quote_lifetime b.0 b.1 b.3 b.4 ∙ long_lifetime_read b.0 b.1 b.3 b.5 b.4

kinds_differ : fault.NameTooLong ≡ fault.OpenText → ⊥
kinds_differ e = cc

no_long : (bytes : List ℕ) (f : Fault) → token_at bytes ≡ Err f → f ≡ record { kind = fault.OpenText; skip = 0 } → BeginsLongLifetime bytes → ⊥
no_long bytes f h e b =
    let q : failed fault.NameTooLong 1 ≡ Err f = sym (long_lifetime_again bytes b) ∙ h in
    let r = same_err (record { kind = fault.NameTooLong; skip = 1 }) f q ∙ e in
    kinds_differ (ap (λ (g : Fault). g.kind) r)

-- What is found is a fault.

open_fault : (bytes : List ℕ) (f : Fault) → f ≡ record { kind = fault.OpenText; skip = 0 } → OpensOnly bytes → IsFault f.kind f.skip bytes
open_fault bytes f e o = subst (λ (g : Fault). IsFault g.kind g.skip bytes) (sym e) (refl, o)

text_fault : (b : ℕ) (rest : List ℕ) (f : Fault) → is_quote b ≡ true → text_at rest ≡ Err f → token_at (b ∷ rest) ≡ Err f → IsFault f.kind f.skip (b ∷ rest)
unfolding text_at
text_fault b rest f q h t = open_fault (b ∷ rest) f (closed_err kind.Text 2 (body_len false rest) f h) (OpenQuote q (none_begins (b ∷ rest) f t kind.Text))

apostrophe_fault : (b : ℕ) (rest : List ℕ) (f : Fault) → is_apostrophe b ≡ true → token_at (b ∷ rest) ≡ Err f → f ≡ record { kind = fault.OpenText; skip = 0 } → IsFault f.kind f.skip (b ∷ rest)
apostrophe_fault b rest f q t e = open_fault (b ∷ rest) f e
    (OpenApostrophe q (none_begins (b ∷ rest) f t kind.Character) (none_begins (b ∷ rest) f t kind.Lifetime) (no_long (b ∷ rest) f t e))

lifetime_fault : (b : ℕ) (rest : List ℕ) (f : Fault) → is_apostrophe b ≡ true → token_at (b ∷ rest) ≡ Err f → LifetimeFault rest f → IsFault f.kind f.skip (b ∷ rest)
lifetime_fault b rest f q t (NoLifetime e) = apostrophe_fault b rest f q t e
lifetime_fault b rest f q t (LongLifetime e l) = subst (λ (g : Fault). IsFault g.kind g.skip (b ∷ rest)) (sym e)
    (inr (refl, subst (λ x. BeginsLongLifetime (x ∷ rest)) (sym (eqb-true b 39 q)) l))

quote_fault_by : (b : ℕ) (rest : List ℕ) (f : Fault) (o : Option ℕ) → is_apostrophe b ≡ true → token_at (b ∷ rest) ≡ Err f → character_or (lifetime_at rest) o ≡ Err f → IsFault f.kind f.skip (b ∷ rest)
quote_fault_by b rest f None q t h = lifetime_fault b rest f q t (lifetime_faults rest f h)
quote_fault_by b rest f (Some n) q t h = cc

quote_fault : (b : ℕ) (rest : List ℕ) (f : Fault) → is_apostrophe b ≡ true → quote_at rest ≡ Err f → token_at (b ∷ rest) ≡ Err f → IsFault f.kind f.skip (b ∷ rest)
unfolding quote_at
quote_fault b rest f q h t = quote_fault_by b rest f (quote_behind rest (quoted_len rest)) q t h

segment_fault : (b : ℕ) (rest : List ℕ) (f : Fault) → opens_segment (b ∷ rest) ≡ true → segment_at (drop 6 (b ∷ rest)) ≡ Err f → token_at (b ∷ rest) ≡ Err f → IsFault f.kind f.skip (b ∷ rest)
unfolding segment_at
segment_fault b rest f o h t = open_fault (b ∷ rest) f (closed_err kind.ImplSegment 7 (segment_len 1 (drop 6 (b ∷ rest))) f h) (OpenSegment o (none_begins (b ∷ rest) f t kind.ImplSegment))

sign_fault : (a : ℕ) (rest : List ℕ) (f : Fault) → is_word_start a ≡ false → is_digit a ≡ false → is_quote a ≡ false → is_apostrophe a ≡ false → sign_at (a ∷ rest) ≡ Err f → IsFault f.kind f.skip (a ∷ rest)
unfolding sign_at
sign_fault a rest f w d q p h = elim (if_cases (first_is (is_double a) rest) _ _ _ h) [
  | inl r ↦ cc (r.1)
  | inr r ↦ elim (if_cases (is_sign_byte a) _ _ _ r.1) [
    | inl s ↦ cc (s.1)
    | inr s ↦ subst (λ (g : Fault). IsFault g.kind g.skip (a ∷ rest)) (same_err (record { kind = fault.BadByte; skip = 0 }) f s.1)
        (inl (refl, a, rest, refl, or_from (is_word_start a) _ w (or_from (is_digit a) _ d (or_from (is_quote a) _ q (or_from (is_apostrophe a) (is_sign_byte a) p s.0)))))
  ]
]

number_fault : (bytes : List ℕ) (f : Fault) → NumberFault bytes f → IsFault f.kind f.skip bytes
number_fault bytes f (Wide e w) = subst (λ (g : Fault). IsFault g.kind g.skip bytes) (sym e) (refl, w)
number_fault bytes f (On e g) = subst (λ k. IsFault k f.skip bytes) (sym e) (inr g)

word_fault : (bytes : List ℕ) (f : Fault) → (f ≡ record { kind = fault.NameTooLong; skip = 0 }) × BeginsLongWord bytes → IsFault f.kind f.skip bytes
word_fault bytes f w = subst (λ (g : Fault). IsFault g.kind g.skip bytes) (sym w.0) (inl (refl, w.1))

fault_by : (b : ℕ) (rest : List ℕ) (f : Fault) → token_at (b ∷ rest) ≡ Err f → token_at (b ∷ rest) ≡ Err f → IsFault f.kind f.skip (b ∷ rest)
unfolding token_at
fault_by b rest f t h = elim (if_cases (is_word_start b) _ _ _ h) [
  | inl p ↦ word_fault (b ∷ rest) f (word_faults b rest f p.0 p.1)
  | inr p ↦ elim (if_cases (is_digit b) _ _ _ p.1) [
    | inl q ↦ number_fault (b ∷ rest) f (number_faults b rest f q.0 q.1)
    | inr q ↦ elim (if_cases (is_quote b) _ _ _ q.1) [
      | inl r ↦ text_fault b rest f r.0 r.1 t
      | inr r ↦ elim (if_cases (is_apostrophe b) _ _ _ r.1) [
        | inl s ↦ quote_fault b rest f s.0 s.1 t
        | inr s ↦ elim (if_cases (opens_segment (b ∷ rest)) _ _ _ s.1) [
          | inl u ↦ segment_fault b rest f u.0 u.1 t
          | inr u ↦ sign_fault b rest f p.0 q.0 r.0 s.0 u.1
        ]
      ]
    ]
  ]
]

pub fault_takes : (b : ℕ) (rest : List ℕ) (f : Fault) → token_at (b ∷ rest) ≡ Err f → IsFault f.kind f.skip (b ∷ rest)
fault_takes b rest f h = fault_by b rest f h h

-- A fault is found.

no_double : (a : ℕ) (rest : List ℕ) → is_sign_byte a ≡ false → first_is (is_double a) rest ≡ false
no_double a [] h = refl
no_double a (b ∷ rest) h = false_from_ne_true (is_double a b) (λ d. cc (double_sign a b d))

bad_sign : (a : ℕ) (rest : List ℕ) → is_sign_byte a ≡ false → sign_at (a ∷ rest) ≡ failed fault.BadByte 0
unfolding sign_at
bad_sign a rest h = rw (no_double a rest h) (rw h refl)

no_open : (a : ℕ) → is_sign_byte a ≡ false → (a == 60) ≡ false
no_open a h = grind (arith, nat_tests)

no_segment : (a : ℕ) (rest : List ℕ) → is_sign_byte a ≡ false → opens_segment (a ∷ rest) ≡ false
no_segment a rest h = and_left (a == 60) (opens_impl rest) (no_open a h)

bad_byte : (b : ℕ) (rest : List ℕ) → is_first b ≡ false → token_at (b ∷ rest) ≡ failed fault.BadByte 0
bad_byte b rest h =
    let w = or_parts (is_word_start b) (is_digit b || (is_quote b || (is_apostrophe b || is_sign_byte b))) h in
    let d = or_parts (is_digit b) (is_quote b || (is_apostrophe b || is_sign_byte b)) w.1 in
    let q = or_parts (is_quote b) (is_apostrophe b || is_sign_byte b) d.1 in
    let p = or_parts (is_apostrophe b) (is_sign_byte b) q.1 in
    token_sign b rest w.0 d.0 q.0 p.0 (no_segment b rest p.1) ∙ bad_sign b rest p.1

begins_at : (bytes : List ℕ) (k : TokenKind) (n : ℕ) → IsAt bytes k n → Begins k bytes
begins_at bytes k n i = (i.text, i.rest, i.joins, i.good, i.stops)

never_found : (b : ℕ) (rest : List ℕ) (k : TokenKind) (n : ℕ) → (Begins k (b ∷ rest) → ⊥) → token_at (b ∷ rest) ≡ token_of k n → ⊥
never_found b rest k n never h = never (begins_at (b ∷ rest) k n (token_takes b rest (record { kind = k; size = n }) h))

closed_open : (bytes : List ℕ) (k : TokenKind) (beside : ℕ) (o : Option ℕ) → token_at bytes ≡ closed k beside o → ((n : ℕ) → token_at bytes ≡ token_of k n → ⊥) → token_at bytes ≡ failed fault.OpenText 0
closed_open bytes k beside None h never = h
closed_open bytes k beside (Some n) h never = absurd (never (n + beside) h)

text_closed : (rest : List ℕ) → token_at (34 ∷ rest) ≡ closed kind.Text 2 (body_len false rest)
unfolding text_at
text_closed rest = token_text rest

segment_closed : (blank : ℕ) (rest : List ℕ) → is_blank blank ≡ true → token_at (codes "<impl" ++ blank ∷ rest) ≡ closed kind.ImplSegment 7 (segment_len 1 rest)
unfolding segment_at
segment_closed blank rest h = token_segment blank rest h

quote_open : (b : ℕ) (rest : List ℕ) → is_quote b ≡ true → (Begins kind.Text (b ∷ rest) → ⊥) → token_at (b ∷ rest) ≡ failed fault.OpenText 0
quote_open b rest q never =
    let e = eqb-true b 34 q in
    closed_open (b ∷ rest) kind.Text 2 (body_len false rest) (ap (λ x. token_at (x ∷ rest)) e ∙ text_closed rest) (λ n. never_found b rest kind.Text n never)

segment_open_at : (blank : ℕ) (rest : List ℕ) → is_blank blank ≡ true → (Begins kind.ImplSegment (codes "<impl" ++ blank ∷ rest) → ⊥) → token_at (codes "<impl" ++ blank ∷ rest) ≡ failed fault.OpenText 0
segment_open_at blank rest g never = closed_open (codes "<impl" ++ blank ∷ rest) kind.ImplSegment 7 (segment_len 1 rest) (segment_closed blank rest g) (λ n. never_found 60 (codes "impl" ++ blank ∷ rest) kind.ImplSegment n never)

segment_open : (bytes : List ℕ) → opens_segment bytes ≡ true → (Begins kind.ImplSegment bytes → ⊥) → token_at bytes ≡ failed fault.OpenText 0
segment_open bytes o never = let p = opened bytes o in
    ap token_at p.joins ∙ segment_open_at p.blank p.rest p.good (λ b. never (subst (Begins kind.ImplSegment) (sym p.joins) b))

-- what may come behind a ' where no character does
data Outcome (r : Front) : Type 0 where
  NotThere : r ≡ failed fault.OpenText 0 → Outcome r
  TooLong : r ≡ failed fault.NameTooLong 1 → Outcome r
  There : (n : ℕ) → r ≡ token_of kind.Lifetime n → Outcome r

outcome_by : (a b c : Bool) (n : ℕ) → Outcome (if a then (if b then failed fault.OpenText 0 else (if c then token_of kind.Lifetime n else failed fault.NameTooLong 1)) else failed fault.OpenText 0)
outcome_by false b c n = NotThere refl
outcome_by true true c n = NotThere refl
outcome_by true false true n = There n refl
outcome_by true false false n = TooLong refl

outcome : (rest : List ℕ) → Outcome (lifetime_at rest)
unfolding lifetime_at
outcome rest = outcome_by (first_is is_word_start rest) (first_is is_apostrophe (drop (prefix_len is_word_byte rest) rest)) (nat_le (prefix_len is_word_byte rest) 256) (prefix_len is_word_byte rest + 1)

long_is : (rest : List ℕ) (f : Fault) → f ≡ record { kind = fault.NameTooLong; skip = 1 } → LifetimeFault rest f → BeginsLongLifetime (39 ∷ rest)
long_is rest f e (NoLifetime o) = absurd (kinds_differ (ap (λ (g : Fault). g.kind) (sym e ∙ o)))
long_is rest f e (LongLifetime o l) = l

apostrophe_by : (rest : List ℕ) → token_at (39 ∷ rest) ≡ lifetime_at rest → Outcome (lifetime_at rest) → (Begins kind.Lifetime (39 ∷ rest) → ⊥) → (BeginsLongLifetime (39 ∷ rest) → ⊥) → token_at (39 ∷ rest) ≡ failed fault.OpenText 0
apostrophe_by rest h (NotThere e) never long = h ∙ e
apostrophe_by rest h (TooLong e) never long = absurd (long (long_is rest (record { kind = fault.NameTooLong; skip = 1 }) refl (lifetime_faults rest (record { kind = fault.NameTooLong; skip = 1 }) e)))
apostrophe_by rest h (There n e) never long = absurd (never_found 39 rest kind.Lifetime n never (h ∙ e))

apostrophe_or : (rest : List ℕ) (o : Option ℕ) → token_at (39 ∷ rest) ≡ character_or (lifetime_at rest) o → (Begins kind.Character (39 ∷ rest) → ⊥) → (Begins kind.Lifetime (39 ∷ rest) → ⊥) → (BeginsLongLifetime (39 ∷ rest) → ⊥)
    → token_at (39 ∷ rest) ≡ failed fault.OpenText 0
apostrophe_or rest None h char never long = apostrophe_by rest h (outcome rest) never long
apostrophe_or rest (Some n) h char never long = absurd (never_found 39 rest kind.Character (n + 2) char h)

quote_character : (rest : List ℕ) → token_at (39 ∷ rest) ≡ character_or (lifetime_at rest) (quote_behind rest (quoted_len rest))
unfolding quote_at
quote_character rest = token_quote rest

apostrophe_open : (b : ℕ) (rest : List ℕ) → b ≡ 39 → (Begins kind.Character (b ∷ rest) → ⊥) → (Begins kind.Lifetime (b ∷ rest) → ⊥) → (BeginsLongLifetime (b ∷ rest) → ⊥) → token_at (b ∷ rest) ≡ failed fault.OpenText 0
apostrophe_open b rest e =
    subst (λ x. (Begins kind.Character (x ∷ rest) → ⊥) → (Begins kind.Lifetime (x ∷ rest) → ⊥) → (BeginsLongLifetime (x ∷ rest) → ⊥) → token_at (x ∷ rest) ≡ failed fault.OpenText 0) (sym e)
    (apostrophe_or rest (quote_behind rest (quoted_len rest)) (quote_character rest))

opens_again : (bytes : List ℕ) → OpensOnly bytes → token_at bytes ≡ failed fault.OpenText 0
opens_again [] (OpenQuote q never) = cc
opens_again (b ∷ rest) (OpenQuote q never) = quote_open b rest q never
opens_again [] (OpenApostrophe q char never long) = cc
opens_again (b ∷ rest) (OpenApostrophe q char never long) = apostrophe_open b rest (eqb-true b 39 q) char never long
opens_again bytes (OpenSegment o never) = segment_open bytes o never

decimal_front : (digits rest : List ℕ) → is_decimal digits ≡ true → token_at (digits ++ rest) ≡ number_at (digits ++ rest)
decimal_front [] rest h = cc
decimal_front (b ∷ digits) rest h = token_number b (digits ++ rest) (and_parts (is_digit b) (list_all is_digit (b ∷ digits)) h).0

number_front : (bytes digits rest : List ℕ) → bytes ≡ digits ++ rest → is_decimal digits ≡ true → token_at bytes ≡ number_at bytes
number_front bytes digits rest e h = subst (λ x. token_at x ≡ number_at x) (sym e) (decimal_front digits rest h)

word_front : (word rest : List ℕ) → is_word word ≡ true → token_at (word ++ rest) ≡ word_at (word ++ rest)
word_front [] rest h = cc
word_front (b ∷ word) rest h = token_word b (word ++ rest) (and_parts (is_word_start b) (list_all is_word_byte (b ∷ word)) h).0

long_word_front : (bytes : List ℕ) → BeginsLongWord bytes → token_at bytes ≡ failed fault.NameTooLong 0
long_word_front bytes w = subst (λ x. token_at x ≡ word_at x) (sym w.2) (word_front w.0 w.1 w.3) ∙ long_word_again bytes w

bad_byte_at : (bytes : List ℕ) (skip : ℕ) → (skip ≡ 0) × (b : ℕ) × (rest : List ℕ) × (bytes ≡ b ∷ rest) × (is_first b ≡ false) → token_at bytes ≡ failed fault.BadByte skip
bad_byte_at bytes skip h = ap token_at h.3 ∙ bad_byte h.1 h.2 h.4 ∙ ap (failed fault.BadByte) (sym h.0)

pub fault_again : (k : FaultKind) (skip : ℕ) (bytes : List ℕ) → IsFault k skip bytes → token_at bytes ≡ failed k skip
fault_again fault.BadByte skip bytes (inl h) = bad_byte_at bytes skip h
fault_again fault.BadByte skip bytes (inr g) = number_front bytes g.0 (g.1 ++ g.2) (g.3 ∙ append_assoc g.0 g.1 g.2) g.4 ∙ goes_on_again skip bytes g
fault_again fault.OpenText skip bytes h = opens_again bytes h.1 ∙ ap (failed fault.OpenText) (sym h.0)
fault_again fault.NumberTooWide skip bytes h = number_front bytes h.1.0 h.1.1 h.1.2 h.1.3 ∙ wide_again bytes h.1 ∙ ap (failed fault.NumberTooWide) (sym h.0)
fault_again fault.NameTooLong skip bytes (inl h) = long_word_front bytes h.1 ∙ ap (failed fault.NameTooLong) (sym h.0)
fault_again fault.NameTooLong skip bytes (inr h) = long_lifetime_again bytes h.1 ∙ ap (failed fault.NameTooLong) (sym h.0)
