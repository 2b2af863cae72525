-- What stands first in bytes, as far as a token before them may go on with it, by a number: 0 nothing, 1 a byte of a word, 2 impl and a
-- blank, 3 an apostrophe, 4 >, 5 a colon, 7 another byte.
use Rattle.std.proofs.Common.{◌≡◌, ℕ, Bool, true, false, ◌&&◌, ◌==◌, if◌then◌else◌, List, [], ◌∷◌, ◌++◌, codes, refl, sym, ◌∙◌, ap, arith, append_assoc}
use Rattle.std.proofs.lemmas.Bool.{and_parts, eqb-true, or_left, or_right}
use Rattle.std.proofs.lemmas.Bool.Decides.{nat_tests}
use Rattle.std.specs.Str.{bytes_eq}
use Rattle.std.specs.List.{list_all}
use Rattle.mir_lex.specs.Bytes.{is_blank, is_digit, is_word_start, is_word_byte, is_apostrophe, is_double, first_is}
use Rattle.mir_lex.specs.Tokens.{sign_ends, opens_impl}
use Rattle.grammar_words.specs.Classes.{has}

unfoldable pub lead : List ℕ → ℕ
lead [] = 0
lead (b ∷ rest) = if is_word_byte b then (if opens_impl (b ∷ rest) then 2 else 1) else (if b == 39 then 3 else (if b == 62 then 4 else (if b == 58 then 5 else 7)))

abbrev pub all_leads : List ℕ
all_leads = 0 ∷ 1 ∷ 2 ∷ 3 ∷ 4 ∷ 5 ∷ 7 ∷ []

-- behind a word or a number
abbrev pub word_follow : List ℕ
word_follow = 0 ∷ 3 ∷ 4 ∷ 5 ∷ 7 ∷ []

-- behind a lifetime
abbrev pub lifetime_follow : List ℕ
lifetime_follow = 0 ∷ 4 ∷ 5 ∷ 7 ∷ []

word_leads : (b : ℕ) (rest : List ℕ) (w o : Bool) → is_word_byte b ≡ w → opens_impl (b ∷ rest) ≡ o → has word_follow (if w then (if o then 2 else 1) else (if b == 39 then 3 else (if b == 62 then 4 else (if b == 58 then 5 else 7)))) ≡ true → is_word_byte b ≡ false
word_leads b rest true true e o h = absurd cc
word_leads b rest true false e o h = absurd cc
word_leads b rest false o e p h = e

pub no_word : (behind : List ℕ) → has word_follow (lead behind) ≡ true → first_is is_word_byte behind ≡ false
unfolding lead
no_word [] h = refl
no_word (b ∷ rest) h = word_leads b rest (is_word_byte b) (opens_impl (b ∷ rest)) refl refl h

lifetime_leads : (b : ℕ) (rest : List ℕ) (w o a : Bool) → is_word_byte b ≡ w → opens_impl (b ∷ rest) ≡ o → (b == 39) ≡ a
    → has lifetime_follow (if w then (if o then 2 else 1) else (if a then 3 else (if b == 62 then 4 else (if b == 58 then 5 else 7)))) ≡ true → (is_word_byte b ≡ false) × ((b == 39) ≡ false)
lifetime_leads b rest true true a e o q h = absurd cc
lifetime_leads b rest true false a e o q h = absurd cc
lifetime_leads b rest false o true e p q h = absurd cc
lifetime_leads b rest false o false e p q h = (e, q)

pub no_lifetime : (behind : List ℕ) → has lifetime_follow (lead behind) ≡ true → (first_is is_word_byte behind ≡ false) × (first_is is_apostrophe behind ≡ false)
unfolding lead
no_lifetime [] h = (refl, refl)
no_lifetime (b ∷ rest) h = lifetime_leads b rest (is_word_byte b) (opens_impl (b ∷ rest)) (b == 39) refl refl refl h

-- What stands behind a sign of one byte.

-- of <, of : and of - and =
abbrev pub less_follow : List ℕ
less_follow = 0 ∷ 1 ∷ 3 ∷ 4 ∷ 5 ∷ 7 ∷ []

abbrev pub colon_follow : List ℕ
colon_follow = 0 ∷ 1 ∷ 2 ∷ 3 ∷ 4 ∷ 7 ∷ []

abbrev pub dash_follow : List ℕ
dash_follow = 0 ∷ 1 ∷ 2 ∷ 3 ∷ 5 ∷ 7 ∷ []

impl_byte : (b : ℕ) (rest : List ℕ) → opens_impl (b ∷ rest) ≡ true → (b == 105) ≡ true
impl_byte b [] h = absurd cc
impl_byte b (c ∷ []) h = absurd cc
impl_byte b (c ∷ d ∷ []) h = absurd cc
impl_byte b (c ∷ d ∷ e ∷ []) h = absurd cc
impl_byte b (c ∷ d ∷ e ∷ f ∷ rest) h = (and_parts (b == 105) ((c == 109) && ((d == 112) && ((e == 108) && is_blank f))) h).0

impl_word : (b : ℕ) (rest : List ℕ) → opens_impl (b ∷ rest) ≡ true → is_word_byte b ≡ true
impl_word b rest h = let e = eqb-true b 105 (impl_byte b rest h) in rw e refl

-- impl and a blank is seen
impl_lead : (b : ℕ) (rest : List ℕ) → opens_impl (b ∷ rest) ≡ true → lead (b ∷ rest) ≡ 2
unfolding lead
impl_lead b rest h = rw (impl_word b rest h) (rw h refl)

no_impl_at : (set : List ℕ) → has set 2 ≡ false → (b : ℕ) (rest : List ℕ) (o : Bool) → opens_impl (b ∷ rest) ≡ o → has set (lead (b ∷ rest)) ≡ true → opens_impl (b ∷ rest) ≡ false
no_impl_at set n b rest true e h = absurd (cc (sym (ap (has set) (impl_lead b rest e)) ∙ h, n))
no_impl_at set n b rest false e h = e

pub no_impl : (set : List ℕ) → has set 2 ≡ false → (behind : List ℕ) → has set (lead behind) ≡ true → opens_impl behind ≡ false
no_impl set n [] h = refl
no_impl set n (b ∷ rest) h = no_impl_at set n b rest (opens_impl (b ∷ rest)) refl h

more_lead : (rest : List ℕ) → lead (62 ∷ rest) ≡ 4
unfolding lead
more_lead rest = refl

colon_lead : (rest : List ℕ) → lead (58 ∷ rest) ≡ 5
unfolding lead
colon_lead rest = refl

not_byte : (set : List ℕ) (c n b : ℕ) (rest : List ℕ) → ((xs : List ℕ) → lead (c ∷ xs) ≡ n) → has set n ≡ false → has set (lead (b ∷ rest)) ≡ true → (t : Bool) → (b == c) ≡ t → (b == c) ≡ false
not_byte set c n b rest l f h true e = absurd (cc (sym (ap (has set) (ap (λ x. lead (x ∷ rest)) (eqb-true b c e) ∙ l rest)) ∙ h, f))
not_byte set c n b rest l f h false e = e

no_double : (a : ℕ) → (a == 45) ≡ false → (a == 61) ≡ false → (a == 58) ≡ false → (behind : List ℕ) → first_is (is_double a) behind ≡ false
no_double a d e c [] = refl
no_double a d e c (b ∷ rest) = rw d (rw e (rw c refl))

-- a sign that begins no longer one
pub plain_ends : (a : ℕ) → (a == 45) ≡ false → (a == 61) ≡ false → (a == 58) ≡ false → (a == 60) ≡ false → (behind : List ℕ) → sign_ends (a ∷ []) behind ≡ true
plain_ends a d e c l behind = rw (no_double a d e c behind) (rw l refl)

pub less_ends : (behind : List ℕ) → has less_follow (lead behind) ≡ true → sign_ends (60 ∷ []) behind ≡ true
less_ends behind h = rw (no_double 60 refl refl refl behind) (rw (no_impl less_follow refl behind h) refl)

no_more : (behind : List ℕ) → has dash_follow (lead behind) ≡ true → first_is (λ b. b == 62) behind ≡ false
no_more [] h = refl
no_more (b ∷ rest) h = not_byte dash_follow 62 4 b rest more_lead refl h (b == 62) refl

no_colon : (behind : List ℕ) → has colon_follow (lead behind) ≡ true → first_is (λ b. b == 58) behind ≡ false
no_colon [] h = refl
no_colon (b ∷ rest) h = not_byte colon_follow 58 5 b rest colon_lead refl h (b == 58) refl

colon_at : (behind : List ℕ) → first_is (λ b. b == 58) behind ≡ false → sign_ends (58 ∷ []) behind ≡ true
colon_at [] h = refl
colon_at (b ∷ rest) h = rw h refl

pub colon_ends : (behind : List ℕ) → has colon_follow (lead behind) ≡ true → sign_ends (58 ∷ []) behind ≡ true
colon_ends behind h = colon_at behind (no_colon behind h)

dash_at : (behind : List ℕ) → first_is (λ b. b == 62) behind ≡ false → sign_ends (45 ∷ []) behind ≡ true
dash_at [] h = refl
dash_at (b ∷ rest) h = rw h refl

pub dash_ends : (behind : List ℕ) → has dash_follow (lead behind) ≡ true → sign_ends (45 ∷ []) behind ≡ true
dash_ends behind h = dash_at behind (no_more behind h)

equal_at : (behind : List ℕ) → first_is (λ b. b == 62) behind ≡ false → sign_ends (61 ∷ []) behind ≡ true
equal_at [] h = refl
equal_at (b ∷ rest) h = rw h refl

pub equal_ends : (behind : List ℕ) → has dash_follow (lead behind) ≡ true → sign_ends (61 ∷ []) behind ≡ true
equal_ends behind h = equal_at behind (no_more behind h)

-- A word that is not impl.

word_four : (b c d e f : ℕ) (rest : List ℕ) → opens_impl (b ∷ c ∷ d ∷ e ∷ f ∷ rest) ≡ true → (b ≡ 105) × (c ≡ 109) × (d ≡ 112) × (e ≡ 108) × (is_blank f ≡ true)
word_four b c d e f rest h =
    let p = and_parts (b == 105) ((c == 109) && ((d == 112) && ((e == 108) && is_blank f))) h in
    let q = and_parts (c == 109) ((d == 112) && ((e == 108) && is_blank f)) p.1 in
    let r = and_parts (d == 112) ((e == 108) && is_blank f) q.1 in
    let s = and_parts (e == 108) (is_blank f) r.1 in
    (eqb-true b 105 p.0, eqb-true c 109 q.0, eqb-true d 112 r.0, eqb-true e 108 s.0, s.1)

blank_no_word : (f : ℕ) → is_blank f ≡ true → is_word_byte f ≡ false
blank_no_word f h = grind (arith, nat_tests)

-- the word of an impl and a blank is impl
impl_only : (w behind : List ℕ) → list_all is_word_byte w ≡ true → first_is is_word_byte behind ≡ false → opens_impl (w ++ behind) ≡ true → w ≡ codes "impl"
impl_only [] [] l f h = absurd cc
impl_only [] (b ∷ rest) l f h = absurd (cc (impl_word b rest h, f))
impl_only (b ∷ []) [] l f h = absurd cc
impl_only (b ∷ []) (c ∷ []) l f h = absurd cc
impl_only (b ∷ []) (c ∷ d ∷ []) l f h = absurd cc
impl_only (b ∷ []) (c ∷ d ∷ e ∷ []) l f h = absurd cc
impl_only (b ∷ []) (c ∷ d ∷ e ∷ g ∷ rest) l f h = let p = word_four b c d e g rest h in absurd (cc (ap is_word_byte p.1, f))
impl_only (b ∷ c ∷ []) [] l f h = absurd cc
impl_only (b ∷ c ∷ []) (d ∷ []) l f h = absurd cc
impl_only (b ∷ c ∷ []) (d ∷ e ∷ []) l f h = absurd cc
impl_only (b ∷ c ∷ []) (d ∷ e ∷ g ∷ rest) l f h = let p = word_four b c d e g rest h in absurd (cc (ap is_word_byte p.2, f))
impl_only (b ∷ c ∷ d ∷ []) [] l f h = absurd cc
impl_only (b ∷ c ∷ d ∷ []) (e ∷ []) l f h = absurd cc
impl_only (b ∷ c ∷ d ∷ []) (e ∷ g ∷ rest) l f h = let p = word_four b c d e g rest h in absurd (cc (ap is_word_byte p.3, f))
impl_only (b ∷ c ∷ d ∷ e ∷ []) [] l f h = absurd cc
impl_only (b ∷ c ∷ d ∷ e ∷ []) (g ∷ rest) l f h = let p = word_four b c d e g rest h in cc (p.0, p.1, p.2, p.3)
impl_only (b ∷ c ∷ d ∷ e ∷ g ∷ w) behind l f h =
    let p = word_four b c d e g (w ++ behind) h in
    let q = (and_parts (is_word_byte b) (list_all is_word_byte (c ∷ d ∷ e ∷ g ∷ w)) l).1 in
    let r = (and_parts (is_word_byte c) (list_all is_word_byte (d ∷ e ∷ g ∷ w)) q).1 in
    let s = (and_parts (is_word_byte d) (list_all is_word_byte (e ∷ g ∷ w)) r).1 in
    let t = (and_parts (is_word_byte e) (list_all is_word_byte (g ∷ w)) s).1 in
    absurd (cc (blank_no_word g p.4, (and_parts (is_word_byte g) (list_all is_word_byte w) t).0))

start_byte : (b : ℕ) → is_word_start b ≡ true → is_word_byte b ≡ true
start_byte b h = or_left (is_word_start b) (is_digit b) h

word_lead_at : (b : ℕ) (rest : List ℕ) → is_word_byte b ≡ true → opens_impl (b ∷ rest) ≡ false → lead (b ∷ rest) ≡ 1
unfolding lead
word_lead_at b rest h o = rw h (rw o refl)

not_opens : (w behind : List ℕ) → list_all is_word_byte w ≡ true → first_is is_word_byte behind ≡ false → bytes_eq (codes "impl") w ≡ false → (o : Bool) → opens_impl (w ++ behind) ≡ o → opens_impl (w ++ behind) ≡ false
not_opens w behind l f n true e = absurd (cc (ap (bytes_eq (codes "impl")) (impl_only w behind l f e), n))
not_opens w behind l f n false e = e

-- bytes of a word that are not impl
pub run_lead : (w behind : List ℕ) → first_is is_word_byte w ≡ true → list_all is_word_byte w ≡ true → first_is is_word_byte behind ≡ false → bytes_eq (codes "impl") w ≡ false → lead (w ++ behind) ≡ 1
run_lead [] behind s l f n = absurd cc
run_lead (b ∷ w) behind s l f n = word_lead_at b (w ++ behind) s (not_opens (b ∷ w) behind l f n (opens_impl (b ∷ (w ++ behind))) refl)

apostrophe_lead : (rest : List ℕ) → lead (39 ∷ rest) ≡ 3
unfolding lead
apostrophe_lead rest = refl

pub quote_lead : (text behind : List ℕ) (body : List ℕ) → text ≡ 39 ∷ body → lead (text ++ behind) ≡ 3
quote_lead text behind body e = ap (λ x. lead (x ++ behind)) e ∙ apostrophe_lead (body ++ behind)

digit_byte : (b : ℕ) → is_digit b ≡ true → is_word_byte b ≡ true
digit_byte b h = or_right (is_word_start b) (is_digit b) h

digit_no_impl : (b : ℕ) (rest : List ℕ) → is_digit b ≡ true → (o : Bool) → opens_impl (b ∷ rest) ≡ o → opens_impl (b ∷ rest) ≡ false
digit_no_impl b rest h true e = absurd (cc (ap is_digit (eqb-true b 105 (impl_byte b rest e)), h))
digit_no_impl b rest h false e = e

digits_lead : (digits behind : List ℕ) → first_is is_digit digits ≡ true → lead (digits ++ behind) ≡ 1
digits_lead [] behind h = absurd cc
digits_lead (b ∷ digits) behind h = word_lead_at b (digits ++ behind) (digit_byte b h) (digit_no_impl b (digits ++ behind) h (opens_impl (b ∷ (digits ++ behind))) refl)

pub number_lead : (text digits suffix behind : List ℕ) → text ≡ digits ++ suffix → first_is is_digit digits ≡ true → lead (text ++ behind) ≡ 1
number_lead text digits suffix behind e h = ap lead (ap (λ x. x ++ behind) e ∙ append_assoc digits suffix behind) ∙ digits_lead digits (suffix ++ behind) h
