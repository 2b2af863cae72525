-- The tokens of names, as they are written.
use Rattle.std.proofs.Common.{◌≡◌, ℕ, Bool, true, false, ◌||◌, ◌==◌, List, [], ◌∷◌, ◌++◌, codes, refl, sym, ◌∙◌, ap, subst, append_assoc, append-nil}
use Rattle.std.proofs.lemmas.Bool.{and_from, and_parts, eqb-true, or_right}
use Rattle.std.proofs.lemmas.Slice.Eq.{bytes_eq-Decides}
use Rattle.std.specs.List.{list_all}
use Rattle.std.specs.Str.{bytes_eq}
use Rattle.mir_lex.specs.declared.token.TokenKind.TheVariants as kind
use Rattle.mir_lex.specs.Bytes.{is_word_start, is_word_byte, is_digit, is_width, is_integer_name, first_is}
use Rattle.mir_lex.specs.Tokens.{IsToken, is_suffix, opens_impl}
use Rattle.grammar_words.specs.Classes.{has}
use Rattle.grammar_words.proofs.Sets.{subset, subset_has}
use Rattle.mir_grammar.specs.Lexemes.{Lexeme, sign, word}
use Rattle.canonical_text.specs.declared.positions.Position.{Position}
use Rattle.canonical_text.specs.declared.positions.Position.TheVariants.{AsType, Alone}
use Rattle.canonical_text.specs.Names.{is_reserved, path_written}
use Rattle.print_laws.proofs.Leads.{lead, all_leads, word_follow, lifetime_follow, less_follow, no_word, no_lifetime, no_impl}
use Rattle.print_laws.proofs.Fits as fits
use Rattle.print_laws.proofs.Fits.{Fits, fits_join, fits_wide, fits_text, subset_self, word_fits, number_fits, lifetime_fits, segment_fits}
use Rattle.print_laws.proofs.Written.{run_written, alone_free, free_over, word_end, arguments_written, less_written, impl_written}
use Rattle.print_laws.proofs.Spelt.{front, coarsely, all_fronts, path_follow, arguments_follow, coarse_subset, coarse_lead, exact_front, no_less, no_lone, Spelt, copied}

-- the same where the first byte is no <
exactly : {here there : Position} {t m text : List ℕ} {ls : List Lexeme} (s l : List ℕ) → Fits t m text ls → subset (coarsely s) t ≡ true → subset m (coarsely l) ≡ true → subset m l ≡ true → has l 7 ≡ false → has s 0 ≡ true
    → ((behind : List ℕ) → has s (front behind) ≡ true → path_written here (text ++ behind) ≡ text ++ path_written there behind) → Spelt here there s l text ls
exactly {here} {there} {t} {m} {text} s l f e g i n z c = copied s l f e g z c (λ behind h. exact_front l (text ++ behind) n (subset_has m l (lead (text ++ behind)) i (f.begins behind (subset_has (coarsely s) t (lead behind) e (coarse_lead s behind h)))))

-- Signs, with the blanks behind them.

pub comma : Spelt AsType AsType all_fronts (7 ∷ []) (codes ",") (sign (codes ",") ∷ [])
unfolding path_written front lead
comma = copied all_fronts (7 ∷ []) fits.comma refl refl refl (λ behind h. refl) (λ behind h. refl)

pub comma_blank : Spelt AsType AsType all_fronts (7 ∷ []) (codes ", ") (sign (codes ",") ∷ [])
unfolding path_written front lead
comma_blank = copied all_fronts (7 ∷ []) (fits.spaced fits.comma refl) refl refl refl (λ behind h. refl) (λ behind h. refl)

pub semicolon : Spelt AsType AsType all_fronts (7 ∷ []) (codes "; ") (sign (codes ";") ∷ [])
unfolding path_written front lead
semicolon = copied all_fronts (7 ∷ []) (fits.spaced fits.semicolon refl) refl refl refl (λ behind h. refl) (λ behind h. refl)

pub opening : Spelt AsType AsType all_fronts (7 ∷ []) (codes "(") (sign (codes "(") ∷ [])
unfolding path_written front lead
opening = copied all_fronts (7 ∷ []) fits.opening refl refl refl (λ behind h. refl) (λ behind h. refl)

pub closing : Spelt AsType AsType all_fronts (7 ∷ []) (codes ")") (sign (codes ")") ∷ [])
unfolding path_written front lead
closing = copied all_fronts (7 ∷ []) fits.closing refl refl refl (λ behind h. refl) (λ behind h. refl)

pub bracket : Spelt AsType AsType all_fronts (7 ∷ []) (codes "[") (sign (codes "[") ∷ [])
unfolding path_written front lead
bracket = copied all_fronts (7 ∷ []) fits.bracket refl refl refl (λ behind h. refl) (λ behind h. refl)

pub bracket_end : Spelt AsType AsType all_fronts (7 ∷ []) (codes "]") (sign (codes "]") ∷ [])
unfolding path_written front lead
bracket_end = copied all_fronts (7 ∷ []) fits.bracket_end refl refl refl (λ behind h. refl) (λ behind h. refl)

pub ampersand : Spelt AsType AsType all_fronts (7 ∷ []) (codes "&") (sign (codes "&") ∷ [])
unfolding path_written front lead
ampersand = copied all_fronts (7 ∷ []) fits.ampersand refl refl refl (λ behind h. refl) (λ behind h. refl)

pub star : Spelt AsType AsType all_fronts (7 ∷ []) (codes "*") (sign (codes "*") ∷ [])
unfolding path_written front lead
star = copied all_fronts (7 ∷ []) fits.star refl refl refl (λ behind h. refl) (λ behind h. refl)

pub greater : Spelt AsType AsType all_fronts (4 ∷ []) (codes ">") (sign (codes ">") ∷ [])
unfolding path_written front lead
greater = copied all_fronts (4 ∷ []) fits.greater refl refl refl (λ behind h. refl) (λ behind h. refl)

pub less : (p : Position) → Spelt p AsType arguments_follow (6 ∷ []) (codes "<") (sign (codes "<") ∷ [])
unfolding path_written front
less p = copied arguments_follow (6 ∷ []) fits.less refl refl refl (λ behind h. less_written p behind (no_impl (coarsely arguments_follow) refl behind (coarse_lead arguments_follow behind h))) (λ behind h. refl)

no_word_behind : (behind : List ℕ) → has path_follow (front behind) ≡ true → first_is is_word_byte behind ≡ false
no_word_behind behind h = no_word behind (subset_has (coarsely path_follow) word_follow (lead behind) refl (coarse_lead path_follow behind h))

pub colons : Spelt AsType Alone path_follow (5 ∷ []) (codes "::") (sign (codes "::") ∷ [])
unfolding path_written
colons = exactly path_follow (5 ∷ []) fits.colons refl refl refl refl refl (λ behind h. refl)

pub mut_blank : Spelt AsType AsType all_fronts (1 ∷ []) (codes "mut ") (word (codes "mut") ∷ [])
unfolding path_written
mut_blank = exactly all_fronts (1 ∷ []) fits.mut_word refl refl refl refl refl (λ behind h. refl)

pub const_blank : Spelt AsType AsType all_fronts (1 ∷ []) (codes "const ") (word (codes "const") ∷ [])
unfolding path_written
const_blank = exactly all_fronts (1 ∷ []) fits.const_word refl refl refl refl refl (λ behind h. refl)

pub dyn_blank : Spelt AsType Alone all_fronts (1 ∷ []) (codes "dyn ") (word (codes "dyn") ∷ [])
unfolding path_written
dyn_blank = exactly all_fronts (1 ∷ []) fits.dyn_word refl refl refl refl refl (λ behind h. refl)

pub as_between : Spelt AsType Alone all_fronts (7 ∷ []) (codes " as ") (word (codes "as") ∷ [])
unfolding path_written front lead
as_between = copied all_fronts (7 ∷ []) fits.as_word refl refl refl (λ behind h. refl) (λ behind h. refl)

-- Words.

word_bytes : (t : Lexeme) → t.kind ≡ kind.Word → IsToken t.kind t.text → list_all is_word_byte t.text ≡ true
word_bytes t k i = let j = subst (λ x. IsToken x t.text) k i in (and_parts (first_is is_word_start t.text) (list_all is_word_byte t.text) j.0).1

pub word_as_written : (p : Position) (t : Lexeme) → t.kind ≡ kind.Word → IsToken t.kind t.text → path_written p t.text ≡ t.text
unfolding path_written
word_as_written p t k i = ap (path_written p) (sym (append-nil t.text)) ∙ run_written p [] t.text [] (word_bytes t k i) ∙ append-nil t.text

-- bytes of a word, as a token
run_spelt : (p : Position) (t : Lexeme) → Fits word_follow (1 ∷ []) t.text (t ∷ []) → list_all is_word_byte t.text ≡ true → Spelt p AsType word_follow (1 ∷ []) t.text (t ∷ [])
unfolding path_written
run_spelt p t f a = exactly word_follow (1 ∷ []) f refl refl refl refl refl
    (λ behind h. run_written p [] t.text behind a ∙ ap (λ x. t.text ++ x) (word_end p t.text behind (no_less word_follow behind refl h) (no_word behind (coarse_lead word_follow behind h)) (no_lone word_follow behind refl h)))

pub word_spelt : (p : Position) (t : Lexeme) → t.kind ≡ kind.Word → IsToken t.kind t.text → bytes_eq (codes "impl") t.text ≡ false → Spelt p AsType word_follow (1 ∷ []) t.text (t ∷ [])
word_spelt p t k i n = run_spelt p t (word_fits t k i n) (word_bytes t k i)

-- arguments may stand directly behind it
pub free_word_spelt : (p : Position) (t : Lexeme) → t.kind ≡ kind.Word → IsToken t.kind t.text → bytes_eq (codes "impl") t.text ≡ false → is_reserved p t.text ≡ false → Spelt p AsType path_follow (1 ∷ []) t.text (t ∷ [])
unfolding path_written
free_word_spelt p t k i n r = exactly path_follow (1 ∷ []) (word_fits t k i n) refl refl refl refl refl
    (λ behind h. run_written p [] t.text behind (word_bytes t k i) ∙ ap (λ x. t.text ++ x) (free_over p t.text behind r (no_word_behind behind h) (no_lone path_follow behind refl h)))

-- and so they may behind :: and any word
pub step_spelt : (t : Lexeme) → t.kind ≡ kind.Word → IsToken t.kind t.text → bytes_eq (codes "impl") t.text ≡ false → Spelt AsType AsType path_follow (5 ∷ []) (codes "::" ++ t.text) (sign (codes "::") ∷ t ∷ [])
unfolding path_written
step_spelt t k i n = exactly path_follow (5 ∷ []) (fits_join fits.colons (word_fits t k i n) refl) refl refl refl refl refl
    (λ behind h. ap (λ x. codes "::" ++ x) (run_written Alone [] t.text behind (word_bytes t k i) ∙ ap (λ x. t.text ++ x) (free_over Alone t.text behind (alone_free t.text) (no_word_behind behind h) (no_lone path_follow behind refl h))))

reserved_written : (p : Position) (w x : List ℕ) → list_all is_word_byte w ≡ true → is_reserved p w ≡ true → opens_impl x ≡ false → path_written p (w ++ (codes "<" ++ x)) ≡ w ++ (codes "::<" ++ path_written AsType x)
unfolding path_written
reserved_written p w x a r o = run_written p [] w (codes "<" ++ x) a ∙ ap (λ y. w ++ y) (arguments_written p w x r o)

no_impl_behind : (l x : List ℕ) → subset l arguments_follow ≡ true → has l (front x) ≡ true → opens_impl x ≡ false
no_impl_behind l x e h = no_impl (coarsely arguments_follow) refl x (coarse_lead arguments_follow x (subset_has l arguments_follow (front x) e h))

reserved_front : (t : Lexeme) (rest : List ℕ) → Fits word_follow (1 ∷ []) t.text (t ∷ []) → has (1 ∷ []) (front (t.text ++ (codes "<" ++ rest))) ≡ true
unfolding lead
reserved_front t rest f = exact_front (1 ∷ []) (t.text ++ (codes "<" ++ rest)) refl (f.begins (codes "<" ++ rest) refl)

-- a reserved word and its arguments, which are written with :: between them
pub reserved_spelt : {s l text : List ℕ} {ls : List Lexeme} (p : Position) (t : Lexeme) → t.kind ≡ kind.Word → IsToken t.kind t.text → bytes_eq (codes "impl") t.text ≡ false → is_reserved p t.text ≡ true
    → Spelt AsType AsType s l text ls → subset l arguments_follow ≡ true → Spelt p AsType s (1 ∷ []) (t.text ++ (codes "<" ++ text)) (t ∷ sign (codes "::") ∷ sign (codes "<") ∷ ls)
reserved_spelt {s} {l} {text} {ls} p t k i n r f e =
    let a = word_bytes t k i in
    let whole = reserved_written p t.text text a r (no_impl_behind l text e f.first) in
    let inner = fits_wide f.fits (subset_self (coarsely s)) (coarse_subset l arguments_follow e) in
    record {
      fits = fits_text (sym whole) (fits_join (word_fits t k i n) (fits_join fits.colons (fits_join fits.less inner refl) refl) refl);
      splits = λ behind h. ap (path_written p) (append_assoc t.text (codes "<" ++ text) behind) ∙ reserved_written p t.text (text ++ behind) a r (no_impl_behind l (text ++ behind) e (f.begins behind h))
          ∙ ap (λ x. t.text ++ (codes "::<" ++ x)) (f.splits behind h) ∙ sym (append_assoc t.text (codes "::<" ++ path_written AsType text) (path_written AsType behind)) ∙ ap (λ x. x ++ path_written AsType behind) (sym whole);
      begins = λ behind h. subst (λ x. has (1 ∷ []) (front x) ≡ true) (sym (append_assoc t.text (codes "<" ++ text) behind)) (reserved_front t (text ++ behind) (word_fits t k i n));
      first = reserved_front t text (word_fits t k i n);
    }

-- Numbers, lifetimes, impl segments.

digits_bytes : (ds : List ℕ) → list_all is_digit ds ≡ true → list_all is_word_byte ds ≡ true
digits_bytes [] h = refl
digits_bytes (d ∷ ds) h = let p = and_parts (is_digit d) (list_all is_digit ds) h in and_from (is_word_byte d) (list_all is_word_byte ds) (or_right (is_word_start d) (is_digit d) p.0) (digits_bytes ds p.1)

bytes_of : (text : List ℕ) (w : List ℕ) → bytes_eq text w ≡ true → list_all is_word_byte w ≡ true → list_all is_word_byte text ≡ true
bytes_of text w e h = ap (list_all is_word_byte) ((bytes_eq-Decides text w).0 e) ∙ h

width_bytes : (text : List ℕ) → is_width text ≡ true → list_all is_word_byte text ≡ true
width_bytes text h = by_six (bytes_eq text (codes "8")) (bytes_eq text (codes "16")) (bytes_eq text (codes "32")) (bytes_eq text (codes "64")) (bytes_eq text (codes "128")) (bytes_eq text (codes "size")) refl refl refl refl refl refl h
  where
    by_six : (a b c d e f : Bool) → bytes_eq text (codes "8") ≡ a → bytes_eq text (codes "16") ≡ b → bytes_eq text (codes "32") ≡ c → bytes_eq text (codes "64") ≡ d → bytes_eq text (codes "128") ≡ e → bytes_eq text (codes "size") ≡ f
        → (a || (b || (c || (d || (e || f))))) ≡ true → list_all is_word_byte text ≡ true
    by_six true b c d e f p q r s t u h = bytes_of text (codes "8") p refl
    by_six false true c d e f p q r s t u h = bytes_of text (codes "16") q refl
    by_six false false true d e f p q r s t u h = bytes_of text (codes "32") r refl
    by_six false false false true e f p q r s t u h = bytes_of text (codes "64") s refl
    by_six false false false false true f p q r s t u h = bytes_of text (codes "128") t refl
    by_six false false false false false true p q r s t u h = bytes_of text (codes "size") u refl
    by_six false false false false false false p q r s t u h = absurd (cc h)

sign_byte : (a : ℕ) → ((a == 105) || (a == 117)) ≡ true → is_word_byte a ≡ true
sign_byte a h = by_two (a == 105) (a == 117) refl refl h
  where
    by_two : (c d : Bool) → (a == 105) ≡ c → (a == 117) ≡ d → (c || d) ≡ true → is_word_byte a ≡ true
    by_two true d p q h = ap is_word_byte (eqb-true a 105 p)
    by_two false true p q h = ap is_word_byte (eqb-true a 117 q)
    by_two false false p q h = absurd (cc h)

name_bytes : (name : List ℕ) → is_integer_name name ≡ true → list_all is_word_byte name ≡ true
name_bytes [] h = absurd (cc h)
name_bytes (a ∷ width) h = let p = and_parts ((a == 105) || (a == 117)) (is_width width) h in and_from (is_word_byte a) (list_all is_word_byte width) (sign_byte a p.0) (width_bytes width p.1)

suffix_bytes : (suffix : List ℕ) → is_suffix suffix ≡ true → list_all is_word_byte suffix ≡ true
suffix_bytes [] h = refl
suffix_bytes (a ∷ name) h = let p = and_parts (a == 95) (is_integer_name name) h in and_from (is_word_byte a) (list_all is_word_byte name) (ap is_word_byte (eqb-true a 95 p.0)) (name_bytes name p.1)

both_bytes : (xs ys : List ℕ) → list_all is_word_byte xs ≡ true → list_all is_word_byte ys ≡ true → list_all is_word_byte (xs ++ ys) ≡ true
both_bytes [] ys h k = k
both_bytes (x ∷ xs) ys h k = let p = and_parts (is_word_byte x) (list_all is_word_byte xs) h in and_from (is_word_byte x) (list_all is_word_byte (xs ++ ys)) p.0 (both_bytes xs ys p.1 k)

pub number_spelt : (t : Lexeme) → t.kind ≡ kind.Number → IsToken t.kind t.text → Spelt AsType AsType word_follow (1 ∷ []) t.text (t ∷ [])
number_spelt t k i =
    let j = subst (λ x. IsToken x t.text) k i in
    let d = digits_bytes j.0 (and_parts (first_is is_digit j.0) (list_all is_digit j.0) j.3).1 in
    run_spelt AsType t (number_fits t k i) (ap (list_all is_word_byte) j.2 ∙ both_bytes j.0 j.1 d (suffix_bytes j.1 j.5))

lifetime_written : (w text behind : List ℕ) → text ≡ 39 ∷ w → list_all is_word_byte w ≡ true → has lifetime_follow (front behind) ≡ true → path_written AsType (text ++ behind) ≡ text ++ path_written AsType behind
unfolding path_written
lifetime_written w text behind e a h = ap (λ x. path_written AsType (x ++ behind)) e
    ∙ ap (λ x. 39 ∷ x) (run_written AsType [] w behind a
    ∙ ap (λ x. w ++ x) (word_end AsType w behind (no_less lifetime_follow behind refl h) (no_lifetime behind (coarse_lead lifetime_follow behind h)).0 (no_lone lifetime_follow behind refl h))) ∙ sym (ap (λ x. x ++ path_written AsType behind) e)

pub lifetime_spelt : (t : Lexeme) → t.kind ≡ kind.Lifetime → IsToken t.kind t.text → Spelt AsType AsType lifetime_follow (3 ∷ []) t.text (t ∷ [])
lifetime_spelt t k i =
    let j = subst (λ x. IsToken x t.text) k i in
    exactly lifetime_follow (3 ∷ []) (lifetime_fits t k i) refl refl refl refl refl (λ behind h. lifetime_written j.0 t.text behind j.1 (and_parts (first_is is_word_start j.0) (list_all is_word_byte j.0) j.2).1 h)

pub segment_spelt : (p : Position) (t : Lexeme) → t.kind ≡ kind.ImplSegment → IsToken t.kind t.text → Spelt p AsType all_fronts (6 ∷ []) t.text (t ∷ [])
unfolding path_written front
segment_spelt p t k i =
    let j = subst (λ x. IsToken x t.text) k i in
    copied all_fronts (6 ∷ []) (segment_fits t k i) refl refl refl
    (λ behind h. ap (λ x. path_written p (x ++ behind)) j.2 ∙ ap (λ x. path_written p (codes "<impl" ++ j.0 ∷ x)) (append_assoc j.1 (codes ">") behind) ∙ impl_written p j.0 j.1 behind j.3 j.4
    ∙ sym (ap (λ x. codes "<impl" ++ j.0 ∷ x) (append_assoc j.1 (codes ">") (path_written AsType behind))) ∙ sym (ap (λ x. x ++ path_written AsType behind) j.2))
    (λ behind h. ap (λ x. has (6 ∷ []) (front (x ++ behind))) j.2)

-- Signs as tokens of a text.

pub exclamation_spelt : (t : Lexeme) → t.text ≡ codes "!" → Fits all_leads (7 ∷ []) t.text (t ∷ []) → Spelt AsType AsType all_fronts (7 ∷ []) t.text (t ∷ [])
unfolding path_written front lead
exclamation_spelt t e f = copied all_fronts (7 ∷ []) f refl refl refl (λ behind h. ap (λ x. path_written AsType (x ++ behind)) e ∙ sym (ap (λ x. x ++ path_written AsType behind) e)) (λ behind h. ap (λ x. has (7 ∷ []) (front (x ++ behind))) e)

pub less_spelt : (p : Position) (t : Lexeme) → t.text ≡ codes "<" → Fits less_follow (7 ∷ []) t.text (t ∷ []) → Spelt p AsType arguments_follow (6 ∷ []) t.text (t ∷ [])
unfolding path_written front
less_spelt p t e f = copied arguments_follow (6 ∷ []) f refl refl refl
    (λ behind h. ap (λ x. path_written p (x ++ behind)) e ∙ less_written p behind (no_impl (coarsely arguments_follow) refl behind (coarse_lead arguments_follow behind h)) ∙ sym (ap (λ x. x ++ path_written AsType behind) e))
    (λ behind h. ap (λ x. has (6 ∷ []) (front (x ++ behind))) e)
