-- Bytes that are written behind one another, and the lexemes in them.
use Rattle.std.proofs.Common.{◌≡◌, ℕ, ◌≤◌, Bool, true, false, if◌then◌else◌, ◌==◌, List, [], ◌∷◌, ◌++◌, length, codes, refl, sym, ◌∙◌, ap, subst, arith, append_assoc}
use Rattle.mir_lex.specs.declared.token.TokenKind.TheVariants as kind
use Rattle.std.proofs.lemmas.Bool.{and_parts, or_left, eq-eqb}
use Rattle.std.specs.Str.{bytes_eq}
use Rattle.std.specs.List.{list_all}
use Rattle.mir_lex.specs.Bytes.{is_word_start, is_word_byte, is_digit, first_is}
use Rattle.mir_lex.specs.Tokens.{Separator, Blank, Separates, IsToken, is_word, ends}
use Rattle.grammar_words.specs.Classes.{has}
use Rattle.grammar_words.proofs.Sets.{subset, subset_has}
use Rattle.mir_grammar.specs.Lexemes.{Lexeme, sign, word}
use Rattle.print_laws.proofs.Leads.{lead, all_leads, word_follow, lifetime_follow, less_follow, no_word, no_lifetime, plain_ends, less_ends, run_lead, number_lead, quote_lead, colon_follow, dash_follow, colon_ends, dash_ends, equal_ends}

-- the bytes are these lexemes, with separators between them and behind them
abbrev pub Spells : List ℕ → List Lexeme → Type 0
Spells bytes [] = (gap : List Separator) × Separates bytes gap []
Spells bytes (l ∷ ls) = (gap : List Separator) × (mid behind : List ℕ) × Separates bytes gap mid × (mid ≡ l.text ++ behind) × IsToken l.kind l.text × (ends l.kind l.text behind ≡ true) × Spells behind ls

-- a text is these lexemes where such a thing stands behind it, and it begins with such a thing
pub record Fits (follow leads : List ℕ) (text : List ℕ) (ls : List Lexeme) : Type 0 where
  pub begins : (behind : List ℕ) → has follow (lead behind) ≡ true → has leads (lead (text ++ behind)) ≡ true
  pub spells : (behind : List ℕ) (more : List Lexeme) → has follow (lead behind) ≡ true → Spells behind more → Spells (text ++ behind) (ls ++ more)

pub has_more : (x n : ℕ) (a : List ℕ) → has a n ≡ true → has (x ∷ a) n ≡ true
has_more x n a h = more_by (x == n) (has a n) h
  where
    more_by : (t u : Bool) → u ≡ true → (if t then true else u) ≡ true
    more_by true u h = refl
    more_by false u h = h

pub has_first : (x : ℕ) (a : List ℕ) → has (x ∷ a) x ≡ true
has_first x a = rw (eq-eqb x x refl) refl

subset_more : (a b : List ℕ) → ((n : ℕ) → has a n ≡ true → has b n ≡ true) → subset a b ≡ true
subset_more [] b h = refl
subset_more (x ∷ a) b h = rw (h x (has_first x a)) (subset_more a b (λ n e. h n (has_more x n a e)))

pub subset_self : (a : List ℕ) → subset a a ≡ true
subset_self a = subset_more a a (λ n h. h)

pub subset_tail : (x : ℕ) (a : List ℕ) → subset a (x ∷ a) ≡ true
subset_tail x a = subset_more a (x ∷ a) (λ n h. has_more x n a h)

pub fits_none : (s : List ℕ) → Fits s s [] []
fits_none s = record { begins = λ behind h. h; spells = λ behind more h p. p }

pub fits_join : {s l t m a b : List ℕ} {x y : List Lexeme} → Fits t l a x → Fits s m b y → subset m t ≡ true → Fits s l (a ++ b) (x ++ y)
fits_join {s} {l} {t} {m} {a} {b} {x} {y} f g e = record {
  begins = λ behind h. subst (λ z. has l (lead z) ≡ true) (sym (append_assoc a b behind)) (f.begins (b ++ behind) (subset_has m t (lead (b ++ behind)) e (g.begins behind h)));
  spells = λ behind more h p. subst (λ z. Spells z ((x ++ y) ++ more)) (sym (append_assoc a b behind)) (subst (λ z. Spells (a ++ (b ++ behind)) z) (sym (append_assoc x y more))
      (f.spells (b ++ behind) (y ++ more) (subset_has m t (lead (b ++ behind)) e (g.begins behind h)) (g.spells behind more h p)));
}

pub fits_wide : {s l t m a : List ℕ} {x : List Lexeme} → Fits t l a x → subset s t ≡ true → subset l m ≡ true → Fits s m a x
fits_wide {s} {l} {t} {m} {a} f e g = record {
  begins = λ behind h. subset_has l m (lead (a ++ behind)) g (f.begins behind (subset_has s t (lead behind) e h));
  spells = λ behind more h p. f.spells behind more (subset_has s t (lead behind) e h) p;
}

pub fits_text : {s l a b : List ℕ} {x : List Lexeme} → a ≡ b → Fits s l a x → Fits s l b x
fits_text {s} {l} {a} {b} {x} e f = subst (λ t. Fits s l t x) e f

pub fits_token : (s l : List ℕ) (t : Lexeme) → IsToken t.kind t.text → ((behind : List ℕ) → has s (lead behind) ≡ true → ends t.kind t.text behind ≡ true)
    → ((behind : List ℕ) → has s (lead behind) ≡ true → has l (lead (t.text ++ behind)) ≡ true) → Fits s l t.text (t ∷ [])
fits_token s l t i e f = record { begins = f; spells = λ behind more h p. ([], t.text ++ behind, behind, refl, refl, i, e behind h, p) }

blank_before : (b : ℕ) → (is_sep : Separates (b ∷ []) (Blank b ∷ []) []) → (behind : List ℕ) (more : List Lexeme) → Spells behind more → Spells (b ∷ behind) more
blank_before b i behind [] p = (Blank b ∷ p.0, (behind, refl, i.2, p.1))
blank_before b i behind (l ∷ more) p = (Blank b ∷ p.0, p.1, p.2, (behind, refl, i.2, p.3), p.4, p.5, p.6, p.7)

space_lead : (behind : List ℕ) → lead (32 ∷ behind) ≡ 7
unfolding lead
space_lead behind = refl

pub fits_space : Fits all_leads (7 ∷ []) (codes " ") []
fits_space = record { begins = λ behind h. ap (has (7 ∷ [])) (space_lead behind); spells = λ behind more h p. blank_before 32 ([], refl, refl, refl) behind more p }

line_lead : (behind : List ℕ) → lead (10 ∷ behind) ≡ 7
unfolding lead
line_lead behind = refl

pub fits_line : Fits all_leads (7 ∷ []) (codes "\n") []
fits_line = record { begins = λ behind h. ap (has (7 ∷ [])) (line_lead behind); spells = λ behind more h p. blank_before 10 ([], refl, refl, refl) behind more p }

start_byte : (b : ℕ) → is_word_start b ≡ true → is_word_byte b ≡ true
start_byte b h = or_left (is_word_start b) (is_digit b) h

word_first : (text : List ℕ) → first_is is_word_start text ≡ true → first_is is_word_byte text ≡ true
word_first [] h = h
word_first (b ∷ rest) h = start_byte b h

-- Signs.

sign_fits : (s l text : List ℕ) → IsToken kind.Sign text → ((behind : List ℕ) → has s (lead behind) ≡ true → ends kind.Sign text behind ≡ true) → ((behind : List ℕ) → has l (lead (text ++ behind)) ≡ true) → Fits s l text (sign text ∷ [])
sign_fits s l text i e f = fits_token s l (sign text) i e (λ behind h. f behind)

pub less : Fits less_follow (7 ∷ []) (codes "<") (sign (codes "<") ∷ [])
unfolding lead
less = sign_fits less_follow (7 ∷ []) (codes "<") refl less_ends (λ behind. refl)

pub greater : Fits all_leads (4 ∷ []) (codes ">") (sign (codes ">") ∷ [])
unfolding lead
greater = sign_fits all_leads (4 ∷ []) (codes ">") refl (λ behind h. plain_ends 62 refl refl refl refl behind) (λ behind. refl)

pub comma : Fits all_leads (7 ∷ []) (codes ",") (sign (codes ",") ∷ [])
unfolding lead
comma = sign_fits all_leads (7 ∷ []) (codes ",") refl (λ behind h. plain_ends 44 refl refl refl refl behind) (λ behind. refl)

pub semicolon : Fits all_leads (7 ∷ []) (codes ";") (sign (codes ";") ∷ [])
unfolding lead
semicolon = sign_fits all_leads (7 ∷ []) (codes ";") refl (λ behind h. plain_ends 59 refl refl refl refl behind) (λ behind. refl)

pub opening : Fits all_leads (7 ∷ []) (codes "(") (sign (codes "(") ∷ [])
unfolding lead
opening = sign_fits all_leads (7 ∷ []) (codes "(") refl (λ behind h. plain_ends 40 refl refl refl refl behind) (λ behind. refl)

pub closing : Fits all_leads (7 ∷ []) (codes ")") (sign (codes ")") ∷ [])
unfolding lead
closing = sign_fits all_leads (7 ∷ []) (codes ")") refl (λ behind h. plain_ends 41 refl refl refl refl behind) (λ behind. refl)

pub bracket : Fits all_leads (7 ∷ []) (codes "[") (sign (codes "[") ∷ [])
unfolding lead
bracket = sign_fits all_leads (7 ∷ []) (codes "[") refl (λ behind h. plain_ends 91 refl refl refl refl behind) (λ behind. refl)

pub bracket_end : Fits all_leads (7 ∷ []) (codes "]") (sign (codes "]") ∷ [])
unfolding lead
bracket_end = sign_fits all_leads (7 ∷ []) (codes "]") refl (λ behind h. plain_ends 93 refl refl refl refl behind) (λ behind. refl)

pub ampersand : Fits all_leads (7 ∷ []) (codes "&") (sign (codes "&") ∷ [])
unfolding lead
ampersand = sign_fits all_leads (7 ∷ []) (codes "&") refl (λ behind h. plain_ends 38 refl refl refl refl behind) (λ behind. refl)

pub star : Fits all_leads (7 ∷ []) (codes "*") (sign (codes "*") ∷ [])
unfolding lead
star = sign_fits all_leads (7 ∷ []) (codes "*") refl (λ behind h. plain_ends 42 refl refl refl refl behind) (λ behind. refl)

pub exclamation : Fits all_leads (7 ∷ []) (codes "!") (sign (codes "!") ∷ [])
unfolding lead
exclamation = sign_fits all_leads (7 ∷ []) (codes "!") refl (λ behind h. plain_ends 33 refl refl refl refl behind) (λ behind. refl)

pub colons : Fits all_leads (5 ∷ []) (codes "::") (sign (codes "::") ∷ [])
unfolding lead
colons = sign_fits all_leads (5 ∷ []) (codes "::") refl (λ behind h. refl) (λ behind. refl)

pub dot : Fits all_leads (7 ∷ []) (codes ".") (sign (codes ".") ∷ [])
unfolding lead
dot = sign_fits all_leads (7 ∷ []) (codes ".") refl (λ behind h. plain_ends 46 refl refl refl refl behind) (λ behind. refl)

pub brace : Fits all_leads (7 ∷ []) (codes "{") (sign (codes "{") ∷ [])
unfolding lead
brace = sign_fits all_leads (7 ∷ []) (codes "{") refl (λ behind h. plain_ends 123 refl refl refl refl behind) (λ behind. refl)

pub brace_end : Fits all_leads (7 ∷ []) (codes "}") (sign (codes "}") ∷ [])
unfolding lead
brace_end = sign_fits all_leads (7 ∷ []) (codes "}") refl (λ behind h. plain_ends 125 refl refl refl refl behind) (λ behind. refl)

pub colon : Fits colon_follow (5 ∷ []) (codes ":") (sign (codes ":") ∷ [])
unfolding lead
colon = sign_fits colon_follow (5 ∷ []) (codes ":") refl colon_ends (λ behind. refl)

pub dash : Fits dash_follow (7 ∷ []) (codes "-") (sign (codes "-") ∷ [])
unfolding lead
dash = sign_fits dash_follow (7 ∷ []) (codes "-") refl dash_ends (λ behind. refl)

pub equal : Fits dash_follow (7 ∷ []) (codes "=") (sign (codes "=") ∷ [])
unfolding lead
equal = sign_fits dash_follow (7 ∷ []) (codes "=") refl equal_ends (λ behind. refl)

pub arrow : Fits all_leads (7 ∷ []) (codes "->") (sign (codes "->") ∷ [])
unfolding lead
arrow = sign_fits all_leads (7 ∷ []) (codes "->") refl (λ behind h. refl) (λ behind. refl)

-- a sign and a blank behind it
pub spaced : {s l a : List ℕ} {x : List Lexeme} → Fits s l a x → subset (7 ∷ []) s ≡ true → Fits all_leads l (a ++ codes " ") (x ++ [])
spaced f e = fits_join f fits_space e

-- Words.

pub word_fits : (t : Lexeme) → t.kind ≡ kind.Word → IsToken t.kind t.text → bytes_eq (codes "impl") t.text ≡ false → Fits word_follow (1 ∷ []) t.text (t ∷ [])
word_fits t k i n = let j = subst (λ x. IsToken x t.text) k i in let p = and_parts (first_is is_word_start t.text) (list_all is_word_byte t.text) j.0 in
    fits_token word_follow (1 ∷ []) t i (λ behind h. subst (λ x. ends x t.text behind ≡ true) (sym k) (rw (no_word behind h) refl))
    (λ behind h. ap (has (1 ∷ [])) (run_lead t.text behind (word_first t.text p.0) p.1 (no_word behind h) n))

pub written_word : (text : List ℕ) → is_word text ≡ true → length text ≤ 256 → bytes_eq (codes "impl") text ≡ false → Fits word_follow (1 ∷ []) text (word text ∷ [])
written_word text i l n = word_fits (word text) refl (i, l) n

pub mut_word : Fits all_leads (1 ∷ []) (codes "mut ") (word (codes "mut") ∷ [])
mut_word = spaced (written_word (codes "mut") refl (omega arith) refl) refl

pub const_word : Fits all_leads (1 ∷ []) (codes "const ") (word (codes "const") ∷ [])
const_word = spaced (written_word (codes "const") refl (omega arith) refl) refl

pub dyn_word : Fits all_leads (1 ∷ []) (codes "dyn ") (word (codes "dyn") ∷ [])
dyn_word = spaced (written_word (codes "dyn") refl (omega arith) refl) refl

pub as_word : Fits all_leads (7 ∷ []) (codes " as ") (word (codes "as") ∷ [])
as_word = fits_join fits_space (spaced (written_word (codes "as") refl (omega arith) refl) refl) refl

pub of_word : Fits all_leads (7 ∷ []) (codes " of ") (word (codes "of") ∷ [])
of_word = fits_join fits_space (spaced (written_word (codes "of") refl (omega arith) refl) refl) refl

-- Numbers, lifetimes, impl segments.

pub number_fits : (t : Lexeme) → t.kind ≡ kind.Number → IsToken t.kind t.text → Fits word_follow (1 ∷ []) t.text (t ∷ [])
number_fits t k i = let j = subst (λ x. IsToken x t.text) k i in
    fits_token word_follow (1 ∷ []) t i (λ behind h. subst (λ x. ends x t.text behind ≡ true) (sym k) (rw (no_word behind h) refl))
    (λ behind h. ap (has (1 ∷ [])) (number_lead t.text j.0 j.1 behind j.2 (and_parts (first_is is_digit j.0) (list_all is_digit j.0) j.3).0))

pub lifetime_fits : (t : Lexeme) → t.kind ≡ kind.Lifetime → IsToken t.kind t.text → Fits lifetime_follow (3 ∷ []) t.text (t ∷ [])
lifetime_fits t k i = let j = subst (λ x. IsToken x t.text) k i in
    fits_token lifetime_follow (3 ∷ []) t i (λ behind h. subst (λ x. ends x t.text behind ≡ true) (sym k) (let n = no_lifetime behind h in rw (n.0) (rw (n.1) refl)))
    (λ behind h. ap (has (3 ∷ [])) (quote_lead t.text behind j.0 j.1))

impl_segment_lead : (rest : List ℕ) → lead (60 ∷ rest) ≡ 7
unfolding lead
impl_segment_lead rest = refl

pub segment_fits : (t : Lexeme) → t.kind ≡ kind.ImplSegment → IsToken t.kind t.text → Fits all_leads (7 ∷ []) t.text (t ∷ [])
segment_fits t k i = let j = subst (λ x. IsToken x t.text) k i in
    fits_token all_leads (7 ∷ []) t i (λ behind h. subst (λ x. ends x t.text behind ≡ true) (sym k) refl)
    (λ behind h. ap (has (7 ∷ [])) (ap (λ x. lead (x ++ behind)) j.2 ∙ impl_segment_lead (105 ∷ 109 ∷ 112 ∷ 108 ∷ j.0 ∷ ((j.1 ++ 62 ∷ []) ++ behind))))
