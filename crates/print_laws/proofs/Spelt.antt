-- Names and the lexemes that they are as they are written.
use Rattle.std.proofs.Common.{◌≡◌, ℕ, Bool, true, false, not, ◌==◌, if◌then◌else◌, List, [], ◌∷◌, ◌++◌, refl, sym, ◌∙◌, ap, subst, arith, append_assoc, append-nil}
use Rattle.std.proofs.lemmas.Bool.{and_parts, eqb-true, both_ways}
use Rattle.mir_lex.specs.Bytes.{is_word_byte, first_is}
use Rattle.mir_lex.specs.Tokens.{opens_impl}
use Rattle.grammar_words.specs.Classes.{has}
use Rattle.grammar_words.proofs.Sets.{subset, subset_has}
use Rattle.mir_grammar.specs.Lexemes.{Lexeme}
use Rattle.canonical_text.specs.declared.positions.Position.{Position}
use Rattle.canonical_text.specs.Names.{path_written}
use Rattle.print_laws.proofs.Leads.{lead}
use Rattle.print_laws.proofs.Written.{opens_as, lone_blank}
use Rattle.print_laws.proofs.Fits.{Fits, fits_none, fits_join, fits_wide, fits_text, has_first, has_more}

-- what stands first in bytes, as by `lead`, but 6 for < and 8 for a blank that is not the one before `as`
unfoldable pub front : List ℕ → ℕ
front [] = 0
front (b ∷ rest) = if b == 60 then 6 else (if lone_blank (b ∷ rest) then 8 else lead (b ∷ rest))

abbrev pub coarse : ℕ → ℕ
coarse n = if n == 6 then 7 else (if n == 8 then 7 else n)

abbrev pub coarsely : List ℕ → List ℕ
coarsely [] = []
coarsely (n ∷ ns) = coarse n ∷ coarsely ns

-- anything that begins a part of a name
abbrev pub all_fronts : List ℕ
all_fronts = 0 ∷ 1 ∷ 2 ∷ 3 ∷ 4 ∷ 5 ∷ 6 ∷ 7 ∷ []

-- behind a word before which no path may begin with a word of another meaning
abbrev pub path_follow : List ℕ
path_follow = 0 ∷ 3 ∷ 4 ∷ 5 ∷ 6 ∷ 7 ∷ []

-- of the < of arguments
abbrev pub arguments_follow : List ℕ
arguments_follow = 0 ∷ 1 ∷ 3 ∷ 4 ∷ 5 ∷ 6 ∷ 7 ∷ []

coarse_step : (x n : ℕ) (s : List ℕ) → (has s n ≡ true → has (coarsely s) (coarse n) ≡ true) → (t : Bool) → (x == n) ≡ t → (if t then true else has s n) ≡ true → has (coarsely (x ∷ s)) (coarse n) ≡ true
coarse_step x n s ih true e h = subst (λ k. has (coarse x ∷ coarsely s) (coarse k) ≡ true) (eqb-true x n e) (has_first (coarse x) (coarsely s))
coarse_step x n s ih false e h = has_more (coarse x) (coarse n) (coarsely s) (ih h)

coarse_has : (s : List ℕ) (n : ℕ) → has s n ≡ true → has (coarsely s) (coarse n) ≡ true
coarse_has [] n h = absurd cc
coarse_has (x ∷ s) n h = coarse_step x n s (coarse_has s n) (x == n) refl h

-- each of a coarse set comes from the set
coarse_from : (a t : List ℕ) → ((n : ℕ) → has a n ≡ true → has t n ≡ true) → subset (coarsely a) (coarsely t) ≡ true
coarse_from [] t h = refl
coarse_from (x ∷ a) t h = rw (coarse_has t x (h x (has_first x a))) (coarse_from a t (λ n e. h n (has_more x n a e)))

pub coarse_subset : (a t : List ℕ) → subset a t ≡ true → subset (coarsely a) (coarsely t) ≡ true
coarse_subset a t e = coarse_from a t (λ n h. subset_has a t n e h)

never_six : (w o a c d : Bool) → coarse (if w then (if o then 2 else 1) else (if a then 3 else (if c then 4 else (if d then 5 else 7)))) ≡ (if w then (if o then 2 else 1) else (if a then 3 else (if c then 4 else (if d then 5 else 7))))
never_six true true a c d = refl
never_six true false a c d = refl
never_six false o true c d = refl
never_six false o false true d = refl
never_six false o false false true = refl
never_six false o false false false = refl

lead_less : (rest : List ℕ) → lead (60 ∷ rest) ≡ 7
unfolding lead
lead_less rest = refl

lead_blank : (rest : List ℕ) → lead (32 ∷ rest) ≡ 7
unfolding lead
lead_blank rest = refl

blank_first : (b : ℕ) (rest : List ℕ) → lone_blank (b ∷ rest) ≡ true → b ≡ 32
blank_first b rest h = eqb-true b 32 (and_parts (b == 32) (not (opens_as rest)) h).0

lead_byte : (b : ℕ) (rest : List ℕ) → coarse (lead (b ∷ rest)) ≡ lead (b ∷ rest)
unfolding lead
lead_byte b rest = never_six (is_word_byte b) (opens_impl (b ∷ rest)) (b == 39) (b == 62) (b == 58)

front_by : (b : ℕ) (rest : List ℕ) (t u : Bool) → (b == 60) ≡ t → lone_blank (b ∷ rest) ≡ u → coarse (if t then 6 else (if u then 8 else lead (b ∷ rest))) ≡ lead (b ∷ rest)
front_by b rest true u e f = sym (ap (λ x. lead (x ∷ rest)) (eqb-true b 60 e) ∙ lead_less rest)
front_by b rest false true e f = sym (ap (λ x. lead (x ∷ rest)) (blank_first b rest f) ∙ lead_blank rest)
front_by b rest false false e f = lead_byte b rest

front_lead : (x : List ℕ) → coarse (front x) ≡ lead x
unfolding front lead
front_lead [] = refl
front_lead (b ∷ rest) = front_by b rest (b == 60) (lone_blank (b ∷ rest)) refl refl

pub coarse_lead : (s x : List ℕ) → has s (front x) ≡ true → has (coarsely s) (lead x) ≡ true
coarse_lead s x h = subst (λ n. has (coarsely s) n ≡ true) (front_lead x) (coarse_has s (front x) h)

-- a set without 7 sees no < and no blank
exact_by : (l : List ℕ) (b : ℕ) (rest : List ℕ) → has l 7 ≡ false → has l (lead (b ∷ rest)) ≡ true → (t u : Bool) → (b == 60) ≡ t → lone_blank (b ∷ rest) ≡ u → has l (if t then 6 else (if u then 8 else lead (b ∷ rest))) ≡ true
exact_by l b rest n h true u e f = absurd (both_ways (has l 7) n (ap (has l) (sym (ap (λ x. lead (x ∷ rest)) (eqb-true b 60 e) ∙ lead_less rest)) ∙ h))
exact_by l b rest n h false true e f = absurd (both_ways (has l 7) n (ap (has l) (sym (ap (λ x. lead (x ∷ rest)) (blank_first b rest f) ∙ lead_blank rest)) ∙ h))
exact_by l b rest n h false false e f = h

pub exact_front : (l x : List ℕ) → has l 7 ≡ false → has l (lead x) ≡ true → has l (front x) ≡ true
unfolding front lead
exact_front l [] n h = h
exact_front l (b ∷ rest) n h = exact_by l b rest n h (b == 60) (lone_blank (b ∷ rest)) refl refl

no_less_by : (s : List ℕ) (b n : ℕ) → has s 6 ≡ false → (t : Bool) → (b == 60) ≡ t → has s (if t then 6 else n) ≡ true → (b == 60) ≡ false
no_less_by s b n m true e h = absurd (both_ways (has s 6) m h)
no_less_by s b n m false e h = e

-- a set without 6 sees no < either
pub no_less : (s x : List ℕ) → has s 6 ≡ false → has s (front x) ≡ true → first_is (λ b. b == 60) x ≡ false
unfolding front
no_less s [] n h = refl
no_less s (b ∷ rest) n h = no_less_by s b (if lone_blank (b ∷ rest) then 8 else lead (b ∷ rest)) n (b == 60) refl h

no_lone_by : (s : List ℕ) (b : ℕ) (rest : List ℕ) → has s 8 ≡ false → (t u : Bool) → (b == 60) ≡ t → lone_blank (b ∷ rest) ≡ u → has s (if t then 6 else (if u then 8 else lead (b ∷ rest))) ≡ true → lone_blank (b ∷ rest) ≡ false
no_lone_by s b rest n true true e f h = let x = eqb-true b 60 e in let y = blank_first b rest f in absurd (omega (arith, x, y))
no_lone_by s b rest n false true e f h = absurd (both_ways (has s 8) n h)
no_lone_by s b rest n t false e f h = f

-- a set without 8 sees no blank but the one before `as`
pub no_lone : (s x : List ℕ) → has s 8 ≡ false → has s (front x) ≡ true → lone_blank x ≡ false
unfolding front
no_lone s [] n h = refl
no_lone s (b ∷ rest) n h = no_lone_by s b rest n (b == 60) (lone_blank (b ∷ rest)) refl refl h

-- A text of a name, as it is written at a position, is these lexemes where such a thing stands behind it, and what stands behind it
-- is written as at another position; and it begins with such a thing.
pub record Spelt (here there : Position) (follow leads : List ℕ) (text : List ℕ) (ls : List Lexeme) : Type 0 where
  pub fits : Fits (coarsely follow) (coarsely leads) (path_written here text) ls
  pub splits : (behind : List ℕ) → has follow (front behind) ≡ true → path_written here (text ++ behind) ≡ path_written here text ++ path_written there behind
  pub begins : (behind : List ℕ) → has follow (front behind) ≡ true → has leads (front (text ++ behind)) ≡ true
  pub first : has leads (front text) ≡ true

pub spelt_none : {here : Position} (s : List ℕ) → has s 0 ≡ true → Spelt here here s s [] []
unfolding path_written front
spelt_none s z = record { fits = fits_none (coarsely s); splits = λ behind h. refl; begins = λ behind h. h; first = z }

pub spelt_join : {here mid there : Position} {s l t m a b : List ℕ} {x y : List Lexeme} → Spelt here mid t l a x → Spelt mid there s m b y → subset m t ≡ true → Spelt here there s l (a ++ b) (x ++ y)
spelt_join {here} {mid} {there} {s} {l} {t} {m} {a} {b} {x} {y} f g e =
    let open_ = subset_has m t (front b) e g.first in
    let split = f.splits b open_ in record {
      fits = fits_text (sym split) (fits_join f.fits g.fits (coarse_subset m t e));
      splits = λ behind h. ap (path_written here) (append_assoc a b behind) ∙ f.splits (b ++ behind) (subset_has m t (front (b ++ behind)) e (g.begins behind h)) ∙ ap (λ z. path_written here a ++ z) (g.splits behind h)
          ∙ sym (append_assoc (path_written here a) (path_written mid b) (path_written there behind)) ∙ ap (λ z. z ++ path_written there behind) (sym split);
      begins = λ behind h. subst (λ z. has l (front z) ≡ true) (sym (append_assoc a b behind)) (f.begins (b ++ behind) (subset_has m t (front (b ++ behind)) e (g.begins behind h)));
      first = f.begins b open_;
    }

pub spelt_wide : {here there : Position} {s l t m a : List ℕ} {x : List Lexeme} → Spelt here there t l a x → subset s t ≡ true → subset l m ≡ true → Spelt here there s m a x
spelt_wide {here} {there} {s} {l} {t} {m} {a} f e g = record {
  fits = fits_wide f.fits (coarse_subset s t e) (coarse_subset l m g);
  splits = λ behind h. f.splits behind (subset_has s t (front behind) e h);
  begins = λ behind h. subset_has l m (front (a ++ behind)) g (f.begins behind (subset_has s t (front behind) e h));
  first = subset_has l m (front a) g f.first;
}

pub spelt_text : {here there : Position} {s l a b : List ℕ} {x : List Lexeme} → a ≡ b → Spelt here there s l a x → Spelt here there s l b x
spelt_text {here} {there} {s} {l} {a} {b} {x} e f = subst (λ t. Spelt here there s l t x) e f

-- a text that is written as it is
pub copied : {here there : Position} {t m text : List ℕ} {ls : List Lexeme} (s l : List ℕ) → Fits t m text ls → subset (coarsely s) t ≡ true → subset m (coarsely l) ≡ true → has s 0 ≡ true
    → ((behind : List ℕ) → has s (front behind) ≡ true → path_written here (text ++ behind) ≡ text ++ path_written there behind) → ((behind : List ℕ) → has s (front behind) ≡ true → has l (front (text ++ behind)) ≡ true) → Spelt here there s l text ls
unfolding path_written front
copied {here} {there} {t} {m} {text} {ls} s l f e g z c b =
    let w : path_written here text ≡ text = ap (path_written here) (sym (append-nil text)) ∙ c [] z ∙ append-nil text in record {
      fits = fits_text (sym w) (fits_wide f e g);
      splits = λ behind h. c behind h ∙ ap (λ x. x ++ path_written there behind) (sym w);
      begins = b;
      first = subst (λ x. has l (front x) ≡ true) (append-nil text) (b [] z);
    }
