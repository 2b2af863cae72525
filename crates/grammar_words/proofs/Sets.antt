-- Sets of classes.
use Rattle.std.proofs.Common.{◌≡◌, ℕ, Bool, true, false, ◌||◌, not, ◌==◌, if◌then◌else◌, List, [], ◌∷◌, ◌++◌, refl, ap, ◌∙◌, sym, subst}
use Rattle.std.proofs.lemmas.Bool.{eqb-true}
use Rattle.grammar_words.specs.Grammar.{starts}
use Rattle.grammar_words.specs.Classes.{has, inside, outside}
use Rattle.grammar_words.proofs.Laws.{ends}

-- each class of a is in b
abbrev pub subset : List ℕ → List ℕ → Bool
subset [] b = true
subset (x ∷ a) b = if has b x then subset a b else false

-- no class of a is in b
abbrev pub apart : List ℕ → List ℕ → Bool
apart [] b = true
apart (x ∷ a) b = if has b x then false else apart a b

pub if_both : (a b : Bool) → (if a then b else false) ≡ true → (a ≡ true) × (b ≡ true)
if_both true b e = (refl, e)
if_both false b e = absurd cc

pub if_neither : (a b : Bool) → (if a then false else b) ≡ true → (a ≡ false) × (b ≡ true)
if_neither true b e = absurd cc
if_neither false b e = (refl, e)

subset_step : (x n : ℕ) (a b : List ℕ) → (has a n ≡ true → has b n ≡ true) → has b x ≡ true → (t : Bool) → (x == n) ≡ t → (if t then true else has a n) ≡ true → has b n ≡ true
subset_step x n a b ih h true e m = subst (λ k. has b k ≡ true) (eqb-true x n e) h
subset_step x n a b ih h false e m = ih m

pub subset_has : (a b : List ℕ) (n : ℕ) → subset a b ≡ true → has a n ≡ true → has b n ≡ true
subset_has [] b n s h = absurd cc
subset_has (x ∷ a) b n s h = let e = if_both (has b x) (subset a b) s in subset_step x n a b (subset_has a b n e.1) e.0 (x == n) refl h

apart_step : (x n : ℕ) (a b : List ℕ) → (has a n ≡ true → has b n ≡ false) → has b x ≡ false → (t : Bool) → (x == n) ≡ t → (if t then true else has a n) ≡ true → has b n ≡ false
apart_step x n a b ih h true e m = subst (λ k. has b k ≡ false) (eqb-true x n e) h
apart_step x n a b ih h false e m = ih m

pub apart_has : (a b : List ℕ) (n : ℕ) → apart a b ≡ true → has a n ≡ true → has b n ≡ false
apart_has [] b n s h = absurd cc
apart_has (x ∷ a) b n s h = let e = if_neither (has b x) (apart a b) s in apart_step x n a b (apart_has a b n e.1) e.0 (x == n) refl h

has_step : (t u v : Bool) → (if t then true else u || v) ≡ ((if t then true else u) || v)
has_step true u v = refl
has_step false u v = refl

pub has_append : (a b : List ℕ) (n : ℕ) → has (a ++ b) n ≡ (has a n || has b n)
has_append [] b n = refl
has_append (x ∷ a) b n = ap (λ r. if x == n then true else r) (has_append a b n) ∙ has_step (x == n) (has a n) (has b n)

or_left : (u v : Bool) → u ≡ true → (u || v) ≡ true
or_left u v e = rw e refl

or_right : (u v : Bool) → v ≡ true → (u || v) ≡ true
or_right true v e = refl
or_right false v e = e

nor_left : (u v : Bool) → not (u || v) ≡ true → not u ≡ true
nor_left true v e = e
nor_left false v e = refl

nor_right : (u v : Bool) → not (u || v) ≡ true → not v ≡ true
nor_right true v e = absurd cc
nor_right false v e = e

pub starts_more : {K : Type 0} (c : K → ℕ) (a b : List ℕ) → ((n : ℕ) → has a n ≡ true → has b n ≡ true) → (ts : List K) → starts (inside c a) ts ≡ true → starts (inside c b) ts ≡ true
unfolding inside
starts_more c a b h [] e = e
starts_more c a b h (t ∷ ts) e = h (c t) e

pub starts_left : {K : Type 0} (c : K → ℕ) (a b : List ℕ) (ts : List K) → starts (inside c a) ts ≡ true → starts (inside c (a ++ b)) ts ≡ true
starts_left c a b ts e = starts_more c a (a ++ b) (λ n h. has_append a b n ∙ or_left (has a n) (has b n) h) ts e

pub starts_right : {K : Type 0} (c : K → ℕ) (a b : List ℕ) (ts : List K) → starts (inside c b) ts ≡ true → starts (inside c (a ++ b)) ts ≡ true
starts_right c a b ts e = starts_more c b (a ++ b) (λ n h. has_append a b n ∙ or_right (has a n) (has b n) h) ts e

pub starts_subset : {K : Type 0} (c : K → ℕ) (a b : List ℕ) → subset a b ≡ true → (ts : List K) → starts (inside c a) ts ≡ true → starts (inside c b) ts ≡ true
starts_subset c a b s ts e = starts_more c a b (λ n h. subset_has a b n s h) ts e

pub starts_apart : {K : Type 0} (c : K → ℕ) (a b : List ℕ) → apart a b ≡ true → (ts : List K) → starts (inside c a) ts ≡ true → starts (inside c b) ts ≡ false
unfolding inside
starts_apart c a b s [] e = refl
starts_apart c a b s (t ∷ ts) e = apart_has a b (c t) s e

-- a token of a may stand where those of b may not
pub ends_apart : {K : Type 0} (c : K → ℕ) (a b : List ℕ) → apart a b ≡ true → (ts : List K) → starts (inside c a) ts ≡ true → ends (outside c b) ts ≡ true
unfolding inside outside
ends_apart c a b s [] e = refl
ends_apart c a b s (t ∷ ts) e = ap not (apart_has a b (c t) s e)

pub ends_left : {K : Type 0} (c : K → ℕ) (a b : List ℕ) (ts : List K) → ends (outside c (a ++ b)) ts ≡ true → ends (outside c a) ts ≡ true
unfolding outside
ends_left c a b [] e = refl
ends_left c a b (t ∷ ts) e = nor_left (has a (c t)) (has b (c t)) (sym (ap not (has_append a b (c t))) ∙ e)

pub ends_right : {K : Type 0} (c : K → ℕ) (a b : List ℕ) (ts : List K) → ends (outside c (a ++ b)) ts ≡ true → ends (outside c b) ts ≡ true
unfolding outside
ends_right c a b [] e = refl
ends_right c a b (t ∷ ts) e = nor_right (has a (c t)) (has b (c t)) (sym (ap not (has_append a b (c t))) ∙ e)

not_has : (u v : Bool) → (u ≡ true → v ≡ true) → not v ≡ true → not u ≡ true
not_has true v h e = ap not (sym (h refl)) ∙ e
not_has false v h e = refl

-- more tokens that may not stand behind
pub ends_subset : {K : Type 0} (c : K → ℕ) (a b : List ℕ) → subset a b ≡ true → (ts : List K) → ends (outside c b) ts ≡ true → ends (outside c a) ts ≡ true
unfolding outside
ends_subset c a b s [] e = refl
ends_subset c a b s (t ∷ ts) e = not_has (has a (c t)) (has b (c t)) (subset_has a b (c t) s) e

no_true : (u : Bool) → not u ≡ true → u ≡ false
no_true true e = absurd cc
no_true false e = refl

pub ends_not : {K : Type 0} (c : K → ℕ) (a : List ℕ) (ts : List K) → ends (outside c a) ts ≡ true → starts (inside c a) ts ≡ false
unfolding inside outside
ends_not c a [] e = refl
ends_not c a (t ∷ ts) e = no_true (has a (c t)) e

pub ends_none : {K : Type 0} (c : K → ℕ) (ts : List K) → ends (outside c []) ts ≡ true
unfolding outside
ends_none c [] = refl
ends_none c (t ∷ ts) = refl
