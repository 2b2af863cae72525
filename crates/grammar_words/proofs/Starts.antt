-- The first tokens of a part, by its words alone.
use Rattle.std.proofs.Common.{◌≡◌, ◌⊎◌, inl, inr, ℕ, Bool, true, false, ◌==◌, if◌then◌else◌, List, [], ◌∷◌, refl}
use Rattle.grammar_words.specs.Grammar.{Part, Then, Made, Either, starts}
use Rattle.grammar_words.specs.Classes.{has, inside, Tok, Past}
use Rattle.grammar_words.proofs.Sets.{subset, subset_has, starts_subset}
use Rattle.grammar_words.proofs.Ready.{Opens}
use Rattle.grammar_words.proofs.ReadyLimit.{limit_shape}

-- a part begins with a token of b
pub record Starts {K A : Type 0} (c : K → ℕ) (b : List ℕ) (R : Part K A) : Type 0 where
  pub first : (ts rest : List K) (a : A) → R ts a rest → starts (inside c b) ts ≡ true

pub starts-tok : {K : Type 0} (c : K → ℕ) (b set : List ℕ) → subset set b ≡ true → Starts c b (Tok c set)
unfolding inside
starts-tok c b set s = record { first = λ ts rest t h. rw h.1 (subset_has set b (c t) s h.0) }

pub starts-made : {K A B : Type 0} {c : K → ℕ} {b : List ℕ} {R : Part K A} (f : A → B) → Starts c b R → Starts c b (Made f R)
starts-made f s = record { first = λ ts rest v h. s.first ts rest h.0 h.2 }

pub starts-then : {K A B : Type 0} {c : K → ℕ} {b : List ℕ} {R : Part K A} (Q : Part K B) → Starts c b R → Starts c b (Then R Q)
starts-then Q s = record { first = λ ts rest v h. s.first ts h.0 v.0 h.1 }

pub starts-past : {K A : Type 0} (c : K → ℕ) (b set : List ℕ) (R : Part K A) → subset set b ≡ true → Starts c b (Past c set R)
starts-past c b set R s = starts-made (λ v. v.1) (starts-then R (starts-tok c b set s))

pub starts-either : {K A : Type 0} {c : K → ℕ} {b : List ℕ} {R Q : Part K A} → Starts c b R → Starts c b Q → Starts c b (Either R Q)
starts-either s t = record { first = λ ts rest a h. elim h [ inl r ↦ s.first ts rest a r | inr r ↦ t.first ts rest a r ] }

pub starts-wider : {K A : Type 0} {c : K → ℕ} {R : Part K A} (a b : List ℕ) → subset a b ≡ true → Starts c a R → Starts c b R
starts-wider {K} {A} {c} a b e s = record { first = λ ts rest v h. starts_subset c a b e ts (s.first ts rest v h) }

pub starts-opens : {K A : Type 0} {c : K → ℕ} {b : List ℕ} {R : Part K A} (s : List ℕ) → Starts c b R → Opens c (limit_shape s b) R
starts-opens s h ts rest a r = inl (h.first ts rest a r)

one_step : (b c : Bool) → (if b then true else c) ≡ true → ((if b then true else false) ≡ true) ⊎ (c ≡ true)
one_step true c e = inl refl
one_step false c e = inr e

-- the classes of a set, one by one
pub one_of : (x n : ℕ) (set : List ℕ) → has (x ∷ set) n ≡ true → (has (x ∷ []) n ≡ true) ⊎ (has set n ≡ true)
one_of x n set h = one_step (x == n) (has set n) h
