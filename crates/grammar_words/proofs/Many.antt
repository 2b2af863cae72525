-- Laws of a part any number of times.
use Rattle.std.proofs.Common.{◌≡◌, inl, inr, ℕ, zero, suc, Bool, true, false, List, [], ◌∷◌, refl, sym, subst}
use Rattle.grammar_words.specs.Grammar.{Part, Nothing, Then, Made, Either, Each, starts}
use Rattle.grammar_words.specs.Reading.{Reader, cons, many}
use Rattle.grammar_words.proofs.Laws.{ends, Goes, Laws, nothing-laws}
use Rattle.grammar_words.proofs.Spelled.{Within, Narrower, spelled}
use Rattle.grammar_words.proofs.Made.{made-laws}
use Rattle.grammar_words.proofs.Join.{joined-laws}
use Rattle.grammar_words.proofs.Pick.{pick-laws}
use Rattle.grammar_words.proofs.Limit.{spent-laws}

-- one or more
abbrev pub Some_of : {K A : Type 0} → Part K A → Part K (List A)
Some_of R = Made cons (Then R (Each R))

pub each_on : {K A : Type 0} (R : Part K A) → Within (Either (Some_of R) (Nothing [])) (Each R)
each_on R ts rest as_ (inl h) = subst (λ l. Each R ts l rest) h.1 h.2
each_on R ts rest as_ (inr h) = subst (λ l. Each R ts l rest) (sym h.0) h.1

pub each_off : {K A : Type 0} (R : Part K A) → Within (Each R) (Either (Some_of R) (Nothing []))
each_off R ts rest [] h = inr (refl, h)
each_off R ts rest (a ∷ as_) h = inl ((a, as_), refl, h)

some_starts : {K A : Type 0} (test : K → Bool) (R : Part K A) → ((ts rest : List K) (a : A) → R ts a rest → starts test ts ≡ true) → (ts rest : List K) (as_ : List A) → Some_of R ts as_ rest → starts test ts ≡ true
some_starts test R h ts rest as_ n = h ts n.2.0 n.0.0 n.2.1

-- what stands behind a part, where more of them may
each_ends : {K A : Type 0} (s z test : K → Bool) (R : Part K A) → ((ts rest : List K) (a : A) → R ts a rest → starts test ts ≡ true) → ((ts : List K) → starts test ts ≡ true → ends s ts ≡ true) → Narrower z s
    → (ts rest : List K) (as_ : List A) → Each R ts as_ rest → ends z rest ≡ true → ends s ts ≡ true
each_ends s z test R h f n ts rest [] m e = n ts (subst (λ k. ends z k ≡ true) m e)
each_ends s z test R h f n ts rest (a ∷ as_) m e = f ts (h ts m.0 a m.1)

-- a part begins with a token that passes the test, such a token may stand behind one, and none where all end
pub record Repeats {K A : Type 0} (s z test : K → Bool) (W : Part K A) (H : List K → Part K A) : Type 0 where
  pub wide : (ts rest : List K) (a : A) → W ts a rest → starts test ts ≡ true
  pub holed : (y ts rest : List K) (a : A) → H y ts a rest → starts test ts ≡ true
  pub follow : (ts : List K) → starts test ts ≡ true → ends s ts ≡ true
  pub narrow : Narrower z s
  pub stop : (ts : List K) → ends z ts ≡ true → starts test ts ≡ false

none_starts : {K A : Type 0} (z test : K → Bool) → ((ts : List K) → ends z ts ≡ true → starts test ts ≡ false) → (a : A) (ts rest : List K) (b : A) → Nothing a ts b rest → ends z rest ≡ true → starts test ts ≡ false
none_starts z test h a ts rest b n e = h ts (subst (λ k. ends z k ≡ true) n.1 e)

some_goes : {K A : Type 0} (s z test : K → Bool) (W : Part K A) (H : List K → Part K A) → Repeats s z test W H → Goes s W [] → Goes z (Some_of W) []
some_goes s z test W H r g = (g.0, g.1 ∷ [], λ k e. ((g.1, []), refl, (k, g.2 k (r.narrow k e), refl)))

pub each_within : {K A : Type 0} (R Q : Part K A) → Within R Q → (ts rest : List K) (as_ : List A) → Each R ts as_ rest → Each Q ts as_ rest
each_within R Q h ts rest [] m = m
each_within R Q h ts rest (a ∷ as_) m = (m.0, h ts m.0 a m.1, each_within R Q h m.0 rest as_ m.2)

some_within : {K A : Type 0} (R Q : Part K A) → Within R Q → (ts rest : List K) (as_ : List A) → Some_of R ts as_ rest → Some_of Q ts as_ rest
some_within R Q h ts rest as_ m = (m.0, m.1, (m.2.0, h ts m.2.0 m.0.0 m.2.1, each_within R Q h m.2.0 rest m.0.1 m.2.2))

either_each : {K A : Type 0} {z : K → Bool} {x : List K} {R W : Part K A} {H : List K → Part K A} {p w : Reader K (List A)}
    → Laws z x (Either (Some_of R) (Nothing [])) (Either (Some_of W) (Nothing [])) (λ y. Either (Some_of (H y)) (Nothing [])) p w → Laws z x (Each R) (Each W) (λ y. Each (H y)) p w
either_each {K} {A} {z} {x} {R} {W} {H} l = spelled (each_on R) (each_off R) (each_on W) (λ y. each_on (H y)) (λ y. each_off (H y)) l

pub many-laws : {K A : Type 0} {s z test : K → Bool} {x : List K} {R W : Part K A} {H : List K → Part K A} {p w : Reader K A}
    → Laws s x R W H p w → Repeats s z test W H → (n : ℕ) → Laws z x (Each R) (Each W) (λ y. Each (H y)) (many test p n) (many test w n)
many-laws {K} {A} {s} {z} {test} {x} {R} {W} {H} {p} {w} l r zero =
    either_each {R = R} {W = W} {H = H} (pick-laws test (spent-laws (λ y. some_within R (H y) (l.loose y)) (some_within R W l.wide) (some_goes s z test W H r l.sentence)) (nothing-laws z x [])
    (λ y ts rest as_ h e. some_starts test (H y) (r.holed y) ts rest as_ h)
    (λ y ts rest as_ h e. none_starts z test r.stop [] ts rest as_ h e))
many-laws {K} {A} {s} {z} {test} {x} {R} {W} {H} {p} {w} l r (suc n) =
    either_each {R = R} {W = W} {H = H} (pick-laws test
    (made-laws cons (joined-laws l (many-laws l r n)
    (λ ts rest as_ h e. each_ends s z test W r.wide r.follow r.narrow ts rest as_ h e)
    (λ y ts rest as_ h e. each_ends s z test (H y) (r.holed y) r.follow r.narrow ts rest as_ h e)))
    (nothing-laws z x [])
    (λ y ts rest as_ h e. some_starts test (H y) (r.holed y) ts rest as_ h)
    (λ y ts rest as_ h e. none_starts z test r.stop [] ts rest as_ h e))
