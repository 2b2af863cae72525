-- Laws of a part behind the test of its first token, and of the level below the limit.
use Rattle.std.proofs.Common.{◌≡◌, Bool, true, false, if◌then◌else◌, List, [], ◌∷◌, ◌++◌, refl, ap, ◌∙◌, sym}
use Rattle.std.proofs.lemmas.Bool.{cond-true, cond-false}
use Rattle.grammar_words.specs.declared.stop.Why.TheVariants.{Wrong, Deep}
use Rattle.grammar_words.specs.Grammar.{Part, Never, At, starts}
use Rattle.grammar_words.specs.Reading.{Fault, Reader, guard, deep, spent}
use Rattle.grammar_words.proofs.Laws.{ends, Agrees, Goes, Account, Laws}
use Rattle.grammar_words.proofs.Pick.{starts_same}

pub guarded_true : {K A : Type 0} (test : K → Bool) (p : Reader K A) (ts : List K) → starts test ts ≡ true → guard test p ts ≡ p ts
unfolding guard
guarded_true test p ts e = cond-true (starts test ts) _ _ e

pub guarded_false : {K A : Type 0} (test : K → Bool) (p : Reader K A) (ts : List K) → starts test ts ≡ false → guard test p ts ≡ Fault Wrong ts
unfolding guard
guarded_false test p ts e = cond-false (starts test ts) _ _ e

still : {K : Type 0} (test : K → Bool) (ts f u v : List K) (t : K) (b : Bool) → starts test ts ≡ b → ts ≡ f ++ t ∷ u → starts test (f ++ t ∷ v) ≡ b
still test ts f u v t b e s = starts_same test f u v t ∙ (ap (starts test) (sym s) ∙ e)

true_account : {K A : Type 0} (s : K → Bool) (R W : Part K A) (p w : Reader K A) (test : K → Bool) (ts : List K) → starts test ts ≡ true → Account s R W p w ts (p ts) → Account s R W (guard test p) (guard test w) ts (p ts)
true_account s R W p w test ts e c = record {
  front = c.front;
  splits = c.splits;
  steady = λ t u v l. guarded_true test p (c.front ++ t ∷ v) (still test ts c.front u v t true e (c.splits ∙ ap (λ r. c.front ++ r) l)) ∙ c.steady t u v l;
  follows = c.follows;
  grows = λ d. guarded_true test w ts e ∙ c.grows d;
}

-- the token is wrong at once
false_account : {K A : Type 0} (s : K → Bool) (R W : Part K A) (p w : Reader K A) (test : K → Bool) (ts : List K) → starts test ts ≡ false → Goes s W [] → Account s R W (guard test p) (guard test w) ts (Fault Wrong ts)
false_account s R W p w test ts e n = record {
  front = [];
  splits = refl;
  steady = λ t u v l. guarded_false test p (t ∷ v) (still test ts [] u v t false e l);
  follows = n;
  grows = λ d. guarded_false test w ts e;
}

guard_account : {K A : Type 0} (s : K → Bool) (R W : Part K A) (p w : Reader K A) (test : K → Bool) → Goes s W [] → ((ts : List K) → Account s R W p w ts (p ts))
    → (ts : List K) (b : Bool) → starts test ts ≡ b → Account s R W (guard test p) (guard test w) ts (if b then p ts else Fault Wrong ts)
guard_account s R W p w test n c ts true e = true_account s R W p w test ts e (c ts)
guard_account s R W p w test n c ts false e = false_account s R W p w test ts e n

pub guard-laws : {K A : Type 0} {s : K → Bool} {x : List K} {R W : Part K A} {H : List K → Part K A} {p w : Reader K A} (test : K → Bool)
    → Laws s x R W H p w → ((y ts rest : List K) (a : A) → H y ts a rest → ends s rest ≡ true → starts test ts ≡ true) → Laws s x R W H (guard test p) (guard test w)
unfolding guard
guard-laws {K} {A} {s} {x} {R} {W} {H} {p} {w} test l on = record {
  account = λ ts. guard_account s R W p w test l.sentence l.account ts (starts test ts) refl;
  again = λ y ts rest a h e. rw (guarded_true test p ts (on y ts rest a h e)) (l.again y ts rest a h e);
  loose = l.loose;
  wide = l.wide;
  sentence = l.sentence;
}

-- each of these tokens begins a part
abbrev pub AreFirsts : {K A : Type 0} → (K → Bool) → (K → Bool) → Part K A → Type 0
AreFirsts {K} test s W = (t : K) → test t ≡ true → Goes s W (t ∷ [])

deep_account : {K A : Type 0} (s : K → Bool) (W : Part K A) (w : Reader K A) (test : K → Bool) → AreFirsts test s W → (t : K) (ts : List K) → test t ≡ true → Account s Never W (guard test deep) (guard test w) (t ∷ ts) (Fault Deep (t ∷ ts))
deep_account s W w test h t ts e = record {
  front = [];
  splits = refl;
  steady = λ b u v l. guarded_true test deep (b ∷ v) (still test (t ∷ ts) [] u v b true e l);
  follows = h t e;
  grows = λ d. absurd cc;
}

limit_account : {K A : Type 0} (s : K → Bool) (W : Part K A) (w : Reader K A) (test : K → Bool) → AreFirsts test s W → Goes s W [] → (ts : List K) (b : Bool) → starts test ts ≡ b
    → Account s Never W (guard test deep) (guard test w) ts (if b then Fault Deep ts else Fault Wrong ts)
limit_account s W w test h n ts false e = false_account s Never W deep w test ts e n
limit_account s W w test h n [] true e = absurd cc
limit_account s W w test h n (t ∷ ts) true e = deep_account s W w test h t ts e

limit_again : {K A : Type 0} (test : K → Bool) (x y ts rest : List K) (a : A) → At test x y ts a rest → Agrees x (guard test deep ts) a rest
limit_again {K} {A} test x y ts rest a h = rw h.1 (rw (guarded_true test (deep {A = A}) x h.0) refl)

-- below the limit each token that begins a part is too deep
pub limit-laws : {K A : Type 0} {s : K → Bool} {x : List K} {W : Part K A} (w : Reader K A) (test : K → Bool) → AreFirsts test s W → Goes s W []
    → Laws s x Never W (λ y. At test x y) (guard test deep) (guard test w)
unfolding guard
limit-laws {K} {A} {s} {x} {W} w test h n = record {
  account = λ ts. limit_account s W w test h n ts (starts test ts) refl;
  again = λ y ts rest a c e. limit_again test x y ts rest a c;
  loose = λ y ts rest a c. absurd c;
  wide = λ ts rest a c. absurd c;
  sentence = n;
}

-- a loop without turns
pub spent-laws : {K A : Type 0} {s : K → Bool} {x : List K} {R W : Part K A} {H : List K → Part K A} → ((y ts rest : List K) (a : A) → R ts a rest → H y ts a rest) → ((ts rest : List K) (a : A) → R ts a rest → W ts a rest) → Goes s W [] → Laws s x R W H spent spent
spent-laws i j n = record {
  account = λ ts. record {
    front = [];
    splits = refl;
    steady = λ t u v e. refl;
    follows = tt;
    grows = λ e. absurd cc;
  };
  again = λ y ts rest a h e. tt;
  loose = i;
  wide = j;
  sentence = n;
}
