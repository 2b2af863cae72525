-- What is kept of each part: R and its reading p at a limit of nesting, W and w with room to spare, and H y, which is R
-- where a part of any depth may stand at x, with y behind it.
use Rattle.std.proofs.Common.{◌≡◌, Bool, true, false, if◌then◌else◌, List, [], ◌∷◌, ◌++◌, refl, sym}
use Rattle.std.proofs.lemmas.Bool.{cond-true, cond-false}
use Rattle.grammar_words.specs.declared.stop.Why.TheVariants.{Wrong, Deep, Spent}
use Rattle.grammar_words.specs.Grammar.{Part, One, Nothing}
use Rattle.grammar_words.specs.Reading.{Outcome, Got, Fault, Reader, one, nothing}

-- what may stand behind a part: the end of the tokens, or such a token
abbrev pub ends : {K : Type 0} → (K → Bool) → List K → Bool
ends s [] = true
ends s (t ∷ ts) = s t

abbrev pub left : {K A : Type 0} → Outcome K A → List K
left (Got a rest) = rest
left (Fault why rest) = rest

abbrev pub with_left : {K A : Type 0} → Outcome K A → List K → Outcome K A
with_left (Got a rest) x = Got a x
with_left (Fault why rest) x = Fault why x

abbrev pub is_spent : {K A : Type 0} → Outcome K A → Bool
is_spent (Got a rest) = false
is_spent (Fault Wrong rest) = false
is_spent (Fault Deep rest) = false
is_spent (Fault Spent rest) = true

-- it is the same with more room for nesting
abbrev pub is_firm : {K A : Type 0} → Outcome K A → Bool
is_firm (Got a rest) = true
is_firm (Fault Wrong rest) = true
is_firm (Fault Deep rest) = false
is_firm (Fault Spent rest) = false

-- it is this value, or it stops where x is too deep, or the loop had too few turns
abbrev pub Agrees : {K A : Type 0} → List K → Outcome K A → A → List K → Type 0
Agrees x (Got b r) a rest = (b ≡ a) × (r ≡ rest)
Agrees x (Fault Wrong r) a rest = ⊥
Agrees x (Fault Deep r) a rest = r ≡ x
Agrees x (Fault Spent r) a rest = Unit {0}

-- these tokens go on to a whole part
abbrev pub Goes : {K A : Type 0} → (K → Bool) → Part K A → List K → Type 0
Goes {K} {A} s W f = (more : List K) × (a : A) × ((k : List K) → ends s k ≡ true → W (f ++ (more ++ k)) a k)

-- f are the tokens before what an outcome leaves
abbrev pub Follows : {K A : Type 0} → (K → Bool) → Part K A → Part K A → List K → List K → Outcome K A → Type 0
Follows {K} s R W ts f (Got a rest) = R ts a rest × ((k : List K) → W (f ++ k) a k)
Follows s R W ts f (Fault Wrong rest) = Goes s W f
Follows s R W ts f (Fault Deep []) = ⊥
Follows s R W ts f (Fault Deep (t ∷ rest)) = Goes s W (f ++ t ∷ [])
Follows s R W ts f (Fault Spent rest) = Unit {0}

-- what an outcome says of the tokens that were read
pub record Account {K A : Type 0} (s : K → Bool) (R W : Part K A) (p w : Reader K A) (ts : List K) (o : Outcome K A) : Type 0 where
  pub front : List K
  pub splits : ts ≡ front ++ left o
  pub steady : (t : K) (u v : List K) → left o ≡ t ∷ u → p (front ++ t ∷ v) ≡ with_left o (t ∷ v)
  pub follows : Follows s R W ts front o
  pub grows : is_firm o ≡ true → w ts ≡ o

-- s says which tokens may stand behind
pub record Laws {K A : Type 0} (s : K → Bool) (x : List K) (R W : Part K A) (H : List K → Part K A) (p w : Reader K A) : Type 0 where
  pub account : (ts : List K) → Account s R W p w ts (p ts)
  pub again : (y ts rest : List K) (a : A) → H y ts a rest → ends s rest ≡ true → Agrees x (p ts) a rest
  pub loose : (y ts rest : List K) (a : A) → R ts a rest → H y ts a rest
  pub wide : (ts rest : List K) (a : A) → R ts a rest → W ts a rest
  pub sentence : Goes s W []

abbrev pub any : {K : Type 0} → K → Bool
any t = true

pub ends_any : {K : Type 0} (ts : List K) → ends any ts ≡ true
ends_any [] = refl
ends_any (t ∷ ts) = refl

-- what was said of an equal outcome
pub agrees_got : {K A : Type 0} (x : List K) (o : Outcome K A) (a : A) (rest : List K) → o ≡ Got a rest → Agrees x o a rest
agrees_got x (Got b r) a rest e = (cc, cc)
agrees_got x (Fault Wrong r) a rest e = absurd cc
agrees_got x (Fault Deep r) a rest e = absurd cc
agrees_got x (Fault Spent r) a rest e = tt

one_steps : {K : Type 0} (test : K → Bool) (t : K) → test t ≡ true → (a : K) (ts : List K) → (c : Bool) → test a ≡ c → Account any (One test) (One test) (one test) (one test) (a ∷ ts) (if c then Got a ts else Fault Wrong (a ∷ ts))
one_steps test t h a ts true e = record {
  front = a ∷ [];
  splits = refl;
  steady = λ b u v l. cond-true (test a) _ _ e;
  follows = ((e, refl), λ k. (e, refl));
  grows = λ f. cond-true (test a) _ _ e;
}
one_steps test t h a ts false e = record {
  front = [];
  splits = refl;
  steady = λ b u v l. cond-false (test b) _ _ (cc);
  follows = (t ∷ [], t, λ k l. (h, refl));
  grows = λ f. cond-false (test a) _ _ e;
}

one_account : {K : Type 0} (test : K → Bool) (t : K) → test t ≡ true → (ts : List K) → Account any (One test) (One test) (one test) (one test) ts (one test ts)
one_account test t h [] = record {
  front = [];
  splits = refl;
  steady = λ b u v e. absurd cc;
  follows = (t ∷ [], t, λ k e. (h, refl));
  grows = λ e. refl;
}
one_account test t h (a ∷ ts) = one_steps test t h a ts (test a) refl

one_again : {K : Type 0} (test : K → Bool) (x ts rest : List K) (a : K) → One test ts a rest → Agrees x (one test ts) a rest
one_again test x ts rest a h = agrees_got x (one test ts) a rest (rw h.1 (cond-true (test a) _ _ h.0))

pub one-laws : {K : Type 0} (test : K → Bool) (t : K) → test t ≡ true → (x : List K) → Laws any x (One test) (One test) (λ y. One test) (one test) (one test)
one-laws test t h x = record {
  account = one_account test t h;
  again = λ y ts rest a g e. one_again test x ts rest a g;
  loose = λ y ts rest a g. g;
  wide = λ ts rest a g. g;
  sentence = (t ∷ [], t, λ k e. (h, refl));
}

pub nothing-laws : {K A : Type 0} (s : K → Bool) (x : List K) (a : A) → Laws s x (Nothing a) (Nothing a) (λ y. Nothing a) (nothing a) (nothing a)
nothing-laws s x a = record {
  account = λ ts. record {
    front = [];
    splits = refl;
    steady = λ t u v e. refl;
    follows = ((refl, refl), λ k. (refl, refl));
    grows = λ e. refl;
  };
  again = λ y ts rest b h e. (sym h.0, sym h.1);
  loose = λ y ts rest b h. h;
  wide = λ ts rest b h. h;
  sentence = ([], a, λ k e. (refl, refl));
}
