-- Laws of one part or another.
use Rattle.std.proofs.Common.{◌≡◌, inl, inr, Bool, true, false, if◌then◌else◌, List, [], ◌∷◌, ◌++◌, refl, ap, ◌∙◌, sym}
use Rattle.std.proofs.lemmas.Bool.{cond-true, cond-false}
use Rattle.grammar_words.specs.Grammar.{Part, Either, starts}
use Rattle.grammar_words.specs.Reading.{Reader, choose, pick}
use Rattle.grammar_words.proofs.Laws.{ends, left, Account, Laws}
use Rattle.grammar_words.proofs.Spelled.{follows_on, goes_on}

pub chosen_true : {K A : Type 0} (test : List K → Bool) (p q : Reader K A) (ts : List K) → test ts ≡ true → choose test p q ts ≡ p ts
unfolding choose
chosen_true test p q ts e = cond-true (test ts) _ _ e

pub chosen_false : {K A : Type 0} (test : List K → Bool) (p q : Reader K A) (ts : List K) → test ts ≡ false → choose test p q ts ≡ q ts
unfolding choose
chosen_false test p q ts e = cond-false (test ts) _ _ e

-- what comes behind the token there does not change the choice
abbrev pub IsSettled : {K A : Type 0} → (List K → Bool) → Reader K A → Reader K A → Type 0
IsSettled {K} test p q = (f u v : List K) (t : K) → left (choose test p q (f ++ t ∷ u)) ≡ t ∷ u → test (f ++ t ∷ v) ≡ test (f ++ t ∷ u)

settled : {K A : Type 0} (test : List K → Bool) (p q : Reader K A) → IsSettled test p q → (ts f u v : List K) (t : K) (b : Bool) → test ts ≡ b → ts ≡ f ++ t ∷ u → left (choose test p q ts) ≡ t ∷ u → test (f ++ t ∷ v) ≡ b
settled test p q h ts f u v t b e s l = h f u v t (ap (λ r. left (choose test p q r)) (sym s) ∙ l) ∙ (ap test (sym s) ∙ e)

left_account : {K A : Type 0} (s : K → Bool) (R W Q V : Part K A) (p w q v : Reader K A) (test : List K → Bool) → IsSettled test p q → (ts : List K) → test ts ≡ true
    → Account s R W p w ts (p ts) → Account s (Either R Q) (Either W V) (choose test p q) (choose test w v) ts (p ts)
left_account s R W Q V p w q v test h ts e c = record {
  front = c.front;
  splits = c.splits;
  steady = λ t u y l. chosen_true test p q (c.front ++ t ∷ y) (settled test p q h ts c.front u y t true e (c.splits ∙ ap (λ r. c.front ++ r) l) (ap left (chosen_true test p q ts e) ∙ l)) ∙ c.steady t u y l;
  follows = follows_on s s R W (Either R Q) (Either W V) (λ k d. d) (λ us rest a d. inl d) (λ us rest a d. inl d) ts c.front (p ts) c.follows;
  grows = λ d. chosen_true test w v ts e ∙ c.grows d;
}

right_account : {K A : Type 0} (s : K → Bool) (R W Q V : Part K A) (p w q v : Reader K A) (test : List K → Bool) → IsSettled test p q → (ts : List K) → test ts ≡ false
    → Account s Q V q v ts (q ts) → Account s (Either R Q) (Either W V) (choose test p q) (choose test w v) ts (q ts)
right_account s R W Q V p w q v test h ts e c = record {
  front = c.front;
  splits = c.splits;
  steady = λ t u y l. chosen_false test p q (c.front ++ t ∷ y) (settled test p q h ts c.front u y t false e (c.splits ∙ ap (λ r. c.front ++ r) l) (ap left (chosen_false test p q ts e) ∙ l)) ∙ c.steady t u y l;
  follows = follows_on s s Q V (Either R Q) (Either W V) (λ k d. d) (λ us rest a d. inr d) (λ us rest a d. inr d) ts c.front (q ts) c.follows;
  grows = λ d. chosen_false test w v ts e ∙ c.grows d;
}

choose_account : {K A : Type 0} (s : K → Bool) (R W Q V : Part K A) (p w q v : Reader K A) (test : List K → Bool) → IsSettled test p q
    → ((ts : List K) → Account s R W p w ts (p ts)) → ((ts : List K) → Account s Q V q v ts (q ts))
    → (ts : List K) (b : Bool) → test ts ≡ b → Account s (Either R Q) (Either W V) (choose test p q) (choose test w v) ts (if b then p ts else q ts)
choose_account s R W Q V p w q v test h c d ts true e = left_account s R W Q V p w q v test h ts e (c ts)
choose_account s R W Q V p w q v test h c d ts false e = right_account s R W Q V p w q v test h ts e (d ts)

pub choose-laws : {K A : Type 0} {s : K → Bool} {x : List K} {R W Q V : Part K A} {H G : List K → Part K A} {p w q v : Reader K A} (test : List K → Bool)
    → Laws s x R W H p w → Laws s x Q V G q v → IsSettled test p q
    → ((y ts rest : List K) (a : A) → H y ts a rest → ends s rest ≡ true → test ts ≡ true)
    → ((y ts rest : List K) (a : A) → G y ts a rest → ends s rest ≡ true → test ts ≡ false)
    → Laws s x (Either R Q) (Either W V) (λ y. Either (H y) (G y)) (choose test p q) (choose test w v)
unfolding choose
choose-laws {K} {A} {s} {x} {R} {W} {Q} {V} {H} {G} {p} {w} {q} {v} test l k h on off = record {
  account = λ ts. choose_account s R W Q V p w q v test h l.account k.account ts (test ts) refl;
  again = λ y ts rest a c e. elim c [
    | inl r ↦ rw (chosen_true test p q ts (on y ts rest a r e)) (l.again y ts rest a r e)
    | inr r ↦ rw (chosen_false test p q ts (off y ts rest a r e)) (k.again y ts rest a r e)
  ];
  loose = λ y ts rest a c. elim c [ inl r ↦ inl (l.loose y ts rest a r) | inr r ↦ inr (k.loose y ts rest a r) ];
  wide = λ ts rest a c. elim c [ inl r ↦ inl (l.wide ts rest a r) | inr r ↦ inr (k.wide ts rest a r) ];
  sentence = goes_on s s W (Either W V) (λ e d. d) (λ us rest a d. inl d) [] l.sentence;
}

pub starts_same : {K : Type 0} (test : K → Bool) (f u v : List K) (t : K) → starts test (f ++ t ∷ v) ≡ starts test (f ++ t ∷ u)
starts_same test [] u v t = refl
starts_same test (b ∷ f) u v t = refl

pub pick-laws : {K A : Type 0} {s : K → Bool} {x : List K} {R W Q V : Part K A} {H G : List K → Part K A} {p w q v : Reader K A} (test : K → Bool)
    → Laws s x R W H p w → Laws s x Q V G q v
    → ((y ts rest : List K) (a : A) → H y ts a rest → ends s rest ≡ true → starts test ts ≡ true)
    → ((y ts rest : List K) (a : A) → G y ts a rest → ends s rest ≡ true → starts test ts ≡ false)
    → Laws s x (Either R Q) (Either W V) (λ y. Either (H y) (G y)) (pick test p q) (pick test w v)
pick-laws test l k on off = choose-laws (starts test) l k (λ f u v t e. starts_same test f u v t) on off
