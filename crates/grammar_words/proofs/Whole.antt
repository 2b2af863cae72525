-- The answer to a whole text is right.
use Rattle.std.proofs.Common.{◌≡◌, ℕ, ◌+◌, ◌<◌, ◌≤◌, Bool, true, false, List, [], ◌∷◌, ◌++◌, length, refl, ap, ◌∙◌, sym, subst, arith}
use Rattle.std.proofs.lemmas.List.{append_assoc, append-nil}
use Rattle.grammar_words.specs.declared.stop.Why.TheVariants.{Wrong, Deep, Spent}
use Rattle.grammar_words.specs.Grammar.{Part}
use Rattle.grammar_words.specs.Reading.{Outcome, Got, Fault, Reader}
use Rattle.grammar_words.specs.Exact.{Begins, StopsAt, whole, IsRight}
use Rattle.grammar_words.proofs.Laws.{ends, is_spent, is_firm, Agrees, Goes, Account, Laws}

-- with more turns than tokens no loop is spent
abbrev pub Ample : {K A : Type 0} → ℕ → Reader K A → Type 0
Ample {K} m p = (ts : List K) → length ts < m → is_spent (p ts) ≡ false

-- where x is too deep, a text goes on behind it
abbrev pub Pins : {K A : Type 0} → (K → Bool) → List K → (List K → Part K A) → Reader K A → Type 0
Pins {K} {A} s x H p = (ts : List K) → p ts ≡ Fault Deep x → (more : List K) × (a : A) × ((k : List K) → ends s k ≡ true → H (more ++ k) ts a k)

-- a grammar and its reading at each limit, with m turns for each list
pub record Levels {K A : Type 0} (m : ℕ) (s : K → Bool) (R : ℕ → Part K A) (H : ℕ → List K → List K → Part K A) (p : ℕ → Reader K A) : Type 0 where
  pub laws : (x : List K) (d e : ℕ) → d + 4 ≤ e → Laws s x (R d) (R e) (H d x) (p d) (p e)
  pub ample : (d : ℕ) → Ample m (p d)
  pub pins : (d : ℕ) (x : List K) → Pins s x (H d x) (p d)

-- how a text that is nested at any depth is read with more room than both
deeper : {K A : Type 0} {m : ℕ} {s : K → Bool} {R : ℕ → Part K A} {H : ℕ → List K → List K → Part K A} {p : ℕ → Reader K A} → Levels m s R H p
    → (n d : ℕ) (ts : List K) (b : A) (o : Outcome K A) → is_firm o ≡ true → p n ts ≡ o → R d ts b [] → Agrees [] o b []
deeper {K} {A} {m} {s} {R} {H} {p} l n d ts b o f e h =
    let up = l.laws [] n (n + d + 4) (omega arith) in
    let on = l.laws [] (n + d + 4) (n + d + 8) (omega arith) in
    let wide = (l.laws [] d (n + d + 4) (omega arith)).wide ts [] b h in
    subst (λ q. Agrees [] q b []) ((up.account ts).grows (ap is_firm e ∙ f) ∙ e) (on.again [] ts [] b (on.loose [] ts [] b wide) refl)

got_stops : {K A : Type 0} {m : ℕ} {s : K → Bool} {R : ℕ → Part K A} {H : ℕ → List K → List K → Part K A} {p : ℕ → Reader K A} → Levels m s R H p
    → (n : ℕ) (f u : List K) (t : K) (a : A) → ((v : List K) → p n (f ++ t ∷ v) ≡ Got a (t ∷ v)) → StopsAt R f (t ∷ u)
got_stops {K} {A} l n f u t a h b =
    let g = deeper l n b.0 (f ++ t ∷ b.1) b.2 (Got a (t ∷ b.1)) refl (h b.1) (rw append_assoc at b.3) in
    absurd cc

wrong_stops : {K A : Type 0} {m : ℕ} {s : K → Bool} {R : ℕ → Part K A} {H : ℕ → List K → List K → Part K A} {p : ℕ → Reader K A} → Levels m s R H p
    → (n : ℕ) (ts f r : List K) → ts ≡ f ++ r → p n ts ≡ Fault Wrong r → ((t : K) (u v : List K) → r ≡ t ∷ u → p n (f ++ t ∷ v) ≡ Fault Wrong (t ∷ v)) → StopsAt R f r
wrong_stops l n ts f [] s e h = λ d a b. deeper l n d ts a (Fault Wrong []) refl e (rw (s ∙ append-nil f) b)
wrong_stops l n ts f (t ∷ u) s e h = λ b. deeper l n b.0 (f ++ t ∷ b.1) b.2 (Fault Wrong (t ∷ b.1)) refl (h t u b.1 refl) (rw append_assoc at b.3)

begins : {K A : Type 0} (s : K → Bool) (R : ℕ → Part K A) (d : ℕ) (f : List K) → Goes s (R d) f → Begins R f
begins s R d f g = (d, g.0 ++ [], g.1, g.2 [] refl)

right_steps : {K A : Type 0} {m : ℕ} {s : K → Bool} {R : ℕ → Part K A} {H : ℕ → List K → List K → Part K A} {p : ℕ → Reader K A} → Levels m s R H p
    → (n : ℕ) (ts : List K) → length ts < m → (o : Outcome K A) → p n ts ≡ o → Account s (R n) (R (n + 4)) (p n) (p (n + 4)) ts o → IsRight R H n ts (whole o)
right_steps {K} {A} {m} {s} {R} {H} {p} l n ts b (Got a []) e c = (c.follows.0, refl, λ d v h. let g = deeper l n d ts v (Got a []) refl e h in sym g.0)
right_steps {K} {A} {m} {s} {R} {H} {p} l n ts b (Got a (t ∷ r)) e c = (
  c.front,
  c.splits,
  (n + 4, [], a, c.follows.1 []),
  got_stops l n c.front r t a (λ v. c.steady t r v refl),
  λ x h. let g = subst (λ o. Agrees x o h.1 []) e ((l.laws x n (n + 4) (omega arith)).again h.0 ts [] h.1 h.2 refl) in absurd cc,
)
right_steps {K} {A} {m} {s} {R} {H} {p} l n ts b (Fault Wrong r) e c = (
  c.front,
  c.splits,
  begins s R (n + 4) c.front c.follows,
  wrong_stops l n ts c.front r c.splits e c.steady,
  λ x h. subst (λ o. Agrees x o h.1 []) e ((l.laws x n (n + 4) (omega arith)).again h.0 ts [] h.1 h.2 refl),
)
right_steps {K} {A} {m} {s} {R} {H} {p} l n ts b (Fault Deep []) e c = c.follows
right_steps {K} {A} {m} {s} {R} {H} {p} l n ts b (Fault Deep (t ∷ r)) e c =
    let on = l.laws [] n (n + 4) (omega arith) in
    let g = l.pins n (t ∷ r) ts e in (
      c.front,
      c.splits,
      begins s R (n + 4) (c.front ++ t ∷ []) c.follows,
      λ more a h. let d = subst (λ o. Agrees [] o a []) (c.steady t r more refl) (on.again [] (c.front ++ t ∷ more) [] a (on.loose [] (c.front ++ t ∷ more) [] a h) refl) in absurd cc,
      (g.0 ++ [], g.1, g.2 [] refl),
    )
right_steps {K} {A} {m} {s} {R} {H} {p} l n ts b (Fault Spent r) e c = let d = l.ample n ts b in absurd (let f = ap is_spent e in cc)

pub right : {K A : Type 0} {m : ℕ} {s : K → Bool} {R : ℕ → Part K A} {H : ℕ → List K → List K → Part K A} {p : ℕ → Reader K A} → Levels m s R H p
    → (n : ℕ) (ts : List K) → length ts < m → IsRight R H n ts (whole (p n ts))
right {K} {A} {m} {s} {R} {H} {p} l n ts b = right_steps l n ts b (p n ts) refl ((l.laws [] n (n + 4) (omega arith)).account ts)
