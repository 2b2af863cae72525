-- One part and then another, or one or another, as parts that are ready.
use Rattle.std.proofs.Common.{◌≡◌, ◌⊎◌, inl, inr, ℕ, ◌<◌, ◌≤◌, ◌+◌, Bool, true, false, ◌&&◌, ◌||◌, not, List, [], ◌++◌, length, refl, ap, ◌∙◌, sym, subst, arith}
use Rattle.std.proofs.lemmas.List.{append_assoc, length-append}
use Rattle.grammar_words.specs.declared.stop.Why.TheVariants.{Wrong, Deep, Spent}
use Rattle.grammar_words.specs.Grammar.{Part, Then, Either, starts}
use Rattle.grammar_words.specs.Reading.{Outcome, Got, Fault, Reader, pair, after, turned, joined, chained, choose, pick}
use Rattle.grammar_words.specs.Classes.{inside, outside}
use Rattle.grammar_words.proofs.Laws.{ends, left, is_spent, Goes, Account, Laws}
use Rattle.grammar_words.proofs.Whole.{Ample, Pins}
use Rattle.grammar_words.proofs.Spelled.{Within, Narrower, narrower, goes_on}
use Rattle.grammar_words.proofs.Join.{joined-laws}
use Rattle.grammar_words.proofs.Pick.{pick-laws, chosen_true, chosen_false}
use Rattle.grammar_words.proofs.Sets.{subset, apart, starts_left, starts_right, starts_subset, starts_apart, ends_apart, ends_left, ends_right, ends_not}
use Rattle.grammar_words.proofs.Ready.{Shape, Opens, NoDeep, Ready, both_true, made_spent, made_deep}

abbrev pub then_stops : Bool → List ℕ → List ℕ → List ℕ
then_stops true a b = a ++ b
then_stops false a b = b

abbrev pub then_firsts : Bool → List ℕ → List ℕ → List ℕ
then_firsts true a b = a ++ b
then_firsts false a b = a

abbrev pub then_shape : Shape → Shape → Shape
then_shape g h = record {
  stops = then_stops h.empty g.stops h.stops;
  firsts = then_firsts g.empty g.firsts h.firsts;
  empty = g.empty && h.empty;
  flat = g.flat && h.flat;
  near = g.near && h.near;
}

-- what begins the second part may stand behind the first one, and the second one goes on within the limit
abbrev pub fits_then : Shape → Shape → Bool
fits_then g h = apart h.firsts g.stops && (g.flat || h.near)

then_narrow : {K : Type 0} (c : K → ℕ) (e : Bool) (a b : List ℕ) (ts : List K) → ends (outside c (then_stops e a b)) ts ≡ true → ends (outside c b) ts ≡ true
then_narrow c true a b ts n = ends_right c a b ts n
then_narrow c false a b ts n = n

then_empty : {K : Type 0} (c : K → ℕ) (e : Bool) (a b : List ℕ) (ts : List K) → e ≡ true → ends (outside c (then_stops e a b)) ts ≡ true → ends (outside c a) ts ≡ true
then_empty c true a b ts h n = ends_left c a b ts n
then_empty c false a b ts h n = absurd cc

-- the second part may stand behind the first one
then_leads : {K B : Type 0} (c : K → ℕ) (g h : Shape) (V : Part K B) → apart h.firsts g.stops ≡ true → Opens c h V
    → (ts rest : List K) (b : B) → V ts b rest → ends (outside c (then_stops h.empty g.stops h.stops)) rest ≡ true → ends (outside c g.stops) ts ≡ true
then_leads c g h V a o ts rest b v e = elim (o ts rest b v) [
  | inl f ↦ ends_apart c h.firsts g.stops a ts f
  | inr f ↦ subst (λ k. ends (outside c g.stops) k ≡ true) (sym f.1) (then_empty c h.empty g.stops h.stops rest f.0 e)
]

then_first : {K : Type 0} (c : K → ℕ) (e : Bool) (a b : List ℕ) (ts : List K) → starts (inside c a) ts ≡ true → starts (inside c (then_firsts e a b)) ts ≡ true
then_first c true a b ts h = starts_left c a b ts h
then_first c false a b ts h = h

then_second : {K : Type 0} (c : K → ℕ) (e : Bool) (a b : List ℕ) (ts : List K) → e ≡ true → starts (inside c b) ts ≡ true → starts (inside c (then_firsts e a b)) ts ≡ true
then_second c true a b ts n h = starts_right c a b ts h
then_second c false a b ts n h = absurd cc

and_both : (a b : Bool) → a ≡ true → b ≡ true → (a && b) ≡ true
and_both a b e f = rw e f

then_opens : {K A B : Type 0} (c : K → ℕ) (g h : Shape) (W : Part K A) (V : Part K B) → Opens c g W → Opens c h V → Opens c (then_shape g h) (Then W V)
then_opens c g h W V o n ts rest a v = elim (o ts v.0 a.0 v.1) [
  | inl f ↦ inl (then_first c g.empty g.firsts h.firsts ts f)
  | inr f ↦ elim (n v.0 rest a.1 v.2) [
    | inl d ↦ inl (then_second c g.empty g.firsts h.firsts ts f.0 (subst (λ k. starts (inside c h.firsts) k ≡ true) (sym f.1) d))
    | inr d ↦ inr (and_both g.empty h.empty f.0 d.0, f.1 ∙ d.1)
  ]
]

-- what is left of tokens is no longer than they are
pub left_short : {K A : Type 0} {s : K → Bool} {x : List K} {R W : Part K A} {H : List K → Part K A} {p w : Reader K A} → Laws s x R W H p w → (ts : List K) → length (left (p ts)) ≤ length ts
left_short {K} {A} {s} {x} {R} {W} {H} {p} {w} l ts = let a = l.account ts in let e : length ts ≡ length a.front + length (left (p ts)) = ap length a.splits ∙ length-append a.front (left (p ts)) in omega arith

pub after_spent : {K A B : Type 0} (m : ℕ) (q : A → Reader K B) (o : Outcome K A) → ((a : A) → Ample m (q a)) → length (left o) < m → is_spent o ≡ false → is_spent (after (λ a r. turned (pair a) (q a r)) o) ≡ false
after_spent m q (Got a mid) h b e = made_spent (pair a) (q a mid) (h a mid b)
after_spent m q (Fault Wrong r) h b e = refl
after_spent m q (Fault Deep r) h b e = refl
after_spent m q (Fault Spent r) h b e = e

pub chained_ample : {K A B : Type 0} (m : ℕ) (p : Reader K A) (q : A → Reader K B) → ((ts : List K) → length (left (p ts)) ≤ length ts) → Ample m p → ((a : A) → Ample m (q a)) → Ample m (chained p q)
unfolding chained
chained_ample m p q s h n ts b = let l = s ts in after_spent m q (p ts) n (omega arith) (h ts b)

-- a second part that is too deep, or the first one
pub after_deep : {K A B : Type 0} (q : A → Reader K B) (x : List K) (o : Outcome K A) → after (λ a r. turned (pair a) (q a r)) o ≡ Fault Deep x → (o ≡ Fault Deep x) ⊎ ((a : A) × (mid : List K) × (o ≡ Got a mid) × (q a mid ≡ Fault Deep x))
after_deep q x (Got a mid) e = inr (a, mid, refl, made_deep (pair a) (q a mid) x e)
after_deep q x (Fault why r) e = inl cc

pub chained_flat : {K A B : Type 0} (p : Reader K A) (q : A → Reader K B) → NoDeep p → ((a : A) → NoDeep (q a)) → NoDeep (chained p q)
unfolding chained
chained_flat p q f g ts x e = elim (after_deep q x (p ts) e) [ inl d ↦ f ts x d | inr d ↦ g d.0 d.1 x d.3 ]

-- the first part was read
pub taken : {K A : Type 0} {s : K → Bool} {x : List K} {R W : Part K A} {H : List K → Part K A} {p w : Reader K A} → Laws s x R W H p w → (ts mid : List K) (a : A) → p ts ≡ Got a mid → R ts a mid
taken {K} {A} {s} {x} {R} {W} {H} {p} {w} l ts mid a e = let d = subst (λ o. Account s R W p w ts o) e (l.account ts) in d.follows.0

then_pins : {K A B : Type 0} (s z : K → Bool) (x : List K) (R W : Part K A) (H : List K → Part K A) (Q : Part K B) (G : List K → Part K B) (p w : Reader K A) (q : Reader K B)
    → Laws s x R W H p w → ((y : List K) → Within Q (G y)) → ((y ts rest : List K) (b : B) → G y ts b rest → ends z rest ≡ true → ends s ts ≡ true)
    → Pins s x H p → Pins z x G q → NoDeep p ⊎ Goes z Q [] → Pins z x (λ y. Then (H y) (G y)) (joined p q)
unfolding chained
then_pins s z x R W H Q G p w q l loose leads pins qins near ts e = elim (after_deep (λ a. q) x (p ts) e) [
  | inl d ↦ elim near [
    | inl f ↦ absurd (f ts x d)
    | inr n ↦ let g = pins ts d in (
      g.0 ++ n.0,
      (g.1, n.1),
      λ k m.
          let v = loose [] (n.0 ++ k) k n.1 (n.2 k m) in
          (n.0 ++ k, rw append_assoc (g.2 (n.0 ++ k) (leads [] (n.0 ++ k) k n.1 v m)), loose ((g.0 ++ n.0) ++ k) (n.0 ++ k) k n.1 (n.2 k m)),
    )
  ]
  | inr d ↦ let g = qins d.1 d.3 in (g.0, (d.0, g.1), λ k m. (d.1, l.loose (g.0 ++ k) ts d.1 d.0 (taken l ts d.1 d.0 d.2), g.2 k m))
]

then_near : {K A B : Type 0} (s z : K → Bool) (R : Part K A) (Q : Part K B) → ((ts rest : List K) (b : B) → Q ts b rest → ends z rest ≡ true → ends s ts ≡ true) → Goes s R [] → Goes z Q [] → Goes z (Then R Q) []
then_near s z R Q leads f g = (f.0 ++ g.0, (f.1, g.1), λ k e. (g.0 ++ k, rw append_assoc (f.2 (g.0 ++ k) (leads (g.0 ++ k) k g.1 (g.2 k e) e)), g.2 k e))

or_else : {K A B : Type 0} (s : K → Bool) (p : Reader K A) (Q : Part K B) (f n : Bool) → (f || n) ≡ true → (f ≡ true → NoDeep p) → (n ≡ true → Goes s Q []) → NoDeep p ⊎ Goes s Q []
or_else s p Q true n e h g = inl (h refl)
or_else s p Q false n e h g = inr (g e)

pub then-ready : {K A B : Type 0} {c : K → ℕ} {m : ℕ} {g h : Shape} {x : List K} {R W : Part K A} {H : List K → Part K A} {Q V : Part K B} {G : List K → Part K B} {p w : Reader K A} {q v : Reader K B}
    → Ready c m g x R W H p w → Ready c m h x Q V G q v → fits_then g h ≡ true → Ready c m (then_shape g h) x (Then R Q) (Then W V) (λ y. Then (H y) (G y)) (joined p q) (joined w v)
then-ready {K} {A} {B} {c} {m} {g} {h} {x} {R} {W} {H} {Q} {V} {G} {p} {w} {q} {v} r n e =
    let f = both_true _ _ e in
    let z = outside c (then_stops h.empty g.stops h.stops) in
    let slim : Narrower z (outside c h.stops) = then_narrow c h.empty g.stops h.stops in
    let k : Laws z x Q V G q v = narrower slim n.laws in
    let near : h.near ≡ true → Goes z Q [] = λ d. goes_on (outside c h.stops) z Q Q slim (λ ts rest b i. i) [] (n.near d) in
    record {
      laws = joined-laws r.laws k (then_leads c g h V f.0 n.opens) (λ y. then_leads c g h (G y) f.0 (n.opens_holed y));
      ample = chained_ample m p (λ a. q) (left_short r.laws) r.ample (λ a. n.ample);
      opens = then_opens c g h W V r.opens n.opens;
      opens_holed = λ y. then_opens c g h (H y) (G y) (r.opens_holed y) (n.opens_holed y);
      flat = λ d. let i = both_true g.flat h.flat d in chained_flat p (λ a. q) (r.flat i.0) (λ a. n.flat i.1);
      near = λ d. let i = both_true g.near h.near d in
          then_near (outside c g.stops) z R Q (λ ts rest b u. then_leads c g h (G []) f.0 (n.opens_holed []) ts rest b (n.laws.loose [] ts rest b u)) (r.near i.0) (near i.1);
      pins = then_pins (outside c g.stops) z x R W H Q G p w q r.laws n.laws.loose (λ y. then_leads c g h (G y) f.0 (n.opens_holed y)) r.pins
          (λ ts d. let i = n.pins ts d in (i.0, i.1, λ u l. i.2 u (slim u l)))
          (or_else z p Q g.flat h.near f.1 r.flat near);
    }

-- One part or another, by the first token.

abbrev pub either_stops : Bool → List ℕ → List ℕ → List ℕ
either_stops true b s = b ++ s
either_stops false b s = s

abbrev pub either_shape : List ℕ → Shape → Shape → Shape
either_shape b g h = record {
  stops = either_stops h.empty b (g.stops ++ h.stops);
  firsts = g.firsts ++ h.firsts;
  empty = h.empty;
  flat = g.flat && h.flat;
  near = g.near || h.near;
}

-- the tokens b begin the first part alone, and it has one
abbrev pub fits_either : List ℕ → Shape → Shape → Bool
fits_either b g h = not g.empty && (subset g.firsts b && apart h.firsts b)

either_narrow : {K : Type 0} (c : K → ℕ) (e : Bool) (b s : List ℕ) (ts : List K) → ends (outside c (either_stops e b s)) ts ≡ true → ends (outside c s) ts ≡ true
either_narrow c true b s ts n = ends_right c b s ts n
either_narrow c false b s ts n = n

either_empty : {K : Type 0} (c : K → ℕ) (e : Bool) (b s : List ℕ) (ts : List K) → e ≡ true → ends (outside c (either_stops e b s)) ts ≡ true → ends (outside c b) ts ≡ true
either_empty c true b s ts h n = ends_left c b s ts n
either_empty c false b s ts h n = absurd cc

pub first_starts : {K A : Type 0} (c : K → ℕ) (b : List ℕ) (g : Shape) (W : Part K A) → not g.empty ≡ true → subset g.firsts b ≡ true → Opens c g W → (ts rest : List K) (a : A) → W ts a rest → starts (inside c b) ts ≡ true
first_starts c b g W e s o ts rest a w = elim (o ts rest a w) [ inl f ↦ starts_subset c g.firsts b s ts f | inr f ↦ absurd (let d : not true ≡ true = subst (λ k. not k ≡ true) f.0 e in cc) ]

second_starts : {K A : Type 0} (c : K → ℕ) (b s : List ℕ) (h : Shape) (V : Part K A) → apart h.firsts b ≡ true → Opens c h V → (ts rest : List K) (a : A) → V ts a rest → ends (outside c (either_stops h.empty b s)) rest ≡ true → starts (inside c b) ts ≡ false
second_starts c b s h V p o ts rest a v e = elim (o ts rest a v) [
  | inl f ↦ starts_apart c h.firsts b p ts f
  | inr f ↦ subst (λ k. starts (inside c b) k ≡ false) (sym f.1) (ends_not c b rest (either_empty c h.empty b s rest f.0 e))
]

left_opens : {K A : Type 0} (c : K → ℕ) (b : List ℕ) (g h : Shape) (W V : Part K A) → not g.empty ≡ true → Opens c g W → Opens c h V → Opens c (either_shape b g h) (Either W V)
left_opens c b g h W V e o n ts rest a d = elim d [
  | inl w ↦ elim (o ts rest a w) [ inl f ↦ inl (starts_left c g.firsts h.firsts ts f) | inr f ↦ absurd (let d : not true ≡ true = subst (λ k. not k ≡ true) f.0 e in cc) ]
  | inr v ↦ elim (n ts rest a v) [ inl f ↦ inl (starts_right c g.firsts h.firsts ts f) | inr f ↦ inr f ]
]

-- by any test
pub choose_ample : {K A : Type 0} (m : ℕ) (test : List K → Bool) (p q : Reader K A) → Ample m p → Ample m q → Ample m (choose test p q)
choose_ample m test p q h n ts b = go (test ts) refl
  where
    go : (d : Bool) → test ts ≡ d → is_spent (choose test p q ts) ≡ false
    go true e = rw (chosen_true test p q ts e) (h ts b)
    go false e = rw (chosen_false test p q ts e) (n ts b)

choose_deep : {K A : Type 0} (test : List K → Bool) (p q : Reader K A) (ts x : List K) (b : Bool) → test ts ≡ b → choose test p q ts ≡ Fault Deep x → (p ts ≡ Fault Deep x) ⊎ (q ts ≡ Fault Deep x)
choose_deep test p q ts x true e d = inl (sym (chosen_true test p q ts e) ∙ d)
choose_deep test p q ts x false e d = inr (sym (chosen_false test p q ts e) ∙ d)

pub choose_flat : {K A : Type 0} (test : List K → Bool) (p q : Reader K A) → NoDeep p → NoDeep q → NoDeep (choose test p q)
choose_flat test p q f g ts x e = elim (choose_deep test p q ts x (test ts) refl e) [ inl d ↦ f ts x d | inr d ↦ g ts x d ]

pub choose_pins : {K A : Type 0} (s : K → Bool) (x : List K) (H G : List K → Part K A) (test : List K → Bool) (p q : Reader K A) → Pins s x H p → Pins s x G q → Pins s x (λ y. Either (H y) (G y)) (choose test p q)
choose_pins s x H G test p q f g ts e = elim (choose_deep test p q ts x (test ts) refl e) [
  | inl d ↦ let i = f ts d in (i.0, i.1, λ k n. inl (i.2 k n))
  | inr d ↦ let i = g ts d in (i.0, i.1, λ k n. inr (i.2 k n))
]

pub or_near : {K A : Type 0} (s : K → Bool) (R Q : Part K A) (a b : Bool) → (a || b) ≡ true → (a ≡ true → Goes s R []) → (b ≡ true → Goes s Q []) → Goes s (Either R Q) []
or_near s R Q true b e f g = goes_on s s R (Either R Q) (λ k n. n) (λ ts rest a n. inl n) [] (f refl)
or_near s R Q false b e f g = goes_on s s Q (Either R Q) (λ k n. n) (λ ts rest a n. inr n) [] (g e)

pub either-ready : {K A : Type 0} {c : K → ℕ} {m : ℕ} {g h : Shape} {x : List K} {R W Q V : Part K A} {H G : List K → Part K A} {p w q v : Reader K A} (b : List ℕ)
    → Ready c m g x R W H p w → Ready c m h x Q V G q v → fits_either b g h ≡ true
    → Ready c m (either_shape b g h) x (Either R Q) (Either W V) (λ y. Either (H y) (G y)) (pick (inside c b) p q) (pick (inside c b) w v)
either-ready {K} {A} {c} {m} {g} {h} {x} {R} {W} {Q} {V} {H} {G} {p} {w} {q} {v} b r n e =
    let f = both_true _ _ e in
    let i = both_true _ _ f.1 in
    let z = outside c (either_stops h.empty b (g.stops ++ h.stops)) in
    let slim : Narrower z (outside c g.stops) = λ k d. ends_left c g.stops h.stops k (either_narrow c h.empty b (g.stops ++ h.stops) k d) in
    let thin : Narrower z (outside c h.stops) = λ k d. ends_right c g.stops h.stops k (either_narrow c h.empty b (g.stops ++ h.stops) k d) in
    record {
      laws = pick-laws (inside c b) (narrower slim r.laws) (narrower thin n.laws)
          (λ y ts rest a d l. first_starts c b g (H y) f.0 i.0 (r.opens_holed y) ts rest a d)
          (λ y ts rest a d l. second_starts c b (g.stops ++ h.stops) h (G y) i.1 (n.opens_holed y) ts rest a d l);
      ample = choose_ample m (starts (inside c b)) p q r.ample n.ample;
      opens = left_opens c b g h W V f.0 r.opens n.opens;
      opens_holed = λ y. left_opens c b g h (H y) (G y) f.0 (r.opens_holed y) (n.opens_holed y);
      flat = λ d. let j = both_true g.flat h.flat d in choose_flat (starts (inside c b)) p q (r.flat j.0) (n.flat j.1);
      near = λ d. or_near z R Q g.near h.near d (λ j. goes_on (outside c g.stops) z R R slim (λ ts rest a k. k) [] (r.near j)) (λ j. goes_on (outside c h.stops) z Q Q thin (λ ts rest a k. k) [] (n.near j));
      pins = choose_pins z x H G (starts (inside c b)) p q (λ ts d. let j = r.pins ts d in (j.0, j.1, λ k l. j.2 k (slim k l))) (λ ts d. let j = n.pins ts d in (j.0, j.1, λ k l. j.2 k (thin k l)));
    }
