-- Lines up to the last one, as a part that is ready.
use Rattle.std.proofs.Common.{◌≡◌, ◌⊎◌, inl, inr, ℕ, zero, suc, ◌<◌, ◌≤◌, Bool, true, false, ◌&&◌, not, List, [], ◌∷◌, ◌++◌, length, refl, ap, ◌∙◌, subst, arith}
use Rattle.std.proofs.lemmas.List.{append_assoc}
use Rattle.grammar_words.specs.declared.stop.Why.TheVariants.{Wrong, Deep, Spent}
use Rattle.grammar_words.specs.Grammar.{Part, Next, More, Last, Until, starts}
use Rattle.grammar_words.specs.Reading.{Outcome, Got, Fault, Reader, pair, after, turned, made, chained, put, second, onward, until}
use Rattle.grammar_words.specs.Classes.{inside, outside}
use Rattle.grammar_words.proofs.Laws.{any, ends, ends_any, is_spent, Laws}
use Rattle.grammar_words.proofs.Whole.{Ample, Pins}
use Rattle.grammar_words.proofs.Spelled.{narrower}
use Rattle.grammar_words.proofs.Until.{Lines, Closes, until-laws}
use Rattle.grammar_words.proofs.Sets.{ends_none}
use Rattle.grammar_words.proofs.Ready.{Shape, Opens, NoDeep, Ready, both_true, made_spent, made_deep}
use Rattle.grammar_words.proofs.ReadyJoin.{after_deep, taken}
use Rattle.grammar_words.proofs.ReadyMany.{shorter}

abbrev pub until_shape : Shape → Shape
until_shape g = record { stops = []; firsts = g.firsts; empty = false; flat = g.flat; near = true }

-- anything may stand behind a line, and it has a token
abbrev pub has_none : List ℕ → Bool
has_none [] = true
has_none (x ∷ set) = false

abbrev pub fits_until : Shape → Bool
fits_until g = not g.empty && has_none g.stops

none_ends : {K : Type 0} (c : K → ℕ) (set : List ℕ) → has_none set ≡ true → (ts : List K) → ends (outside c set) ts ≡ true
none_ends c [] e ts = ends_none c ts
none_ends c (x ∷ set) e ts = absurd cc

onward_spent : {K S T : Type 0} (r : Reader K (List S × T)) (a : Next S T) (ts : List K) → is_spent (r ts) ≡ false → is_spent (turned (pair a) (onward r a ts)) ≡ false
unfolding made
onward_spent r (More s) ts e = made_spent (pair (More s)) (turned (put s) (r ts)) (made_spent (put s) (r ts) e)
onward_spent r (Last t) ts e = refl

line_spent : {K S T : Type 0} (n : ℕ) (r : Reader K (List S × T)) (o : Outcome K (Next S T)) → Ample n r → ((mid : List K) (a : Next S T) → o ≡ Got a mid → length mid < n) → is_spent o ≡ false → is_spent (after (λ a k. turned (pair a) (onward r a k)) o) ≡ false
line_spent n r (Got a mid) h b e = onward_spent r a mid (h mid (b mid a refl))
line_spent n r (Fault Wrong k) h b e = refl
line_spent n r (Fault Deep k) h b e = refl
line_spent n r (Fault Spent k) h b e = e

until_ample : {K S T : Type 0} (m : ℕ) (p : Reader K (Next S T)) → Ample m p → ((ts mid : List K) (a : Next S T) → p ts ≡ Got a mid → length mid < length ts) → (n : ℕ) → n ≤ m → Ample n (until p n)
unfolding made chained
until_ample m p h s zero l ts b = absurd (omega arith)
until_ample m p h s (suc n) l ts b = made_spent second (chained p (onward (until p n)) ts)
    (line_spent n (until p n) (p ts) (until_ample m p h s n (omega arith)) (λ mid a d. let i = s ts mid a d in omega arith) (h ts (omega arith)))

until_opens : {K S T : Type 0} (c : K → ℕ) (g : Shape) (R : Part K (Next S T)) → not g.empty ≡ true → Opens c g R → (ts rest : List K) (ss : List S) (t : T) → Until R ts ss t rest → (starts (inside c g.firsts) ts ≡ true) ⊎ ((false ≡ true) × (ts ≡ rest))
until_opens c g R e o ts rest [] t h = elim (o ts rest (Last t) h) [ inl f ↦ inl f | inr f ↦ absurd (let d : not true ≡ true = subst (λ k. not k ≡ true) f.0 e in cc) ]
until_opens c g R e o ts rest (s ∷ ss) t h = elim (o ts h.0 (More s) h.1) [ inl f ↦ inl f | inr f ↦ absurd (let d : not true ≡ true = subst (λ k. not k ≡ true) f.0 e in cc) ]

-- where lines are too deep: a line, or those behind one that goes on
line_deep : {K S T : Type 0} (r : Reader K (List S × T)) (x : List K) (a : Next S T) (mid : List K) → onward r a mid ≡ Fault Deep x → (s : S) × (a ≡ More s) × (r mid ≡ Fault Deep x)
unfolding made
line_deep r x (More s) mid e = (s, refl, made_deep (put s) (r mid) x e)
line_deep r x (Last t) mid e = absurd cc

until_deep : {K S T : Type 0} (p : Reader K (Next S T)) (n : ℕ) (ts x : List K) → until p (suc n) ts ≡ Fault Deep x
    → (p ts ≡ Fault Deep x) ⊎ ((s : S) × (mid : List K) × (p ts ≡ Got (More s) mid) × (until p n mid ≡ Fault Deep x))
unfolding made chained
until_deep p n ts x e = elim (after_deep (onward (until p n)) x (p ts) (made_deep second (chained p (onward (until p n)) ts) x e)) [
  | inl d ↦ inl d
  | inr d ↦ let i = line_deep (until p n) x d.0 d.1 d.3 in inr (i.0, d.1, d.2 ∙ ap (λ a. Got a d.1) i.1, i.2)
]

until_flat : {K S T : Type 0} (p : Reader K (Next S T)) → NoDeep p → (n : ℕ) → NoDeep (until p n)
until_flat p f zero ts x e = cc
until_flat p f (suc n) ts x e = elim (until_deep p n ts x e) [ inl d ↦ f ts x d | inr d ↦ until_flat p f n d.1 x d.3 ]

-- the last line behind one that is too deep
close_deep : {K S T : Type 0} (H : List K → Part K (Next S T)) → (l : List K) (t : T) → ((y k : List K) → H y (l ++ k) (Last t) k) → (ts more : List K) (a : Next S T) → ((k : List K) → H (more ++ k) ts a k)
    → (n : List K) × (v : List S × T) × ((k : List K) → Lines (H (n ++ k)) ts v k)
close_deep H l t c ts more (More s) h = (more ++ l, (s ∷ [], t), λ k. (l ++ k, rw append_assoc (h (l ++ k)), c ((more ++ l) ++ k) k))
close_deep H l t c ts more (Last u) h = (more, ([], u), h)

until_pins : {K S T : Type 0} (x : List K) (R W : Part K (Next S T)) (H : List K → Part K (Next S T)) (p w : Reader K (Next S T)) → Laws any x R W H p w → Closes R → Pins any x H p → (n : ℕ) → Pins any x (λ y. Lines (H y)) (until p n)
until_pins x R W H p w l c h zero ts e = absurd cc
until_pins x R W H p w l c h (suc n) ts e = elim (until_deep p n ts x e) [
  | inl d ↦ let g = h ts d in let i = close_deep H c.0 c.1 (λ y k. l.loose y (c.0 ++ k) k (Last c.1) (c.2 k)) ts g.0 g.1 (λ k. g.2 k (ends_any k)) in (i.0, i.1, λ k m. i.2 k)
  | inr d ↦ let g = until_pins x R W H p w l c h n d.1 d.3 in (g.0, (d.0 ∷ g.1.0, g.1.1), λ k m. (d.1, l.loose (g.0 ++ k) ts d.1 (More d.0) (taken l ts d.1 (More d.0) d.2), g.2 k m))
]

pub until-ready : {K S T : Type 0} {c : K → ℕ} {m : ℕ} {g : Shape} {x : List K} {R W : Part K (Next S T)} {H : List K → Part K (Next S T)} {p w : Reader K (Next S T)}
    → Ready c m g x R W H p w → Closes R → fits_until g ≡ true → Ready c m (until_shape g) x (Lines R) (Lines W) (λ y. Lines (H y)) (until p m) (until w m)
until-ready {K} {S} {T} {c} {m} {g} {x} {R} {W} {H} {p} {w} r n e =
    let f = both_true _ _ e in
    let l : Laws any x R W H p w = narrower (λ k d. none_ends c g.stops f.1 k) r.laws in
    let i : Pins any x H p = λ ts d. let j = r.pins ts d in (j.0, j.1, λ k o. j.2 k (none_ends c g.stops f.1 k)) in
    record {
      laws = narrower (λ k d. ends_any k) (until-laws l (n.0, n.1, λ k. l.wide (n.0 ++ k) k (Last n.1) (n.2 k)) m);
      ample = until_ample m p r.ample (shorter r f.0) m (omega arith);
      opens = λ ts rest v h. until_opens c g W f.0 r.opens ts rest v.0 v.1 h;
      opens_holed = λ y ts rest v h. until_opens c g (H y) f.0 (r.opens_holed y) ts rest v.0 v.1 h;
      flat = λ d. until_flat p (r.flat d) m;
      near = λ d. (n.0, ([], n.1), λ k o. n.2 k);
      pins = λ ts d. let j = until_pins x R W H p w l n i m ts d in (j.0, j.1, λ k o. j.2 k (ends_any k));
    }
