-- A part any number of times, as a part that is ready.
use Rattle.std.proofs.Common.{◌≡◌, ◌⊎◌, inl, inr, ℕ, zero, suc, ◌<◌, ◌≤◌, ◌+◌, Bool, true, false, ◌&&◌, not, List, [], ◌∷◌, ◌++◌, length, refl, ap, ◌∙◌, sym, subst, arith}
use Rattle.std.proofs.lemmas.List.{length-append}
use Rattle.grammar_words.specs.declared.stop.Why.TheVariants.{Wrong, Deep, Spent}
use Rattle.grammar_words.specs.Grammar.{Part, Each, starts}
use Rattle.grammar_words.specs.Reading.{Outcome, Got, Fault, Reader, pair, after, turned, made, joined, chained, pick, spent, nothing, cons, many}
use Rattle.grammar_words.specs.Classes.{inside, outside}
use Rattle.grammar_words.proofs.Laws.{is_spent, Account, Laws}
use Rattle.grammar_words.proofs.Whole.{Ample, Pins}
use Rattle.grammar_words.proofs.Spelled.{Narrower}
use Rattle.grammar_words.proofs.Pick.{chosen_true, chosen_false}
use Rattle.grammar_words.proofs.Many.{Repeats, many-laws}
use Rattle.grammar_words.proofs.Sets.{subset, apart, ends_apart, ends_left, ends_right, ends_not}
use Rattle.grammar_words.proofs.Ready.{Shape, Opens, NoDeep, Ready, both_true, made_spent, made_deep}
use Rattle.grammar_words.proofs.ReadyJoin.{after_deep, taken, first_starts}

-- a part that has a first token takes one
shorter_steps : {K A : Type 0} (c : K → ℕ) (g : Shape) (W : Part K A) → not g.empty ≡ true → Opens c g W → (ts mid f : List K) (a : A) → ts ≡ f ++ mid → ((k : List K) → W (f ++ k) a k) → length mid < length ts
shorter_steps c g W e o ts mid [] a s h = elim (o [] [] a (h [])) [ inl f ↦ absurd cc | inr f ↦ absurd (let d : not true ≡ true = subst (λ k. not k ≡ true) f.0 e in cc) ]
shorter_steps c g W e o ts mid (t ∷ f) a s h = let d : length ts ≡ suc (length f + length mid) = ap length s ∙ ap suc (length-append f mid) in omega arith

pub shorter : {K A : Type 0} {c : K → ℕ} {m : ℕ} {g : Shape} {x : List K} {R W : Part K A} {H : List K → Part K A} {p w : Reader K A} → Ready c m g x R W H p w → not g.empty ≡ true
    → (ts mid : List K) (a : A) → p ts ≡ Got a mid → length mid < length ts
shorter {K} {A} {c} {m} {g} {x} {R} {W} {H} {p} {w} r e ts mid a d =
    let n = subst (λ o. Account (outside c g.stops) R W p w ts o) d (r.laws.account ts) in shorter_steps c g W e r.opens ts mid n.front a n.splits n.follows.1

-- A part any number of times.

abbrev pub many_shape : List ℕ → Shape → Shape
many_shape b g = record { stops = b ++ g.stops; firsts = b; empty = true; flat = g.flat; near = true }

abbrev pub fits_many : List ℕ → Shape → Bool
fits_many b g = not g.empty && (subset g.firsts b && apart b g.stops)

many_repeats : {K A : Type 0} {c : K → ℕ} {m : ℕ} {g : Shape} {x : List K} {R W : Part K A} {H : List K → Part K A} {p w : Reader K A} (b : List ℕ) → Ready c m g x R W H p w → fits_many b g ≡ true
    → Repeats (outside c g.stops) (outside c (b ++ g.stops)) (inside c b) W H
many_repeats {K} {A} {c} {m} {g} {x} {R} {W} {H} {p} {w} b r e =
    let f = both_true _ _ e in
    let i = both_true _ _ f.1 in
    record {
      wide = first_starts c b g W f.0 i.0 r.opens;
      holed = λ y. first_starts c b g (H y) f.0 i.0 (r.opens_holed y);
      follow = ends_apart c b g.stops i.1;
      narrow = ends_right c b g.stops;
      stop = λ ts d. ends_not c b ts (ends_left c b g.stops ts d);
    }

turn_spent : {K A : Type 0} (test : K → Bool) (p : Reader K A) (r : Reader K (List A)) (ts : List K) (b : Bool) → starts test ts ≡ b → (b ≡ true → is_spent (joined p r ts) ≡ false) → is_spent (pick test (made cons (joined p r)) (nothing []) ts) ≡ false
unfolding made
turn_spent test p r ts true e h = rw (chosen_true (starts test) (made cons (joined p r)) (nothing []) ts e) (made_spent cons (joined p r ts) (h refl))
turn_spent test p r ts false e h = rw (chosen_false (starts test) (made cons (joined p r)) (nothing []) ts e) refl

pub one_turn : {K A B : Type 0} (n : ℕ) (r : Reader K B) (ts : List K) (o : Outcome K A) → Ample n r → ((mid : List K) (a : A) → o ≡ Got a mid → length mid < n) → is_spent o ≡ false → is_spent (after (λ a k. turned (pair a) (r k)) o) ≡ false
one_turn n r ts (Got a mid) h b e = made_spent (pair a) (r mid) (h mid (b mid a refl))
one_turn n r ts (Fault Wrong k) h b e = refl
one_turn n r ts (Fault Deep k) h b e = refl
one_turn n r ts (Fault Spent k) h b e = e

many_ample : {K A : Type 0} (m : ℕ) (test : K → Bool) (p : Reader K A) → Ample m p → ((ts mid : List K) (a : A) → p ts ≡ Got a mid → length mid < length ts) → (n : ℕ) → n ≤ m → Ample n (many test p n)
unfolding chained
many_ample m test p h s zero l ts b = absurd (omega arith)
many_ample m test p h s (suc n) l ts b =
    turn_spent test p (many test p n) ts (starts test ts) refl (λ e. one_turn n (many test p n) ts (p ts) (many_ample m test p h s n (omega arith)) (λ mid a d. let i = s ts mid a d in omega arith) (h ts (omega arith)))

each_starts : {K A : Type 0} (test : K → Bool) (R : Part K A) → ((ts rest : List K) (a : A) → R ts a rest → starts test ts ≡ true) → (ts rest : List K) (as_ : List A) → Each R ts as_ rest → (starts test ts ≡ true) ⊎ ((true ≡ true) × (ts ≡ rest))
each_starts test R h ts rest [] e = inr (refl, sym e)
each_starts test R h ts rest (a ∷ as_) e = inl (h ts e.0 a e.1)

turn_deep : {K A : Type 0} (test : K → Bool) (p : Reader K A) (r : Reader K (List A)) (ts x : List K) (b : Bool) → starts test ts ≡ b → pick test (made cons (joined p r)) (nothing []) ts ≡ Fault Deep x → (p ts ≡ Fault Deep x) ⊎ ((a : A) × (mid : List K) × (p ts ≡ Got a mid) × (r mid ≡ Fault Deep x))
unfolding made chained
turn_deep test p r ts x true e d = after_deep (λ a. r) x (p ts) (made_deep cons (joined p r ts) x (sym (chosen_true (starts test) (made cons (joined p r)) (nothing []) ts e) ∙ d))
turn_deep {K} {A} test p r ts x false e d = absurd (let i : ◌≡◌ {A = Outcome K (List A)} (Got [] ts) (Fault Deep x) = sym (chosen_false (starts test) (made cons (joined p r)) (nothing []) ts e) ∙ d in cc)

no_turn_deep : {K A : Type 0} (test : K → Bool) (ts x : List K) (b : Bool) → starts test ts ≡ b → pick test spent (nothing {A = List A} []) ts ≡ Fault Deep x → ⊥
no_turn_deep {K} {A} test ts x true e d = let i : ◌≡◌ {A = Outcome K (List A)} (Fault Spent ts) (Fault Deep x) = sym (chosen_true (starts test) spent (nothing []) ts e) ∙ d in cc
no_turn_deep {K} {A} test ts x false e d = let i : ◌≡◌ {A = Outcome K (List A)} (Got [] ts) (Fault Deep x) = sym (chosen_false (starts test) spent (nothing []) ts e) ∙ d in cc

many_flat : {K A : Type 0} (test : K → Bool) (p : Reader K A) → NoDeep p → (n : ℕ) → NoDeep (many test p n)
many_flat test p f zero ts x e = no_turn_deep test ts x (starts test ts) refl e
many_flat test p f (suc n) ts x e = elim (turn_deep test p (many test p n) ts x (starts test ts) refl e) [ inl d ↦ f ts x d | inr d ↦ many_flat test p f n d.1 x d.3 ]

many_pins : {K A : Type 0} (s z test : K → Bool) (x : List K) (R W : Part K A) (H : List K → Part K A) (p w : Reader K A) → Laws s x R W H p w → Narrower z s → Pins s x H p → (n : ℕ) → Pins z x (λ y. Each (H y)) (many test p n)
many_pins s z test x R W H p w l i h zero ts e = absurd (no_turn_deep test ts x (starts test ts) refl e)
many_pins {K} {A} s z test x R W H p w l i h (suc n) ts e = elim (turn_deep test p (many test p n) ts x (starts test ts) refl e) [
  | inl d ↦ let g = h ts d in (g.0, g.1 ∷ [], λ k m. (k, g.2 k (i k m), refl))
  | inr d ↦ let g = many_pins s z test x R W H p w l i h n d.1 d.3 in (g.0, d.0 ∷ g.1, λ k m. (d.1, l.loose (g.0 ++ k) ts d.1 d.0 (taken l ts d.1 d.0 d.2), g.2 k m))
]

pub many-ready : {K A : Type 0} {c : K → ℕ} {m : ℕ} {g : Shape} {x : List K} {R W : Part K A} {H : List K → Part K A} {p w : Reader K A} (b : List ℕ)
    → Ready c m g x R W H p w → fits_many b g ≡ true → Ready c m (many_shape b g) x (Each R) (Each W) (λ y. Each (H y)) (many (inside c b) p m) (many (inside c b) w m)
many-ready {K} {A} {c} {m} {g} {x} {R} {W} {H} {p} {w} b r e =
    let i = many_repeats b r e in
    record {
      laws = many-laws r.laws i m;
      ample = many_ample m (inside c b) p r.ample (shorter r (both_true _ _ e).0) m (omega arith);
      opens = each_starts (inside c b) W i.wide;
      opens_holed = λ y. each_starts (inside c b) (H y) (i.holed y);
      flat = λ d. many_flat (inside c b) p (r.flat d) m;
      near = λ d. ([], [], λ k n. refl);
      pins = many_pins (outside c g.stops) (outside c (b ++ g.stops)) (inside c b) x R W H p w r.laws i.narrow r.pins m;
    }
