-- A part with its reading, ready to be joined with others: its laws, and its shape in classes of tokens.
use Rattle.std.proofs.Common.{◌≡◌, ◌⊎◌, inl, inr, ℕ, Bool, true, false, ◌&&◌, ◌||◌, not, if◌then◌else◌, List, [], ◌∷◌, refl, sym}
use Rattle.grammar_words.specs.declared.stop.Why.TheVariants.{Wrong, Deep, Spent}
use Rattle.grammar_words.specs.Grammar.{Part, One, Nothing, Made, starts}
use Rattle.grammar_words.specs.Reading.{Outcome, Got, Fault, Reader, turned, one, nothing, made}
use Rattle.grammar_words.specs.Classes.{has, inside, outside, Tok, tok}
use Rattle.grammar_words.proofs.Laws.{ends_any, is_spent, Goes, Laws, one-laws, nothing-laws}
use Rattle.grammar_words.proofs.Whole.{Ample, Pins}
use Rattle.grammar_words.proofs.Spelled.{narrower, goes_on}
use Rattle.grammar_words.proofs.Made.{made-laws}
use Rattle.grammar_words.proofs.Sets.{subset, starts_subset, ends_subset}

-- no token of `stops` may stand behind the part, one of `firsts` comes first unless it may be `empty`; a `flat` one is
-- never too deep, and a `near` one has a text within the limit
pub record Shape : Type 0 where
  pub stops : List ℕ
  pub firsts : List ℕ
  pub empty : Bool
  pub flat : Bool
  pub near : Bool

-- a part begins with such a token, or it has none
abbrev pub Opens : {K A : Type 0} → (K → ℕ) → Shape → Part K A → Type 0
Opens {K} {A} c g W = (ts rest : List K) (a : A) → W ts a rest → (starts (inside c g.firsts) ts ≡ true) ⊎ ((g.empty ≡ true) × (ts ≡ rest))

abbrev pub NoDeep : {K A : Type 0} → Reader K A → Type 0
NoDeep {K} p = (ts x : List K) → p ts ≡ Fault Deep x → ⊥

pub record Ready {K A : Type 0} (c : K → ℕ) (m : ℕ) (g : Shape) (x : List K) (R W : Part K A) (H : List K → Part K A) (p w : Reader K A) : Type 0 where
  pub laws : Laws (outside c g.stops) x R W H p w
  pub ample : Ample m p
  pub opens : Opens c g W
  pub opens_holed : (y : List K) → Opens c g (H y)
  pub flat : g.flat ≡ true → NoDeep p
  pub near : g.near ≡ true → Goes (outside c g.stops) R []
  pub pins : Pins (outside c g.stops) x H p

-- One token.

abbrev pub token_shape : List ℕ → Shape
token_shape set = record { stops = []; firsts = set; empty = false; flat = true; near = true }

one_firm : {K : Type 0} (t : K) (ts x : List K) (b : Bool) → (is_spent {A = K} (if b then Got t ts else Fault Wrong (t ∷ ts)) ≡ false) × (◌≡◌ {A = Outcome K K} (if b then Got t ts else Fault Wrong (t ∷ ts)) (Fault Deep x) → ⊥)
one_firm t ts x true = (refl, λ e. cc)
one_firm t ts x false = (refl, λ e. cc)

one_ample : {K : Type 0} (m : ℕ) (test : K → Bool) → Ample m (one test)
one_ample m test [] b = refl
one_ample m test (t ∷ ts) b = (one_firm t ts [] (test t)).0

one_flat : {K : Type 0} (test : K → Bool) → NoDeep (one test)
one_flat test [] x e = cc
one_flat test (t ∷ ts) x e = (one_firm t ts x (test t)).1 e

one_opens : {K : Type 0} (test : K → Bool) (ts rest : List K) (a : K) → One test ts a rest → starts test ts ≡ true
one_opens test ts rest a r = rw r.1 r.0

pub flat_pins : {K A : Type 0} (s : K → Bool) (x : List K) (H : List K → Part K A) (p : Reader K A) → NoDeep p → Pins s x H p
flat_pins s x H p f ts e = absurd (f ts x e)

pub tok-ready : {K : Type 0} (c : K → ℕ) (m : ℕ) (set : List ℕ) (t : K) → has set (c t) ≡ true → (x : List K) → Ready c m (token_shape set) x (Tok c set) (Tok c set) (λ y. Tok c set) (tok c set) (tok c set)
unfolding inside
tok-ready c m set t h x = record {
  laws = narrower (λ k e. ends_any k) (one-laws (inside c set) t h x);
  ample = one_ample m (inside c set);
  opens = λ ts rest a r. inl (one_opens (inside c set) ts rest a r);
  opens_holed = λ y ts rest a r. inl (one_opens (inside c set) ts rest a r);
  flat = λ e. one_flat (inside c set);
  near = λ e. (t ∷ [], t, λ k n. (h, refl));
  pins = flat_pins (outside c []) x (λ y. Tok c set) (tok c set) (one_flat (inside c set));
}

-- No token.

abbrev pub nothing_shape : Shape
nothing_shape = record { stops = []; firsts = []; empty = true; flat = true; near = true }

nothing_flat : {K A : Type 0} (a : A) → NoDeep {K = K} (nothing a)
nothing_flat a ts x e = cc

pub nothing-ready : {K A : Type 0} (c : K → ℕ) (m : ℕ) (x : List K) (a : A) → Ready c m nothing_shape x (Nothing a) (Nothing a) (λ y. Nothing a) (nothing a) (nothing a)
nothing-ready c m x a = record {
  laws = nothing-laws (outside c []) x a;
  ample = λ ts b. refl;
  opens = λ ts rest b r. inr (refl, sym r.1);
  opens_holed = λ y ts rest b r. inr (refl, sym r.1);
  flat = λ e. nothing_flat a;
  near = λ e. ([], a, λ k n. (refl, refl));
  pins = flat_pins (outside c []) x (λ y. Nothing a) (nothing a) (nothing_flat a);
}

-- What is made of a part.

pub made_spent : {K A B : Type 0} (f : A → B) (o : Outcome K A) → is_spent o ≡ false → is_spent (turned f o) ≡ false
made_spent f (Got a rest) e = refl
made_spent f (Fault Wrong rest) e = refl
made_spent f (Fault Deep rest) e = refl
made_spent f (Fault Spent rest) e = e

pub made_deep : {K A B : Type 0} (f : A → B) (o : Outcome K A) (x : List K) → turned f o ≡ Fault Deep x → o ≡ Fault Deep x
made_deep f (Got a rest) x e = cc
made_deep f (Fault why rest) x e = cc

made_pins : {K A B : Type 0} (s : K → Bool) (x : List K) (H : List K → Part K A) (p : Reader K A) (f : A → B) → Pins s x H p → Pins s x (λ y. Made f (H y)) (made f p)
unfolding made
made_pins s x H p f h ts e = let g = h ts (made_deep f (p ts) x e) in (g.0, f g.1, λ k n. (g.1, refl, g.2 k n))

pub made-ready : {K A B : Type 0} {c : K → ℕ} {m : ℕ} {g : Shape} {x : List K} {R W : Part K A} {H : List K → Part K A} {p w : Reader K A} (f : A → B)
    → Ready c m g x R W H p w → Ready c m g x (Made f R) (Made f W) (λ y. Made f (H y)) (made f p) (made f w)
unfolding made
made-ready {K} {A} {B} {c} {m} {g} {x} {R} {W} {H} {p} {w} f r = record {
  laws = made-laws f r.laws;
  ample = λ ts b. made_spent f (p ts) (r.ample ts b);
  opens = λ ts rest b n. r.opens ts rest n.0 n.2;
  opens_holed = λ y ts rest b n. r.opens_holed y ts rest n.0 n.2;
  flat = λ e ts us d. r.flat e ts us (made_deep f (p ts) us d);
  near = λ e. let n = r.near e in (n.0, f n.1, λ k d. (n.1, refl, n.2 k d));
  pins = made_pins (outside c g.stops) x H p f r.pins;
}

-- The same in a wider shape.

abbrev pub at_most : Bool → Bool → Bool
at_most a b = not a || b

abbrev pub is_wider : Shape → Shape → Bool
is_wider g h = subset g.stops h.stops && (subset g.firsts h.firsts && (at_most g.empty h.empty && (at_most h.flat g.flat && at_most h.near g.near)))

pub both_true : (a b : Bool) → (a && b) ≡ true → (a ≡ true) × (b ≡ true)
both_true true b e = (refl, e)
both_true false b e = absurd cc

pub most_true : (a b : Bool) → at_most a b ≡ true → a ≡ true → b ≡ true
most_true true b h e = h
most_true false b h e = absurd cc

wider_opens : {K A : Type 0} (c : K → ℕ) (g h : Shape) (W : Part K A) → subset g.firsts h.firsts ≡ true → (g.empty ≡ true → h.empty ≡ true) → Opens c g W → Opens c h W
wider_opens c g h W s e o ts rest a r = elim (o ts rest a r) [ inl f ↦ inl (starts_subset c g.firsts h.firsts s ts f) | inr f ↦ inr (e f.0, f.1) ]

pub wider-ready : {K A : Type 0} {c : K → ℕ} {m : ℕ} {g : Shape} {x : List K} {R W : Part K A} {H : List K → Part K A} {p w : Reader K A} (h : Shape)
    → Ready c m g x R W H p w → is_wider g h ≡ true → Ready c m h x R W H p w
wider-ready {K} {A} {c} {m} {g} {x} {R} {W} {H} {p} {w} h r e =
    let a = both_true _ _ e in
    let b = both_true _ _ a.1 in
    let d = both_true _ _ b.1 in
    let f = both_true _ _ d.1 in
    record {
      laws = narrower (ends_subset c g.stops h.stops a.0) r.laws;
      ample = r.ample;
      opens = wider_opens c g h W b.0 (most_true g.empty h.empty d.0) r.opens;
      opens_holed = λ y. wider_opens c g h (H y) b.0 (most_true g.empty h.empty d.0) (r.opens_holed y);
      flat = λ n. r.flat (most_true h.flat g.flat f.0 n);
      near = λ n. goes_on (outside c g.stops) (outside c h.stops) R R (ends_subset c g.stops h.stops a.0) (λ ts rest v k. k) [] (r.near (most_true h.near g.near f.1 n));
      pins = λ ts n. let q = r.pins ts n in (q.0, q.1, λ k l. q.2 k (ends_subset c g.stops h.stops a.0 k l));
    }
