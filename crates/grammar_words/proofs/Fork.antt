-- One part or another by two tokens: the first part at the tokens b, but the second one where a token of k stands before
-- one of d.
use Rattle.std.proofs.Common.{◌≡◌, inl, inr, ℕ, suc, ◌≤◌, Bool, true, false, ◌&&◌, ◌||◌, not, List, [], ◌∷◌, ◌++◌, length, refl, ap, ◌∙◌, sym, subst, arith}
use Rattle.grammar_words.specs.Grammar.{Part, Either, starts}
use Rattle.grammar_words.specs.Reading.{Outcome, Got, Fault, Reader, pair, after, turned, made, joined, chained, choose, pick, guard}
use Rattle.grammar_words.specs.Classes.{has, inside, outside, tok, bare}
use Rattle.grammar_words.proofs.Laws.{ends, left}
use Rattle.grammar_words.proofs.Spelled.{Narrower, narrower, goes_on}
use Rattle.grammar_words.proofs.Made.{turned_left}
use Rattle.grammar_words.proofs.Limit.{guarded_true}
use Rattle.grammar_words.proofs.Pick.{IsSettled, choose-laws, chosen_true, chosen_false}
use Rattle.grammar_words.proofs.Sets.{has_append, subset, apart, subset_has, apart_has, starts_left, starts_right, ends_left, ends_right}
use Rattle.grammar_words.proofs.Ready.{Shape, Opens, Ready, both_true}
use Rattle.grammar_words.proofs.ReadyJoin.{choose_ample, choose_flat, choose_pins, or_near}

-- p takes each token of these classes that comes first
abbrev pub Moves : {K A : Type 0} → (K → ℕ) → List ℕ → Reader K A → Type 0
Moves {K} c k p = (t : K) (u : List K) → inside c k t ≡ true → length (left (p (t ∷ u))) ≤ length u

inside_subset : {K : Type 0} (c : K → ℕ) (k b : List ℕ) (t : K) → subset k b ≡ true → inside c k t ≡ true → inside c b t ≡ true
unfolding inside
inside_subset c k b t s e = subset_has k b (c t) s e

inside_apart : {K : Type 0} (c : K → ℕ) (k b : List ℕ) (t : K) → apart k b ≡ true → inside c k t ≡ true → inside c b t ≡ false
unfolding inside
inside_apart c k b t s e = apart_has k b (c t) s e

pub moves-tok : {K : Type 0} (c : K → ℕ) (k set : List ℕ) → subset k set ≡ true → Moves c k (tok c set)
moves-tok c k set s t u e = rw (inside_subset c k set t s e) (omega arith)

pub moves-made : {K A B : Type 0} (c : K → ℕ) (k : List ℕ) (f : A → B) (p : Reader K A) → Moves c k p → Moves c k (made f p)
unfolding made
moves-made c k f p h t u e = rw turned_left (h t u e)

after_left : {K A B : Type 0} (q : A → Reader K B) (n : ℕ) (o : Outcome K A) → ((a : A) (ts : List K) → length (left (q a ts)) ≤ length ts) → length (left o) ≤ n → length (left (after (λ a r. turned (pair a) (q a r)) o)) ≤ n
after_left q n (Got a mid) h l = let d = h a mid in rw turned_left (omega arith)
after_left q n (Fault why r) h l = l

pub moves-joined : {K A B : Type 0} (c : K → ℕ) (k : List ℕ) (p : Reader K A) (q : Reader K B) → Moves c k p → ((ts : List K) → length (left (q ts)) ≤ length ts) → Moves c k (joined p q)
unfolding chained
moves-joined c k p q h s t u e = after_left (λ a. q) (length u) (p (t ∷ u)) (λ a. s) (h t u e)

pub moves-left : {K A : Type 0} (c : K → ℕ) (k b : List ℕ) (p q : Reader K A) → subset k b ≡ true → Moves c k p → Moves c k (pick (inside c b) p q)
moves-left c k b p q s h t u e = rw (chosen_true (starts (inside c b)) p q (t ∷ u) (inside_subset c k b t s e)) (h t u e)

pub moves-right : {K A : Type 0} (c : K → ℕ) (k b : List ℕ) (p q : Reader K A) → apart k b ≡ true → Moves c k q → Moves c k (pick (inside c b) p q)
moves-right c k b p q s h t u e = rw (chosen_false (starts (inside c b)) p q (t ∷ u) (inside_apart c k b t s e)) (h t u e)

pub moves-choose : {K A : Type 0} (c : K → ℕ) (k : List ℕ) (test : List K → Bool) (p q : Reader K A) → Moves c k p → Moves c k q → Moves c k (choose test p q)
moves-choose c k test p q f g t u e = go (test (t ∷ u)) refl
  where
    go : (b : Bool) → test (t ∷ u) ≡ b → length (left (choose test p q (t ∷ u))) ≤ length u
    go true d = rw (chosen_true test p q (t ∷ u) d) (f t u e)
    go false d = rw (chosen_false test p q (t ∷ u) d) (g t u e)

pub moves-guard : {K A : Type 0} (c : K → ℕ) (k b : List ℕ) (p : Reader K A) → subset k b ≡ true → Moves c k p → Moves c k (guard (inside c b) p)
moves-guard c k b p s h t u e = rw (guarded_true (inside c b) p (t ∷ u) (inside_subset c k b t s e)) (h t u e)

alone : (a b e : Bool) → b ≡ false → (a && not (b && e)) ≡ a
alone true true e d = absurd cc
alone true false e d = refl
alone false b e d = refl

moved : {K A : Type 0} (o : Outcome K A) (t : K) (u : List K) → length (left o) ≤ length u → left o ≡ t ∷ u → ⊥
moved o t u l e = let d : length (left o) ≡ suc (length u) = ap length e in omega arith

fork_settled : {K A : Type 0} (c : K → ℕ) (b k d : List ℕ) (p q : Reader K A) → Moves c k p → Moves c k q → IsSettled (bare c b k d) p q
fork_settled c b k d p q f g [] u v t e = go (inside c k t) refl
  where
    go : (i : Bool) → inside c k t ≡ i → bare c b k d (t ∷ v) ≡ bare c b k d (t ∷ u)
    go true j = absurd (moved (choose (bare c b k d) p q (t ∷ u)) t u (moves-choose c k (bare c b k d) p q f g t u j) e)
    go false j = alone (inside c b t) (inside c k t) (starts (inside c d) v) j ∙ sym (alone (inside c b t) (inside c k t) (starts (inside c d) u) j)
fork_settled c b k d p q f g (a ∷ []) u v t e = refl
fork_settled c b k d p q f g (a ∷ a' ∷ f') u v t e = refl

-- what the test says of the tokens of a part, where these may stand behind it
pub record Seen {K A : Type 0} (c : K → ℕ) (b k d : List ℕ) (z : K → Bool) (v : Bool) (R : Part K A) : Type 0 where
  pub sees : (ts rest : List K) (a : A) → R ts a rest → ends z rest ≡ true → bare c b k d ts ≡ v

abbrev pub fork_shape : Shape → Shape → Shape
fork_shape g h = record { stops = g.stops ++ h.stops; firsts = g.firsts ++ h.firsts; empty = false; flat = g.flat && h.flat; near = g.near || h.near }

both_open : {K A : Type 0} (c : K → ℕ) (g h : Shape) (W V : Part K A) → not g.empty ≡ true → not h.empty ≡ true → Opens c g W → Opens c h V → Opens c (fork_shape g h) (Either W V)
both_open c g h W V e i o n ts rest a d = elim d [
  | inl w ↦ elim (o ts rest a w) [ inl f ↦ inl (starts_left c g.firsts h.firsts ts f) | inr f ↦ absurd (let j : not true ≡ true = subst (λ u. not u ≡ true) f.0 e in cc) ]
  | inr w ↦ elim (n ts rest a w) [ inl f ↦ inl (starts_right c g.firsts h.firsts ts f) | inr f ↦ absurd (let j : not true ≡ true = subst (λ u. not u ≡ true) f.0 i in cc) ]
]

abbrev pub fits_fork : Shape → Shape → Bool
fits_fork g h = not g.empty && not h.empty

pub fork-ready : {K A : Type 0} {c : K → ℕ} {m : ℕ} {g h : Shape} {x : List K} {R W Q V : Part K A} {H G : List K → Part K A} {p w q v : Reader K A} (b k d : List ℕ)
    → Ready c m g x R W H p w → Ready c m h x Q V G q v → fits_fork g h ≡ true → Moves c k p → Moves c k q
    → ((y : List K) → Seen c b k d (outside c (g.stops ++ h.stops)) true (H y)) → ((y : List K) → Seen c b k d (outside c (g.stops ++ h.stops)) false (G y))
    → Ready c m (fork_shape g h) x (Either R Q) (Either W V) (λ y. Either (H y) (G y)) (choose (bare c b k d) p q) (choose (bare c b k d) w v)
fork-ready {K} {A} {c} {m} {g} {h} {x} {R} {W} {Q} {V} {H} {G} {p} {w} {q} {v} b k d r n e f i on off =
    let j = both_true _ _ e in
    let z = outside c (g.stops ++ h.stops) in
    let slim : Narrower z (outside c g.stops) = ends_left c g.stops h.stops in
    let thin : Narrower z (outside c h.stops) = ends_right c g.stops h.stops in
    record {
      laws = choose-laws (bare c b k d) (narrower slim r.laws) (narrower thin n.laws) (fork_settled c b k d p q f i) (λ y. (on y).sees) (λ y. (off y).sees);
      ample = choose_ample m (bare c b k d) p q r.ample n.ample;
      opens = both_open c g h W V j.0 j.1 r.opens n.opens;
      opens_holed = λ y. both_open c g h (H y) (G y) j.0 j.1 (r.opens_holed y) (n.opens_holed y);
      flat = λ o. let a = both_true g.flat h.flat o in choose_flat (bare c b k d) p q (r.flat a.0) (n.flat a.1);
      near = λ o. or_near z R Q g.near h.near o (λ a. goes_on (outside c g.stops) z R R slim (λ ts rest l s. s) [] (r.near a)) (λ a. goes_on (outside c h.stops) z Q Q thin (λ ts rest l s. s) [] (n.near a));
      pins = choose_pins z x H G (bare c b k d) p q (λ ts o. let a = r.pins ts o in (a.0, a.1, λ l s. a.2 l (slim l s))) (λ ts o. let a = n.pins ts o in (a.0, a.1, λ l s. a.2 l (thin l s)));
    }

not_false : (u v : Bool) → (u || v) ≡ true → u ≡ false → v ≡ true
not_false true v h e = absurd cc
not_false false v h e = h

pub moves-both : {K A : Type 0} (c : K → ℕ) (k l : List ℕ) (p : Reader K A) → Moves c k p → Moves c l p → Moves c (k ++ l) p
unfolding inside
moves-both c k l p f g t u e = go (has k (c t)) refl
  where
    go : (i : Bool) → has k (c t) ≡ i → length (left (p (t ∷ u))) ≤ length u
    go true i = f t u i
    go false i = g t u (not_false (has k (c t)) (has l (c t)) (sym (has_append k l (c t)) ∙ e) i)

-- tokens of b that are not in k go to the first part
pub moves-fork : {K A : Type 0} (c : K → ℕ) (l b k d : List ℕ) (p q : Reader K A) → subset l b ≡ true → apart l k ≡ true → Moves c l p → Moves c l (choose (bare c b k d) p q)
moves-fork c l b k d p q s a h t u e =
    rw (chosen_true (bare c b k d) p q (t ∷ u) (alone (inside c b t) (inside c k t) (starts (inside c d) u) (inside_apart c l k t a e) ∙ inside_subset c l b t s e)) (h t u e)
