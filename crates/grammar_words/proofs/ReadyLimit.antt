-- A part behind the test of its first token, the level below the limit, and the same part in other words.
use Rattle.std.proofs.Common.{◌≡◌, inl, ℕ, ◌+◌, ◌≤◌, Bool, true, false, ◌&&◌, not, List, [], ◌++◌, refl, ◌∙◌, sym, subst, arith}
use Rattle.grammar_words.specs.declared.stop.Why.TheVariants.{Wrong, Deep}
use Rattle.grammar_words.specs.Grammar.{Part, Never, At, starts}
use Rattle.grammar_words.specs.Reading.{Outcome, Fault, Reader, guard, deep}
use Rattle.grammar_words.specs.Classes.{inside, outside}
use Rattle.grammar_words.proofs.Laws.{is_spent, Goes}
use Rattle.grammar_words.proofs.Whole.{Ample, Levels}
use Rattle.grammar_words.proofs.Spelled.{Within, spelled, goes_on}
use Rattle.grammar_words.proofs.Limit.{AreFirsts, guard-laws, limit-laws, guarded_true, guarded_false}
use Rattle.grammar_words.proofs.Sets.{subset}
use Rattle.grammar_words.proofs.Ready.{Shape, Opens, Ready, both_true}
use Rattle.grammar_words.proofs.ReadyJoin.{first_starts}

guard_ample : {K A : Type 0} (m : ℕ) (test : K → Bool) (p : Reader K A) → Ample m p → Ample m (guard test p)
guard_ample m test p h ts b = go (starts test ts) refl
  where
    go : (d : Bool) → starts test ts ≡ d → is_spent (guard test p ts) ≡ false
    go true e = rw (guarded_true test p ts e) (h ts b)
    go false e = rw (guarded_false test p ts e) refl

guard_deep : {K A : Type 0} (test : K → Bool) (p : Reader K A) (ts x : List K) → (b : Bool) → starts test ts ≡ b → guard test p ts ≡ Fault Deep x → (b ≡ true) × (p ts ≡ Fault Deep x)
guard_deep test p ts x true e d = (refl, sym (guarded_true test p ts e) ∙ d)
guard_deep {K} {A} test p ts x false e d = absurd (let i : ◌≡◌ {A = Outcome K A} (Fault Wrong ts) (Fault Deep x) = sym (guarded_false test p ts e) ∙ d in cc)

abbrev pub fits_guard : List ℕ → Shape → Bool
fits_guard b g = not g.empty && subset g.firsts b

pub guard-ready : {K A : Type 0} {c : K → ℕ} {m : ℕ} {g : Shape} {x : List K} {R W : Part K A} {H : List K → Part K A} {p w : Reader K A} (b : List ℕ)
    → Ready c m g x R W H p w → fits_guard b g ≡ true → Ready c m g x R W H (guard (inside c b) p) (guard (inside c b) w)
guard-ready {K} {A} {c} {m} {g} {x} {R} {W} {H} {p} {w} b r e =
    let f = both_true _ _ e in
    record {
      laws = guard-laws (inside c b) r.laws (λ y ts rest a h d. first_starts c b g (H y) f.0 f.1 (r.opens_holed y) ts rest a h);
      ample = guard_ample m (inside c b) p r.ample;
      opens = r.opens;
      opens_holed = r.opens_holed;
      flat = λ d ts us i. r.flat d ts us (guard_deep (inside c b) p ts us (starts (inside c b) ts) refl i).1;
      near = r.near;
      pins = λ ts d. r.pins ts (guard_deep (inside c b) p ts x (starts (inside c b) ts) refl d).1;
    }

abbrev pub limit_shape : List ℕ → List ℕ → Shape
limit_shape s b = record { stops = s; firsts = b; empty = false; flat = false; near = false }

-- Below the limit. Each of the tokens b begins a part at the level above, and no other token does.
pub limit-ready : {K A : Type 0} {c : K → ℕ} {m : ℕ} {x : List K} {W : Part K A} (s b : List ℕ) (w : Reader K A) → AreFirsts (inside c b) (outside c s) W → Goes (outside c s) W [] → Opens c (limit_shape s b) W
    → Ready c m (limit_shape s b) x Never W (λ y. At (inside c b) x y) (guard (inside c b) deep) (guard (inside c b) w)
limit-ready {K} {A} {c} {m} {x} {W} s b w h n o = record {
  laws = limit-laws w (inside c b) h n;
  ample = guard_ample m (inside c b) deep (λ ts d. refl);
  opens = o;
  opens_holed = λ y ts rest a d. inl (subst (λ k. starts (inside c b) k ≡ true) (sym d.1) d.0);
  flat = λ e. absurd cc;
  near = λ e. absurd cc;
  pins = λ ts d.
      let i = guard_deep (inside c b) (deep {A = A}) ts x (starts (inside c b) ts) refl d in
      let j : ts ≡ x = (let k : ◌≡◌ {A = Outcome K A} (Fault Deep ts) (Fault Deep x) = i.1 in cc) in
      ([], n.1, λ k l. (subst (λ u. starts (inside c b) u ≡ true) j i.0, j, refl));
}

pub spelled-ready : {K A : Type 0} {c : K → ℕ} {m : ℕ} {g : Shape} {x : List K} {R W : Part K A} {H : List K → Part K A} {p w : Reader K A} (Q V : Part K A) (G : List K → Part K A)
    → Within R Q → Within Q R → Within W V → Within V W → ((y : List K) → Within (H y) (G y)) → ((y : List K) → Within (G y) (H y)) → Ready c m g x R W H p w → Ready c m g x Q V G p w
spelled-ready {K} {A} {c} {m} {g} {x} {R} {W} {H} {p} {w} Q V G on off wide close holed back r = record {
  laws = spelled on off wide holed back r.laws;
  ample = r.ample;
  opens = λ ts rest a h. r.opens ts rest a (close ts rest a h);
  opens_holed = λ y ts rest a h. r.opens_holed y ts rest a (back y ts rest a h);
  flat = r.flat;
  near = λ d. goes_on (outside c g.stops) (outside c g.stops) R Q (λ k n. n) on [] (r.near d);
  pins = λ ts d. let i = r.pins ts d in (i.0, i.1, λ k n. holed (i.0 ++ k) ts k i.1 (i.2 k n));
}

-- parts that are ready at each limit, as the grammar and the reading of whole texts
pub levels : {K A : Type 0} {c : K → ℕ} {m : ℕ} {g : Shape} {R : ℕ → Part K A} {H : ℕ → List K → List K → Part K A} {p : ℕ → Reader K A}
    → ((x : List K) (d e : ℕ) → d + 4 ≤ e → Ready c m g x (R d) (R e) (H d x) (p d) (p e)) → Levels m (outside c g.stops) R H p
levels {K} r = record {
  laws = λ x d e b. (r x d e b).laws;
  ample = λ d. (r [] d (d + 4) (omega arith)).ample;
  pins = λ d x. (r x d (d + 4) (omega arith)).pins;
}
