-- Parts with commas between them, and perhaps one behind them, as a part that is ready.
use Rattle.std.proofs.Common.{◌≡◌, inl, inr, ℕ, zero, suc, ◌≤◌, Bool, true, false, ◌&&◌, List, [], ◌∷◌, ◌++◌, refl, ap, ◌∙◌, sym, subst, arith}
use Rattle.grammar_words.specs.Grammar.{Part, Nothing, Then, Made, Either, Each}
use Rattle.grammar_words.specs.Reading.{Reader, nothing, spent, joined, chained, made, pick}
use Rattle.grammar_words.specs.Classes.{has, inside, outside, Tok, tok, Past, past, Listed, Perhaps_token, Trailed, lead, trail, trailed}
use Rattle.grammar_words.proofs.Laws.{Goes}
use Rattle.grammar_words.proofs.Whole.{Ample}
use Rattle.grammar_words.proofs.Spelled.{Within}
use Rattle.grammar_words.proofs.Limit.{spent-laws}
use Rattle.grammar_words.proofs.Many.{each_within}
use Rattle.grammar_words.proofs.Ready.{Shape, Opens, Ready, both_true, token_shape, nothing_shape, tok-ready, nothing-ready, made-ready, made_spent, wider-ready, is_wider}
use Rattle.grammar_words.proofs.ReadyJoin.{then_shape, fits_then, then-ready, either_shape, fits_either, either-ready}
use Rattle.grammar_words.proofs.ReadyMany.{one_turn, shorter}
use Rattle.grammar_words.proofs.ReadyLimit.{spelled-ready}
use Rattle.grammar_words.proofs.ReadyWords.{past_shape, past-ready}

pair_path : {A : Type 0} {as_ bs : List A} {f g : Bool} → as_ ≡ bs → f ≡ g → ◌≡◌ {A = List A × Bool} (bs, f) (as_, g)
pair_path e h = rw (e, h) refl

-- what may stand behind a part
abbrev pub Trail : {K A : Type 0} → (K → ℕ) → List ℕ → Part K A → Part K (List A × Bool)
Trail c k R = Then (Each (Past c k R)) (Perhaps_token c k)

-- behind a token of k: another part, or no more
abbrev pub Onward : {K A : Type 0} → (K → ℕ) → List ℕ → Part K A → Part K (List A × Bool)
Onward c k R = Either (Made lead (Then R (Trail c k R))) (Nothing ([], true))

abbrev pub Trail_step : {K A : Type 0} → (K → ℕ) → List ℕ → Part K A → Part K (List A × Bool)
Trail_step c k R = Either (Past c k (Onward c k R)) (Nothing ([], false))

onward_on : {K A : Type 0} (c : K → ℕ) (k : List ℕ) (R : Part K A) (ts mid rest : List K) (t : K) (v : List A × Bool) → Tok c k ts t mid → Onward c k R mid v rest → Trail c k R ts v rest
onward_on c k R ts mid rest t v h (inl o) = subst (λ u. Trail c k R ts u rest) o.1 (o.2.2.0, (o.2.0, ((t, o.0.0), refl, (mid, h, o.2.1)), o.2.2.1), o.2.2.2)
onward_on c k R ts mid rest t v h (inr o) = subst (λ u. Trail c k R ts u rest) (sym o.0) (ts, refl, inl (t, refl, subst (λ r. Tok c k ts t r) (sym o.1) h))

trail_on : {K A : Type 0} (c : K → ℕ) (k : List ℕ) (R : Part K A) → Within (Trail_step c k R) (Trail c k R)
trail_on c k R ts rest v (inl h) = subst (λ u. Trail c k R ts u rest) h.1 (onward_on c k R ts h.2.0 rest h.0.0 h.0.1 h.2.1 h.2.2)
trail_on c k R ts rest v (inr h) = subst (λ u. Trail c k R ts u rest) (sym h.0) (ts, refl, inr (refl, h.1))

each_trail : {K A : Type 0} (c : K → ℕ) (k : List ℕ) (R : Part K A) (ts mid rest : List K) (as_ : List A) (f : Bool) → Each (Past c k R) ts as_ mid → Perhaps_token c k mid f rest → Trail_step c k R ts (as_, f) rest
each_trail {K} {A} c k R ts mid rest [] f e (inl h) = inl ((h.0, ([], f)), refl, (rest, subst (λ u. Tok c k u h.0 rest) e h.2, inr (ap (λ g. ([], g)) (sym h.1), refl)))
each_trail {K} {A} c k R ts mid rest [] f e (inr h) = inr (ap (λ g. ([], g)) h.0, h.1 ∙ e)
each_trail {K} {A} c k R ts mid rest (a ∷ as_) f e h =
    inl ((e.1.0.0, (a ∷ as_, f)), refl, (e.1.2.0, e.1.2.1, inl ((e.1.0.1, (as_, f)), ap (λ b. (b ∷ as_, f)) e.1.1, (e.0, e.1.2.2, (mid, e.2, h)))))

trail_off : {K A : Type 0} (c : K → ℕ) (k : List ℕ) (R : Part K A) → Within (Trail c k R) (Trail_step c k R)
trail_off c k R ts rest v h = each_trail c k R ts h.0 rest v.0 v.1 h.1 h.2

past_within : {K A : Type 0} (c : K → ℕ) (k : List ℕ) (R Q : Part K A) → Within R Q → Within (Past c k R) (Past c k Q)
past_within c k R Q i ts rest a h = (h.0, h.1, (h.2.0, h.2.1, i h.2.0 rest h.0.1 h.2.2))

trail_within : {K A : Type 0} (c : K → ℕ) (k : List ℕ) (R Q : Part K A) → Within R Q → Within (Trail c k R) (Trail c k Q)
trail_within c k R Q i ts rest v h = (h.0, each_within (Past c k R) (Past c k Q) (past_within c k R Q i) ts h.0 v.0 h.1, h.2)

onward_within : {K A : Type 0} (c : K → ℕ) (k : List ℕ) (R Q : Part K A) → Within R Q → Within (Onward c k R) (Onward c k Q)
onward_within c k R Q i ts rest v (inl h) = inl (h.0, h.1, (h.2.0, i ts h.2.0 h.0.0 h.2.1, trail_within c k R Q i h.2.0 rest h.0.1 h.2.2))
onward_within c k R Q i ts rest v (inr h) = inr h

-- with other turns
again-ample : {K A : Type 0} {c : K → ℕ} {m : ℕ} {g : Shape} {x : List K} {R W : Part K A} {H : List K → Part K A} {p w : Reader K A} (n : ℕ) → Ready c m g x R W H p w → Ample n p → Ready c n g x R W H p w
again-ample n r h = record {
  laws = r.laws;
  ample = h;
  opens = r.opens;
  opens_holed = r.opens_holed;
  flat = r.flat;
  near = r.near;
  pins = r.pins;
}

-- the shape behind a part, whose own shape is g
abbrev pub trail_shape : List ℕ → List ℕ → Shape → Shape
trail_shape b k g = record { stops = k ++ (b ++ g.stops); firsts = k; empty = true; flat = g.flat; near = true }

abbrev pub onward_shape : List ℕ → List ℕ → Shape → Shape
onward_shape b k g = either_shape b (then_shape g (trail_shape b k g)) nothing_shape

abbrev pub step_shape : List ℕ → List ℕ → Shape → Shape
step_shape b k g = either_shape k (past_shape k (onward_shape b k g)) nothing_shape

abbrev pub fits_zero : List ℕ → List ℕ → Shape → Bool
fits_zero b k g = fits_either k (token_shape k) nothing_shape && is_wider (either_shape k (token_shape k) nothing_shape) (trail_shape b k g)

abbrev pub fits_onward : List ℕ → List ℕ → Shape → Bool
fits_onward b k g = fits_then g (trail_shape b k g) && fits_either b (then_shape g (trail_shape b k g)) nothing_shape

abbrev pub fits_step : List ℕ → List ℕ → Shape → Bool
fits_step b k g = fits_then (token_shape k) (onward_shape b k g) && (fits_either k (past_shape k (onward_shape b k g)) nothing_shape && is_wider (step_shape b k g) (trail_shape b k g))

abbrev pub fits_trail : List ℕ → List ℕ → Shape → Bool
fits_trail b k g = fits_zero b k g && (fits_onward b k g && fits_step b k g)

end_goes : {K A : Type 0} (c : K → ℕ) (z : K → Bool) (k : List ℕ) (R : Part K A) (t : K) → has k (c t) ≡ true → Goes z (Past c k (Onward c k R)) []
unfolding inside
end_goes c z k R t h = (t ∷ [], ([], true), λ u e. ((t, ([], true)), refl, (u, (h, refl), inr (refl, refl))))

pub past_opens : {K A : Type 0} (c : K → ℕ) (k : List ℕ) (R : Part K A) → Opens c (token_shape k) (Past c k R)
past_opens c k R ts rest a h = inl (rw h.2.1.1 h.2.1.0)

no-turns : {K A : Type 0} {c : K → ℕ} {m : ℕ} {g : Shape} {x : List K} {R W : Part K A} {H : List K → Part K A} {p w : Reader K A} (k : List ℕ) (t : K) → has k (c t) ≡ true → Ready c m g x R W H p w
    → Ready c 0 (token_shape k) x (Past c k (Onward c k R)) (Past c k (Onward c k W)) (λ y. Past c k (Onward c k (H y))) spent spent
no-turns {K} {A} {c} {m} {g} {x} {R} {W} {H} {p} {w} k t h r = record {
  laws = spent-laws (λ y. past_within c k (Onward c k R) (Onward c k (H y)) (onward_within c k R (H y) (r.laws.loose y)))
      (past_within c k (Onward c k R) (Onward c k W) (onward_within c k R W r.laws.wide)) (end_goes c (outside c []) k W t h);
  ample = λ ts b. absurd (omega arith);
  opens = past_opens c k (Onward c k W);
  opens_holed = λ y. past_opens c k (Onward c k (H y));
  flat = λ e ts u d. cc;
  near = λ e. end_goes c (outside c []) k R t h;
  pins = λ ts d. absurd cc;
}

step_ample : {K A : Type 0} (n : ℕ) (c : K → ℕ) (k : List ℕ) (t : K) → has k (c t) ≡ true → (q : Reader K A) → Ample n q → Ample (suc n) (past c k q)
unfolding made chained
step_ample n c k t h q f ts b =
    let r = tok-ready c (suc n) k t h [] in
    made_spent (λ v. v.1) (joined (tok c k) q ts) (one_turn n q ts (tok c k ts) f (λ mid a d. let i = shorter r refl ts mid a d in omega arith) (r.ample ts b))

zero_ready : {K A : Type 0} {c : K → ℕ} {m : ℕ} {g : Shape} {x : List K} {R W : Part K A} {H : List K → Part K A} {p w : Reader K A} (b k : List ℕ) (t : K) → has k (c t) ≡ true → Ready c m g x R W H p w
    → fits_either k (token_shape k) nothing_shape ≡ true → is_wider (either_shape k (token_shape k) nothing_shape) (trail_shape b k g) ≡ true
    → Ready c 0 (trail_shape b k g) x (Trail c k R) (Trail c k W) (λ y. Trail c k (H y)) (trail c b k p 0) (trail c b k w 0)
zero_ready {K} {A} {c} {m} {g} {x} {R} {W} {H} {p} {w} b k t h r e f =
    spelled-ready (Trail c k R) (Trail c k W) (λ y. Trail c k (H y)) (trail_on c k R) (trail_off c k R) (trail_on c k W) (trail_off c k W) (λ y. trail_on c k (H y)) (λ y. trail_off c k (H y))
    (wider-ready (trail_shape b k g) (either-ready k (no-turns k t h r) (nothing-ready c 0 x ([], false)) e) f)

suc_ready : {K A : Type 0} {c : K → ℕ} {g : Shape} {x : List K} {R W : Part K A} {H : List K → Part K A} {p w : Reader K A} (b k : List ℕ) (t : K) → has k (c t) ≡ true
    → (n : ℕ) → Ready c n g x R W H p w → Ready c n (trail_shape b k g) x (Trail c k R) (Trail c k W) (λ y. Trail c k (H y)) (trail c b k p n) (trail c b k w n)
    → fits_onward b k g ≡ true → fits_step b k g ≡ true
    → Ready c (suc n) (trail_shape b k g) x (Trail c k R) (Trail c k W) (λ y. Trail c k (H y)) (trail c b k p (suc n)) (trail c b k w (suc n))
suc_ready {K} {A} {c} {g} {x} {R} {W} {H} {p} {w} b k t h n r i e f =
    let d = both_true (fits_then g (trail_shape b k g)) (fits_either b (then_shape g (trail_shape b k g)) nothing_shape) e in
    let l = both_true (fits_then (token_shape k) (onward_shape b k g)) (fits_either k (past_shape k (onward_shape b k g)) nothing_shape && is_wider (step_shape b k g) (trail_shape b k g)) f in
    let o = both_true (fits_either k (past_shape k (onward_shape b k g)) nothing_shape) (is_wider (step_shape b k g) (trail_shape b k g)) l.1 in
    let on = either-ready b (made-ready lead (then-ready r i d.0)) (nothing-ready c n x ([], true)) d.1 in
    let step = again-ample (suc n) (past-ready k t h on l.0) (step_ample n c k t h (pick (inside c b) (made lead (joined p (trail c b k p n))) (nothing ([], true))) on.ample) in
    spelled-ready (Trail c k R) (Trail c k W) (λ y. Trail c k (H y)) (trail_on c k R) (trail_off c k R) (trail_on c k W) (trail_off c k W) (λ y. trail_on c k (H y)) (λ y. trail_off c k (H y))
    (wider-ready (trail_shape b k g) (either-ready k step (nothing-ready c (suc n) x ([], false)) o.0) o.1)

trail-ready : {K A : Type 0} {c : K → ℕ} {m : ℕ} {g : Shape} {x : List K} {R W : Part K A} {H : List K → Part K A} {p w : Reader K A} (b k : List ℕ) (t : K) → has k (c t) ≡ true → Ready c m g x R W H p w → fits_trail b k g ≡ true
    → (n : ℕ) → n ≤ m → Ready c n (trail_shape b k g) x (Trail c k R) (Trail c k W) (λ y. Trail c k (H y)) (trail c b k p n) (trail c b k w n)
trail-ready {K} {A} {c} {m} {g} {x} {R} {W} {H} {p} {w} b k t h r e zero l =
    let f = both_true (fits_zero b k g) (fits_onward b k g && fits_step b k g) e in
    let d = both_true (fits_either k (token_shape k) nothing_shape) (is_wider (either_shape k (token_shape k) nothing_shape) (trail_shape b k g)) f.0 in
    zero_ready b k t h r d.0 d.1
trail-ready {K} {A} {c} {m} {g} {x} {R} {W} {H} {p} {w} b k t h r e (suc n) l =
    let f = both_true (fits_zero b k g) (fits_onward b k g && fits_step b k g) e in
    let d = both_true (fits_onward b k g) (fits_step b k g) f.1 in
    suc_ready b k t h n (again-ample n r (λ ts o. r.ample ts (omega arith))) (trail-ready b k t h r e n (omega arith)) d.0 d.1

trailed_on : {K A : Type 0} (c : K → ℕ) (k : List ℕ) (R : Part K A) → Within (Either (Made lead (Then R (Trail c k R))) (Either (Made (λ t. ([], true)) (Tok c k)) (Nothing ([], false)))) (Trailed c k R)
trailed_on c k R ts rest v (inl h) = subst (λ u. Trailed c k R ts u rest) h.1 (h.2.2.0, inl ((h.0.0, h.0.1.0), refl, (h.2.0, h.2.1, h.2.2.1)), h.2.2.2)
trailed_on c k R ts rest v (inr (inl h)) = subst (λ u. Trailed c k R ts u rest) h.1 (ts, inr (refl, refl), inl (h.0, refl, h.2))
trailed_on c k R ts rest v (inr (inr h)) = subst (λ u. Trailed c k R ts u rest) (sym h.0) (ts, inr (refl, refl), inr (refl, h.1))

listed_off : {K A : Type 0} (c : K → ℕ) (k : List ℕ) (R : Part K A) (ts mid rest : List K) (as_ : List A) (f : Bool) → Listed c k R ts as_ mid → Perhaps_token c k mid f rest
    → Either (Made lead (Then R (Trail c k R))) (Either (Made (λ t. ([], true)) (Tok c k)) (Nothing ([], false))) ts (as_, f) rest
listed_off c k R ts mid rest as_ f (inl h) e = inl ((h.0.0, (h.0.1, f)), ap (λ l. (l, f)) h.1, (h.2.0, h.2.1, (mid, h.2.2, e)))
listed_off c k R ts mid rest as_ f (inr h) (inl e) = inr (inl (e.0, pair_path h.0 e.1, subst (λ u. Tok c k u e.0 rest) h.1 e.2))
listed_off c k R ts mid rest as_ f (inr h) (inr e) = inr (inr (sym (pair_path h.0 (sym e.0)), e.1 ∙ h.1))

trailed_off : {K A : Type 0} (c : K → ℕ) (k : List ℕ) (R : Part K A) → Within (Trailed c k R) (Either (Made lead (Then R (Trail c k R))) (Either (Made (λ t. ([], true)) (Tok c k)) (Nothing ([], false))))
trailed_off c k R ts rest v h = listed_off c k R ts h.0 rest v.0 v.1 h.1 h.2

abbrev pub token_or_none : List ℕ → Shape
token_or_none k = either_shape k (token_shape k) nothing_shape

abbrev pub trailed_shape : List ℕ → List ℕ → Shape → Shape
trailed_shape b k g = either_shape b (then_shape g (trail_shape b k g)) (token_or_none k)

abbrev pub fits_rest : List ℕ → List ℕ → Shape → Bool
fits_rest b k g = fits_then g (trail_shape b k g) && (fits_either k (token_shape k) nothing_shape && fits_either b (then_shape g (trail_shape b k g)) (token_or_none k))

abbrev pub fits_trailed : List ℕ → List ℕ → Shape → Bool
fits_trailed b k g = fits_trail b k g && fits_rest b k g

pub trailed-ready : {K A : Type 0} {c : K → ℕ} {m : ℕ} {g : Shape} {x : List K} {R W : Part K A} {H : List K → Part K A} {p w : Reader K A} (b k : List ℕ) (t : K) → has k (c t) ≡ true → Ready c m g x R W H p w → fits_trailed b k g ≡ true
    → Ready c m (trailed_shape b k g) x (Trailed c k R) (Trailed c k W) (λ y. Trailed c k (H y)) (trailed c b k p m) (trailed c b k w m)
trailed-ready {K} {A} {c} {m} {g} {x} {R} {W} {H} {p} {w} b k t h r e =
    let f = both_true (fits_trail b k g) (fits_rest b k g) e in
    let d = both_true (fits_then g (trail_shape b k g)) (fits_either k (token_shape k) nothing_shape && fits_either b (then_shape g (trail_shape b k g)) (token_or_none k)) f.1 in
    let o = both_true (fits_either k (token_shape k) nothing_shape) (fits_either b (then_shape g (trail_shape b k g)) (token_or_none k)) d.1 in
    spelled-ready (Trailed c k R) (Trailed c k W) (λ y. Trailed c k (H y)) (trailed_on c k R) (trailed_off c k R) (trailed_on c k W) (trailed_off c k W) (λ y. trailed_on c k (H y)) (λ y. trailed_off c k (H y))
    (either-ready b (made-ready lead (then-ready r (trail-ready b k t h r f.0 m (omega arith)) d.0))
    (either-ready k (made-ready (λ u. ([], true)) (tok-ready c m k t h x)) (nothing-ready c m x ([], false)) o.0) o.1)
