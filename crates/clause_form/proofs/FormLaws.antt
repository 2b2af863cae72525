-- What the clauses of gates say.
use Rattle.std.proofs.Common.{◌≡◌, ℕ, ◌+◌, ◌*◌, ◌/◌, ◌%◌, ◌<◌, ◌≤◌, ◌↔◌, Bool, true, false, not, ◌&&◌, ◌||◌, cond, List, [], ◌∷◌, ◌++◌, length, take, get_or, slice_get, Some, sym, ap, ◌∙◌, refl, arith, subst, zero, suc, append_assoc, add-one, inl, inr}
use Rattle.std.specs.Prelude.{IsTrue, map}
use Rattle.std.specs.List.{All, Any}
use Rattle.std.proofs.lemmas.Bool.{and_parts, and_from, or_cases, or_left, or_right, cases_lt}
use Rattle.std.proofs.lemmas.List.{append-nil, get_or_default}
use Rattle.std.proofs.lemmas.List.Elements.{All-nil, All-cons, All-head, All-tail}
use Rattle.region_pool.specs.Literals.{literal_value, negation, ClauseHolds, Satisfies}
use Rattle.bit_gates.specs.declared.gate.Gate.{Gate}
use Rattle.bit_gates.specs.declared.gate.Gate.TheVariants.{True, And, Xor, Choose}
use Rattle.bit_gates.specs.Values.{differ, gate_value, with_value, valued, IsGateOf, AreInOrder}
use Rattle.bit_gates.proofs.LiteralLaws.{literal_value_negation}
use Rattle.bit_gates.proofs.ValueLaws.{Agree, gate_agrees, with_value-other, with_value-same, valued_below, valued_at, literal_value-even, literal_value-odd}
use Rattle.bit_gates.proofs.MadeLaws.{slice_get-there}
use Rattle.clause_form.specs.Form.{gate_clauses, clauses_of, asserted, IsComputed, AreTrue, IsClauseForm, HasOneExtension}
use Rattle.region_pool.specs.Clauses.{ClauseList, HasLiterals}

-- clauses as tests
abbrev clause_holds : (ℕ → Bool) → List ℕ → Bool
clause_holds v [] = false
clause_holds v (l ∷ ls) = v l || clause_holds v ls

abbrev all_hold : (ℕ → Bool) → List (List ℕ) → Bool
all_hold v [] = true
all_hold v (c ∷ cs) = clause_holds v c && all_hold v cs

some_holds : (f : ℕ → Bool) (c : List ℕ) → clause_holds (literal_value f) c ≡ true → ClauseHolds f c
some_holds f [] e = absurd (cc)
some_holds f (l ∷ ls) e = elim (or_cases (literal_value f l) (clause_holds (literal_value f) ls) e) [
  | inl h ↦ (0, l, omega arith, refl, h)
  | inr h ↦
      (let r = some_holds f ls h in
      (suc r.0, r.1, omega arith, r.3, r.4))
]

holds_some : (f : ℕ → Bool) (c : List ℕ) (k x : ℕ) → k < length c → get_or c k x ≡ x → IsTrue (literal_value f x) → clause_holds (literal_value f) c ≡ true
holds_some f [] k x l e h = absurd (omega arith)
holds_some f (y ∷ ys) zero x l e h = or_left (literal_value f y) (clause_holds (literal_value f) ys) (ap (literal_value f) e ∙ h)
holds_some f (y ∷ ys) (suc k) x l e h = or_right (literal_value f y) (clause_holds (literal_value f) ys) (holds_some f ys k x (omega arith) e h)

pub satisfied_from : (f : ℕ → Bool) (cs : List (List ℕ)) → all_hold (literal_value f) cs ≡ true → Satisfies f cs
satisfied_from f [] e = All-nil (ClauseHolds f)
satisfied_from f (c ∷ cs) e =
    let p = and_parts (clause_holds (literal_value f) c) (all_hold (literal_value f) cs) e in
    All-cons (ClauseHolds f) c cs (some_holds f c p.0) (satisfied_from f cs p.1)

pub satisfied_to : (f : ℕ → Bool) (cs : List (List ℕ)) → Satisfies f cs → all_hold (literal_value f) cs ≡ true
satisfied_to f [] h = refl
satisfied_to f (c ∷ cs) h =
    let a : ClauseHolds f c = All-head (ClauseHolds f) c cs h in
    and_from (clause_holds (literal_value f) c) (all_hold (literal_value f) cs) (holds_some f c a.0 a.1 a.2 a.3 a.4) (satisfied_to f cs (All-tail (ClauseHolds f) c cs h))

and_assoc : (a b c : Bool) → (a && (b && c)) ≡ (a && b && c)
and_assoc true b c = refl
and_assoc false b c = refl

all_hold-append : (v : ℕ → Bool) (xs ys : List (List ℕ)) → all_hold v (xs ++ ys) ≡ (all_hold v xs && all_hold v ys)
all_hold-append v [] ys = refl
all_hold-append v (x ∷ xs) ys = ap (λ (b : Bool). clause_holds v x && b) (all_hold-append v xs ys) ∙ and_assoc (clause_holds v x) (all_hold v xs) (all_hold v ys)

-- two truth values are one
abbrev same : Bool → Bool → Bool
same true q = q
same false q = not q

same_to : (p q : Bool) → same p q ≡ true → p ≡ q
same_to true q e = sym e
same_to false true e = absurd (cc)
same_to false false e = refl

same_from : (p q : Bool) → p ≡ q → same p q ≡ true
same_from true q e = sym e
same_from false q e = rw (← e) refl

and_law : (x a b : Bool) → ((not x || (a || false)) && ((not x || (b || false)) && ((x || (not a || (not b || false))) && true))) ≡ same x (a && b)
and_law true true true = refl
and_law true true false = refl
and_law true false true = refl
and_law true false false = refl
and_law false true true = refl
and_law false true false = refl
and_law false false true = refl
and_law false false false = refl

xor_law : (x a b : Bool) → ((not x || (a || (b || false))) && ((not x || (not a || (not b || false))) && ((x || (not a || (b || false))) && ((x || (a || (not b || false))) && true)))) ≡ same x (differ a b)
xor_law true true true = refl
xor_law true true false = refl
xor_law true false true = refl
xor_law true false false = refl
xor_law false true true = refl
xor_law false true false = refl
xor_law false false true = refl
xor_law false false false = refl

choose_law : (x t a b : Bool) → ((not x || (not t || (a || false))) && ((not x || (t || (b || false))) && ((x || (not t || (not a || false))) && ((x || (t || (not b || false))) && true)))) ≡ same x (cond t a b)
choose_law true true true true = refl
choose_law true true true false = refl
choose_law true true false true = refl
choose_law true true false false = refl
choose_law true false true true = refl
choose_law true false true false = refl
choose_law true false false true = refl
choose_law true false false false = refl
choose_law false true true true = refl
choose_law false true true false = refl
choose_law false true false true = refl
choose_law false true false false = refl
choose_law false false true true = refl
choose_law false false true false = refl
choose_law false false false true = refl
choose_law false false false false = refl

true_law : (x : Bool) → ((x || false) && true) ≡ same x true
true_law true = refl
true_law false = refl

-- the clauses of a gate hold where its variable has its value
gate_law : (f : ℕ → Bool) (x : ℕ) (gate : Gate) → all_hold (literal_value f) (gate_clauses x gate) ≡ same (f x) (gate_value (literal_value f) gate)
gate_law f x True = rw (literal_value-even f x) (true_law (f x))
gate_law f x (And a b) = rw (literal_value-even f x, literal_value-odd f x, literal_value_negation f a, literal_value_negation f b) (and_law (f x) (literal_value f a) (literal_value f b))
gate_law f x (Xor a b) = rw (literal_value-even f x, literal_value-odd f x, literal_value_negation f a, literal_value_negation f b) (xor_law (f x) (literal_value f a) (literal_value f b))
gate_law f x (Choose t a b) = rw (literal_value-even f x, literal_value-odd f x, literal_value_negation f t, literal_value_negation f a, literal_value_negation f b) (choose_law (f x) (literal_value f t) (literal_value f a) (literal_value f b))

-- each gate's variable has the gate's value
abbrev Computes : ℕ → List Gate → (ℕ → Bool) → Type 0
Computes at gates f = (k : ℕ) (gate : Gate) → slice_get gates k ≡ Some gate → f (at + k) ≡ gate_value (literal_value f) gate

gates_compute : (f : ℕ → Bool) (at : ℕ) (gates : List Gate) → all_hold (literal_value f) (clauses_of at gates) ≡ true → Computes at gates f
gates_compute f at [] e k gate is = absurd (cc)
gates_compute f at (g ∷ gs) e zero gate is =
    let p = and_parts (all_hold (literal_value f) (gate_clauses at g)) (all_hold (literal_value f) (clauses_of (at + 1) gs)) (sym (all_hold-append (literal_value f) (gate_clauses at g) (clauses_of (at + 1) gs)) ∙ e) in
    let z : at + 0 ≡ at = omega arith in
    let n : g ≡ gate = cc in
    ap f z ∙ same_to (f at) (gate_value (literal_value f) g) (sym (gate_law f at g) ∙ p.0) ∙ ap (gate_value (literal_value f)) n
gates_compute f at (g ∷ gs) e (suc k) gate is =
    let p = and_parts (all_hold (literal_value f) (gate_clauses at g)) (all_hold (literal_value f) (clauses_of (at + 1) gs)) (sym (all_hold-append (literal_value f) (gate_clauses at g) (clauses_of (at + 1) gs)) ∙ e) in
    let z : at + suc k ≡ at + 1 + k = omega arith in
    ap f z ∙ gates_compute f (at + 1) gs p.1 k gate is

compute_gates : (f : ℕ → Bool) (at : ℕ) (gates : List Gate) → Computes at gates f → all_hold (literal_value f) (clauses_of at gates) ≡ true
compute_gates f at [] h = refl
compute_gates f at (g ∷ gs) h =
    let z : at ≡ at + 0 = omega arith in
    let one : all_hold (literal_value f) (gate_clauses at g) ≡ true = gate_law f at g ∙ same_from (f at) (gate_value (literal_value f) g) (ap f z ∙ h 0 g refl) in
    let more : Computes (at + 1) gs f = λ k gate is. (let e : at + 1 + k ≡ at + suc k = omega arith in ap f e ∙ h (suc k) gate is) in
    all_hold-append (literal_value f) (gate_clauses at g) (clauses_of (at + 1) gs)
    ∙ and_from (all_hold (literal_value f) (gate_clauses at g)) (all_hold (literal_value f) (clauses_of (at + 1) gs)) one (compute_gates f (at + 1) gs more)

-- such an assignment is the one that the gates compute from any bits that it has
pub computed : (f u : ℕ → Bool) (at : ℕ) (gates : List Gate) → Computes at gates f → Agree at f u → AreInOrder at gates → (v : ℕ) → v < at + length gates → f v ≡ valued u at gates v
unfolding valued AreInOrder
computed f u at [] h agree o v l = agree v (omega arith)
computed f u at (g ∷ gs) h agree o v l =
    let next = with_value u at (gate_value (literal_value u) g) in
    let z : at ≡ at + 0 = omega arith in
    let here : f at ≡ next at = ap f z ∙ h 0 g refl ∙ gate_agrees f u at g agree o.0 ∙ sym (with_value-same u at (gate_value (literal_value u) g)) in
    let more : Computes (at + 1) gs f = λ k gate is. (let e : at + 1 + k ≡ at + suc k = omega arith in ap f e ∙ h (suc k) gate is) in
    let agree' : Agree (at + 1) f next = λ k low.
    elim (cases_lt k at) [
      | inl b ↦ agree k b ∙ sym (with_value-other u at (gate_value (literal_value u) g) k b)
      | inr b ↦ (let e : k ≡ at = omega arith in ap f e ∙ here ∙ ap next (sym e))
    ] in
    computed f next (at + 1) gs more agree' o.1 v (omega arith)

gate_weaker : (n m : ℕ) (gate : Gate) → n ≤ m → IsGateOf n gate → IsGateOf m gate
gate_weaker n m True l h = tt
gate_weaker n m (And a b) l h = (omega arith, omega arith)
gate_weaker n m (Xor a b) l h = (omega arith, omega arith)
gate_weaker n m (Choose t a b) l h = (omega arith, omega arith, omega arith)

pub gate_at : (at : ℕ) (gates : List Gate) (k : ℕ) (gate : Gate) → AreInOrder at gates → slice_get gates k ≡ Some gate → (k < length gates) × IsGateOf (at + k) gate
unfolding AreInOrder
gate_at at [] k gate o e = absurd (cc)
gate_at at (g ∷ gs) zero gate o e =
    let z : at + 0 ≡ at = omega arith in
    let n : g ≡ gate = cc in
    (omega arith, rw z (subst (λ (x : Gate). IsGateOf at x) n o.0))
gate_at at (g ∷ gs) (suc k) gate o e =
    let r = gate_at (at + 1) gs k gate o.1 e in
    let z : at + suc k ≡ at + 1 + k = omega arith in
    (omega (arith, r.0), rw z r.1)

pub computes_from : (f : ℕ → Bool) (inputs : ℕ) (gates : List Gate) → AreInOrder inputs gates → IsComputed inputs gates f → Computes inputs gates f
computes_from f inputs gates o h k gate is =
    let r = gate_at inputs gates k gate o is in
    h (inputs + k) (omega (arith, r.0)) ∙ valued_at f inputs gates k gate o is
    ∙ gate_agrees (valued f inputs gates) f (inputs + length gates) gate (λ j l. sym (h j l)) (gate_weaker (inputs + k) (inputs + length gates) gate (omega (arith, r.0)) r.1)

roots_hold : (f : ℕ → Bool) (roots : List ℕ) → AreTrue f roots → all_hold (literal_value f) (asserted roots) ≡ true
roots_hold f [] h = refl
roots_hold f (x ∷ xs) h =
    and_from (literal_value f x || false) (all_hold (literal_value f) (asserted xs))
    (or_left (literal_value f x) false (All-head (λ literal. IsTrue (literal_value f literal)) x xs h))
    (roots_hold f xs (All-tail (λ literal. IsTrue (literal_value f literal)) x xs h))

or_false : (b : Bool) → (b || false) ≡ b
or_false true = refl
or_false false = refl

hold_roots : (f : ℕ → Bool) (roots : List ℕ) → all_hold (literal_value f) (asserted roots) ≡ true → AreTrue f roots
hold_roots f [] e = All-nil (λ literal. IsTrue (literal_value f literal))
hold_roots f (x ∷ xs) e =
    let p = and_parts (literal_value f x || false) (all_hold (literal_value f) (asserted xs)) e in
    All-cons (λ literal. IsTrue (literal_value f literal)) x xs (sym (or_false (literal_value f x)) ∙ p.0) (hold_roots f xs p.1)

-- the clauses of the gates and the roots
pub form_satisfied : (f : ℕ → Bool) (inputs : ℕ) (gates : List Gate) (roots : List ℕ) → AreInOrder inputs gates → Satisfies f (clauses_of inputs gates ++ asserted roots) ↔ (IsComputed inputs gates f × AreTrue f roots)
form_satisfied f inputs gates roots o = (
  λ h.
      (let p = and_parts (all_hold (literal_value f) (clauses_of inputs gates)) (all_hold (literal_value f) (asserted roots)) (sym (all_hold-append (literal_value f) (clauses_of inputs gates) (asserted roots)) ∙ satisfied_to f (clauses_of inputs gates ++ asserted roots) h) in
      (computed f f inputs gates (gates_compute f inputs gates p.0) (λ k l. refl) o, hold_roots f roots p.1)),
  λ h.
      satisfied_from f (clauses_of inputs gates ++ asserted roots)
      (all_hold-append (literal_value f) (clauses_of inputs gates) (asserted roots)
      ∙ and_from (all_hold (literal_value f) (clauses_of inputs gates)) (all_hold (literal_value f) (asserted roots))
      (compute_gates f inputs gates (computes_from f inputs gates o h.0)) (roots_hold f roots h.1)),
)

pub one_extension : (inputs : ℕ) (gates : List Gate) (bits : ℕ → Bool) → AreInOrder inputs gates → HasOneExtension inputs gates bits
one_extension inputs gates bits o = record {
  inputs_kept = λ variable l. valued_below bits inputs gates variable l;
  computed = λ variable l.
      computed (valued bits inputs gates) (valued bits inputs gates) inputs gates (λ k gate is. valued_at bits inputs gates k gate o is) (λ k low. refl) o variable l;
  only = λ f agree h variable l. computed f bits inputs gates (computes_from f inputs gates o h) agree o variable l;
}

pub clauses_of-take : (at : ℕ) (gates : List Gate) (k : ℕ) (gate : Gate) → k < length gates → gate ≡ get_or gates k True → clauses_of at (take (k + 1) gates) ≡ clauses_of at (take k gates) ++ gate_clauses (at + k) gate
clauses_of-take at [] k gate l e = absurd (omega arith)
clauses_of-take at (g ∷ gs) zero gate l e =
    let z : at + 0 ≡ at = omega arith in
    rw (z, e) (append-nil (gate_clauses at g))
clauses_of-take at (g ∷ gs) (suc k) gate l e =
    let n : suc k + 1 ≡ suc (k + 1) = omega arith in
    let z : at + suc k ≡ at + 1 + k = omega arith in
    rw (n, z)
    (ap (λ (c : List (List ℕ)). gate_clauses at g ++ c) (clauses_of-take (at + 1) gs k gate (omega arith) e)
    ∙ sym (append_assoc (gate_clauses at g) (clauses_of (at + 1) (take k gs)) (gate_clauses (at + 1 + k) gate)))

pub gate_inside : (inputs k m : ℕ) (gates : List Gate) (gate : Gate) → AreInOrder inputs gates → k < length gates → gate ≡ get_or gates k True → m ≡ inputs + length gates → IsGateOf m gate
gate_inside inputs k m gates gate o l e v =
    let r = gate_at inputs gates k gate o (slice_get-there gates k gate l (get_or_default gates k gate True l ∙ sym e)) in
    gate_weaker (inputs + k) m gate (omega arith) r.1

-- one more gate's clauses
pub clauses_more : (old now next : List (List ℕ)) (at : ℕ) (gates : List Gate) (k : ℕ) (gate : Gate) → k < length gates → gate ≡ get_or gates k True → now ≡ old ++ clauses_of at (take k gates) → next ≡ now ++ gate_clauses (at + k) gate → next ≡ old ++ clauses_of at (take (k + 1) gates)
clauses_more old now next at gates k gate l e a b =
    b ∙ ap (λ (c : List (List ℕ)). c ++ gate_clauses (at + k) gate) a ∙ append_assoc old (clauses_of at (take k gates)) (gate_clauses (at + k) gate)
    ∙ ap (λ (c : List (List ℕ)). old ++ c) (sym (clauses_of-take at gates k gate l e))

pub form_made : (list : ClauseList) (inputs : ℕ) (gates : List Gate) (roots : List ℕ) → AreInOrder inputs gates → list.variables ≡ inputs + length gates → HasLiterals list → list.clauses ≡ clauses_of inputs gates ++ asserted roots → IsClauseForm inputs gates roots list
form_made list inputs gates roots o v h c = record {
  variables = v;
  literals = h;
  satisfied = λ f. subst (λ (k : List (List ℕ)). Satisfies f k ↔ (IsComputed inputs gates f × AreTrue f roots)) (sym c) (form_satisfied f inputs gates roots o);
}
