-- What gates compute, and what stays when one is added.
use Rattle.std.proofs.Common.{◌≡◌, ℕ, ◌+◌, ◌*◌, ◌/◌, ◌%◌, ◌<◌, Bool, not, cond, eqb, List, [], ◌∷◌, ◌++◌, length, Some, slice_get, sym, ap, ◌∙◌, refl, arith, zero, suc, add-zero}
use Rattle.std.proofs.lemmas.Bool.{ne_eqb, eq-eqb, cond-true, cond-false}
use Rattle.bit_gates.specs.declared.gate.Gate.{Gate}
use Rattle.bit_gates.specs.declared.gate.Gate.TheVariants.{True, And, Xor, Choose}
use Rattle.region_pool.specs.Literals.{literal_value}
use Rattle.bit_gates.specs.Values.{gate_value, with_value, valued, IsGateOf, AreInOrder}

-- two assignments agree on the variables below a number
abbrev pub Agree : ℕ → (ℕ → Bool) → (ℕ → Bool) → Type 0
Agree n u v = (k : ℕ) → k < n → u k ≡ v k

pub literal_agrees : (u v : ℕ → Bool) (n literal : ℕ) → Agree n u v → literal < 2 * n → literal_value u literal ≡ literal_value v literal
unfolding literal_value
literal_agrees u v n literal h l =
    let below : literal / 2 < n = omega arith in
    let e : u (literal / 2) ≡ v (literal / 2) = h (literal / 2) below in
    ap (λ (b : Bool). cond (eqb (literal % 2) 0) b (not b)) e

pub gate_agrees : (u v : ℕ → Bool) (n : ℕ) (gate : Gate) → Agree n u v → IsGateOf n gate → gate_value (literal_value u) gate ≡ gate_value (literal_value v) gate
gate_agrees u v n True h g = refl
gate_agrees u v n (And a b) h g = rw (literal_agrees u v n a h g.0, literal_agrees u v n b h g.1) refl
gate_agrees u v n (Xor a b) h g = rw (literal_agrees u v n a h g.0, literal_agrees u v n b h g.1) refl
gate_agrees u v n (Choose test a b) h g = rw (literal_agrees u v n test h g.0, literal_agrees u v n a h g.1, literal_agrees u v n b h g.2) refl

-- one more value leaves the others
pub with_value-other : (values : ℕ → Bool) (at : ℕ) (b : Bool) (variable : ℕ) → variable < at → with_value values at b variable ≡ values variable
with_value-other values at b variable l = cond-false (eqb variable at) b (values variable) (ne_eqb variable at (λ e. absurd (omega arith)))

pub with_value-same : (values : ℕ → Bool) (at : ℕ) (b : Bool) → with_value values at b at ≡ b
with_value-same values at b = cond-true (eqb at at) b (values at) (eq-eqb at at refl)

-- gates change no variable before them
pub valued_below : (values : ℕ → Bool) (at : ℕ) (gates : List Gate) (variable : ℕ) → variable < at → valued values at gates variable ≡ values variable
unfolding valued
valued_below values at [] variable l = refl
valued_below values at (gate ∷ gates) variable l =
    valued_below (with_value values at (gate_value (literal_value values) gate)) (at + 1) gates variable (omega arith)
    ∙ with_value-other values at (gate_value (literal_value values) gate) variable l

pub valued-append : (values : ℕ → Bool) (at : ℕ) (xs ys : List Gate) → valued values at (xs ++ ys) ≡ valued (valued values at xs) (at + length xs) ys
unfolding valued
valued-append values at [] ys = rw add-zero refl
valued-append values at (x ∷ xs) ys =
    let e : at + 1 + length xs ≡ at + suc (length xs) = omega arith in
    valued-append (with_value values at (gate_value (literal_value values) x)) (at + 1) xs ys
    ∙ ap (λ (n : ℕ). valued (valued (with_value values at (gate_value (literal_value values) x)) (at + 1) xs) n ys) e

-- one more gate, as its variable is given its value
pub valued-push : (values : ℕ → Bool) (at : ℕ) (gates : List Gate) (gate : Gate) → valued values at (gates ++ gate ∷ []) ≡ with_value (valued values at gates) (at + length gates) (gate_value (literal_value (valued values at gates)) gate)
unfolding valued
valued-push values at gates gate = valued-append values at gates (gate ∷ [])

-- a gate in order has the value that it computes from the values of all variables
pub valued_at : (values : ℕ → Bool) (at : ℕ) (gates : List Gate) (k : ℕ) (gate : Gate) → AreInOrder at gates → slice_get gates k ≡ Some gate → valued values at gates (at + k) ≡ gate_value (literal_value (valued values at gates)) gate
unfolding valued AreInOrder
valued_at values at [] k gate o e = absurd (cc)
valued_at values at (x ∷ xs) zero gate o e =
    let f : x ≡ gate = cc in
    let next = with_value values at (gate_value (literal_value values) x) in
    rw add-zero
    (valued_below next (at + 1) xs at (omega arith)
    ∙ with_value-same values at (gate_value (literal_value values) x)
    ∙ gate_agrees values (valued next (at + 1) xs) at x (λ k l. sym (valued_below next (at + 1) xs k (omega arith) ∙ with_value-other values at (gate_value (literal_value values) x) k l)) o.0
    ∙ ap (gate_value (literal_value (valued next (at + 1) xs))) f)
valued_at values at (x ∷ xs) (suc k) gate o e =
    let next = with_value values at (gate_value (literal_value values) x) in
    let s : at + suc k ≡ at + 1 + k = omega arith in
    rw s (valued_at next (at + 1) xs k gate o.1 e)

-- the two literals of a variable
pub literal_value-even : (values : ℕ → Bool) (variable : ℕ) → literal_value values (2 * variable) ≡ values variable
unfolding literal_value
literal_value-even values variable =
    let r : 2 * variable % 2 ≡ 0 = omega arith in
    let h : 2 * variable / 2 ≡ variable = omega arith in
    rw (r, h) refl

pub literal_value-odd : (values : ℕ → Bool) (variable : ℕ) → literal_value values (2 * variable + 1) ≡ not (values variable)
unfolding literal_value
literal_value-odd values variable =
    let r : (2 * variable + 1) % 2 ≡ 1 = omega arith in
    let h : (2 * variable + 1) / 2 ≡ variable = omega arith in
    rw (r, h) refl
