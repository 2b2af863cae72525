-- Circuits that grow.
use Rattle.std.proofs.Common.{◌≡◌, ℕ, ◌+◌, ◌*◌, ◌<◌, Bool, true, false, not, List, [], ◌∷◌, ◌++◌, length, Some, slice_get, sym, ap, ◌∙◌, refl, arith, subst, zero, suc, length-append, get_or}
use Rattle.bit_gates.specs.declared.gate.Gate.{Gate}
use Rattle.bit_gates.specs.declared.gate.Gate.TheVariants.{True}
use Rattle.region_pool.specs.Literals.{literal_value}
use Rattle.bit_gates.specs.Values.{signed, differ, gate_value, valued, IsGateOf, AreInOrder}
use Rattle.bit_gates.specs.declared.fold.Folded.{Folded}
use Rattle.bit_gates.specs.declared.fold.Folded.TheVariants.{Known, Fresh}
use Rattle.bit_gates.specs.Folding.{IsFolding, IsFoldedOf, folded_value}
use Rattle.bit_gates.specs.Circuit.{Circuit, size, value}
use Rattle.bit_gates.specs.Made.{Extends, IsMade, IsConstant}
use Rattle.bit_gates.proofs.LiteralLaws.{literal_value_signed, signed_inside}
use Rattle.bit_gates.proofs.ValueLaws.{literal_agrees, with_value-other, with_value-same, valued-push, valued_at, literal_value-even}

pub AreInOrder-push : (at : ℕ) (gates : List Gate) (gate : Gate) → AreInOrder at gates → IsGateOf (at + length gates) gate → AreInOrder at (gates ++ gate ∷ [])
unfolding AreInOrder
AreInOrder-push at [] gate o g =
    let e : at + 0 ≡ at = omega arith in
    (subst (λ (n : ℕ). IsGateOf n gate) e g, tt)
AreInOrder-push at (x ∷ xs) gate o g =
    let e : at + suc (length xs) ≡ at + 1 + length xs = omega arith in
    (o.0, AreInOrder-push (at + 1) xs gate o.1 (subst (λ (n : ℕ). IsGateOf n gate) e g))

pub first-push : (gates : List Gate) (x gate : Gate) → slice_get gates 0 ≡ Some x → slice_get (gates ++ gate ∷ []) 0 ≡ Some x
first-push [] x gate e = absurd (cc)
first-push (y ∷ ys) x gate e = e

pub kept-push : (inputs : ℕ) (gates : List Gate) (gate : Gate) → Extends (record { inputs = inputs; gates = gates }) (record { inputs = inputs; gates = gates ++ gate ∷ [] })
unfolding value
kept-push inputs gates gate = record {
  inputs = refl;
  grown = omega (arith, length-append gates (gate ∷ []));
  kept = λ bits literal l.
      let agree : (k : ℕ) → k < inputs + length gates → valued bits inputs (gates ++ gate ∷ []) k ≡ valued bits inputs gates k =
      λ k h. ap (λ (f : ℕ → Bool). f k) (valued-push bits inputs gates gate) ∙ with_value-other (valued bits inputs gates) (inputs + length gates) (gate_value (literal_value (valued bits inputs gates)) gate) k h in
      literal_agrees (valued bits inputs (gates ++ gate ∷ [])) (valued bits inputs gates) (inputs + length gates) literal agree l;
}

-- a new gate is made
pub made-push : (inputs : ℕ) (gates : List Gate) (gate : Gate) → IsMade (record { inputs = inputs; gates = gates }) (record { inputs = inputs; gates = gates ++ gate ∷ [] }) (2 * (inputs + length gates)) (λ v. gate_value v gate)
unfolding value
made-push inputs gates gate = record {
  extends = kept-push inputs gates gate;
  inside = omega (arith, length-append gates (gate ∷ []));
  value_is = λ bits.
      literal_value-even (valued bits inputs (gates ++ gate ∷ [])) (inputs + length gates)
      ∙ ap (λ (f : ℕ → Bool). f (inputs + length gates)) (valued-push bits inputs gates gate)
      ∙ with_value-same (valued bits inputs gates) (inputs + length gates) (gate_value (literal_value (valued bits inputs gates)) gate);
}

-- a gate that is there is made already
pub made_at : (inputs : ℕ) (gates : List Gate) (k : ℕ) (gate : Gate) → AreInOrder inputs gates → k < length gates → slice_get gates k ≡ Some gate → IsMade (record { inputs = inputs; gates = gates }) (record { inputs = inputs; gates = gates }) (2 * (inputs + k)) (λ v. gate_value v gate)
unfolding value
made_at inputs gates k gate o l e = record {
  extends = record { inputs = refl; grown = omega arith; kept = λ bits literal h. refl };
  inside = omega arith;
  value_is = λ bits. literal_value-even (valued bits inputs gates) (inputs + k) ∙ valued_at bits inputs gates k gate o e;
}

pub extends_itself : (c : Circuit) → Extends c c
extends_itself c = record { inputs = refl; grown = omega arith; kept = λ bits literal h. refl }

pub extends_both : (a b c : Circuit) → Extends a b → Extends b c → Extends a c
extends_both a b c f g = record {
  inputs = g.inputs ∙ f.inputs;
  grown = omega arith;
  kept = λ bits literal h. g.kept bits literal (omega arith) ∙ f.kept bits literal h;
}

-- the same, as a push of the kept lists shows it
pub made-pushed : (old : Circuit) (inputs n : ℕ) (gates more : List Gate) (gate : Gate) → record { inputs = inputs; gates = gates } ≡ old → more ≡ gates ++ gate ∷ [] → n ≡ length gates → IsMade old (record { inputs = inputs; gates = more }) (2 * (inputs + n)) (λ v. gate_value v gate)
made-pushed old inputs n gates more gate is grown count =
    subst (λ (c : Circuit). IsMade c (record { inputs = inputs; gates = more }) (2 * (inputs + n)) (λ v. gate_value v gate)) is
    (subst (λ (gs : List Gate). IsMade (record { inputs = inputs; gates = gates }) (record { inputs = inputs; gates = gs }) (2 * (inputs + n)) (λ v. gate_value v gate)) (sym grown)
    (subst (λ (m : ℕ). IsMade (record { inputs = inputs; gates = gates }) (record { inputs = inputs; gates = gates ++ gate ∷ [] }) (2 * (inputs + m)) (λ v. gate_value v gate)) (sym count) (made-push inputs gates gate)))

some_first : (gates : List Gate) (x : Gate) → slice_get gates 0 ≡ Some x → 0 < length gates
some_first [] x e = absurd (cc)
some_first (y ∷ ys) x e = omega arith

-- the first gate is the constant
pub truth_is : (old : Circuit) (inputs : ℕ) (gates : List Gate) → record { inputs = inputs; gates = gates } ≡ old → slice_get gates 0 ≡ Some True → AreInOrder inputs gates → IsConstant old (2 * inputs) true
truth_is old inputs gates is first o =
    let m : IsMade (record { inputs = inputs; gates = gates }) (record { inputs = inputs; gates = gates }) (2 * (inputs + 0)) (λ v. true) =
    made_at inputs gates 0 True o (some_first gates True first) first in
    let e : 2 * (inputs + 0) ≡ 2 * inputs = omega arith in
    subst (λ (c : Circuit). IsConstant c (2 * inputs) true) is
    (subst (λ (l : ℕ). IsConstant (record { inputs = inputs; gates = gates }) l true) e (record { inside = m.inside; value_is = m.value_is }))

differ_not : (b : Bool) → differ (not b) true ≡ b
differ_not true = refl
differ_not false = refl

pub constant_signed : (c : Circuit) (literal r : ℕ) (b : Bool) → IsConstant c literal true → r ≡ signed literal (not b) → IsConstant c r b
unfolding value
constant_signed c literal r b h e = subst (λ (l : ℕ). IsConstant c l b) (sym e) (record {
  inside = signed_inside literal (size c) (not b) h.inside;
  value_is = λ bits. literal_value_signed (valued bits c.inputs c.gates) literal (not b) ∙ ap (differ (not b)) (h.value_is bits) ∙ differ_not b;
})

pub slice_get-there : (gates : List Gate) (k : ℕ) (gate : Gate) → k < length gates → get_or gates k gate ≡ gate → slice_get gates k ≡ Some gate
slice_get-there [] k gate l e = absurd (omega arith)
slice_get-there (y ∷ ys) zero gate l e = ap Some e
slice_get-there (y ∷ ys) (suc k) gate l e = slice_get-there ys k gate (omega arith) e

-- a gate that is there, as a look at the kept lists shows it
pub made_there : (old : Circuit) (inputs k : ℕ) (gates : List Gate) (gate : Gate) → record { inputs = inputs; gates = gates } ≡ old → AreInOrder inputs gates → k < length gates → get_or gates k gate ≡ gate → IsMade old old (2 * (inputs + k)) (λ v. gate_value v gate)
made_there old inputs k gates gate is o l e =
    subst (λ (c : Circuit). IsMade c c (2 * (inputs + k)) (λ v. gate_value v gate)) is
    (made_at inputs gates k gate o l (slice_get-there gates k gate l e))

-- a folded gate that is a literal
pub folded_known : (c : Circuit) (folded : Folded) (literal : ℕ) → folded ≡ Known literal → IsFoldedOf (size c) folded → IsMade c c literal (λ v. folded_value v folded)
folded_known c folded literal e h =
    subst (λ (k : Folded). IsMade c c literal (λ v. folded_value v k)) (sym e) (record {
      extends = extends_itself c;
      inside = subst (λ (k : Folded). IsFoldedOf (size c) k) e h;
      value_is = λ bits. refl;
    })

-- the signed literal of a gate
pub made_signed : (a b : Circuit) (literal r : ℕ) (negated : Bool) (f : (ℕ → Bool) → Bool) → IsMade a b literal f → r ≡ signed literal negated → IsMade a b r (λ v. differ negated (f v))
unfolding value
made_signed a b literal r negated f h e = subst (λ (l : ℕ). IsMade a b l (λ v. differ negated (f v))) (sym e) (record {
  extends = h.extends;
  inside = signed_inside literal (size b) negated h.inside;
  value_is = λ bits. literal_value_signed (valued bits b.inputs b.gates) literal negated ∙ ap (differ negated) (h.value_is bits);
})

-- a gate is made where its folding is
pub made_folding : (a b : Circuit) (truth x y z : ℕ) (folded : Folded) (f : (ℕ → Bool) → Bool) (literal : ℕ) → IsConstant a truth true → IsFolding truth x y z folded f → IsMade a b literal (λ v. folded_value v folded) → IsMade a b literal f
unfolding value
made_folding a b truth x y z folded f literal t h m = record {
  extends = m.extends;
  inside = m.inside;
  value_is = λ bits. m.value_is bits ∙ h.value_is (valued bits a.inputs a.gates) (t.value_is bits);
}

pub folded_fresh : (a b : Circuit) (folded : Folded) (gate : Gate) (negated : Bool) (literal r : ℕ) → folded ≡ Fresh gate negated → IsMade a b literal (λ v. gate_value v gate) → r ≡ signed literal negated → IsMade a b r (λ v. folded_value v folded)
folded_fresh a b folded gate negated literal r e h is =
    subst (λ (k : Folded). IsMade a b r (λ v. folded_value v k)) (sym e) (made_signed a b literal r negated (λ v. gate_value v gate) h is)
