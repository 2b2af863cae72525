-- The literals of inputs and constants.
use Rattle.std.proofs.Common.{◌≡◌, ℕ, ◌+◌, ◌*◌, ◌/◌, ◌%◌, ◌^◌, ◌<◌, Bool, eqb, List, [], ◌∷◌, ◌++◌, sym, ap, ◌∙◌, refl, arith, subst, inl, inr, length-append, Some, slice_get}
use Rattle.std.proofs.lemmas.Bool.{cases_eq, eq-eqb, ne_eqb}
use Rattle.std.proofs.lemmas.Nat.{mod-pow-add}
use Rattle.bit_gates.specs.declared.gate.Gate.{Gate}
use Rattle.bit_gates.specs.declared.gate.Gate.TheVariants.{True}
use Rattle.bit_gates.specs.Values.{valued, AreInOrder}
use Rattle.bit_gates.specs.Circuit.{Circuit, value}
use Rattle.bit_gates.specs.Made.{IsConstant, IsMade, IsWordMade, IsInputBit, IsInputWord, bit}
use Rattle.bit_gates.proofs.ValueLaws.{valued_below, literal_value-even}
use Rattle.bit_gates.proofs.MadeLaws.{extends_itself}
use Rattle.bit_gates.proofs.NumberLaws.{number_nil, number_push}
use Rattle.bit_gates.proofs.WordLaws.{word_more, word_none, in_nil, in_push}

pub input_is : (c : Circuit) (k : ℕ) → k < c.inputs → IsInputBit c (2 * k) k
unfolding value
input_is c k l = record {
  inside = omega arith;
  value_is = λ bits. literal_value-even (valued bits c.inputs c.gates) k ∙ valued_below bits c.inputs c.gates k l;
}

pub constant_in_order : (inputs : ℕ) (gates : List Gate) → gates ≡ True ∷ [] → AreInOrder inputs gates
unfolding AreInOrder
constant_in_order inputs gates e = subst (λ (k : List Gate). AreInOrder inputs k) (sym e) (tt, tt)

pub constant_first : (gates : List Gate) → gates ≡ True ∷ [] → slice_get gates 0 ≡ Some True
constant_first gates e = rw e refl

bit_of_remainder : (m : ℕ) → m < 2 → bit (eqb m 1) ≡ m
bit_of_remainder m l = elim (cases_eq m 1) [
  | inl e ↦ ap bit (eq-eqb m 1 e) ∙ sym e
  | inr ne ↦ (let z : 0 ≡ m = omega arith in ap bit (ne_eqb m 1 ne) ∙ z)
]

pub bits_more : (n k : ℕ) → n % 2 ^ k + 2 ^ k * bit (eqb (n / 2 ^ k % 2) 1) ≡ n % 2 ^ (k + 1)
bits_more n k =
    let e : k + 1 ≡ 1 + k = omega arith in
    let b : bit (eqb (n / 2 ^ k % 2) 1) ≡ n / 2 ^ k % 2 = bit_of_remainder (n / 2 ^ k % 2) (omega arith) in
    let m : n % 2 ^ (1 + k) ≡ n / 2 ^ k % 2 ^ 1 * 2 ^ k + n % 2 ^ k = mod-pow-add n 1 k in
    rw (e, m, b) (omega arith)

pub constant_made : (c : Circuit) (l : ℕ) (b : Bool) → IsConstant c l b → IsMade c c l (λ v. b)
constant_made c l b h = record { extends = extends_itself c; inside = h.inside; value_is = h.value_is }

pub constant_none : (c : Circuit) (n : ℕ) → IsWordMade c c [] 0 (λ v. n % 2 ^ 0)
constant_none c n = word_none c (λ v. n % 2 ^ 0) (λ bits. omega arith)

pub constant_more : (c : Circuit) (ls : List ℕ) (k l n : ℕ) → IsWordMade c c ls k (λ v. n % 2 ^ k) → IsConstant c l (eqb (n / 2 ^ k % 2) 1) → IsWordMade c c (ls ++ l ∷ []) (k + 1) (λ v. n % 2 ^ (k + 1))
constant_more c ls k l n w h = word_more c c c ls k l (λ v. n % 2 ^ k) (λ v. n % 2 ^ (k + 1)) (λ v. eqb (n / 2 ^ k % 2) 1) w (constant_made c l (eqb (n / 2 ^ k % 2) 1) h) (λ bits. bits_more n k)

pub input_none : (c : Circuit) (first : ℕ) → IsInputWord c [] first 0
input_none c first = record { inside = in_nil c; width_is = refl; number_is = λ bits n h. number_nil (value c bits) ∙ omega arith }

pub input_more : (c : Circuit) (ls : List ℕ) (first k l : ℕ) → IsInputWord c ls first k → IsInputBit c l (first + k) → IsInputWord c (ls ++ l ∷ []) first (k + 1)
input_more c ls first k l w h = record {
  inside = in_push c c ls l (extends_itself c) w.inside h.inside;
  width_is = omega (arith, length-append ls (l ∷ []), w.width_is);
  number_is = λ bits n are.
      number_push (value c bits) ls l
      ∙ (rw (w.number_is bits n (λ j low. are j (omega arith)), w.width_is, h.value_is bits, are k (omega arith)) (bits_more n k));
}
