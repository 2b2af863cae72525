-- The two signs of a literal.
use Rattle.std.proofs.Common.{◌≡◌, ℕ, ◌+◌, ◌-◌, ◌*◌, ◌/◌, ◌%◌, ◌<◌, Bool, true, false, not, eqb, sym, ap, ◌∙◌, refl, arith, inl, inr}
use Rattle.std.proofs.lemmas.Bool.{cases_eq}
use Rattle.region_pool.specs.Literals.{literal_value, negation}
use Rattle.bit_gates.specs.Values.{signed, differ}

pub not_not : (b : Bool) → not (not b) ≡ b
not_not true = refl
not_not false = refl

pub even : (v : ℕ → Bool) (l : ℕ) → l % 2 ≡ 0 → literal_value v l ≡ v (l / 2)
unfolding literal_value
even v l e = rw e refl

pub odd : (v : ℕ → Bool) (l : ℕ) → l % 2 ≡ 1 → literal_value v l ≡ not (v (l / 2))
unfolding literal_value
odd v l e = rw e refl

pub literal_value_negation : (v : ℕ → Bool) (l : ℕ) → literal_value v (negation l) ≡ not (literal_value v l)
unfolding negation
literal_value_negation v l = elim (cases_eq (l % 2) 0) [
  | inl e ↦
      let o : (l + 1) % 2 ≡ 1 = omega arith in
      let h : (l + 1) / 2 ≡ l / 2 = omega arith in
      rw e (odd v (l + 1) o ∙ ap (λ (k : ℕ). not (v k)) h ∙ ap not (sym (even v l e)))
  | inr ne ↦
      let o : l % 2 ≡ 1 = omega arith in
      let p : (l - 1) % 2 ≡ 0 = omega arith in
      let h : (l - 1) / 2 ≡ l / 2 = omega arith in
      rw o (even v (l - 1) p ∙ ap v h ∙ sym (not_not (v (l / 2))) ∙ ap not (sym (odd v l o)))
]

pub negation_inside : (l n : ℕ) → l < 2 * n → negation l < 2 * n
unfolding negation
negation_inside l n h = elim (cases_eq (l % 2) 0) [
  | inl e ↦ rw e (omega arith)
  | inr ne ↦ (let o : l % 2 ≡ 1 = omega arith in rw o (omega arith))
]

pub literal_value_signed : (v : ℕ → Bool) (l : ℕ) (negated : Bool) → literal_value v (signed l negated) ≡ differ negated (literal_value v l)
literal_value_signed v l true = literal_value_negation v l
literal_value_signed v l false = refl

pub signed_inside : (l n : ℕ) (negated : Bool) → l < 2 * n → signed l negated < 2 * n
signed_inside l n true h = negation_inside l n h
signed_inside l n false h = h

-- a literal is its variable, perhaps negated
pub literal_value_positive : (v : ℕ → Bool) (l : ℕ) → literal_value v l ≡ differ (eqb (l % 2) 1) (literal_value v (l - l % 2))
literal_value_positive v l = elim (cases_eq (l % 2) 0) [
  | inl e ↦
      let z : l - 0 ≡ l = omega arith in
      rw (e, z) refl
  | inr ne ↦
      let o : l % 2 ≡ 1 = omega arith in
      let p : (l - 1) % 2 ≡ 0 = omega arith in
      let h : (l - 1) / 2 ≡ l / 2 = omega arith in
      rw o (odd v l o ∙ ap (λ (k : ℕ). not (v k)) (sym h) ∙ ap not (sym (even v (l - 1) p)))
]
