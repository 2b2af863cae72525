-- One more bit of an operation on two words.
use Rattle.std.proofs.Common.{◌≡◌, ℕ, ◌+◌, ◌*◌, ◌^◌, ◌<◌, ◌≤◌, Bool, true, false, not, ◌&&◌, ◌||◌, cond, eqb, ltb, sym, ◌∙◌, refl, arith, inl, inr}
use Rattle.std.specs.Prelude.{bit_and, bit_or, bit_xor}
use Rattle.std.proofs.lemmas.Nat.{and_block, or_block, xor_block}
use Rattle.std.proofs.lemmas.Bool.{lt-ltb, le-ltb, eq-eqb, ne_eqb, cases_lt, cases_eq}
use Rattle.bit_gates.specs.Values.{differ}
use Rattle.bit_gates.specs.declared.words.BitOp.{BitOp}
use Rattle.bit_gates.specs.declared.words.BitOp.TheVariants.{And, Or, Xor}
use Rattle.bit_gates.specs.BitOps.{bit_result, word_result}
use Rattle.bit_gates.specs.Made.{bit}

above : (i m : ℕ) (p : Bool) → m + 2 ^ i * bit p ≡ bit p * 2 ^ i + m
above i m p = omega arith

and_bits : (p q : Bool) → bit_and (bit p) (bit q) ≡ bit (p && q)
and_bits true true = refl
and_bits true false = refl
and_bits false true = refl
and_bits false false = refl

or_bits : (p q : Bool) → bit_or (bit p) (bit q) ≡ bit (p || q)
or_bits true true = refl
or_bits true false = refl
or_bits false true = refl
or_bits false false = refl

xor_bits : (p q : Bool) → bit_xor (bit p) (bit q) ≡ bit (differ p q)
xor_bits true true = refl
xor_bits true false = refl
xor_bits false true = refl
xor_bits false false = refl

pub bit_step : (op : BitOp) (i m n : ℕ) (p q : Bool) → m < 2 ^ i → n < 2 ^ i → word_result op m n + 2 ^ i * bit (bit_result op p q) ≡ word_result op (m + 2 ^ i * bit p) (n + 2 ^ i * bit q)
bit_step And i m n p q lm ln =
    let e : bit_and (bit p * 2 ^ i + m) (bit q * 2 ^ i + n) ≡ bit_and (bit p) (bit q) * 2 ^ i + bit_and m n = and_block i (bit p) (bit q) m n lm ln in
    rw (above i m p, above i n q, e, and_bits p q) (omega arith)
bit_step Or i m n p q lm ln =
    let e : bit_or (bit p * 2 ^ i + m) (bit q * 2 ^ i + n) ≡ bit_or (bit p) (bit q) * 2 ^ i + bit_or m n = or_block i (bit p) (bit q) m n lm ln in
    rw (above i m p, above i n q, e, or_bits p q) (omega arith)
bit_step Xor i m n p q lm ln =
    let e : bit_xor (bit p * 2 ^ i + m) (bit q * 2 ^ i + n) ≡ bit_xor (bit p) (bit q) * 2 ^ i + bit_xor m n = xor_block i (bit p) (bit q) m n lm ln in
    rw (above i m p, above i n q, e, xor_bits p q) (omega arith)

pub bit_zero : (op : BitOp) → 0 ≡ word_result op 0 0
bit_zero And = refl
bit_zero Or = refl
bit_zero Xor = refl

pub choice_step : (t : Bool) (i m n : ℕ) (p q : Bool) → cond t m n + 2 ^ i * bit (cond t p q) ≡ cond t (m + 2 ^ i * bit p) (n + 2 ^ i * bit q)
choice_step true i m n p q = refl
choice_step false i m n p q = refl

order_same : (m n k l : ℕ) → (m < n → k < l) → (n ≤ m → l ≤ k) → ltb m n ≡ ltb k l
order_same m n k l f g = elim (cases_lt m n) [
  | inl h ↦ lt-ltb m n h ∙ sym (lt-ltb k l (f h))
  | inr h ↦ le-ltb m n h ∙ sym (le-ltb k l (g h))
]

-- the higher bits decide an order where they differ
pub less_step : (i m n : ℕ) (p q : Bool) → m < 2 ^ i → n < 2 ^ i → cond (differ p q) q (ltb m n) ≡ ltb (m + 2 ^ i * bit p) (n + 2 ^ i * bit q)
less_step i m n true true lm ln = order_same m n (m + 2 ^ i * 1) (n + 2 ^ i * 1) (λ h. omega arith) (λ h. omega arith)
less_step i m n true false lm ln = sym (le-ltb (m + 2 ^ i * 1) (n + 2 ^ i * 0) (omega arith))
less_step i m n false true lm ln = sym (lt-ltb (m + 2 ^ i * 0) (n + 2 ^ i * 1) (omega arith))
less_step i m n false false lm ln = order_same m n (m + 2 ^ i * 0) (n + 2 ^ i * 0) (λ h. omega arith) (λ h. omega arith)

and_true : (b : Bool) → (b && true) ≡ b
and_true true = refl
and_true false = refl

and_false : (b : Bool) → (b && false) ≡ false
and_false true = refl
and_false false = refl

same_test : (m n k l : ℕ) → (m ≡ n → k ≡ l) → (k ≡ l → m ≡ n) → (eqb m n && true) ≡ eqb k l
same_test m n k l f g = elim (cases_eq m n) [
  | inl h ↦ and_true (eqb m n) ∙ eq-eqb m n h ∙ sym (eq-eqb k l (f h))
  | inr h ↦ and_true (eqb m n) ∙ ne_eqb m n h ∙ sym (ne_eqb k l (λ e. h (g e)))
]

-- two words are equal where all bits are
pub equal_step : (i m n : ℕ) (p q : Bool) → m < 2 ^ i → n < 2 ^ i → (eqb m n && not (differ p q)) ≡ eqb (m + 2 ^ i * bit p) (n + 2 ^ i * bit q)
equal_step i m n true true lm ln = same_test m n (m + 2 ^ i * 1) (n + 2 ^ i * 1) (λ h. omega arith) (λ h. omega arith)
equal_step i m n true false lm ln = and_false (eqb m n) ∙ sym (ne_eqb (m + 2 ^ i * 1) (n + 2 ^ i * 0) (λ e. absurd (omega arith)))
equal_step i m n false true lm ln = and_false (eqb m n) ∙ sym (ne_eqb (m + 2 ^ i * 0) (n + 2 ^ i * 1) (λ e. absurd (omega arith)))
equal_step i m n false false lm ln = same_test m n (m + 2 ^ i * 0) (n + 2 ^ i * 0) (λ h. omega arith) (λ h. omega arith)

pub choice_zero : (t : Bool) → ◌≡◌ {A = ℕ} 0 (cond t 0 0)
choice_zero true = refl
choice_zero false = refl
