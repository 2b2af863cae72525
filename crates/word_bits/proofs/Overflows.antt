-- When a sum and a difference leave the width.
use Rattle.std.proofs.Common.{◌≡◌, ℕ, zero, suc, ◌+◌, ◌-◌, ◌*◌, ◌%◌, ◌^◌, ◌<◌, ◌≤◌, ap, sym, ◌∙◌, refl, arith, Bool, true, false, not, if◌then◌else◌}
use Rattle.std.proofs.Math.Nat.{mod-eq_of_lt, pow-suc}
use Rattle.std.proofs.lemmas.Bool.{ltb-true, ltb-false, lt-ltb, le-ltb}
use Rattle.std.specs.Prelude.{pos, negsuc, nat_lt, ◌-ℤ◌}
use lib.IntN.{sub_ℕ}
use mathlib.Core.Bool.{beq}
use Rattle.word_bits.specs.declared.word.Word.{Word}
use Rattle.word_bits.specs.Words.{AreWords, signed_value, added, subtracted, fits, is_sum_over, is_difference_over}
use Rattle.word_bits.specs.Signs.{is_below_zero}
use Rattle.word_bits.proofs.Cuts.{word_at, mod_of_rest, word_of-difference}
use Rattle.word_bits.proofs.SignedValues.{value_of-below, value_of-above}

-- two tests that hold together are one
pub same_tests : (a b c d : ℕ) → (a < b → c < d) → (c < d → a < b) → nat_lt a b ≡ nat_lt c d
same_tests a b c d there back = by (nat_lt a b) refl (nat_lt c d) refl
  where
    by : (s : Bool) → nat_lt a b ≡ s → (t : Bool) → nat_lt c d ≡ t → nat_lt a b ≡ nat_lt c d
    by true e true f = e ∙ sym f
    by true e false f = let lt : c < d = there (ltb-true a b e) in absurd (omega (arith, ltb-false c d f))
    by false e true f = let lt : a < b = back (ltb-true c d f) in absurd (omega (arith, ltb-false a b e))
    by false e false f = e ∙ sym f

-- one test fails where the other holds
pub other_tests : (a b c d : ℕ) → (a < b → d ≤ c) → (d ≤ c → a < b) → nat_lt a b ≡ not (nat_lt c d)
other_tests a b c d there back = by (nat_lt a b) refl (nat_lt c d) refl
  where
    by : (s : Bool) → nat_lt a b ≡ s → (t : Bool) → nat_lt c d ≡ t → nat_lt a b ≡ not (nat_lt c d)
    by true e true f = let le : d ≤ c = there (ltb-true a b e) in absurd (omega (arith, ltb-true c d f))
    by true e false f = e ∙ ap not (sym f)
    by false e true f = e ∙ ap not (sym f)
    by false e false f = let lt : a < b = back (ltb-false c d f) in absurd (omega (arith, ltb-false a b e))

-- a number is below zero where its word is in the upper half
pub sign_is : (w : Word) → is_below_zero (signed_value w) ≡ not (nat_lt (2 * w.value) (2 ^ w.width))
sign_is w = by (nat_lt (2 * w.value) (2 ^ w.width))
  where
    by : (t : Bool) → is_below_zero (if t then pos w.value else negsuc (2 ^ w.width - w.value - 1)) ≡ not t
    by true = refl
    by false = refl

pub upper_half : (w : Word) → is_below_zero (signed_value w) ≡ true → 2 ^ w.width ≤ 2 * w.value
upper_half w h = by (nat_lt (2 * w.value) (2 ^ w.width)) refl
  where
    by : (t : Bool) → nat_lt (2 * w.value) (2 ^ w.width) ≡ t → 2 ^ w.width ≤ 2 * w.value
    by true e = let no : not (nat_lt (2 * w.value) (2 ^ w.width)) ≡ true = sym (sign_is w) ∙ h in cc
    by false e = ltb-false (2 * w.value) (2 ^ w.width) e

pub lower_half : (w : Word) → is_below_zero (signed_value w) ≡ false → 2 * w.value < 2 ^ w.width
lower_half w h = by (nat_lt (2 * w.value) (2 ^ w.width)) refl
  where
    by : (t : Bool) → nat_lt (2 * w.value) (2 ^ w.width) ≡ t → 2 * w.value < 2 ^ w.width
    by true e = ltb-true (2 * w.value) (2 ^ w.width) e
    by false e = let no : not (nat_lt (2 * w.value) (2 ^ w.width)) ≡ false = sym (sign_is w) ∙ h in cc

-- half of the power
pub half_power : (w : ℕ) → 1 ≤ w → 2 ^ w ≡ 2 * 2 ^ (w - 1)
half_power w h =
    let e : w ≡ suc (w - 1) = omega arith in
    ap (λ k. 2 ^ k) e ∙ pow-suc 2 (w - 1) ∙ omega arith

not_not : (t : Bool) → not (not t) ≡ t
not_not true = refl
not_not false = refl

-- an unsigned sum leaves the width where it is less than an operand
pub wrapped_sum : (a b m : ℕ) → a < m → b < m → nat_lt ((a + b) % m) a ≡ not (nat_lt (a + b) m)
wrapped_sum a b m ha hb = by (nat_lt (a + b) m) refl
  where
    by : (t : Bool) → nat_lt (a + b) m ≡ t → nat_lt ((a + b) % m) a ≡ not (nat_lt (a + b) m)
    by true e =
        let small : a + b < m = ltb-true (a + b) m e in
        rw (mod-eq_of_lt small, e) (le-ltb (a + b) a (omega arith))
    by false e =
        let large : m ≤ a + b = ltb-false (a + b) m e in
        let wraps : (a + b) % m ≡ a + b - m = mod_of_rest (a + b) 1 (a + b - m) m (omega arith) (omega arith) in
        rw (wraps, e) (lt-ltb (a + b - m) a (omega arith))

-- two numbers that are not below zero
pub sum_of_above : (a b : Word) → AreWords a b → is_below_zero (signed_value a) ≡ false → is_below_zero (signed_value b) ≡ false
    → is_below_zero (signed_value (added a b)) ≡ is_sum_over a b true
sum_of_above a b are ha hb =
    let m = 2 ^ a.width in
    let h = 2 ^ (a.width - 1) in
    let half : m ≡ 2 * h = half_power a.width are.some_bits in
    let first : 2 * a.value < m = lower_half a ha in
    let second : 2 * b.value < m = rw are.one_width at (lower_half b hb) in
    let small : a.value + b.value < m = omega arith in
    sign_is (added a b) ∙ rw (value_of-above true a ha, value_of-above true b hb, mod-eq_of_lt small)
    (ap not (same_tests (2 * (a.value + b.value)) m (a.value + b.value) h (λ lt. omega arith) (λ lt. omega arith)))

-- two numbers below zero
pub sum_of_below : (a b : Word) → AreWords a b → is_below_zero (signed_value a) ≡ true → is_below_zero (signed_value b) ≡ true
    → not (is_below_zero (signed_value (added a b))) ≡ is_sum_over a b true
sum_of_below a b are ha hb =
    let m = 2 ^ a.width in
    let h = 2 ^ (a.width - 1) in
    let half : m ≡ 2 * h = half_power a.width are.some_bits in
    let first : m ≤ 2 * a.value = upper_half a ha in
    let second : m ≤ 2 * b.value = rw are.one_width at (upper_half b hb) in
    let inside : a.value < m = are.first in
    let inside_second : b.value < m = are.second in
    let wraps : (a.value + b.value) % m ≡ a.value + b.value - m = mod_of_rest (a.value + b.value) 1 (a.value + b.value - m) m (omega arith) (omega arith) in
    let tests : nat_lt (2 * (a.value + b.value - m)) m ≡ not (nat_lt (suc (m - a.value - 1 + (m - b.value - 1))) h) =
    other_tests (2 * (a.value + b.value - m)) m (suc (m - a.value - 1 + (m - b.value - 1))) h (λ lt. omega arith) (λ lt. omega arith) in
    ap not (sign_is (added a b)) ∙ not_not (nat_lt (2 * ((a.value + b.value) % m)) m)
    ∙ rw (value_of-below true a ha, value_of-below true b hb, are.one_width, wraps) tests

less_than_none : (n : ℕ) → sub_ℕ 0 (suc n) ≡ negsuc n
less_than_none n = rw (lt-ltb 0 (suc n) (omega arith)) (ap negsuc (omega arith))

-- a number that is not below zero less one that is
pub difference_above : (a b : Word) → AreWords a b → is_below_zero (signed_value a) ≡ false → is_below_zero (signed_value b) ≡ true
    → is_below_zero (signed_value (subtracted a b)) ≡ is_difference_over a b true
difference_above a b are ha hb =
    let m = 2 ^ a.width in
    let h = 2 ^ (a.width - 1) in
    let half : m ≡ 2 * h = half_power a.width are.some_bits in
    let first : 2 * a.value < m = lower_half a ha in
    let second : m ≤ 2 * b.value = rw are.one_width at (upper_half b hb) in
    let inside_second : b.value < m = are.second in
    let small : a.value + (m - b.value) < m = omega arith in
    let within : b.value ≤ m = omega arith in
    let is : subtracted a b ≡ word_at a.width (a.value + (m - b.value)) =
    word_of-difference a.width a.value b.value within ∙ ap (word_at a.width) (mod-eq_of_lt small) in
    let tests : nat_lt (2 * (a.value + (m - b.value))) m ≡ nat_lt (a.value + suc (m - b.value - 1)) h =
    same_tests (2 * (a.value + (m - b.value))) m (a.value + suc (m - b.value - 1)) h (λ lt. omega arith) (λ lt. omega arith) in
    ap (λ w. is_below_zero (signed_value w)) is ∙ sign_is (word_at a.width (a.value + (m - b.value)))
    ∙ rw (value_of-above true a ha, value_of-below true b hb, are.one_width) (ap not tests)

-- a number below zero less one that is not
pub difference_below : (a b : Word) → AreWords a b → is_below_zero (signed_value a) ≡ true → is_below_zero (signed_value b) ≡ false
    → not (is_below_zero (signed_value (subtracted a b))) ≡ is_difference_over a b true
difference_below a b are ha hb =
    let m = 2 ^ a.width in
    let h = 2 ^ (a.width - 1) in
    let half : m ≡ 2 * h = half_power a.width are.some_bits in
    let first : m ≤ 2 * a.value = upper_half a ha in
    let second : 2 * b.value < m = rw are.one_width at (lower_half b hb) in
    let inside : a.value < m = are.first in
    let within : b.value ≤ m = omega arith in
    let wraps : (a.value + (m - b.value)) % m ≡ a.value - b.value = mod_of_rest (a.value + (m - b.value)) 1 (a.value - b.value) m (omega arith) (omega arith) in
    let is : subtracted a b ≡ word_at a.width (a.value - b.value) =
    word_of-difference a.width a.value b.value within ∙ ap (word_at a.width) wraps in
    ap (λ w. not (is_below_zero (signed_value w))) is ∙ ap not (sign_is (word_at a.width (a.value - b.value))) ∙ not_not (nat_lt (2 * (a.value - b.value)) m)
    ∙ rw (value_of-below true a ha, value_of-above true b hb) (by b.value refl)
  where
    by : (n : ℕ) → b.value ≡ n → nat_lt (2 * (a.value - n)) (2 ^ a.width) ≡ not (fits true a.width (negsuc (2 ^ a.width - a.value - 1) -ℤ pos n))
    by zero e =
        let m = 2 ^ a.width in
        let h = 2 ^ (a.width - 1) in
        let half : m ≡ 2 * h = half_power a.width are.some_bits in
        let first : m ≤ 2 * a.value = upper_half a ha in
        let inside : a.value < m = are.first in
        rw (less_than_none (m - a.value - 1)) (other_tests (2 * (a.value - zero)) m (m - a.value - 1) h (λ lt. omega arith) (λ lt. omega arith))
    by (suc n) e =
        let m = 2 ^ a.width in
        let h = 2 ^ (a.width - 1) in
        let half : m ≡ 2 * h = half_power a.width are.some_bits in
        let first : m ≤ 2 * a.value = upper_half a ha in
        let second : 2 * b.value < m = rw are.one_width at (lower_half b hb) in
        let inside : a.value < m = are.first in
        other_tests (2 * (a.value - suc n)) m (suc (m - a.value - 1 + n)) h (λ lt. omega arith) (λ lt. omega arith)

beq_true : (x : Bool) → beq true x ≡ x
beq_true true = refl
beq_true false = refl

beq_false : (x : Bool) → beq false x ≡ not x
beq_false true = refl
beq_false false = refl

pub same_from_beq : (x y : Bool) → beq x y ≡ true → x ≡ y
same_from_beq true y e = sym e ∙ beq_true y
same_from_beq false y e = sym (ap not (sym (beq_false y) ∙ e)) ∙ not_not y

pub other_from_beq : (x y : Bool) → not (beq x y) ≡ true → not x ≡ y
other_from_beq true y e = ap not (sym e) ∙ not_not (beq true y) ∙ beq_true y
other_from_beq false y e = sym e ∙ ap not (beq_false y) ∙ not_not y

-- the sum of two numbers of one sign leaves the width where its word has the other sign
pub sum_over : (a b : Word) → AreWords a b → is_below_zero (signed_value a) ≡ is_below_zero (signed_value b)
    → not (beq (is_below_zero (signed_value a)) (is_below_zero (signed_value (added a b)))) ≡ is_sum_over a b true
sum_over a b are same = by (is_below_zero (signed_value a)) refl
  where
    by : (t : Bool) → is_below_zero (signed_value a) ≡ t → not (beq t (is_below_zero (signed_value (added a b)))) ≡ is_sum_over a b true
    by true e = ap not (beq_true (is_below_zero (signed_value (added a b)))) ∙ sum_of_below a b are e (sym same ∙ e)
    by false e = ap not (beq_false (is_below_zero (signed_value (added a b)))) ∙ not_not (is_below_zero (signed_value (added a b))) ∙ sum_of_above a b are e (sym same ∙ e)

-- the difference of two numbers of two signs leaves the width where its word has not the sign of the first
pub difference_over : (a b : Word) → AreWords a b → not (is_below_zero (signed_value a)) ≡ is_below_zero (signed_value b)
    → not (beq (is_below_zero (signed_value a)) (is_below_zero (signed_value (subtracted a b)))) ≡ is_difference_over a b true
difference_over a b are other = by (is_below_zero (signed_value a)) refl
  where
    by : (t : Bool) → is_below_zero (signed_value a) ≡ t → not (beq t (is_below_zero (signed_value (subtracted a b)))) ≡ is_difference_over a b true
    by true e = ap not (beq_true (is_below_zero (signed_value (subtracted a b)))) ∙ difference_below a b are e (sym other ∙ ap not e)
    by false e = ap not (beq_false (is_below_zero (signed_value (subtracted a b)))) ∙ not_not (is_below_zero (signed_value (subtracted a b))) ∙ difference_above a b are e (sym other ∙ ap not e)
