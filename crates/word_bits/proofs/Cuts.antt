-- Numbers cut to a width, as the code cuts them.
use Rattle.std.proofs.Common.{◌≡◌, ℕ, zero, suc, ◌+◌, ◌-◌, ◌*◌, ◌/◌, ◌%◌, ◌^◌, ◌<◌, ◌≤◌, ap, sym, ◌∙◌, refl, arith, bit_and, Bool, true, false, cond, ltb}
use Rattle.word_bits.specs.declared.word.Word.{Word}
use Rattle.std.proofs.Math.Nat.{mod-lt, mod-eq_of_lt, mul-add-mod_self_right, add-mod_right, zero-mod, div-add-mod'}
use Rattle.std.proofs.lemmas.Bool.{ltb-true, ltb-false}
use Rattle.std.proofs.Math.Pow.{mod-mod-pow}
use Rattle.std.proofs.lemmas.Nat.{and_mask, pow_pos, pow-add, div_below}
use Rattle.std.proofs.lemmas.Nat.Bits.{ones_shr}
use Rattle.std.specs.Prelude.{pos, negsuc, neg_ℤ, ◌-ℤ◌}
use Rattle.word_bits.specs.Words.{word, word_of}

-- the word of ones
pub greatest_is : (w : ℕ) → w ≤ 128 → (2 ^ 128 - 1) / 2 ^ (128 - w) ≡ 2 ^ w - 1
greatest_is w h =
    let e : 128 - (128 - w) ≡ w = omega arith in
    ones_shr 128 (128 - w) (omega arith) ∙ ap (λ k. 2 ^ k - 1) e

-- the greatest type's power is a multiple of the width's
pub power_split : (w : ℕ) → w ≤ 128 → 2 ^ 128 ≡ 2 ^ (128 - w) * 2 ^ w
power_split w h =
    let e : 128 ≡ (128 - w) + w = omega arith in
    ap (λ k. 2 ^ k) e ∙ pow-add 2 (128 - w) w

pub mod_mod_power : (n w : ℕ) → w ≤ 128 → n % 2 ^ 128 % 2 ^ w ≡ n % 2 ^ w
mod_mod_power n w h =
    let e : 128 ≡ (128 - w) + w = omega arith in
    ap (λ k. n % 2 ^ k % 2 ^ w) e ∙ mod-mod-pow n (128 - w) w

-- a mask after arithmetic that wraps at 128 bits
pub masked : (n w : ℕ) → w ≤ 128 → bit_and (n % 2 ^ 128) (2 ^ w - 1) ≡ n % 2 ^ w
masked n w h = and_mask (n % 2 ^ 128) w ∙ mod_mod_power n w h

-- the remainder is the rest below the divisor
pub mod_of_rest : (n q r m : ℕ) → n ≡ q * m + r → r < m → n % m ≡ r
mod_of_rest n q r m e h = ap (λ k. k % m) e ∙ mul-add-mod_self_right q m r ∙ mod-eq_of_lt h

-- a multiple less 1 and a number
pub less_mod : (p m n : ℕ) → 0 < m → n < p * m → (p * m - 1 - n) % m ≡ m - 1 - n % m
less_mod p m n h below =
    let q = n / m in
    let r = n % m in
    let split : q * m + r ≡ n = div-add-mod' n m in
    let small : r < m = mod-lt n h in
    let few : q < p = div_below n m p h below in
    let k = p - 1 - q in
    let e : p ≡ q + 1 + k = omega arith in
    let whole : p * m ≡ q * m + m + k * m = ap (λ j. j * m) e ∙ omega arith in
    mod_of_rest (p * m - 1 - n) k (m - 1 - r) m (omega arith) (omega arith)

-- a difference that wraps at 128 bits, masked
pub difference_masked : (a b w : ℕ) → w ≤ 128 → b ≤ 2 ^ w → bit_and ((a + (2 ^ 128 - b)) % 2 ^ 128) (2 ^ w - 1) ≡ (a + (2 ^ w - b)) % 2 ^ w
difference_masked a b w h below =
    let p = 2 ^ (128 - w) in
    let m = 2 ^ w in
    let some : 0 < p = pow_pos (128 - w) in
    let k = p - 1 in
    let more : p ≡ k + 1 = omega arith in
    let e : 2 ^ 128 ≡ k * m + m = power_split w h ∙ ap (λ j. j * m) more ∙ omega arith in
    masked (a + (2 ^ 128 - b)) w h ∙ ap (λ j. (a + (j - b)) % m) e
    ∙ ap (λ j. j % m) (moved a b k m below) ∙ mul-add-mod_self_right k m (a + (m - b))
  where
    moved : (a b k m : ℕ) → b ≤ m → a + (k * m + m - b) ≡ k * m + (a + (m - b))
    moved a b k m below = omega arith

abbrev pub word_at : ℕ → ℕ → Word
word_at w n = record { width = w; value = n }

-- the difference of two numbers, as a sum with what the second lacks
pub word_of-difference : (w a b : ℕ) → b ≤ 2 ^ w → word_of w (pos a -ℤ pos b) ≡ word w (a + (2 ^ w - b))
word_of-difference w a zero h = ap (word_at w) (sym (ap (λ k. k % 2 ^ w) e ∙ add-mod_right (a + zero) (2 ^ w)))
  where
    e : a + (2 ^ w - zero) ≡ a + zero + 2 ^ w
    e = omega arith
word_of-difference w a (suc b) h = by (ltb a (suc b)) refl
  where
    m : ℕ
    m = 2 ^ w

    by : (t : Bool) → ltb a (suc b) ≡ t → word_of w (cond t (negsuc (suc b - suc a)) (pos (a - suc b))) ≡ word w (a + (m - suc b))
    by true e =
        let less : a < suc b = omega (arith, ltb-true) in
        let near : suc b - suc a < m = omega arith in
        let left : m - 1 - (suc b - suc a) % m ≡ a + (m - suc b) = rw (mod-eq_of_lt near) (omega arith) in
        let within : a + (m - suc b) < m = omega arith in
        ap (word_at w) (left ∙ sym (mod-eq_of_lt within))
    by false e =
        let more : suc b ≤ a = omega (arith, ltb-false) in
        let moved : a + (m - suc b) ≡ a - suc b + m = omega arith in
        ap (word_at w) (sym (ap (λ k. k % m) moved ∙ add-mod_right (a - suc b) m))

-- minus a number that wraps at 128 bits, masked
pub minus_masked : (w n : ℕ) → w ≤ 128 → n < 2 ^ 128 → word_at w (bit_and ((0 + (2 ^ 128 - n)) % 2 ^ 128) (2 ^ w - 1)) ≡ word_of w (neg_ℤ (pos n))
minus_masked w zero h below =
    let e : 0 + (2 ^ 128 - zero) ≡ 2 ^ (128 - w) * 2 ^ w + 0 = power_split w h ∙ omega arith in
    ap (word_at w) (masked (0 + (2 ^ 128 - zero)) w h ∙ mod_of_rest (0 + (2 ^ 128 - zero)) (2 ^ (128 - w)) 0 (2 ^ w) e (pow_pos w) ∙ sym (zero-mod (2 ^ w)))
minus_masked w (suc n) h below =
    let split : 2 ^ 128 ≡ 2 ^ (128 - w) * 2 ^ w = power_split w h in
    let e : 0 + (2 ^ 128 - suc n) ≡ 2 ^ (128 - w) * 2 ^ w - 1 - n = omega arith in
    let small : n < 2 ^ (128 - w) * 2 ^ w = omega arith in
    ap (word_at w) (masked (0 + (2 ^ 128 - suc n)) w h ∙ ap (λ k. k % 2 ^ w) e ∙ less_mod (2 ^ (128 - w)) (2 ^ w) n (pow_pos w) small)
