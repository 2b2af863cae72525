-- The number that a word means, by its sign.
use Rattle.std.proofs.Common.{◌≡◌, ℕ, ◌-◌, ◌*◌, ◌/◌, ◌^◌, ◌<◌, ◌≤◌, refl, arith, Bool, true, false, if◌then◌else◌}
use Rattle.std.proofs.Math.Nat.{mod-eq_of_lt, div-le_self}
use Rattle.std.specs.Prelude.{pos, negsuc, nat_lt}
use Rattle.word_bits.specs.declared.word.Word.{Word}
use Rattle.word_bits.specs.Words.{IsWord, word_of, value_of, halved}
use Rattle.word_bits.specs.Signs.{is_below_zero}
use Rattle.word_bits.proofs.Cuts.{word_at}

-- a number below zero stands for what its word lacks
pub value_of-below : (signed : Bool) (w : Word) → is_below_zero (value_of signed w) ≡ true → value_of signed w ≡ negsuc (2 ^ w.width - w.value - 1)
value_of-below true w h = by (nat_lt (2 * w.value) (2 ^ w.width)) h
  where
    by : (t : Bool) → is_below_zero (if t then pos w.value else negsuc (2 ^ w.width - w.value - 1)) ≡ true → (if t then pos w.value else negsuc (2 ^ w.width - w.value - 1)) ≡ negsuc (2 ^ w.width - w.value - 1)
    by true e = cc
    by false e = refl
value_of-below false w h = cc

-- another number is its word's
pub value_of-above : (signed : Bool) (w : Word) → is_below_zero (value_of signed w) ≡ false → value_of signed w ≡ pos w.value
value_of-above true w h = by (nat_lt (2 * w.value) (2 ^ w.width)) h
  where
    by : (t : Bool) → is_below_zero (if t then pos w.value else negsuc (2 ^ w.width - w.value - 1)) ≡ false → (if t then pos w.value else negsuc (2 ^ w.width - w.value - 1)) ≡ pos w.value
    by true e = refl
    by false e = cc
value_of-above false w h = refl

-- a right shift of a number below zero
pub halved-below : (signed : Bool) (w : Word) (k : ℕ) → IsWord w → is_below_zero (value_of signed w) ≡ true
    → word_at w.width (2 ^ w.width - 1 - (2 ^ w.width - 1 - w.value) / 2 ^ k) ≡ word_of w.width (halved (value_of signed w) k)
halved-below signed w k is h =
    let m = 2 ^ w.width in
    let n = m - w.value - 1 in
    let same : m - 1 - w.value ≡ n = omega arith in
    let less : n / 2 ^ k ≤ n = div-le_self n (2 ^ k) in
    let below : w.value < m = is.below in
    let small : n / 2 ^ k < m = omega arith in
    rw (value_of-below signed w h, same, mod-eq_of_lt small) refl

-- a right shift of another number
pub halved-above : (signed : Bool) (w : Word) (k : ℕ) → IsWord w → is_below_zero (value_of signed w) ≡ false
    → word_at w.width (w.value / 2 ^ k) ≡ word_of w.width (halved (value_of signed w) k)
halved-above signed w k is h =
    let m = 2 ^ w.width in
    let less : w.value / 2 ^ k ≤ w.value = div-le_self w.value (2 ^ k) in
    let below : w.value < m = is.below in
    let small : w.value / 2 ^ k < m = omega arith in
    rw (value_of-above signed w h, mod-eq_of_lt small) refl
