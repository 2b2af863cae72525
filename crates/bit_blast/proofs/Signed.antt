-- The sign of a word is its highest bit.
use Rattle.std.proofs.Common.{◌≡◌, ℕ, ◌+◌, ◌-◌, ◌*◌, ◌^◌, ◌<◌, ◌≤◌, Bool, true, false, not, ◌&&◌, cond, ltb, List, length, take, get_or, sym, ap, ◌∙◌, refl, arith, subst, inl, inr, zero, suc}
use mathlib.Core.Bool.{beq}
use Rattle.std.specs.Prelude.{pos, negsuc, ℤ, int_lt, ◌+ℤ◌, ◌-ℤ◌, nat_lt}
use Rattle.std.proofs.lemmas.Bool.{lt-ltb, le-ltb, cond-true, cond-false, cases_lt}
use Rattle.std.proofs.lemmas.Grind.{pow_more}
use Rattle.std.proofs.lemmas.List.{take_all}
use Rattle.word_bits.specs.declared.word.Word.{Word}
use Rattle.word_bits.specs.Words.{signed_value, AreWords, is_sum_over, is_difference_over, fits, added, subtracted}
use Rattle.word_bits.specs.Signs.{is_below_zero}
use Rattle.word_bits.proofs.SignedValues.{value_of-below, value_of-above}
use Rattle.word_bits.proofs.Overflows.{sum_over, difference_over, upper_half, lower_half, half_power}
use Rattle.bit_gates.specs.Values.{differ}
use Rattle.bit_gates.specs.Made.{number, bit}
use Rattle.bit_gates.proofs.BitOpLaws.{less_step}
use Rattle.bit_gates.proofs.WordLaws.{number_take_next, number_take_below}
use Rattle.bit_blast.specs.Blasted.{word_at}

order_same : (m n k l : ℕ) → (m < n → k < l) → (n ≤ m → l ≤ k) → ltb m n ≡ ltb k l
order_same m n k l f g = elim (cases_lt m n) [
  | inl h ↦ lt-ltb m n h ∙ sym (lt-ltb k l (f h))
  | inr h ↦ le-ltb m n h ∙ sym (le-ltb k l (g h))
]

-- the number with a sign that a number of so many is
abbrev sv : ℕ → ℕ → ℤ
sv p x = cond (nat_lt (2 * x) p) (pos x) (negsuc (p - x - 1))

sv_true : (p q x m : ℕ) → x ≡ m + q * 1 → p ≡ q * 2 → sv p x ≡ negsuc (p - x - 1)
sv_true p q x m ex ep = cond-false (nat_lt (2 * x) p) (pos x) (negsuc (p - x - 1)) (le-ltb (2 * x) p (omega arith))

sv_false : (p q x m : ℕ) → x ≡ m + q * 0 → p ≡ q * 2 → m < q → sv p x ≡ pos x
sv_false p q x m ex ep l = cond-true (nat_lt (2 * x) p) (pos x) (negsuc (p - x - 1)) (lt-ltb (2 * x) p (omega arith))

-- the highest bit of a word, and the number of those below
pub number_top : (v : ℕ → Bool) (xs : List ℕ) → 1 ≤ length xs → number v xs ≡ number v (take (length xs - 1) xs) + 2 ^ (length xs - 1) * bit (v (get_or xs (length xs - 1) 0))
number_top v xs l =
    let n = length xs - 1 in
    let whole : take (n + 1) xs ≡ xs = take_all (n + 1) xs (omega arith) in
    ap (number v) (sym whole) ∙ number_take_next v xs n (get_or xs n 0) (omega arith) refl

pub power_top : (n : ℕ) → 1 ≤ n → 2 ^ n ≡ 2 ^ (n - 1) * 2
power_top n l =
    let e : n ≡ n - 1 + 1 = omega arith in
    ap (λ (k : ℕ). 2 ^ k) e ∙ pow_more 2 (n - 1)

sign_of : (p q x m : ℕ) (t : Bool) → x ≡ m + q * bit t → p ≡ q * 2 → m < q → is_below_zero (sv p x) ≡ t
sign_of p q x m true ex ep l = ap is_below_zero (sv_true p q x m ex ep)
sign_of p q x m false ex ep l = ap is_below_zero (sv_false p q x m ex ep l)

-- the sign is the highest bit
pub sign_bit : (v : ℕ → Bool) (xs : List ℕ) → 1 ≤ length xs → is_below_zero (signed_value (word_at v xs)) ≡ v (get_or xs (length xs - 1) 0)
sign_bit v xs l =
    sign_of (2 ^ length xs) (2 ^ (length xs - 1)) (number v xs) (number v (take (length xs - 1) xs)) (v (get_or xs (length xs - 1) 0))
    (number_top v xs l) (power_top (length xs) l) (number_take_below v xs (length xs - 1) (omega arith))

order_signed : (p q x y m n : ℕ) (s t : Bool) → x ≡ m + q * bit s → y ≡ n + q * bit t → p ≡ q * 2 → m < q → n < q → cond (differ t s) s (ltb m n) ≡ int_lt (sv p x) (sv p y)
order_signed p q x y m n true true ex ey ep lm ln =
    rw (sv_true p q x m ex ep, sv_true p q y n ey ep) (order_same m n (p - y - 1) (p - x - 1) (λ h. omega arith) (λ h. omega arith))
order_signed p q x y m n true false ex ey ep lm ln = rw (sv_true p q x m ex ep, sv_false p q y n ey ep ln) refl
order_signed p q x y m n false true ex ey ep lm ln = rw (sv_false p q x m ex ep lm, sv_true p q y n ey ep) refl
order_signed p q x y m n false false ex ey ep lm ln =
    rw (sv_false p q x m ex ep lm, sv_false p q y n ey ep ln) (order_same m n x y (λ h. omega arith) (λ h. omega arith))

-- words with a sign are in order where those with the other's highest bit are, without one
pub less_swapped : (v : ℕ → Bool) (xs ys : List ℕ) → 1 ≤ length xs → length ys ≡ length xs
    → ltb (number v (take (length xs - 1) xs) + 2 ^ (length xs - 1) * bit (v (get_or ys (length xs - 1) 0))) (number v (take (length ys - 1) ys) + 2 ^ (length ys - 1) * bit (v (get_or xs (length xs - 1) 0)))
    ≡ int_lt (signed_value (word_at v xs)) (signed_value (word_at v ys))
less_swapped v xs ys l widths =
    let n = length xs - 1 in
    let s = v (get_or xs n 0) in
    let t = v (get_or ys n 0) in
    let my : number v (take n ys) < 2 ^ n = number_take_below v ys n (omega arith) in
    let mx : number v (take n xs) < 2 ^ n = number_take_below v xs n (omega arith) in
    let nx : number v xs ≡ number v (take n xs) + 2 ^ n * bit s = number_top v xs l in
    let ny : number v ys ≡ number v (take n ys) + 2 ^ n * bit t =
    subst (λ (k : ℕ). number v ys ≡ number v (take (k - 1) ys) + 2 ^ (k - 1) * bit (v (get_or ys (k - 1) 0))) widths (number_top v ys (omega arith)) in
    rw widths
    (sym (less_step n (number v (take n xs)) (number v (take n ys)) t s mx my)
    ∙ order_signed (2 ^ length xs) (2 ^ n) (number v xs) (number v ys) (number v (take n xs)) (number v (take n ys)) s t nx ny (power_top (length xs) l) mx my)

fits_below : (q w k : ℕ) → q ≡ 2 ^ (w - 1) → k < q → fits true w (negsuc k) ≡ true
fits_below q w k e l = lt-ltb k (2 ^ (w - 1)) (omega arith)

fits_above : (q w k : ℕ) → q ≡ 2 ^ (w - 1) → k < q → fits true w (pos k) ≡ true
fits_above q w k e l = lt-ltb k (2 ^ (w - 1)) (omega arith)

mixed_fits : (w q j k : ℕ) → q ≡ 2 ^ (w - 1) → j < q → k < q → fits true w (pos j +ℤ negsuc k) ≡ true
mixed_fits w q j k e lj lk = elim (cases_lt j (suc k)) [
  | inl h ↦ rw (lt-ltb j (suc k) h) (fits_below q w (suc k - suc j) e (omega arith))
  | inr h ↦ rw (le-ltb j (suc k) h) (fits_above q w (j - suc k) e (omega arith))
]

-- the sum of two words of two signs fits
no_sum_over : (a b : Word) → AreWords a b → (s : Bool) → is_below_zero (signed_value a) ≡ s → is_below_zero (signed_value b) ≡ not s → false ≡ is_sum_over a b true
no_sum_over a b are true ea eb =
    let first : 2 ^ a.width ≤ 2 * a.value = upper_half a ea in
    let second : 2 * b.value < 2 ^ b.width = lower_half b eb in
    let pw : 2 ^ b.width ≡ 2 ^ a.width = ap (λ (k : ℕ). 2 ^ k) are.one_width in
    let half : 2 ^ a.width ≡ 2 * 2 ^ (a.width - 1) = half_power a.width are.some_bits in
    let in' : a.value < 2 ^ a.width = are.first in
    rw (value_of-below true a ea, value_of-above true b eb)
    (sym (ap not (mixed_fits a.width (2 ^ (a.width - 1)) b.value (2 ^ a.width - a.value - 1) refl (omega arith) (omega arith))))
no_sum_over a b are false ea eb =
    let first : 2 * a.value < 2 ^ a.width = lower_half a ea in
    let second : 2 ^ b.width ≤ 2 * b.value = upper_half b eb in
    let pw : 2 ^ b.width ≡ 2 ^ a.width = ap (λ (k : ℕ). 2 ^ k) are.one_width in
    let half : 2 ^ a.width ≡ 2 * 2 ^ (a.width - 1) = half_power a.width are.some_bits in
    let in' : b.value < 2 ^ a.width = are.second in
    rw (value_of-above true a ea, value_of-below true b eb)
    (sym (ap not (mixed_fits a.width (2 ^ (a.width - 1)) a.value (2 ^ b.width - b.value - 1) refl (omega arith) (omega arith))))

beq_differ : (p q : Bool) → not (beq p q) ≡ differ p q
beq_differ true true = refl
beq_differ true false = refl
beq_differ false true = refl
beq_differ false false = refl

sum_cases : (a b : Word) → AreWords a b → (s t : Bool) → is_below_zero (signed_value a) ≡ s → is_below_zero (signed_value b) ≡ t
    → (not (differ s t) && differ s (is_below_zero (signed_value (added a b)))) ≡ is_sum_over a b true
sum_cases a b are true true ea eb = sym (beq_differ true (is_below_zero (signed_value (added a b)))) ∙ ap (λ (k : Bool). not (beq k (is_below_zero (signed_value (added a b))))) (sym ea) ∙ sum_over a b are (ea ∙ sym eb)
sum_cases a b are false false ea eb = sym (beq_differ false (is_below_zero (signed_value (added a b)))) ∙ ap (λ (k : Bool). not (beq k (is_below_zero (signed_value (added a b))))) (sym ea) ∙ sum_over a b are (ea ∙ sym eb)
sum_cases a b are true false ea eb = no_sum_over a b are true ea eb
sum_cases a b are false true ea eb = no_sum_over a b are false ea eb

-- a sum with a sign is none of the width where the words have one sign and the sum the other
pub sum_over_signs : (a b : Word) → AreWords a b
    → (not (differ (is_below_zero (signed_value a)) (is_below_zero (signed_value b))) && differ (is_below_zero (signed_value a)) (is_below_zero (signed_value (added a b)))) ≡ is_sum_over a b true
sum_over_signs a b are = sum_cases a b are (is_below_zero (signed_value a)) (is_below_zero (signed_value b)) refl refl

alike_fits : (w q j k : ℕ) → q ≡ 2 ^ (w - 1) → j < q → k < q → fits true w (pos j -ℤ pos k) ≡ true
alike_fits w q j zero e lj lk = fits_above q w (j + 0) e (omega arith)
alike_fits w q j (suc k) e lj lk = mixed_fits w q j k e lj (omega arith)

turned_fits : (w q j k : ℕ) → q ≡ 2 ^ (w - 1) → j < q → k ≤ q → fits true w (negsuc j +ℤ pos k) ≡ true
turned_fits w q j k e lj lk = elim (cases_lt k (suc j)) [
  | inl h ↦ rw (lt-ltb k (suc j) h) (fits_below q w (suc j - suc k) e (omega arith))
  | inr h ↦ rw (le-ltb k (suc j) h) (fits_above q w (k - suc j) e (omega arith))
]

-- the difference of two words of one sign fits
no_difference_over : (a b : Word) → AreWords a b → (s : Bool) → is_below_zero (signed_value a) ≡ s → is_below_zero (signed_value b) ≡ s → false ≡ is_difference_over a b true
no_difference_over a b are true ea eb =
    let first : 2 ^ a.width ≤ 2 * a.value = upper_half a ea in
    let second : 2 ^ b.width ≤ 2 * b.value = upper_half b eb in
    let pw : 2 ^ b.width ≡ 2 ^ a.width = ap (λ (k : ℕ). 2 ^ k) are.one_width in
    let half : 2 ^ a.width ≡ 2 * 2 ^ (a.width - 1) = half_power a.width are.some_bits in
    let in' : a.value < 2 ^ a.width = are.first in
    let in'' : b.value < 2 ^ a.width = are.second in
    rw (value_of-below true a ea, value_of-below true b eb)
    (sym (ap not (turned_fits a.width (2 ^ (a.width - 1)) (2 ^ a.width - a.value - 1) (suc (2 ^ b.width - b.value - 1)) refl (omega arith) (omega arith))))
no_difference_over a b are false ea eb =
    let first : 2 * a.value < 2 ^ a.width = lower_half a ea in
    let second : 2 * b.value < 2 ^ b.width = lower_half b eb in
    let pw : 2 ^ b.width ≡ 2 ^ a.width = ap (λ (k : ℕ). 2 ^ k) are.one_width in
    let half : 2 ^ a.width ≡ 2 * 2 ^ (a.width - 1) = half_power a.width are.some_bits in
    rw (value_of-above true a ea, value_of-above true b eb)
    (sym (ap not (alike_fits a.width (2 ^ (a.width - 1)) a.value b.value refl (omega arith) (omega arith))))

difference_cases : (a b : Word) → AreWords a b → (s t : Bool) → is_below_zero (signed_value a) ≡ s → is_below_zero (signed_value b) ≡ t
    → (differ s t && differ s (is_below_zero (signed_value (subtracted a b)))) ≡ is_difference_over a b true
difference_cases a b are true true ea eb = no_difference_over a b are true ea eb
difference_cases a b are false false ea eb = no_difference_over a b are false ea eb
difference_cases a b are true false ea eb = sym (beq_differ true (is_below_zero (signed_value (subtracted a b)))) ∙ ap (λ (k : Bool). not (beq k (is_below_zero (signed_value (subtracted a b))))) (sym ea) ∙ difference_over a b are (ap not ea ∙ sym eb)
difference_cases a b are false true ea eb = sym (beq_differ false (is_below_zero (signed_value (subtracted a b)))) ∙ ap (λ (k : Bool). not (beq k (is_below_zero (signed_value (subtracted a b))))) (sym ea) ∙ difference_over a b are (ap not ea ∙ sym eb)

-- a difference with a sign is none of the width where the words have two signs and the difference not that of the first
pub difference_over_signs : (a b : Word) → AreWords a b
    → (differ (is_below_zero (signed_value a)) (is_below_zero (signed_value b)) && differ (is_below_zero (signed_value a)) (is_below_zero (signed_value (subtracted a b)))) ≡ is_difference_over a b true
difference_over_signs a b are = difference_cases a b are (is_below_zero (signed_value a)) (is_below_zero (signed_value b)) refl refl
