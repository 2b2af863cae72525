-- Laws of numbers that are one when cut to a width.
use Rattle.std.proofs.Common.{◌≡◌, ℕ, ◌+◌, ◌-◌, ◌*◌, ◌/◌, ◌%◌, ◌^◌, ◌<◌, ◌≤◌, ap, sym, ◌∙◌, refl, arith}
use Rattle.std.proofs.Math.Nat.{mod-lt, mod-add-mod, add-mod-mod, mul-mod_left, mod-eq_of_lt, zero-mod, div-add-mod'}
use Rattle.std.proofs.lemmas.Nat.{pow_pos, mul-mod_first, mul-mod_second}
use Rattle.word_bits.proofs.Cuts.{mod_mod_power}
use Rattle.sym_terms.specs.Sums.{AreCongruent}

pub congruent_same : (w m n : ℕ) → m ≡ n → AreCongruent w m n
congruent_same w m n e = record { cut = ap (λ k. k % 2 ^ w) e }

pub congruent_turned : {w m n : ℕ} → AreCongruent w m n → AreCongruent w n m
congruent_turned h = record { cut = sym h.cut }

pub congruent_through : {w m n k : ℕ} → AreCongruent w m n → AreCongruent w n k → AreCongruent w m k
congruent_through g h = record { cut = g.cut ∙ h.cut }

-- a number cut to the width
pub congruent-cut : (w n : ℕ) → AreCongruent w (n % 2 ^ w) n
congruent-cut w n = record { cut = mod-add-zero }
  where
    mod-add-zero : n % 2 ^ w % 2 ^ w ≡ n % 2 ^ w
    mod-add-zero = mod-eq_of_lt (mod-lt n (pow_pos w))

-- at a smaller width
pub congruent_narrower : {m n : ℕ} (w : ℕ) → w ≤ 128 → AreCongruent 128 m n → AreCongruent w m n
congruent_narrower {m} {n} w few h = record { cut = sym (mod_mod_power m w few) ∙ ap (λ k. k % 2 ^ w) h.cut ∙ mod_mod_power n w few }

pub congruent-sum : {w a b c d : ℕ} → AreCongruent w a b → AreCongruent w c d → AreCongruent w (a + c) (b + d)
congruent-sum {w} {a} {b} {c} {d} g h = record {
  cut = sym (mod-add-mod a (2 ^ w) c) ∙ ap (λ k. (k + c) % 2 ^ w) g.cut ∙ mod-add-mod b (2 ^ w) c
      ∙ sym (add-mod-mod b c (2 ^ w)) ∙ ap (λ k. (b + k) % 2 ^ w) h.cut ∙ add-mod-mod b d (2 ^ w);
}

pub congruent-product : {w a b c d : ℕ} → AreCongruent w a b → AreCongruent w c d → AreCongruent w (a * c) (b * d)
congruent-product {w} {a} {b} {c} {d} g h = record {
  cut = sym (mul-mod_first a c (2 ^ w)) ∙ ap (λ k. (k * c) % 2 ^ w) g.cut ∙ mul-mod_first b c (2 ^ w)
      ∙ sym (mul-mod_second b c (2 ^ w)) ∙ ap (λ k. (b * k) % 2 ^ w) h.cut ∙ mul-mod_second b d (2 ^ w);
}

-- with one part the same
pub congruent-sum_first : {w a b : ℕ} (k : ℕ) → AreCongruent w a b → AreCongruent w (k + a) (k + b)
congruent-sum_first {w} k h = congruent-sum (congruent_same w k k refl) h

pub congruent-sum_second : {w a b : ℕ} (k : ℕ) → AreCongruent w a b → AreCongruent w (a + k) (b + k)
congruent-sum_second {w} k h = congruent-sum h (congruent_same w k k refl)

pub congruent-product_first : {w a b : ℕ} (k : ℕ) → AreCongruent w a b → AreCongruent w (k * a) (k * b)
congruent-product_first {w} k h = congruent-product (congruent_same w k k refl) h

pub congruent-product_second : {w a b : ℕ} (k : ℕ) → AreCongruent w a b → AreCongruent w (a * k) (b * k)
congruent-product_second {w} k h = congruent-product h (congruent_same w k k refl)

-- a multiple of the power of two is nothing
pub congruent-multiple : (w k : ℕ) → AreCongruent w (k * 2 ^ w) 0
congruent-multiple w k = record { cut = mul-mod_left k (2 ^ w) ∙ sym (zero-mod (2 ^ w)) }

-- two numbers that make nothing with a third are one
pub congruent_inverses : {w a b : ℕ} (k : ℕ) → AreCongruent w (a + k) 0 → AreCongruent w (b + k) 0 → AreCongruent w a b
congruent_inverses {w} {a} {b} k g h =
    let there : AreCongruent w (a + (b + k)) (a + 0) = congruent-sum_first a h in
    let back : AreCongruent w (b + (a + k)) (b + 0) = congruent-sum_first b g in
    congruent_through (congruent_through (congruent_same w a (a + 0) (omega arith)) (congruent_turned there))
    (congruent_through (congruent_through (congruent_same w (a + (b + k)) (b + (a + k)) (omega arith)) back) (congruent_same w (b + 0) b (omega arith)))

-- what makes nothing with a number
pub opposite : (w k : ℕ) → AreCongruent w ((2 ^ w - k % 2 ^ w) + k) 0
opposite w k =
    let m = 2 ^ w in
    let q = k / m in
    let r = k % m in
    let split : q * m + r ≡ k = div-add-mod' k m in
    let small : r < m = mod-lt k (pow_pos w) in
    let whole : (m - r) + k ≡ (q + 1) * m = omega arith in
    congruent_through (congruent_same w ((m - r) + k) ((q + 1) * m) whole) (congruent-multiple w (q + 1))

-- a number that both have more
pub congruent_less : {w a b : ℕ} (k : ℕ) → AreCongruent w (a + k) (b + k) → AreCongruent w a b
congruent_less {w} {a} {b} k h =
    let o = 2 ^ w - k % 2 ^ w in
    let whole : (x : ℕ) → AreCongruent w (x + (o + k)) x = λ (x : ℕ).
    congruent_through (congruent-sum_first x (opposite w k)) (congruent_same w (x + 0) x (omega arith)) in
    let same : AreCongruent w (a + k + o) (b + k + o) = congruent-sum_second o h in
    let first : a + (o + k) ≡ a + k + o = omega arith in
    let second : b + k + o ≡ b + (o + k) = omega arith in
    congruent_through (congruent_turned (whole a))
    (congruent_through (congruent_same w (a + (o + k)) (a + k + o) first) (congruent_through same
    (congruent_through (congruent_same w (b + k + o) (b + (o + k)) second) (whole b))))

-- numbers that are multiplied, and cut before it or after
pub sum_cut : (w c x y : ℕ) → AreCongruent w (c * x + c * y) (c * ((x + y) % 2 ^ w))
sum_cut w c x y =
    let form : c * x + c * y ≡ c * (x + y) = omega arith in
    congruent_through (congruent_same w _ _ form) (congruent-product_first c (congruent_turned (congruent-cut w (x + y))))

pub product_cut : (w c x y : ℕ) → AreCongruent w (c * (x * y)) (c * ((x * y) % 2 ^ w))
product_cut w c x y = congruent-product_first c (congruent_turned (congruent-cut w (x * y)))

pub shift_cut : (w c p x : ℕ) → w ≤ 128 → AreCongruent w ((c * p) % 2 ^ 128 * x) (c * ((x * p) % 2 ^ w))
shift_cut w c p x few =
    let form : c * p * x ≡ c * (x * p) = omega arith in
    congruent_through (congruent-product_second x (congruent_narrower w few (congruent-cut 128 (c * p))))
    (congruent_through (congruent_same w _ _ form) (product_cut w c x p))

-- a coefficient and the one that makes nothing with it
pub less_than_none : (w n c y : ℕ) → w ≤ 128 → (n + c) % 2 ^ 128 ≡ 0 → AreCongruent w (n * y + c * y) 0
less_than_none w n c y few e =
    let none : AreCongruent 128 (n + c) 0 = record { cut = e ∙ sym (zero-mod (2 ^ 128)) } in
    let form : n * y + c * y ≡ (n + c) * y = omega arith in
    let zero : 0 * y ≡ 0 = omega arith in
    congruent_through (congruent_same w _ _ form) (congruent_through (congruent-product_second y (congruent_narrower w few none)) (congruent_same w _ _ zero))

pub difference_cut : (w n c x y : ℕ) → w ≤ 128 → (n + c) % 2 ^ 128 ≡ 0 → y ≤ 2 ^ w → AreCongruent w (c * x + n * y) (c * ((x + (2 ^ w - y)) % 2 ^ w))
difference_cut w n c x y few e below =
    let m = 2 ^ w in
    let rest : m - y + y ≡ m = omega arith in
    let form : c * (m - y) + c * y ≡ c * m = spread c (m - y) y ∙ ap (λ k. c * k) rest in
    let other : AreCongruent w (c * (m - y) + c * y) 0 = congruent_through (congruent_same w _ _ form) (congruent-multiple w c) in
    let same : AreCongruent w (n * y) (c * (m - y)) = congruent_inverses (c * y) (less_than_none w n c y few e) other in
    congruent_through (congruent-sum_first (c * x) same) (sum_cut w c x (m - y))
  where
    spread : (c d y : ℕ) → c * d + c * y ≡ c * (d + y)
    spread c d y = omega arith

pub opposite_cut : (w n c y : ℕ) → w ≤ 128 → (n + c) % 2 ^ 128 ≡ 0 → y ≤ 2 ^ w → AreCongruent w (n * y) (c * ((0 + (2 ^ w - y)) % 2 ^ w))
opposite_cut w n c y few e below =
    let form : n * y ≡ c * 0 + n * y = omega arith in
    congruent_through (congruent_same w _ _ form) (difference_cut w n c 0 y few e below)

-- two words whose difference is nothing
pub same_of_nothing : (w n x y s t : ℕ) → w ≤ 128 → (n + 1) % 2 ^ 128 ≡ 0 → AreCongruent w s (0 + 1 * x) → AreCongruent w t (s + n * y) → AreCongruent w t 0 → x < 2 ^ w → y < 2 ^ w → x ≡ y
same_of_nothing w n x y s t few e first second none below_first below_second =
    let plain : 0 + 1 * x ≡ x = omega arith in
    let there : AreCongruent w (x + n * y) t = congruent_turned (congruent_through second (congruent-sum_second (n * y) (congruent_through first (congruent_same w _ _ plain)))) in
    let form : y + n * y ≡ n * y + 1 * y = omega arith in
    let other : AreCongruent w (y + n * y) 0 = congruent_through (congruent_same w _ _ form) (less_than_none w n 1 y few e) in
    let same : AreCongruent w x y = congruent_inverses (n * y) (congruent_through there none) other in
    sym (mod-eq_of_lt below_first) ∙ same.cut ∙ mod-eq_of_lt below_second
