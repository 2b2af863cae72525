-- Words that are moved by a power of two places.
use Rattle.std.proofs.Common.{◌≡◌, ℕ, ◌+◌, ◌-◌, ◌*◌, ◌/◌, ◌%◌, ◌^◌, ◌<◌, ◌≤◌, Bool, true, false, cond, List, ◌++◌, length, take, drop, replicate, get_or, sym, ap, ◌∙◌, refl, arith, subst, min, length-append, inl, inr}
use Rattle.std.proofs.Math.Nat.{mul-le-mul_left, mod-eq_of_lt, pow-le-pow_right}
use Rattle.std.proofs.lemmas.Bool.{cases_lt}
use Rattle.std.proofs.lemmas.Nat.{pow-add, pow_pos, shr-shr, shr_le, div-mul-add, mul-mod_first}
use Rattle.std.proofs.lemmas.List.{length-take-le, length-drop, length-replicate, take-append-drop, take_all}
use Rattle.std.proofs.lemmas.List.Elements.{All-append, All-take, All-drop}
use Rattle.bit_gates.specs.Circuit.{Circuit, size, value}
use Rattle.bit_gates.specs.Shifts.{shifted_up, shifted_down}
use Rattle.bit_gates.specs.Made.{IsConstant, IsWordMade, AreIn, number, bit}
use Rattle.bit_gates.proofs.MadeLaws.{extends_both, extends_itself}
use Rattle.bit_gates.proofs.NumberLaws.{number_append, number_below, number_replicate, cut_is, in_copies, in_at, number_zero, number_nil}
use Rattle.bit_gates.proofs.WordLaws.{number_take_next, number_take_below}

pub number_split : (v : ℕ → Bool) (xs : List ℕ) (k : ℕ) → k ≤ length xs → number v (take k xs) + 2 ^ k * number v (drop k xs) ≡ number v xs
number_split v xs k l =
    let n : length (take k xs) ≡ k = length-take-le k xs l in
    ap (λ (j : ℕ). number v (take k xs) + 2 ^ j * number v (drop k xs)) (sym n) ∙ sym (number_append v (take k xs) (drop k xs)) ∙ ap (number v) (take-append-drop k xs)

pub number_take : (v : ℕ → Bool) (xs : List ℕ) (k : ℕ) → k ≤ length xs → number v (take k xs) ≡ number v xs % 2 ^ k
number_take v xs k l = cut_is _ _ _ _ (number_split v xs k l) (number_take_below v xs k l)

pub number_drop : (v : ℕ → Bool) (xs : List ℕ) (k : ℕ) → k ≤ length xs → number v (drop k xs) ≡ number v xs / 2 ^ k
number_drop v xs k l =
    let e : number v (drop k xs) * 2 ^ k + number v (take k xs) ≡ number v xs = omega (arith, number_split v xs k l) in
    sym (div-mul-add (number v (drop k xs)) (2 ^ k) (number v (take k xs)) (number_take_below v xs k l)) ∙ ap (λ (j : ℕ). j / 2 ^ k) e

scaled_below : (a b r : ℕ) → r < b → 0 < a → a * r < b * a
scaled_below a b r l p =
    let m : a * (r + 1) ≤ a * b = mul-le-mul_left a (omega arith) in
    omega arith

up_split : (a b x q r : ℕ) → 0 < a → r < b → r + b * q ≡ x → a * r ≡ x * a % (b * a)
up_split a b x q r p l e =
    let t : a * (r + b * q) ≡ a * x = ap (λ (k : ℕ). a * k) e in
    let f : a * r + b * a * q ≡ x * a = omega arith in
    cut_is (a * r) (b * a) q (x * a) f (scaled_below a b r l p)

powers : (n p : ℕ) → p ≤ n → 2 ^ n ≡ 2 ^ (n - p) * 2 ^ p
powers n p l =
    let e : n ≡ n - p + p = omega arith in
    ap (λ (k : ℕ). 2 ^ k) e ∙ pow-add 2 (n - p) p

-- zeros below, and the lower part of the word
pub number_moved_up : (v : ℕ → Bool) (xs : List ℕ) (p fill : ℕ) → p ≤ length xs → v fill ≡ false → number v (replicate p fill ++ take (length xs - p) xs) ≡ shifted_up (length xs) (number v xs) p
number_moved_up v xs p fill l f =
    let n = length xs in
    let k : n - p ≤ n = omega arith in
    let z : number v (replicate p fill) + bit (v fill) ≡ bit (v fill) * 2 ^ p = number_replicate v p fill in
    let b : bit (v fill) ≡ 0 = ap bit f in
    let none : number v (replicate p fill) ≡ 0 = number_zero _ _ _ b z in
    let a : number v (replicate p fill ++ take (n - p) xs) ≡ number v (replicate p fill) + 2 ^ length (replicate p fill) * number v (take (n - p) xs) = number_append v (replicate p fill) (take (n - p) xs) in
    let w : length (replicate p fill) ≡ p = length-replicate p fill in
    let a' : number v (replicate p fill ++ take (n - p) xs) ≡ 2 ^ p * number v (take (n - p) xs) = a ∙ (rw (none, w) (omega arith)) in
    a' ∙ up_split (2 ^ p) (2 ^ (n - p)) (number v xs) (number v (drop (n - p) xs)) (number v (take (n - p) xs)) (pow_pos p) (number_take_below v xs (n - p) k) (number_split v xs (n - p) k)
    ∙ ap (λ (m : ℕ). number v xs * 2 ^ p % m) (sym (powers n p l))

quotient_below : (a b q : ℕ) → q * a < b * a → q < b
quotient_below a b q l = elim (cases_lt q b) [
  | inl h ↦ h
  | inr h ↦ (let m : a * b ≤ a * q = mul-le-mul_left a h in absurd (omega arith))
]

rest_is : (a b u x q r : ℕ) → u + q + 1 ≡ b → r < a → q * a + r ≡ x → b * a - 1 - x ≡ u * a + (a - 1 - r)
rest_is a b u x q r e l is =
    let t : (u + q + 1) * a ≡ b * a = ap (λ (k : ℕ). k * a) e in
    omega arith

ones_sum : (a b q s u : ℕ) → s + 1 ≡ a → u + q + 1 ≡ b → q + b * s ≡ b * a - 1 - u
ones_sum a b q s u one e =
    let t : b * (s + 1) ≡ b * a = ap (λ (k : ℕ). b * k) one in
    omega arith

down_ones : (a b x q r s : ℕ) → r < a → q * a + r ≡ x → x < b * a → s + 1 ≡ a → q + b * s ≡ b * a - 1 - (b * a - 1 - x) / a
down_ones a b x q r s l e below one =
    let qb : q < b = quotient_below a b q (omega arith) in
    let h : b - 1 - q + q + 1 ≡ b = omega arith in
    let rest : b * a - 1 - x ≡ (b - 1 - q) * a + (a - 1 - r) = rest_is a b (b - 1 - q) x q r h l e in
    let d : (b * a - 1 - x) / a ≡ b - 1 - q = ap (λ (k : ℕ). k / a) rest ∙ div-mul-add (b - 1 - q) a (a - 1 - r) (omega arith) in
    rw d (ones_sum a b q s (b - 1 - q) one h)

moved_down : (v : ℕ → Bool) (xs : List ℕ) (p fill : ℕ) (f : Bool) → p ≤ length xs → v fill ≡ f → number v (drop p xs ++ replicate p fill) ≡ shifted_down f (length xs) (number v xs) p
moved_down v xs p fill true l e =
    let n = length xs in
    let w : length (drop p xs) ≡ n - p = length-drop p xs in
    let b : bit (v fill) ≡ 1 = ap bit e in
    let z : number v (replicate p fill) + bit (v fill) ≡ bit (v fill) * 2 ^ p = number_replicate v p fill in
    let z' : number v (replicate p fill) + 1 ≡ 1 * 2 ^ p = subst (λ (k : ℕ). number v (replicate p fill) + k ≡ k * 2 ^ p) b z in
    let split : number v (drop p xs) * 2 ^ p + number v (take p xs) ≡ number v xs = omega (arith, number_split v xs p l) in
    let below : number v xs < 2 ^ (n - p) * 2 ^ p = subst (λ (k : ℕ). number v xs < k) (powers n p l) (number_below v xs) in
    number_append v (drop p xs) (replicate p fill)
    ∙ ap (λ (k : ℕ). number v (drop p xs) + 2 ^ k * number v (replicate p fill)) w
    ∙ down_ones (2 ^ p) (2 ^ (n - p)) (number v xs) (number v (drop p xs)) (number v (take p xs)) (number v (replicate p fill)) (number_take_below v xs p l) split below (omega arith)
    ∙ ap (λ (k : ℕ). k - 1 - (k - 1 - number v xs) / 2 ^ p) (sym (powers n p l))
moved_down v xs p fill false l e =
    let b : bit (v fill) ≡ 0 = ap bit e in
    let z : number v (replicate p fill) + bit (v fill) ≡ bit (v fill) * 2 ^ p = number_replicate v p fill in
    let none : number v (replicate p fill) ≡ 0 = number_zero _ _ _ b z in
    number_append v (drop p xs) (replicate p fill)
    ∙ (rw none (omega arith))
    ∙ number_drop v xs p l

-- ones or zeros above, and the upper part of the word
pub number_moved_down : (v : ℕ → Bool) (xs : List ℕ) (p fill : ℕ) → p ≤ length xs → number v (drop p xs ++ replicate p fill) ≡ shifted_down (v fill) (length xs) (number v xs) p
number_moved_down v xs p fill l = moved_down v xs p fill (v fill) l refl

up_product : (n a b : ℕ) → n * 2 ^ a * 2 ^ b ≡ n * 2 ^ (a + b)
up_product n a b =
    let p : 2 ^ (a + b) ≡ 2 ^ a * 2 ^ b = pow-add 2 a b in
    rw p (omega arith)

-- two shifts, one after the other
pub up_both : (width n a b : ℕ) (t : Bool) → cond t (shifted_up width (shifted_up width n a) b) (shifted_up width n a) ≡ shifted_up width n (a + b * bit t)
up_both width n a b true =
    let e : a + b ≡ a + b * 1 = omega arith in
    mul-mod_first (n * 2 ^ a) (2 ^ b) (2 ^ width)
    ∙ ap (λ (k : ℕ). k % 2 ^ width) (up_product n a b)
    ∙ ap (λ (k : ℕ). n * 2 ^ k % 2 ^ width) e
up_both width n a b false =
    let e : a ≡ a + b * 0 = omega arith in
    ap (λ (k : ℕ). n * 2 ^ k % 2 ^ width) e

back : (m y : ℕ) → y < m → m - 1 - (m - 1 - y) ≡ y
back m y l = omega arith

down_twice : (f : Bool) (width n a b : ℕ) → n < 2 ^ width → shifted_down f width (shifted_down f width n a) b ≡ shifted_down f width n (a + b)
down_twice true width n a b l =
    let c = 2 ^ width - 1 - n in
    let low : c / 2 ^ a < 2 ^ width = omega (arith, shr_le c a) in
    rw (back (2 ^ width) (c / 2 ^ a) low, shr-shr c a b) refl
down_twice false width n a b l = shr-shr n a b

pub down_both : (f : Bool) (width n a b : ℕ) (t : Bool) → n < 2 ^ width → cond t (shifted_down f width (shifted_down f width n a) b) (shifted_down f width n a) ≡ shifted_down f width n (a + b * bit t)
down_both f width n a b true l =
    let e : a + b ≡ a + b * 1 = omega arith in
    down_twice f width n a b l ∙ ap (shifted_down f width n) e
down_both f width n a b false l =
    let e : a ≡ a + b * 0 = omega arith in
    ap (shifted_down f width n) e

-- the bits of an amount that count
pub amount_is : (v : ℕ → Bool) (by : List ℕ) (k steps n : ℕ) → n ≡ 2 ^ steps → k ≡ min steps (length by) → number v (take k by) ≡ number v by % n
amount_is v by k steps n e m = elim (cases_lt steps (length by)) [
  | inl h ↦
      (let s : k ≡ steps = omega arith in
      rw (e, s) (number_take v by steps (omega arith)))
  | inr h ↦
      (let s : k ≡ length by = omega arith in
      let p : 2 ^ length by ≤ 2 ^ steps = pow-le-pow_right {n = 2} (omega arith) h in
      let low : number v by < n = omega (arith, number_below v by) in
      let whole : take k by ≡ by = take_all k by (omega arith) in
      ap (number v) whole ∙ sym (mod-eq_of_lt low))
]

pub in_moved_up : (c : Circuit) (xs : List ℕ) (p n fill : ℕ) → fill < 2 * size c → AreIn c xs → AreIn c (replicate p fill ++ take n xs)
in_moved_up c xs p n fill f h = All-append (λ literal. literal < 2 * size c) (replicate p fill) (take n xs) (in_copies c p fill f) (All-take (λ literal. literal < 2 * size c) n xs h)

pub in_moved_down : (c : Circuit) (xs : List ℕ) (p fill : ℕ) → fill < 2 * size c → AreIn c xs → AreIn c (drop p xs ++ replicate p fill)
in_moved_down c xs p fill f h = All-append (λ literal. literal < 2 * size c) (drop p xs) (replicate p fill) (All-drop (λ literal. literal < 2 * size c) p xs h) (in_copies c p fill f)

pub length_moved_up : (xs : List ℕ) (p fill : ℕ) → p ≤ length xs → length (replicate p fill ++ take (length xs - p) xs) ≡ length xs
length_moved_up xs p fill l =
    let k : length xs - p ≤ length xs = omega arith in
    omega (arith, length-append (replicate p fill) (take (length xs - p) xs), length-replicate p fill, length-take-le (length xs - p) xs k)

pub length_moved_down : (xs : List ℕ) (p fill : ℕ) → p ≤ length xs → length (drop p xs ++ replicate p fill) ≡ length xs
length_moved_down xs p fill l = omega (arith, length-append (drop p xs) (replicate p fill), length-replicate p fill, length-drop p xs)

-- no bits of the amount yet
pub up_begin : (a : Circuit) (xs by : List ℕ) → AreIn a xs → IsWordMade a a xs (length xs) (λ v. shifted_up (length xs) (number v xs) (number v (take 0 by)))
up_begin a xs by h = record {
  extends = extends_itself a;
  inside = h;
  width_is = refl;
  number_is = λ bits.
      let one : number (value a bits) xs * 2 ^ 0 ≡ number (value a bits) xs = omega arith in
      rw number_nil (sym (ap (λ (k : ℕ). k % 2 ^ length xs) one ∙ mod-eq_of_lt (number_below (value a bits) xs)));
}

down_none : (f : Bool) (width n : ℕ) → n < 2 ^ width → n ≡ shifted_down f width n 0
down_none true width n l =
    let e : (2 ^ width - 1 - n) / 2 ^ 0 ≡ 2 ^ width - 1 - n = omega arith in
    rw e (sym (back (2 ^ width) n l))
down_none false width n l = omega arith

pub down_begin : (a : Circuit) (xs by : List ℕ) (fill : ℕ) → AreIn a xs → IsWordMade a a xs (length xs) (λ v. shifted_down (v fill) (length xs) (number v xs) (number v (take 0 by)))
down_begin a xs by fill h = record {
  extends = extends_itself a;
  inside = h;
  width_is = refl;
  number_is = λ bits. rw number_nil (down_none (value a bits fill) (length xs) (number (value a bits) xs) (number_below (value a bits) xs));
}

-- one more bit of the amount
pub up_more : (a b c : Circuit) (xs by ws ws' ms ls : List ℕ) (n k d x fill : ℕ) → d ≡ 2 ^ k → d ≤ n → k < length by → x ≡ get_or by k 0 → AreIn a by → IsConstant a fill false
    → ws' ≡ ws → ms ≡ replicate d fill ++ take (length ws - d) ws
    → IsWordMade a b ws n (λ v. shifted_up n (number v xs) (number v (take k by)))
    → IsWordMade b c ls (length ms) (λ v. cond (v x) (number v ms) (number v ws'))
    → IsWordMade a c ls n (λ v. shifted_up n (number v xs) (number v (take (k + 1) by)))
up_more a b c xs by ws ws' ms ls n k d x fill ed ld lk ex hb off same moved w m =
    let ln : length ws ≡ n = w.width_is in
    let lm : length ms ≡ n = ap length moved ∙ length_moved_up ws d fill (omega arith) ∙ ln in
    record {
      extends = extends_both a b c w.extends m.extends;
      inside = m.inside;
      width_is = m.width_is ∙ lm;
      number_is = λ bits.
          let kx : value b bits x ≡ value a bits x = w.extends.kept bits x (in_at a by k x lk ex hb) in
          let kf : value b bits fill ≡ false = w.extends.kept bits fill off.inside ∙ off.value_is bits in
          let now : number (value b bits) ws ≡ shifted_up n (number (value a bits) xs) (number (value a bits) (take k by)) = w.number_is bits in
          let up : number (value b bits) ms ≡ shifted_up n (number (value b bits) ws) d =
          ap (number (value b bits)) moved ∙ number_moved_up (value b bits) ws d fill (omega arith) kf ∙ ap (λ (j : ℕ). shifted_up j (number (value b bits) ws) d) ln in
          m.number_is bits
          ∙ (rw (kx, up, same, now) (up_both n (number (value a bits) xs) (number (value a bits) (take k by)) d (value a bits x)))
          ∙ ap (λ (j : ℕ). shifted_up n (number (value a bits) xs) (number (value a bits) (take k by) + j * bit (value a bits x))) ed
          ∙ ap (shifted_up n (number (value a bits) xs)) (sym (number_take_next (value a bits) by k x lk ex));
    }

pub down_more : (a b c : Circuit) (xs by ws ws' ms ls : List ℕ) (n k d x fill : ℕ) → n ≡ length xs → d ≡ 2 ^ k → d ≤ n → k < length by → x ≡ get_or by k 0 → AreIn a by → fill < 2 * size a
    → ws' ≡ ws → ms ≡ drop d ws ++ replicate d fill
    → IsWordMade a b ws n (λ v. shifted_down (v fill) n (number v xs) (number v (take k by)))
    → IsWordMade b c ls (length ms) (λ v. cond (v x) (number v ms) (number v ws'))
    → IsWordMade a c ls n (λ v. shifted_down (v fill) n (number v xs) (number v (take (k + 1) by)))
down_more a b c xs by ws ws' ms ls n k d x fill en ed ld lk ex hb lf same moved w m =
    let ln : length ws ≡ n = w.width_is in
    let lm : length ms ≡ n = ap length moved ∙ length_moved_down ws d fill (omega arith) ∙ ln in
    record {
      extends = extends_both a b c w.extends m.extends;
      inside = m.inside;
      width_is = m.width_is ∙ lm;
      number_is = λ bits.
          let kx : value b bits x ≡ value a bits x = w.extends.kept bits x (in_at a by k x lk ex hb) in
          let kf : value b bits fill ≡ value a bits fill = w.extends.kept bits fill lf in
          let now : number (value b bits) ws ≡ shifted_down (value a bits fill) n (number (value a bits) xs) (number (value a bits) (take k by)) = w.number_is bits in
          let down : number (value b bits) ms ≡ shifted_down (value a bits fill) n (number (value b bits) ws) d =
          ap (number (value b bits)) moved ∙ number_moved_down (value b bits) ws d fill (omega arith)
          ∙ ap (λ (j : ℕ). shifted_down (value b bits fill) j (number (value b bits) ws) d) ln
          ∙ ap (λ (f : Bool). shifted_down f n (number (value b bits) ws) d) kf in
          let low : number (value a bits) xs < 2 ^ n = subst (λ (j : ℕ). number (value a bits) xs < 2 ^ j) (sym en) (number_below (value a bits) xs) in
          m.number_is bits
          ∙ (rw (kx, down, same, now) (down_both (value a bits fill) n (number (value a bits) xs) (number (value a bits) (take k by)) d (value a bits x) low))
          ∙ ap (λ (j : ℕ). shifted_down (value a bits fill) n (number (value a bits) xs) (number (value a bits) (take k by) + j * bit (value a bits x))) ed
          ∙ ap (shifted_down (value a bits fill) n (number (value a bits) xs)) (sym (number_take_next (value a bits) by k x lk ex));
    }

pub step_fits : (k m steps l n d : ℕ) → d ≡ 2 ^ k → k < m → m ≡ min steps l → n ≡ 2 ^ steps → d ≤ n
step_fits k m steps l n d ed lk em en =
    let p : 2 ^ k ≤ 2 ^ steps = pow-le-pow_right {n = 2} (omega arith) (omega arith) in
    omega arith
