-- Rows of a multiplier and steps of a divider.
use Rattle.std.proofs.Common.{◌≡◌, ℕ, ◌+◌, ◌-◌, ◌*◌, ◌/◌, ◌%◌, ◌^◌, ◌<◌, ◌≤◌, Bool, true, false, ◌||◌, cond, List, [], ◌∷◌, ◌++◌, length, take, drop, get_or, sym, ap, ◌∙◌, refl, arith, subst, length-append}
use Rattle.std.proofs.lemmas.Nat.{mul-mod_first, pow_pos, div-add-mod'}
use Rattle.std.proofs.lemmas.Grind.{pow_more}
use Rattle.std.proofs.Math.Nat.{mul-add-mod_self_right}
use Rattle.std.proofs.lemmas.List.{length-take-le, length-drop, take_all}
use Rattle.std.proofs.lemmas.List.Elements.{All-append, All-take, All-cons}
use Rattle.bit_gates.specs.Circuit.{Circuit, size, value}
use Rattle.bit_gates.specs.Made.{IsConstant, IsMade, IsWordMade, IsSum, IsDifference, IsDivision, IsNextDivision, AreIn, number, bit}
use Rattle.bit_gates.proofs.MadeLaws.{extends_both, extends_itself}
use Rattle.bit_gates.proofs.NumberLaws.{number_nil, number_cons, number_append, number_below, number_kept, are_in_kept, cut_is, in_same, in_at, bit_below}
use Rattle.bit_gates.proofs.WordLaws.{in_nil, number_take_next}
use Rattle.bit_gates.proofs.ShiftLaws.{number_split, number_take}

row_sum : (p r d s a row carry z : ℕ) → z ≡ 0 → r + 2 * d ≡ row → s + p * carry ≡ d + a + z → r + 2 * s + p * 2 * carry ≡ row + 2 * a
row_sum p r d s a row carry z none e f = omega arith

-- a row, and twice what is above it
pub row_made : (a b c : Circuit) (xs above row sums : List ℕ) (test falsity next : ℕ) → length xs ≡ length above + 1 → AreIn a above
    → IsWordMade a b row (length xs) (λ v. cond (v test) (number v xs) 0) → IsConstant b falsity false → IsSum b c (drop 1 row) above falsity sums next
    → IsWordMade a c (take 1 row ++ sums) (length xs) (λ v. (cond (v test) (number v xs) 0 + 2 * number v above) % 2 ^ length xs)
row_made a b c xs above row sums test falsity next widths inside w off s =
    let one : 1 ≤ length row = omega (arith, w.width_is) in
    let first : length (take 1 row) ≡ 1 = length-take-le 1 row one in
    let others : length (drop 1 row) ≡ length above = omega (arith, length-drop 1 row, w.width_is) in
    let total : length (take 1 row ++ sums) ≡ length xs = omega (arith, length-append (take 1 row) sums, s.width_is) in
    let low : AreIn b (take 1 row) = All-take (λ literal. literal < 2 * size b) 1 row w.inside in
    record {
      extends = extends_both a b c w.extends s.extends;
      inside = All-append (λ literal. literal < 2 * size c) (take 1 row) sums (are_in_kept b c (take 1 row) s.extends low) s.inside;
      width_is = total;
      number_is = λ bits.
          let z : bit (value b bits falsity) ≡ 0 = ap bit (off.value_is bits) in
          let up : number (value b bits) above ≡ number (value a bits) above = number_kept a b bits above w.extends inside in
          let kept : number (value c bits) (take 1 row) ≡ number (value b bits) (take 1 row) = number_kept b c bits (take 1 row) s.extends low in
          let split : number (value b bits) (take 1 row) + 2 ^ 1 * number (value b bits) (drop 1 row) ≡ number (value b bits) row = number_split (value b bits) row 1 one in
          let sum : number (value c bits) sums + 2 ^ length above * bit (value c bits next) ≡ number (value b bits) (drop 1 row) + number (value a bits) above + bit (value b bits falsity) =
          subst (λ (k : ℕ). number (value c bits) sums + 2 ^ k * bit (value c bits next) ≡ number (value b bits) (drop 1 row) + number (value a bits) above + bit (value b bits falsity)) others
          (s.sum_is bits ∙ ap (λ (k : ℕ). number (value b bits) (drop 1 row) + k + bit (value b bits falsity)) up) in
          let joined : number (value c bits) (take 1 row ++ sums) ≡ number (value b bits) (take 1 row) + 2 * number (value c bits) sums =
          number_append (value c bits) (take 1 row) sums ∙ (rw (first, kept) (omega arith)) in
          let power : 2 ^ length xs ≡ 2 ^ length above * 2 = ap (λ (k : ℕ). 2 ^ k) widths ∙ pow_more 2 (length above) in
          let below : number (value c bits) (take 1 row ++ sums) < 2 ^ length xs = subst (λ (k : ℕ). number (value c bits) (take 1 row ++ sums) < 2 ^ k) total (number_below (value c bits) (take 1 row ++ sums)) in
          let split' : number (value b bits) (take 1 row) + 2 * number (value b bits) (drop 1 row) ≡ cond (value a bits test) (number (value a bits) xs) 0 = omega (arith, split, w.number_is bits) in
          let all : number (value c bits) (take 1 row ++ sums) + 2 ^ length xs * bit (value c bits next) ≡ cond (value a bits test) (number (value a bits) xs) 0 + 2 * number (value a bits) above =
          rw (joined, power) (row_sum (2 ^ length above) _ _ _ _ _ _ _ z split' sum) in
          cut_is _ _ _ _ all below;
    }

-- no bits to multiply by
pub product_none : (a : Circuit) (xs word : List ℕ) → IsWordMade a a word (length xs) (λ v. 0) → IsWordMade a a word (length xs) (λ v. number v xs * number v [] % 2 ^ length xs)
product_none a xs word w = record {
  extends = w.extends;
  inside = w.inside;
  width_is = w.width_is;
  number_is = λ bits.
      let z : number (value a bits) xs * 0 ≡ 0 = omega arith in
      w.number_is bits ∙ (rw (number_nil (value a bits), z) (cut_is 0 (2 ^ length xs) 0 0 (omega arith) (pow_pos (length xs))));
}

pub product_empty : (a : Circuit) (xs ys word : List ℕ) → length xs ≡ 0 → word ≡ [] → IsWordMade a a word (length xs) (λ v. number v xs * number v ys % 2 ^ length xs)
product_empty a xs ys word none is = subst (λ (k : List ℕ). IsWordMade a a k (length xs) (λ v. number v xs * number v ys % 2 ^ length xs)) (sym is) (record {
  extends = extends_itself a;
  inside = in_nil a;
  width_is = sym none;
  number_is = λ bits. number_nil (value a bits) ∙ (rw none (cut_is 0 (2 ^ 0) (number (value a bits) xs * number (value a bits) ys) (number (value a bits) xs * number (value a bits) ys) (omega arith) (omega arith)));
})

product_step : (m x y q r : ℕ) (b : Bool) → q * m + r ≡ x * y → (cond b x 0 + 2 * r) % (m * 2) ≡ x * (bit b + 2 * y) % (m * 2)
product_step m x y q r true e =
    let t : x * (1 + 2 * y) ≡ q * (m * 2) + (x + 2 * r) = omega arith in
    rw t (sym (mul-add-mod_self_right q (m * 2) (x + 2 * r)))
product_step m x y q r false e =
    let t : x * (0 + 2 * y) ≡ q * (m * 2) + (0 + 2 * r) = omega arith in
    rw t (sym (mul-add-mod_self_right q (m * 2) (0 + 2 * r)))

-- one more bit to multiply by
pub product_more : (a b c : Circuit) (xs rest above word : List ℕ) (y : ℕ) → 1 ≤ length xs → AreIn a xs → y < 2 * size a
    → IsWordMade a b above (length (take (length xs - 1) xs)) (λ v. number v (take (length xs - 1) xs) * number v rest % 2 ^ length (take (length xs - 1) xs))
    → IsWordMade b c word (length xs) (λ v. (cond (v y) (number v xs) 0 + 2 * number v above) % 2 ^ length xs)
    → IsWordMade a c word (length xs) (λ v. number v xs * number v (y ∷ rest) % 2 ^ length xs)
product_more a b c xs rest above word y some inside ly u w =
    let m = length xs - 1 in
    let few : m ≤ length xs = omega arith in
    let width : length (take m xs) ≡ m = length-take-le m xs few in
    let next : length xs ≡ m + 1 = omega arith in
    record {
      extends = extends_both a b c u.extends w.extends;
      inside = w.inside;
      width_is = w.width_is;
      number_is = λ bits.
          let x = number (value a bits) xs in
          let r = number (value a bits) rest in
          let low : number (value a bits) (take m xs) ≡ x % 2 ^ m = number_take (value a bits) xs m few in
          let up : number (value b bits) above ≡ x * r % 2 ^ m =
          u.number_is bits ∙ (rw (width, low) (mul-mod_first x r (2 ^ m))) in
          let power : 2 ^ length xs ≡ 2 ^ m * 2 = ap (λ (k : ℕ). 2 ^ k) next ∙ pow_more 2 m in
          let ky : value b bits y ≡ value a bits y = u.extends.kept bits y ly in
          let kx : number (value b bits) xs ≡ x = number_kept a b bits xs u.extends inside in
          w.number_is bits
          ∙ (rw (ky, kx, up, power, number_cons (value a bits) y rest)
          (product_step (2 ^ m) x r (x * r / 2 ^ m) (x * r % 2 ^ m) (value a bits y) (div-add-mod' (x * r) (2 ^ m))));
    }

-- the divisor is taken away where it fits
pub division_step : (p y d l r x q : ℕ) (top carry : Bool) → l + p * bit top ≡ x + 2 * r → d + p * bit carry + y ≡ l + p → d < p → y < p → r < y → x < 2
    → ((bit (top || carry) + 2 * q) * y + cond (top || carry) d l ≡ 2 * (q * y + r) + x) × (cond (top || carry) d l < y)
division_step p y d l r x q true true e f ld ly lr lx = absurd (omega arith)
division_step p y d l r x q true false e f ld ly lr lx = (omega arith, omega arith)
division_step p y d l r x q false true e f ld ly lr lx = (omega arith, omega arith)
division_step p y d l r x q false false e f ld ly lr lx = (omega arith, omega arith)

-- one more step of a division
pub next_division : (a b c d : Circuit) (x top fits carry : ℕ) (above rest ys low differences remainder quotient : List ℕ) → 1 ≤ length ys → length rest ≡ length ys → x < 2 * size a → AreIn a above → AreIn a rest → AreIn a ys
    → top ≡ get_or rest (length ys - 1) 0 → low ≡ x ∷ take (length ys - 1) rest → quotient ≡ fits ∷ above
    → IsDifference a b low ys differences carry → IsMade b c fits (λ v. v top || v carry)
    → IsWordMade c d remainder (length differences) (λ v. cond (v fits) (number v differences) (number v low))
    → IsNextDivision a d x above rest ys quotient remainder
next_division a b c d x top fits carry above rest ys low differences remainder quotient some widths lx ha hr hy et el eq h f m =
    let n = length ys - 1 in
    let whole : length ys ≡ n + 1 = omega arith in
    let few : n < length rest = omega arith in
    let width_low : length low ≡ length ys = ap length el ∙ omega (arith, length-take-le n rest (omega arith)) in
    let lt : top < 2 * size a = in_at a rest n top few et hr in
    let hl : AreIn a low = in_same a low (x ∷ take n rest) el (All-cons (λ literal. literal < 2 * size a) x (take n rest) lx (All-take (λ literal. literal < 2 * size a) n rest hr)) in
    let ab = h.extends in
    let ac = extends_both a b c h.extends f.extends in
    let ad = extends_both a c d ac m.extends in
    let numbers : (bits : ℕ → Bool) → number (value a bits) rest < number (value a bits) ys
    → ((bit (value a bits top || value b bits carry) + 2 * number (value a bits) above) * number (value a bits) ys + cond (value a bits top || value b bits carry) (number (value b bits) differences) (number (value a bits) low) ≡ 2 * (number (value a bits) above * number (value a bits) ys + number (value a bits) rest) + bit (value a bits x))
    × (cond (value a bits top || value b bits carry) (number (value b bits) differences) (number (value a bits) low) < number (value a bits) ys) =
    λ bits lower.
    let pw : 2 ^ length low ≡ 2 ^ length ys = ap (λ (k : ℕ). 2 ^ k) width_low in
    let pn : 2 ^ length ys ≡ 2 ^ n * 2 = ap (λ (k : ℕ). 2 ^ k) whole ∙ pow_more 2 n in
    let nl : number (value a bits) low ≡ bit (value a bits x) + 2 * number (value a bits) (take n rest) = ap (number (value a bits)) el ∙ number_cons (value a bits) x (take n rest) in
    let all : take (n + 1) rest ≡ rest = take_all (n + 1) rest (omega arith) in
    let nr : number (value a bits) rest ≡ number (value a bits) (take n rest) + 2 ^ n * bit (value a bits top) = ap (number (value a bits)) (sym all) ∙ number_take_next (value a bits) rest n top few et in
    let one : number (value a bits) low + 2 ^ length ys * bit (value a bits top) ≡ bit (value a bits x) + 2 * number (value a bits) rest = rw (nl, nr, pn) (omega arith) in
    let two : number (value b bits) differences + 2 ^ length ys * bit (value b bits carry) + number (value a bits) ys ≡ number (value a bits) low + 2 ^ length ys =
    subst (λ (k : ℕ). number (value b bits) differences + k * bit (value b bits carry) + number (value a bits) ys ≡ number (value a bits) low + k) pw (h.difference_is bits) in
    let dw : length differences ≡ length ys = h.width_is ∙ width_low in
    let below : number (value b bits) differences < 2 ^ length ys = subst (λ (k : ℕ). number (value b bits) differences < 2 ^ k) dw (number_below (value b bits) differences) in
    division_step (2 ^ length ys) (number (value a bits) ys) (number (value b bits) differences) (number (value a bits) low) (number (value a bits) rest) (bit (value a bits x)) (number (value a bits) above) (value a bits top) (value b bits carry)
    one two below (number_below (value a bits) ys) lower (bit_below (value a bits x)) in
    let fit : (bits : ℕ → Bool) → value c bits fits ≡ (value a bits top || value b bits carry) = λ bits. f.value_is bits ∙ ap (λ (k : Bool). k || value b bits carry) (ab.kept bits top lt) in
    let rem : (bits : ℕ → Bool) → number (value d bits) remainder ≡ cond (value a bits top || value b bits carry) (number (value b bits) differences) (number (value a bits) low) = λ bits.
    m.number_is bits ∙ (rw (fit bits, number_kept b c bits differences f.extends h.inside, number_kept a c bits low ac hl) refl) in
    let quo : (bits : ℕ → Bool) → number (value d bits) quotient ≡ bit (value a bits top || value b bits carry) + 2 * number (value a bits) above = λ bits.
    ap (number (value d bits)) eq ∙ number_cons (value d bits) fits above
    ∙ (rw (m.extends.kept bits fits f.inside, fit bits, number_kept a d bits above ad ha) refl) in
    record {
      extends = ad;
      quotient_inside = in_same d quotient (fits ∷ above) eq (All-cons (λ literal. literal < 2 * size d) fits above (omega (arith, f.inside, m.extends.grown)) (are_in_kept a d above ad ha));
      remainder_inside = m.inside;
      quotient_width = ap length eq ∙ omega arith;
      remainder_width = m.width_is ∙ h.width_is ∙ width_low;
      whole = λ bits lower. rw (quo bits, rem bits) (numbers bits lower).0;
      rest_is = λ bits lower. rw (rem bits) (numbers bits lower).1;
    }

-- a division of no bits
pub division_none : (a : Circuit) (ys quotient remainder : List ℕ) → quotient ≡ [] → IsWordMade a a remainder (length ys) (λ v. 0) → IsDivision a a [] ys quotient remainder
division_none a ys quotient remainder eq w = subst (λ (k : List ℕ). IsDivision a a [] ys k remainder) (sym eq) (record {
  extends = w.extends;
  quotient_inside = in_nil a;
  remainder_inside = w.inside;
  quotient_width = refl;
  remainder_width = w.width_is;
  whole = λ bits some. rw (number_nil (value a bits), w.number_is bits) (omega arith);
  rest = λ bits some. rw (w.number_is bits) some;
})

-- a division with one more bit
pub division_more : (a b c : Circuit) (x : ℕ) (xs ys above rest quotient remainder : List ℕ) → AreIn a ys → x < 2 * size a → IsDivision a b xs ys above rest → IsNextDivision b c x above rest ys quotient remainder → IsDivision a c (x ∷ xs) ys quotient remainder
division_more a b c x xs ys above rest quotient remainder hy lx h m = record {
  extends = extends_both a b c h.extends m.extends;
  quotient_inside = m.quotient_inside;
  remainder_inside = m.remainder_inside;
  quotient_width = omega (arith, m.quotient_width, h.quotient_width);
  remainder_width = m.remainder_width;
  whole = λ bits some.
      let ky : number (value b bits) ys ≡ number (value a bits) ys = number_kept a b bits ys h.extends hy in
      let kx : value b bits x ≡ value a bits x = h.extends.kept bits x lx in
      let lower : number (value b bits) rest < number (value b bits) ys = rw ky (h.rest bits some) in
      let step : number (value c bits) quotient * number (value a bits) ys + number (value c bits) remainder ≡ 2 * (number (value b bits) above * number (value a bits) ys + number (value b bits) rest) + bit (value a bits x) =
      subst (λ (k : Bool). number (value c bits) quotient * number (value a bits) ys + number (value c bits) remainder ≡ 2 * (number (value b bits) above * number (value a bits) ys + number (value b bits) rest) + bit k) kx
      (subst (λ (k : ℕ). number (value c bits) quotient * k + number (value c bits) remainder ≡ 2 * (number (value b bits) above * k + number (value b bits) rest) + bit (value b bits x)) ky (m.whole bits lower)) in
      let done : number (value b bits) above * number (value a bits) ys + number (value b bits) rest ≡ number (value a bits) xs = h.whole bits some in
      rw (step, done, number_cons (value a bits) x xs) (omega arith);
  rest = λ bits some.
      let ky : number (value b bits) ys ≡ number (value a bits) ys = number_kept a b bits ys h.extends hy in
      let lower : number (value b bits) rest < number (value b bits) ys = rw ky (h.rest bits some) in
      subst (λ (k : ℕ). number (value c bits) remainder < k) ky (m.rest_is bits lower);
}
