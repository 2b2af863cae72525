-- Quotients and remainders as words.
use Rattle.std.proofs.Common.{◌≡◌, ℕ, ◌+◌, ◌-◌, ◌*◌, ◌/◌, ◌%◌, ◌^◌, ◌<◌, ◌≤◌, Bool, true, false, not, ◌&&◌, cond, eqb, List, length, get_or, sym, ap, ◌∙◌, refl, arith, subst, inl, inr}
use Rattle.std.specs.Prelude.{unsigned_abs, pos, negsuc, ℤ, int_div, int_rem, nat_lt}
use Rattle.std.proofs.Math.Nat.{mod-eq_of_lt, zero-mod}
use Rattle.std.proofs.lemmas.Bool.{and_parts, eq-eqb, cases_eq}
use Rattle.std.proofs.lemmas.Nat.{div-mul-add, mod-mul-add}
use Rattle.word_bits.specs.declared.word.Word.{Word}
use Rattle.word_bits.specs.Words.{signed_value, word_of, word, is_lawful, quotient, remainder}
use Rattle.word_bits.specs.Signs.{is_below_zero, with_sign}
use Rattle.sym_terms.specs.Terms.{divided, left_over}
use Rattle.bit_gates.specs.Values.{differ}
use Rattle.bit_gates.specs.Circuit.{Circuit, size, value}
use Rattle.bit_gates.specs.Made.{Extends, IsMade, IsWordMade, IsDivision, AreIn, number}
use Rattle.bit_gates.proofs.MadeLaws.{extends_both}
use Rattle.bit_gates.proofs.NumberLaws.{number_below, number_kept, in_at}
use Rattle.bit_blast.specs.Blasted.{word_at, IsMadeWord, signed_number}
use Rattle.bit_blast.proofs.Arithmetical.{same_word}
use Rattle.bit_blast.proofs.Magnitudes.{word_kept}
use Rattle.bit_blast.proofs.Signed.{sign_bit}

lawful_some : (a b : Word) (signed : Bool) → is_lawful a b signed ≡ true → 0 < b.value
lawful_some a b signed e =
    let p = and_parts (not (eqb b.value 0)) (not (signed && eqb a.value (2 ^ (a.width - 1)) && eqb b.value (2 ^ a.width - 1))) e in
    elim (cases_eq b.value 0) [
      | inl z ↦ (let t : eqb b.value 0 ≡ true = eq-eqb b.value 0 z in let n : not (eqb b.value 0) ≡ true = p.0 in absurd (cc))
      | inr nz ↦ omega arith
    ]

zero_word : (n : ℕ) → 0 ≡ 0 % 2 ^ n
zero_word n = sym (zero-mod (2 ^ n))

-- a word that is 0 where a test fails
masked : (n q : ℕ) (w : Word) (t : Bool) → (t ≡ true → (let r : Word = record { width = n; value = q } in r) ≡ w) → (let r : Word = record { width = n; value = cond t q 0 } in r) ≡ cond t w (word n 0)
masked n q w true h = h refl
masked n q w false h = same_word _ _ _ _ refl (zero_word n)

-- a word that is masked by a literal which tells whether the divisor is lawful
pub masked_made : (a b c d : Circuit) (xs ys q q' word : List ℕ) (lawful : ℕ) (signed : Bool) (w : (ℕ → Bool) → Word) → length q ≡ length xs → AreIn a xs → AreIn a ys → q' ≡ q → Extends a b → AreIn b q
    → ((bits : ℕ → Bool) → is_lawful (word_at (value a bits) xs) (word_at (value a bits) ys) signed ≡ true → word_at (value b bits) q ≡ w (value a bits))
    → IsMade b c lawful (λ v. is_lawful (word_at v xs) (word_at v ys) signed)
    → IsWordMade c d word (length q') (λ v. cond (v lawful) (number v q') 0)
    → IsMadeWord a d word (λ v. cond (is_lawful (word_at v xs) (word_at v ys) signed) (w v) (let z : Word = record { width = length xs; value = 0 % 2 ^ length xs } in z))
masked_made a b c d xs ys q q' out lawful signed w width hx hy same ab hq is l m = record {
  extends = extends_both a b d ab (extends_both b c d l.extends m.extends);
  inside = m.inside;
  word_is = λ bits.
      let t : value c bits lawful ≡ is_lawful (word_at (value a bits) xs) (word_at (value a bits) ys) signed =
      l.value_is bits
      ∙ ap (λ (k : Word). is_lawful k (word_at (value b bits) ys) signed) (word_kept a b bits xs ab hx)
      ∙ ap (λ (k : Word). is_lawful (word_at (value a bits) xs) k signed) (word_kept a b bits ys ab hy) in
      same_word _ _ _ _ (m.width_is ∙ ap length same ∙ width) (m.number_is bits ∙ (rw (t, same, number_kept b c bits q l.extends hq) refl))
      ∙ masked (length xs) (number (value b bits) q) (w (value a bits)) (is_lawful (word_at (value a bits) xs) (word_at (value a bits) ys) signed) (λ e. same_word _ _ _ _ (sym width) refl ∙ is bits e);
}

divided_by : (q y r x : ℕ) → q * y + r ≡ x → r < y → q ≡ x / y
divided_by q y r x e l = sym (div-mul-add q y r l) ∙ ap (λ (k : ℕ). k / y) e

left_by : (q y r x : ℕ) → q * y + r ≡ x → r < y → r ≡ x % y
left_by q y r x e l = sym (mod-mul-add q y r l) ∙ ap (λ (k : ℕ). k % y) e

pub quotient_unsigned_made : (a b c d : Circuit) (xs ys q r q' word : List ℕ) (lawful : ℕ) → AreIn a xs → AreIn a ys → q' ≡ q → IsDivision a b xs ys q r
    → IsMade b c lawful (λ v. is_lawful (word_at v xs) (word_at v ys) false) → IsWordMade c d word (length q') (λ v. cond (v lawful) (number v q') 0)
    → IsMadeWord a d word (λ v. divided (word_at v xs) (word_at v ys) false)
quotient_unsigned_made a b c d xs ys q r q' word lawful hx hy same h l m =
    masked_made a b c d xs ys q q' word lawful false (λ v. quotient (word_at v xs) (word_at v ys) false) h.quotient_width hx hy same h.extends h.quotient_inside
    (λ bits e.
    let some : 0 < number (value a bits) ys = lawful_some (word_at (value a bits) xs) (word_at (value a bits) ys) false e in
    let is : number (value b bits) q ≡ number (value a bits) xs / number (value a bits) ys = divided_by _ _ _ _ (h.whole bits some) (h.rest bits some) in
    let low : number (value b bits) q < 2 ^ length xs = subst (λ (k : ℕ). number (value b bits) q < 2 ^ k) h.quotient_width (number_below (value b bits) q) in
    same_word _ _ _ _ h.quotient_width (sym (mod-eq_of_lt low) ∙ ap (λ (k : ℕ). k % 2 ^ length xs) is))
    l m

pub remainder_unsigned_made : (a b c d : Circuit) (xs ys q r r' word : List ℕ) (lawful : ℕ) → length ys ≡ length xs → AreIn a xs → AreIn a ys → r' ≡ r → IsDivision a b xs ys q r
    → IsMade b c lawful (λ v. is_lawful (word_at v xs) (word_at v ys) false) → IsWordMade c d word (length r') (λ v. cond (v lawful) (number v r') 0)
    → IsMadeWord a d word (λ v. left_over (word_at v xs) (word_at v ys) false)
remainder_unsigned_made a b c d xs ys q r r' word lawful widths hx hy same h l m =
    masked_made a b c d xs ys r r' word lawful false (λ v. remainder (word_at v xs) (word_at v ys) false) (h.remainder_width ∙ widths) hx hy same h.extends h.remainder_inside
    (λ bits e.
    let some : 0 < number (value a bits) ys = lawful_some (word_at (value a bits) xs) (word_at (value a bits) ys) false e in
    let is : number (value b bits) r ≡ number (value a bits) xs % number (value a bits) ys = left_by _ _ _ _ (h.whole bits some) (h.rest bits some) in
    let low : number (value b bits) r < 2 ^ length xs = subst (λ (k : ℕ). number (value b bits) r < 2 ^ k) (h.remainder_width ∙ widths) (number_below (value b bits) r) in
    same_word _ _ _ _ (h.remainder_width ∙ widths) (sym (mod-eq_of_lt low) ∙ ap (λ (k : ℕ). k % 2 ^ length xs) is))
    l m

quotient_signs : (x y : ℤ) → int_div x y ≡ with_sign (differ (is_below_zero x) (is_below_zero y)) (unsigned_abs x / unsigned_abs y)
quotient_signs (pos m) (pos n) = refl
quotient_signs (pos m) (negsuc n) = refl
quotient_signs (negsuc m) (pos n) = refl
quotient_signs (negsuc m) (negsuc n) = refl

remainder_signs : (x y : ℤ) → int_rem x y ≡ with_sign (is_below_zero x) (unsigned_abs x % unsigned_abs y)
remainder_signs (pos m) y = refl
remainder_signs (negsuc m) y = refl

some_abs : (w : Word) → 0 < w.value → w.value < 2 ^ w.width → 0 < unsigned_abs (signed_value w)
some_abs w l b = by (nat_lt (2 * w.value) (2 ^ w.width))
  where
    by : (t : Bool) → 0 < unsigned_abs (cond t (pos w.value) (negsuc (2 ^ w.width - w.value - 1)))
    by true = l
    by false = omega arith

width_word_of : (n : ℕ) (z : ℤ) → (word_of n z).width ≡ n
width_word_of n (pos m) = refl
width_word_of n (negsuc m) = refl

word_of_parts : (n m : ℕ) (z : ℤ) → m ≡ (word_of n z).value → (let r : Word = record { width = n; value = m } in r) ≡ word_of n z
word_of_parts n m (pos k) e = same_word _ _ _ _ refl e
word_of_parts n m (negsuc k) e = same_word _ _ _ _ refl e

-- what a division of magnitudes gives
pub record IsDivided (a d : Circuit) (xs ys q r : List ℕ) : Type 0 where
  pub extends : Extends a d
  pub quotient_inside : AreIn d q
  pub remainder_inside : AreIn d r
  pub quotient_width : length q ≡ length xs
  pub remainder_width : length r ≡ length xs
  pub quotient_is : (bits : ℕ → Bool) → 0 < number (value a bits) ys → number (value d bits) q ≡ unsigned_abs (signed_value (word_at (value a bits) xs)) / unsigned_abs (signed_value (word_at (value a bits) ys))
  pub remainder_is : (bits : ℕ → Bool) → 0 < number (value a bits) ys → number (value d bits) r ≡ unsigned_abs (signed_value (word_at (value a bits) xs)) % unsigned_abs (signed_value (word_at (value a bits) ys))

pub magnitudes_divided : (a b c d : Circuit) (xs ys left right left' right' q r : List ℕ) → length ys ≡ length xs → AreIn a xs → AreIn a ys → left' ≡ left → right' ≡ right
    → IsWordMade a b left (length xs) (λ v. unsigned_abs (signed_value (word_at v xs))) → IsWordMade b c right (length ys) (λ v. unsigned_abs (signed_value (word_at v ys)))
    → IsDivision c d left' right' q r → IsDivided a d xs ys q r
magnitudes_divided a b c d xs ys left right left' right' q r widths hx hy el er l m h =
    let ac = extends_both a b c l.extends m.extends in
    let nl : (bits : ℕ → Bool) → number (value c bits) left' ≡ unsigned_abs (signed_value (word_at (value a bits) xs)) = λ bits. ap (number (value c bits)) el ∙ number_kept b c bits left m.extends l.inside ∙ l.number_is bits in
    let nr : (bits : ℕ → Bool) → number (value c bits) right' ≡ unsigned_abs (signed_value (word_at (value a bits) ys)) = λ bits. ap (number (value c bits)) er ∙ m.number_is bits ∙ ap (λ (w : Word). unsigned_abs (signed_value w)) (word_kept a b bits ys l.extends hy) in
    let some : (bits : ℕ → Bool) → 0 < number (value a bits) ys → 0 < number (value c bits) right' = λ bits p. rw (nr bits) (some_abs (word_at (value a bits) ys) p (number_below (value a bits) ys)) in
    record {
      extends = extends_both a c d ac h.extends;
      quotient_inside = h.quotient_inside;
      remainder_inside = h.remainder_inside;
      quotient_width = h.quotient_width ∙ ap length el ∙ l.width_is;
      remainder_width = h.remainder_width ∙ ap length er ∙ m.width_is ∙ widths;
      quotient_is = λ bits p. divided_by _ _ _ _ (h.whole bits (some bits p)) (h.rest bits (some bits p)) ∙ (rw (nl bits, nr bits) refl);
      remainder_is = λ bits p. left_by _ _ _ _ (h.whole bits (some bits p)) (h.rest bits (some bits p)) ∙ (rw (nl bits, nr bits) refl);
    }

pub quotient_signed_made : (a d e f g h : Circuit) (xs ys q r q' w w' word : List ℕ) (negative lawful : ℕ) → 1 ≤ length xs → length ys ≡ length xs → AreIn a xs → AreIn a ys → q' ≡ q → w' ≡ w → IsDivided a d xs ys q r
    → IsMade d e negative (λ v. differ (v (get_or xs (length xs - 1) 0)) (v (get_or ys (length xs - 1) 0)))
    → IsWordMade e f w (length q') (λ v. signed_number (length q') (v negative) (number v q'))
    → IsMade f g lawful (λ v. is_lawful (word_at v xs) (word_at v ys) true) → IsWordMade g h word (length w') (λ v. cond (v lawful) (number v w') 0)
    → IsMadeWord a h word (λ v. divided (word_at v xs) (word_at v ys) true)
quotient_signed_made a d e f g h xs ys q r q' w w' word negative lawful some widths hx hy eq ew z n s l m =
    let de = n.extends in
    let af = extends_both a d f z.extends (extends_both d e f n.extends s.extends) in
    let wide : length q' ≡ length xs = ap length eq ∙ z.quotient_width in
    let ls : get_or xs (length xs - 1) 0 < 2 * size a = in_at a xs (length xs - 1) (get_or xs (length xs - 1) 0) (omega arith) refl hx in
    let lt : get_or ys (length xs - 1) 0 < 2 * size a = in_at a ys (length xs - 1) (get_or ys (length xs - 1) 0) (omega arith) refl hy in
    masked_made a f g h xs ys w w' word lawful true (λ v. quotient (word_at v xs) (word_at v ys) true) (s.width_is ∙ wide) hx hy ew af s.inside
    (λ bits p.
    let x = word_at (value a bits) xs in
    let y = word_at (value a bits) ys in
    let nonzero : 0 < number (value a bits) ys = lawful_some x y true p in
    let sy : is_below_zero (signed_value y) ≡ value a bits (get_or ys (length xs - 1) 0) = subst (λ (k : ℕ). is_below_zero (signed_value y) ≡ value a bits (get_or ys (k - 1) 0)) widths (sign_bit (value a bits) ys (omega arith)) in
    let neg : value e bits negative ≡ differ (is_below_zero (signed_value x)) (is_below_zero (signed_value y)) =
    n.value_is bits ∙ (rw (z.extends.kept bits (get_or xs (length xs - 1) 0) ls, z.extends.kept bits (get_or ys (length xs - 1) 0) lt, sign_bit (value a bits) xs some, sy) refl) in
    let num : number (value f bits) w ≡ signed_number (length xs) (differ (is_below_zero (signed_value x)) (is_below_zero (signed_value y))) (unsigned_abs (signed_value x) / unsigned_abs (signed_value y)) =
    s.number_is bits ∙ (rw (wide, neg, eq, number_kept d e bits q de z.quotient_inside, z.quotient_is bits nonzero) refl) in
    same_word _ _ _ _ (s.width_is ∙ wide) refl
    ∙ word_of_parts (length xs) (number (value f bits) w) (with_sign (differ (is_below_zero (signed_value x)) (is_below_zero (signed_value y))) (unsigned_abs (signed_value x) / unsigned_abs (signed_value y))) num
    ∙ ap (word_of (length xs)) (sym (quotient_signs (signed_value x) (signed_value y))))
    l m

pub remainder_signed_made : (a d f g h : Circuit) (xs ys q r r' w w' word : List ℕ) (lawful : ℕ) → 1 ≤ length xs → length ys ≡ length xs → AreIn a xs → AreIn a ys → r' ≡ r → w' ≡ w → IsDivided a d xs ys q r
    → IsWordMade d f w (length r') (λ v. signed_number (length r') (v (get_or xs (length xs - 1) 0)) (number v r'))
    → IsMade f g lawful (λ v. is_lawful (word_at v xs) (word_at v ys) true) → IsWordMade g h word (length w') (λ v. cond (v lawful) (number v w') 0)
    → IsMadeWord a h word (λ v. left_over (word_at v xs) (word_at v ys) true)
remainder_signed_made a d f g h xs ys q r r' w w' word lawful some widths hx hy er ew z s l m =
    let af = extends_both a d f z.extends s.extends in
    let wide : length r' ≡ length xs = ap length er ∙ z.remainder_width in
    let ls : get_or xs (length xs - 1) 0 < 2 * size a = in_at a xs (length xs - 1) (get_or xs (length xs - 1) 0) (omega arith) refl hx in
    masked_made a f g h xs ys w w' word lawful true (λ v. remainder (word_at v xs) (word_at v ys) true) (s.width_is ∙ wide) hx hy ew af s.inside
    (λ bits p.
    let x = word_at (value a bits) xs in
    let y = word_at (value a bits) ys in
    let nonzero : 0 < number (value a bits) ys = lawful_some x y true p in
    let num : number (value f bits) w ≡ signed_number (length xs) (is_below_zero (signed_value x)) (unsigned_abs (signed_value x) % unsigned_abs (signed_value y)) =
    s.number_is bits ∙ (rw (wide, z.extends.kept bits (get_or xs (length xs - 1) 0) ls, sign_bit (value a bits) xs some, er, z.remainder_is bits nonzero) refl) in
    same_word _ _ _ _ (s.width_is ∙ wide) refl
    ∙ word_of_parts (length xs) (number (value f bits) w) (with_sign (is_below_zero (signed_value x)) (unsigned_abs (signed_value x) % unsigned_abs (signed_value y))) num
    ∙ ap (word_of (length xs)) (sym (remainder_signs (signed_value x) (signed_value y))))
    l m
