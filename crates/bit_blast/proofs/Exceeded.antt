-- Sums, differences and products that are none of the width.
use Rattle.std.proofs.Common.{◌≡◌, ℕ, ◌+◌, ◌-◌, ◌*◌, ◌/◌, ◌%◌, ◌^◌, ◌<◌, ◌≤◌, Bool, true, false, not, ◌&&◌, cond, eqb, ltb, List, [], ◌∷◌, ◌++◌, length, drop, get_or, replicate, sym, ap, ◌∙◌, refl, arith, subst, inl, inr, zero, suc, length-append}
use Rattle.std.specs.Prelude.{unsigned_abs, pos, negsuc, neg_ℤ, ℤ, ◌*ℤ◌}
use Rattle.std.proofs.Math.Nat.{mod-eq_of_lt}
use Rattle.std.proofs.lemmas.Bool.{lt-ltb, le-ltb, eq-eqb, ne_eqb, cases_lt}
use Rattle.std.proofs.lemmas.Nat.{mul-lt, pow-add, pow_pos, div_below, le-div}
use Rattle.std.proofs.lemmas.List.{length-replicate}
use Rattle.std.proofs.lemmas.List.Elements.{All-append}
use Rattle.region_pool.specs.Literals.{negation}
use Rattle.word_bits.specs.declared.word.Word.{Word}
use Rattle.word_bits.specs.Words.{signed_value, AreWords, fits, added, subtracted, is_sum_over, is_difference_over, is_product_over}
use Rattle.word_bits.specs.Signs.{is_below_zero}
use Rattle.sym_terms.specs.Terms.{truth}
use Rattle.bit_gates.specs.Values.{differ}
use Rattle.bit_gates.specs.Circuit.{Circuit, size, value}
use Rattle.bit_gates.specs.Made.{IsConstant, IsMade, IsWordMade, IsSum, IsDifference, AreIn, number}
use Rattle.bit_gates.proofs.MadeLaws.{extends_both, extends_itself}
use Rattle.bit_gates.proofs.LiteralLaws.{negation_inside}
use Rattle.bit_gates.proofs.TestLaws.{value_negation}
use Rattle.bit_gates.proofs.NumberLaws.{number_append, number_below, number_kept, in_at, in_same, in_copies}
use Rattle.bit_gates.proofs.WordLaws.{in_push}
use Rattle.bit_gates.proofs.ShiftLaws.{number_drop}
use Rattle.bit_blast.specs.Blasted.{word_at, IsMadeWord}
use Rattle.bit_blast.proofs.Arithmetical.{added_made, subtracted_made}
use Rattle.bit_blast.proofs.Magnitudes.{word_kept, zeros_number, least_number}
use Rattle.bit_blast.proofs.Signed.{sign_bit, sum_over_signs, difference_over_signs}
use Rattle.bit_blast.proofs.Tested.{truth_made}

-- three gates on the signs
signs_made : (b c d e : Circuit) (s t u apart turned m literal : ℕ) (g : Bool → Bool) → s < 2 * size b → u < 2 * size b
    → IsMade b c apart (λ v. differ (v s) (v t)) → IsMade c d turned (λ v. differ (v s) (v u)) → ((bits : ℕ → Bool) → value d bits m ≡ g (value d bits apart)) → IsMade d e literal (λ v. v m && v turned)
    → IsMade b e literal (λ v. g (differ (v s) (v t)) && differ (v s) (v u))
signs_made b c d e s t u apart turned m literal g ls lu h1 h2 hm h3 = record {
  extends = extends_both b d e (extends_both b c d h1.extends h2.extends) h3.extends;
  inside = h3.inside;
  value_is = λ bits.
      let va : value d bits m ≡ g (differ (value b bits s) (value b bits t)) = hm bits ∙ ap g (h2.extends.kept bits apart h1.inside ∙ h1.value_is bits) in
      let vt : value d bits turned ≡ differ (value b bits s) (value b bits u) = h2.value_is bits ∙ (rw (h1.extends.kept bits s ls, h1.extends.kept bits u lu) refl) in
      h3.value_is bits ∙ (rw (va, vt) refl);
}

words_are : (v : ℕ → Bool) (xs ys : List ℕ) → 1 ≤ length xs → length xs ≤ 128 → length ys ≡ length xs → AreWords (word_at v xs) (word_at v ys)
words_are v xs ys some few widths = record {
  some_bits = some;
  few_bits = few;
  one_width = widths;
  first = number_below v xs;
  second = subst (λ (k : ℕ). number v ys < 2 ^ k) widths (number_below v ys);
}

top_of : (v : ℕ → Bool) (xs ys : List ℕ) → 1 ≤ length xs → length ys ≡ length xs → is_below_zero (signed_value (word_at v ys)) ≡ v (get_or ys (length xs - 1) 0)
top_of v xs ys some widths = subst (λ (k : ℕ). is_below_zero (signed_value (word_at v ys)) ≡ v (get_or ys (k - 1) 0)) widths (sign_bit v ys (omega arith))

pub sum_signed_made : (a b c d e : Circuit) (xs ys sums word : List ℕ) (carry next apart turned n literal : ℕ) → 1 ≤ length xs → length xs ≤ 128 → length ys ≡ length xs → AreIn a xs → AreIn a ys → word ≡ literal ∷ []
    → IsConstant a carry false → IsSum a b xs ys carry sums next
    → IsMade b c apart (λ v. differ (v (get_or xs (length xs - 1) 0)) (v (get_or ys (length xs - 1) 0))) → IsMade c d turned (λ v. differ (v (get_or xs (length xs - 1) 0)) (v (get_or sums (length xs - 1) 0)))
    → n ≡ negation apart → IsMade d e literal (λ v. v n && v turned) → IsMadeWord a e word (λ v. truth (is_sum_over (word_at v xs) (word_at v ys) true))
sum_signed_made a b c d e xs ys sums word carry next apart turned n literal some few widths hx hy ew off s h1 h2 en h3 =
    let i = length xs - 1 in
    let x = get_or xs i 0 in
    let y = get_or ys i 0 in
    let u = get_or sums i 0 in
    let lx : x < 2 * size a = in_at a xs i x (omega arith) refl hx in
    let ly : y < 2 * size a = in_at a ys i y (omega arith) refl hy in
    let lu : u < 2 * size b = in_at b sums i u (omega (arith, s.width_is)) refl s.inside in
    let w = added_made a b xs ys sums carry next off s in
    let g = signs_made b c d e x y u apart turned n literal not (omega (arith, lx, s.extends.grown)) lu h1 h2 (λ bits. ap (value d bits) en ∙ value_negation d bits apart) h3 in
    truth_made a e literal word (λ v. is_sum_over (word_at v xs) (word_at v ys) true) (λ v. is_sum_over (word_at v xs) (word_at v ys) true) ew (record {
      extends = extends_both a b e s.extends g.extends;
      inside = g.inside;
      value_is = λ bits.
          let su : value b bits u ≡ is_below_zero (signed_value (added (word_at (value a bits) xs) (word_at (value a bits) ys))) =
          sym (top_of (value b bits) xs sums some s.width_is) ∙ ap (λ (k : Word). is_below_zero (signed_value k)) (w.word_is bits) in
          g.value_is bits
          ∙ (rw (s.extends.kept bits x lx, s.extends.kept bits y ly, su, ← sign_bit (value a bits) xs some, ← top_of (value a bits) xs ys some widths)
          (sum_over_signs (word_at (value a bits) xs) (word_at (value a bits) ys) (words_are (value a bits) xs ys some few widths)));
    }) (λ bits. refl)

pub difference_signed_made : (a b c d e : Circuit) (xs ys differences word : List ℕ) (next apart turned literal : ℕ) → 1 ≤ length xs → length xs ≤ 128 → length ys ≡ length xs → AreIn a xs → AreIn a ys → word ≡ literal ∷ []
    → IsDifference a b xs ys differences next
    → IsMade b c apart (λ v. differ (v (get_or xs (length xs - 1) 0)) (v (get_or ys (length xs - 1) 0))) → IsMade c d turned (λ v. differ (v (get_or xs (length xs - 1) 0)) (v (get_or differences (length xs - 1) 0)))
    → IsMade d e literal (λ v. v apart && v turned) → IsMadeWord a e word (λ v. truth (is_difference_over (word_at v xs) (word_at v ys) true))
difference_signed_made a b c d e xs ys differences word next apart turned literal some few widths hx hy ew s h1 h2 h3 =
    let i = length xs - 1 in
    let x = get_or xs i 0 in
    let y = get_or ys i 0 in
    let u = get_or differences i 0 in
    let lx : x < 2 * size a = in_at a xs i x (omega arith) refl hx in
    let ly : y < 2 * size a = in_at a ys i y (omega arith) refl hy in
    let lu : u < 2 * size b = in_at b differences i u (omega (arith, s.width_is)) refl s.inside in
    let w = subtracted_made a b xs ys differences next widths s in
    let g = signs_made b c d e x y u apart turned apart literal (λ (k : Bool). k) (omega (arith, lx, s.extends.grown)) lu h1 h2 (λ bits. refl) h3 in
    truth_made a e literal word (λ v. is_difference_over (word_at v xs) (word_at v ys) true) (λ v. is_difference_over (word_at v xs) (word_at v ys) true) ew (record {
      extends = extends_both a b e s.extends g.extends;
      inside = g.inside;
      value_is = λ bits.
          let su : value b bits u ≡ is_below_zero (signed_value (subtracted (word_at (value a bits) xs) (word_at (value a bits) ys))) =
          sym (top_of (value b bits) xs differences some s.width_is) ∙ ap (λ (k : Word). is_below_zero (signed_value k)) (w.word_is bits) in
          g.value_is bits
          ∙ (rw (s.extends.kept bits x lx, s.extends.kept bits y ly, su, ← sign_bit (value a bits) xs some, ← top_of (value a bits) xs ys some widths)
          (difference_over_signs (word_at (value a bits) xs) (word_at (value a bits) ys) (words_are (value a bits) xs ys some few widths)));
    }) (λ bits. refl)

-- a product at twice the width
pub wide_made : (a b : Circuit) (xs ys wide word : List ℕ) (falsity : ℕ) → length ys ≡ length xs → IsConstant a falsity false → wide ≡ xs ++ replicate (length xs) falsity
    → IsWordMade a b word (length wide) (λ v. number v wide * number v ys % 2 ^ length wide) → IsWordMade a b word (length xs + length xs) (λ v. number v xs * number v ys)
wide_made a b xs ys wide word falsity widths off e w =
    let n : length wide ≡ length xs + length xs = ap length e ∙ omega (arith, length-append xs (replicate (length xs) falsity), length-replicate (length xs) falsity) in
    record {
      extends = w.extends;
      inside = w.inside;
      width_is = w.width_is ∙ n;
      number_is = λ bits.
          let x = number (value a bits) xs in
          let y = number (value a bits) ys in
          let nx : number (value a bits) wide ≡ x = ap (number (value a bits)) e ∙ number_append (value a bits) xs (replicate (length xs) falsity) ∙ (rw (zeros_number a bits falsity (length xs) off) (omega arith)) in
          let ly : y < 2 ^ length xs = subst (λ (k : ℕ). y < 2 ^ k) widths (number_below (value a bits) ys) in
          let low : x * y < 2 ^ (length xs + length xs) = rw (pow-add 2 (length xs) (length xs)) (mul-lt x y (2 ^ length xs) (2 ^ length xs) (number_below (value a bits) xs) ly) in
          w.number_is bits ∙ (rw (nx, n) (mod-eq_of_lt low));
    }

-- a power of two at twice the width
pub power_made : (a : Circuit) (word : List ℕ) (truth falsity p n : ℕ) → p < n → IsConstant a truth true → IsConstant a falsity false
    → word ≡ replicate p falsity ++ truth ∷ [] ++ replicate (n - p - 1) falsity ++ replicate n falsity → IsWordMade a a word (n + n) (λ v. 2 ^ p)
power_made a word truth falsity p n l on off e = subst (λ (k : List ℕ). IsWordMade a a k (n + n) (λ v. 2 ^ p)) (sym e) (record {
  extends = extends_itself a;
  inside = All-append (λ literal. literal < 2 * size a) (replicate p falsity ++ truth ∷ [] ++ replicate (n - p - 1) falsity) (replicate n falsity)
      (All-append (λ literal. literal < 2 * size a) (replicate p falsity ++ truth ∷ []) (replicate (n - p - 1) falsity)
      (in_push a a (replicate p falsity) truth (extends_itself a) (in_copies a p falsity off.inside) on.inside) (in_copies a (n - p - 1) falsity off.inside))
      (in_copies a n falsity off.inside);
  width_is = omega (arith, length-append (replicate p falsity ++ truth ∷ [] ++ replicate (n - p - 1) falsity) (replicate n falsity), length-append (replicate p falsity ++ truth ∷ []) (replicate (n - p - 1) falsity), length-append (replicate p falsity) (truth ∷ []), length-replicate p falsity, length-replicate (n - p - 1) falsity, length-replicate n falsity);
  number_is = λ bits.
      number_append (value a bits) (replicate p falsity ++ truth ∷ [] ++ replicate (n - p - 1) falsity) (replicate n falsity)
      ∙ (rw (zeros_number a bits falsity n off, number_append (value a bits) (replicate p falsity ++ truth ∷ []) (replicate (n - p - 1) falsity), zeros_number a bits falsity (n - p - 1) off, least_number a bits truth falsity p on off) (omega arith));
})

quotient_zero : (m p : ℕ) → 0 < p → eqb (m / p) 0 ≡ ltb m p
quotient_zero m p l = elim (cases_lt m p) [
  | inl h ↦ (let z : m / p < 1 = div_below m p 1 l (omega arith) in eq-eqb (m / p) 0 (omega arith) ∙ sym (lt-ltb m p h))
  | inr h ↦ (let z : 1 ≤ m / p = le-div 1 m p l (omega arith) in ne_eqb (m / p) 0 (λ e. absurd (omega arith)) ∙ sym (le-ltb m p h))
]

pub product_unsigned_made : (a b c : Circuit) (xs ys product upper zeros word : List ℕ) (falsity fits' n : ℕ) → word ≡ n ∷ [] → n ≡ negation fits' → upper ≡ drop (length xs) product → IsConstant b falsity false → zeros ≡ replicate (length xs) falsity
    → IsWordMade a b product (length xs + length xs) (λ v. number v xs * number v ys) → IsMade b c fits' (λ v. eqb (number v upper) (number v zeros))
    → IsMadeWord a c word (λ v. truth (is_product_over (word_at v xs) (word_at v ys) false))
product_unsigned_made a b c xs ys product upper zeros word falsity fits' n ew en eu off ez w m =
    truth_made a c n word (λ v. is_product_over (word_at v xs) (word_at v ys) false) (λ v. is_product_over (word_at v xs) (word_at v ys) false) ew
    (subst (λ (k : ℕ). IsMade a c k (λ v. is_product_over (word_at v xs) (word_at v ys) false)) (sym en) (record {
      extends = extends_both a b c w.extends m.extends;
      inside = negation_inside fits' (size c) m.inside;
      value_is = λ bits.
          let nu : number (value b bits) upper ≡ number (value a bits) xs * number (value a bits) ys / 2 ^ length xs =
          ap (number (value b bits)) eu ∙ number_drop (value b bits) product (length xs) (omega (arith, w.width_is)) ∙ ap (λ (k : ℕ). k / 2 ^ length xs) (w.number_is bits) in
          let nz : number (value b bits) zeros ≡ 0 = ap (number (value b bits)) ez ∙ zeros_number b bits falsity (length xs) off in
          value_negation c bits fits' ∙ ap not (m.value_is bits ∙ (rw (nu, nz) (quotient_zero (number (value a bits) xs * number (value a bits) ys) (2 ^ length xs) (pow_pos (length xs)))));
    })) (λ bits. refl)

turned_over : (w m : ℕ) → ltb (2 ^ (w - 1)) m ≡ not (fits true w (neg_ℤ (pos m)))
turned_over w zero = le-ltb (2 ^ (w - 1)) 0 (omega arith) ∙ sym (ap not (lt-ltb 0 (2 ^ (w - 1)) (pow_pos (w - 1))))
turned_over w (suc m) = elim (cases_lt m (2 ^ (w - 1))) [
  | inl h ↦ le-ltb (2 ^ (w - 1)) (suc m) (omega arith) ∙ sym (ap not (lt-ltb m (2 ^ (w - 1)) h))
  | inr h ↦ lt-ltb (2 ^ (w - 1)) (suc m) (omega arith) ∙ sym (ap not (le-ltb m (2 ^ (w - 1)) h))
]

product_signs : (w : ℕ) (x y : ℤ) → cond (differ (is_below_zero x) (is_below_zero y)) (ltb (2 ^ (w - 1)) (unsigned_abs x * unsigned_abs y)) (not (ltb (unsigned_abs x * unsigned_abs y) (2 ^ (w - 1)))) ≡ not (fits true w (x *ℤ y))
product_signs w (pos m) (pos n) = refl
product_signs w (pos m) (negsuc n) = turned_over w (m * suc n)
product_signs w (negsuc m) (pos n) = turned_over w (suc m * n)
product_signs w (negsuc m) (negsuc n) = refl

pub product_signed_made : (a b c d e f g h : Circuit) (xs ys left right left' right' product half product' half' word : List ℕ) (above below n negative literal : ℕ) → 1 ≤ length xs → length ys ≡ length xs → AreIn a xs → AreIn a ys
    → left' ≡ left → right' ≡ right → product' ≡ product → half' ≡ half → word ≡ literal ∷ [] → n ≡ negation below
    → IsWordMade a b left (length xs) (λ v. unsigned_abs (signed_value (word_at v xs))) → IsWordMade b c right (length ys) (λ v. unsigned_abs (signed_value (word_at v ys)))
    → IsWordMade c d product (length left' + length left') (λ v. number v left' * number v right') → IsWordMade d d half (length xs + length xs) (λ v. 2 ^ (length xs - 1))
    → IsMade d e above (λ v. ltb (number v half') (number v product')) → IsMade e f below (λ v. ltb (number v product') (number v half'))
    → IsMade f g negative (λ v. differ (v (get_or xs (length xs - 1) 0)) (v (get_or ys (length xs - 1) 0))) → IsMade g h literal (λ v. cond (v negative) (v above) (v n))
    → IsMadeWord a h word (λ v. truth (is_product_over (word_at v xs) (word_at v ys) true))
product_signed_made a b c d e f g h xs ys left right left' right' product half product' half' word above below n negative literal some widths hx hy el er ep eh ew en hl hr hp hh ha hb hn hc =
    let ac = extends_both a b c hl.extends hr.extends in
    let ad = extends_both a c d ac hp.extends in
    let ae = extends_both a d e ad ha.extends in
    let af = extends_both a e f ae hb.extends in
    let eg = extends_both e f g hb.extends hn.extends in
    let x = get_or xs (length xs - 1) 0 in
    let y = get_or ys (length xs - 1) 0 in
    let lx : x < 2 * size a = in_at a xs (length xs - 1) x (omega arith) refl hx in
    let ly : y < 2 * size a = in_at a ys (length xs - 1) y (omega arith) refl hy in
    truth_made a h literal word (λ v. is_product_over (word_at v xs) (word_at v ys) true) (λ v. is_product_over (word_at v xs) (word_at v ys) true) ew (record {
      extends = extends_both a f h af (extends_both f g h hn.extends hc.extends);
      inside = hc.inside;
      value_is = λ bits.
          let p = signed_value (word_at (value a bits) xs) in
          let q = signed_value (word_at (value a bits) ys) in
          let nl : number (value c bits) left' ≡ unsigned_abs p = ap (number (value c bits)) el ∙ number_kept b c bits left hr.extends hl.inside ∙ hl.number_is bits in
          let nr : number (value c bits) right' ≡ unsigned_abs q = ap (number (value c bits)) er ∙ hr.number_is bits ∙ ap (λ (w : Word). unsigned_abs (signed_value w)) (word_kept a b bits ys hl.extends hy) in
          let np : number (value d bits) product' ≡ unsigned_abs p * unsigned_abs q = ap (number (value d bits)) ep ∙ hp.number_is bits ∙ (rw (nl, nr) refl) in
          let nh : number (value d bits) half' ≡ 2 ^ (length xs - 1) = ap (number (value d bits)) eh ∙ hh.number_is bits in
          let ip : AreIn d product' = in_same d product' product ep hp.inside in
          let ih : AreIn d half' = in_same d half' half eh hh.inside in
          let va : value g bits above ≡ ltb (2 ^ (length xs - 1)) (unsigned_abs p * unsigned_abs q) = eg.kept bits above ha.inside ∙ ha.value_is bits ∙ (rw (np, nh) refl) in
          let vb : value g bits n ≡ not (ltb (unsigned_abs p * unsigned_abs q) (2 ^ (length xs - 1))) =
          ap (value g bits) en ∙ value_negation g bits below
          ∙ ap not (hn.extends.kept bits below hb.inside ∙ hb.value_is bits ∙ (rw (number_kept d e bits product' ha.extends ip, number_kept d e bits half' ha.extends ih, np, nh) refl)) in
          let vn : value g bits negative ≡ differ (is_below_zero p) (is_below_zero q) =
          hn.value_is bits ∙ (rw (af.kept bits x lx, af.kept bits y ly, sign_bit (value a bits) xs some, top_of (value a bits) xs ys some widths) refl) in
          hc.value_is bits ∙ (rw (vn, va, vb) (product_signs (length xs) p q));
    }) (λ bits. refl)
