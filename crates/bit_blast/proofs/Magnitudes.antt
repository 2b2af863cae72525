-- Magnitudes, signs and lawful divisors.
use Rattle.std.proofs.Common.{◌≡◌, ℕ, ◌+◌, ◌-◌, ◌*◌, ◌%◌, ◌^◌, ◌<◌, ◌≤◌, Bool, true, false, not, ◌&&◌, cond, eqb, List, [], ◌∷◌, ◌++◌, length, get_or, replicate, sym, ap, ◌∙◌, refl, arith, subst}
use Rattle.std.specs.Prelude.{unsigned_abs}
use Rattle.std.proofs.Math.Nat.{mod-eq_of_lt}
use Rattle.std.proofs.lemmas.List.{length-replicate}
use Rattle.region_pool.specs.Literals.{negation}
use Rattle.word_bits.specs.declared.word.Word.{Word}
use Rattle.word_bits.specs.Words.{signed_value, is_lawful}
use Rattle.word_bits.specs.Signs.{is_below_zero}
use Rattle.word_bits.proofs.SignedValues.{value_of-below, value_of-above}
use Rattle.word_bits.proofs.Overflows.{upper_half}
use Rattle.bit_gates.specs.Circuit.{Circuit, size, value}
use Rattle.bit_gates.specs.Made.{Extends, IsConstant, IsMade, IsWordMade, AreIn, number, bit}
use Rattle.bit_gates.proofs.MadeLaws.{extends_both, extends_itself}
use Rattle.bit_gates.proofs.LiteralLaws.{negation_inside}
use Rattle.bit_gates.proofs.TestLaws.{value_negation}
use Rattle.bit_gates.proofs.NumberLaws.{number_below, number_kept, number_push, number_replicate, number_zero, in_at, in_same, in_copies}
use Rattle.bit_gates.proofs.WordLaws.{in_push}
use Rattle.bit_blast.specs.Blasted.{word_at, signed_number}
use Rattle.bit_blast.proofs.Arithmetical.{minus_is, same_word}
use Rattle.bit_blast.proofs.Signed.{sign_bit}

-- a word that was there stays
pub word_kept : (a b : Circuit) (bits : ℕ → Bool) (xs : List ℕ) → Extends a b → AreIn a xs → word_at (value b bits) xs ≡ word_at (value a bits) xs
word_kept a b bits xs e h = same_word _ _ _ _ refl (number_kept a b bits xs e h)

abs_is : (w : Word) (t : Bool) → w.value < 2 ^ w.width → is_below_zero (signed_value w) ≡ t → cond t ((2 ^ w.width - w.value) % 2 ^ w.width) w.value ≡ unsigned_abs (signed_value w)
abs_is w true l e =
    let u : 2 ^ w.width ≤ 2 * w.value = upper_half w e in
    let m : (2 ^ w.width - w.value) % 2 ^ w.width ≡ 2 ^ w.width - w.value = mod-eq_of_lt (omega arith) in
    rw (value_of-below true w e, m) (omega arith)
abs_is w false l e = rw (value_of-above true w e) refl

pub magnitude_made : (a b c : Circuit) (xs negated negated' word : List ℕ) → 1 ≤ length xs → AreIn a xs → negated' ≡ negated
    → IsWordMade a b negated (length xs) (λ v. (2 ^ length xs - number v xs) % 2 ^ length xs)
    → IsWordMade b c word (length negated') (λ v. cond (v (get_or xs (length xs - 1) 0)) (number v negated') (number v xs))
    → IsWordMade a c word (length xs) (λ v. unsigned_abs (signed_value (word_at v xs)))
magnitude_made a b c xs negated negated' word some h same n m =
    let s = get_or xs (length xs - 1) 0 in
    let ls : s < 2 * size a = in_at a xs (length xs - 1) s (omega arith) refl h in
    record {
      extends = extends_both a b c n.extends m.extends;
      inside = m.inside;
      width_is = m.width_is ∙ ap length same ∙ n.width_is;
      number_is = λ bits.
          m.number_is bits
          ∙ (rw (same, n.extends.kept bits s ls, n.number_is bits, number_kept a b bits xs n.extends h)
          (abs_is (word_at (value a bits) xs) (value a bits s) (number_below (value a bits) xs) (sign_bit (value a bits) xs some)));
    }

signed_is : (n x : ℕ) (t : Bool) → x < 2 ^ n → cond t ((2 ^ n - x) % 2 ^ n) x ≡ signed_number n t x
signed_is n x true l = ap (λ (w : Word). w.value) (minus_is n x l)
signed_is n x false l = sym (mod-eq_of_lt l)

pub signed_word_made : (a b c : Circuit) (xs negated negated' word : List ℕ) (negative : ℕ) → negative < 2 * size a → AreIn a xs → negated' ≡ negated
    → IsWordMade a b negated (length xs) (λ v. (2 ^ length xs - number v xs) % 2 ^ length xs)
    → IsWordMade b c word (length negated') (λ v. cond (v negative) (number v negated') (number v xs))
    → IsWordMade a c word (length xs) (λ v. signed_number (length xs) (v negative) (number v xs))
signed_word_made a b c xs negated negated' word negative ls h same n m = record {
  extends = extends_both a b c n.extends m.extends;
  inside = m.inside;
  width_is = m.width_is ∙ ap length same ∙ n.width_is;
  number_is = λ bits.
      m.number_is bits
      ∙ (rw (same, n.extends.kept bits negative ls, n.number_is bits, number_kept a b bits xs n.extends h)
      (signed_is (length xs) (number (value a bits) xs) (value a bits negative) (number_below (value a bits) xs)));
}

pub zeros_number : (c : Circuit) (bits : ℕ → Bool) (falsity k : ℕ) → IsConstant c falsity false → number (value c bits) (replicate k falsity) ≡ 0
zeros_number c bits falsity k off = number_zero _ _ _ (ap bit (off.value_is bits)) (number_replicate (value c bits) k falsity)

ones_number : (c : Circuit) (bits : ℕ → Bool) (truth k : ℕ) → IsConstant c truth true → number (value c bits) (replicate k truth) ≡ 2 ^ k - 1
ones_number c bits truth k on =
    let b : bit (value c bits truth) ≡ 1 = ap bit (on.value_is bits) in
    let n : number (value c bits) (replicate k truth) + 1 ≡ 1 * 2 ^ k = subst (λ (j : ℕ). number (value c bits) (replicate k truth) + j ≡ j * 2 ^ k) b (number_replicate (value c bits) k truth) in
    omega arith

pub least_number : (c : Circuit) (bits : ℕ → Bool) (truth falsity k : ℕ) → IsConstant c truth true → IsConstant c falsity false → number (value c bits) (replicate k falsity ++ truth ∷ []) ≡ 2 ^ k
least_number c bits truth falsity k on off =
    let b : bit (value c bits truth) ≡ 1 = ap bit (on.value_is bits) in
    number_push (value c bits) (replicate k falsity) truth ∙ (rw (zeros_number c bits falsity k off, length-replicate k falsity, b) (omega arith))

and_true : (b : Bool) → (b && true) ≡ b
and_true true = refl
and_true false = refl

pub lawful_unsigned_made : (a b : Circuit) (xs ys zeros : List ℕ) (falsity none n : ℕ) → IsConstant a falsity false → zeros ≡ replicate (length ys) falsity → IsMade a b none (λ v. eqb (number v ys) (number v zeros)) → n ≡ negation none
    → IsMade a b n (λ v. is_lawful (word_at v xs) (word_at v ys) false)
lawful_unsigned_made a b xs ys zeros falsity none n off ez m en = subst (λ (k : ℕ). IsMade a b k (λ v. is_lawful (word_at v xs) (word_at v ys) false)) (sym en) (record {
  extends = m.extends;
  inside = negation_inside none (size b) m.inside;
  value_is = λ bits.
      let z : number (value a bits) zeros ≡ 0 = ap (number (value a bits)) ez ∙ zeros_number a bits falsity (length ys) off in
      value_negation b bits none ∙ ap not (m.value_is bits ∙ ap (eqb (number (value a bits) ys)) z) ∙ sym (and_true (not (eqb (number (value a bits) ys) 0)));
})

lawful_parts : (p q r : Bool) → ((p && true) && not (q && r)) ≡ (p && not (q && r))
lawful_parts p q r = ap (λ (k : Bool). k && not (q && r)) (and_true p)

pub lawful_signed_made : (a b c d e f : Circuit) (xs ys least ones : List ℕ) (truth falsity nonzero is_least is_ones both n literal : ℕ) → length ys ≡ length xs → AreIn a xs → AreIn a ys → IsConstant a truth true → IsConstant a falsity false
    → least ≡ replicate (length xs - 1) falsity ++ truth ∷ [] → ones ≡ replicate (length ys) truth
    → IsMade a b nonzero (λ v. is_lawful (word_at v xs) (word_at v ys) false)
    → IsMade b c is_least (λ v. eqb (number v xs) (number v least)) → IsMade c d is_ones (λ v. eqb (number v ys) (number v ones))
    → IsMade d e both (λ v. v is_least && v is_ones) → n ≡ negation both → IsMade e f literal (λ v. v nonzero && v n)
    → IsMade a f literal (λ v. is_lawful (word_at v xs) (word_at v ys) true)
lawful_signed_made a b c d e f xs ys least ones truth falsity nonzero is_least is_ones both n literal widths hx hy on off el eo h1 h2 h3 h4 en h5 =
    let ac = extends_both a b c h1.extends h2.extends in
    let bd = extends_both b c d h2.extends h3.extends in
    let be = extends_both b d e bd h4.extends in
    let ae = extends_both a b e h1.extends be in
    let hl : AreIn a least = in_same a least (replicate (length xs - 1) falsity ++ truth ∷ []) el (in_push a a (replicate (length xs - 1) falsity) truth (extends_itself a) (in_copies a (length xs - 1) falsity off.inside) on.inside) in
    let ho : AreIn a ones = in_same a ones (replicate (length ys) truth) eo (in_copies a (length ys) truth on.inside) in
    record {
      extends = extends_both a e f ae h5.extends;
      inside = h5.inside;
      value_is = λ bits.
          let vl : value d bits is_least ≡ eqb (number (value a bits) xs) (2 ^ (length xs - 1)) =
          h3.extends.kept bits is_least h2.inside ∙ h2.value_is bits
          ∙ (rw (number_kept a b bits xs h1.extends hx, number_kept a b bits least h1.extends hl, el, least_number a bits truth falsity (length xs - 1) on off) refl) in
          let vo : value d bits is_ones ≡ eqb (number (value a bits) ys) (2 ^ length xs - 1) =
          h3.value_is bits
          ∙ (rw (number_kept a c bits ys ac hy, number_kept a c bits ones ac ho, eo, ones_number a bits truth (length ys) on, widths) refl) in
          let vn : value e bits nonzero ≡ is_lawful (word_at (value a bits) xs) (word_at (value a bits) ys) false = be.kept bits nonzero h1.inside ∙ h1.value_is bits in
          let vb : value e bits n ≡ not (eqb (number (value a bits) xs) (2 ^ (length xs - 1)) && eqb (number (value a bits) ys) (2 ^ length xs - 1)) =
          ap (value e bits) en ∙ value_negation e bits both ∙ ap not (h4.value_is bits ∙ (rw (vl, vo) refl)) in
          h5.value_is bits ∙ (rw (vn, vb) (lawful_parts (not (eqb (number (value a bits) ys) 0)) (eqb (number (value a bits) xs) (2 ^ (length xs - 1))) (eqb (number (value a bits) ys) (2 ^ length xs - 1))));
    }
