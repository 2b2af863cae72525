-- Adders.
use Rattle.std.proofs.Common.{◌≡◌, ℕ, ◌+◌, ◌-◌, ◌*◌, ◌%◌, ◌^◌, ◌<◌, Bool, true, false, cond, List, length, sym, ap, ◌∙◌, refl, arith, subst, replicate}
use Rattle.bit_gates.specs.Values.{differ}
use Rattle.bit_gates.specs.Circuit.{Circuit, size, value}
use Rattle.std.specs.Prelude.{map}
use Rattle.std.proofs.lemmas.List.{length-map, length-replicate}
use Rattle.std.proofs.lemmas.List.Elements.{All-replicate}
use Rattle.region_pool.specs.Literals.{negation}
use Rattle.bit_gates.specs.Made.{IsConstant, IsMade, IsWordMade, IsBitSum, IsSum, IsDifference, bit, number}
use Rattle.bit_gates.proofs.MadeLaws.{extends_both, extends_itself}
use Rattle.bit_gates.proofs.NumberLaws.{number_negations, number_replicate, number_below, number_zero, cut_is}

three_bits : (x y c : Bool) → bit (differ (differ x y) c) + 2 * bit (cond (differ x y) c x) ≡ bit x + bit y + bit c
three_bits true true true = refl
three_bits true true false = refl
three_bits true false true = refl
three_bits true false false = refl
three_bits false true true = refl
three_bits false true false = refl
three_bits false false true = refl
three_bits false false false = refl

-- three gates are a full adder
pub full_adder : (k0 k1 k2 k3 : Circuit) (x y c d s n : ℕ) → x < 2 * size k0 → c < 2 * size k0
    → IsMade k0 k1 d (λ v. differ (v x) (v y)) → IsMade k1 k2 s (λ v. differ (v d) (v c)) → IsMade k2 k3 n (λ v. cond (v d) (v c) (v x))
    → IsBitSum k0 k3 x y c s n
full_adder k0 k1 k2 k3 x y c d s n lx lc hd hs hn = record {
  extends = extends_both k0 k1 k3 hd.extends (extends_both k1 k2 k3 hs.extends hn.extends);
  sum_inside = omega (arith, hs.inside, hn.extends.grown);
  next_inside = hn.inside;
  sum_is = λ bits.
      let c1 : value k1 bits c ≡ value k0 bits c = hd.extends.kept bits c lc in
      let c2 : value k2 bits c ≡ value k0 bits c = hs.extends.kept bits c (omega (arith, hd.extends.grown)) ∙ c1 in
      let x2 : value k2 bits x ≡ value k0 bits x = hs.extends.kept bits x (omega (arith, hd.extends.grown)) ∙ hd.extends.kept bits x lx in
      let d2 : value k2 bits d ≡ differ (value k0 bits x) (value k0 bits y) = hs.extends.kept bits d hd.inside ∙ hd.value_is bits in
      let s3 : value k3 bits s ≡ differ (differ (value k0 bits x) (value k0 bits y)) (value k0 bits c) =
      hn.extends.kept bits s hs.inside ∙ hs.value_is bits ∙ (rw (hd.value_is bits, c1) refl) in
      let n3 : value k3 bits n ≡ cond (differ (value k0 bits x) (value k0 bits y)) (value k0 bits c) (value k0 bits x) =
      hn.value_is bits ∙ (rw (d2, c2, x2) refl) in
      rw (s3, n3) (three_bits (value k0 bits x) (value k0 bits y) (value k0 bits c));
}

-- a sum with the negated word and 1 is a difference
pub difference_made : (a b : Circuit) (xs ys others sums : List ℕ) (truth next : ℕ) → length ys ≡ length xs → others ≡ map negation ys → IsConstant a truth true → IsSum a b xs others truth sums next → IsDifference a b xs ys sums next
difference_made a b xs ys others sums truth next widths turned one s = record {
  extends = s.extends;
  inside = s.inside;
  carry_inside = s.next_inside;
  width_is = s.width_is;
  difference_is = λ bits.
      let p : 2 ^ length ys ≡ 2 ^ length xs = ap (λ (k : ℕ). 2 ^ k) widths in
      let n : number (value a bits) (map negation ys) + number (value a bits) ys + 1 ≡ 2 ^ length ys = number_negations a bits ys in
      let t : bit (value a bits truth) ≡ 1 = ap bit (one.value_is bits) in
      let h : number (value b bits) sums + 2 ^ length xs * bit (value b bits next) ≡ number (value a bits) xs + number (value a bits) (map negation ys) + bit (value a bits truth) =
      s.sum_is bits ∙ ap (λ (k : List ℕ). number (value a bits) xs + number (value a bits) k + bit (value a bits truth)) turned in
      omega arith;
}

-- 0 less a word
pub negation_made : (a b : Circuit) (xs others zeros sums : List ℕ) (n truth falsity next : ℕ) → n ≡ length xs → others ≡ map negation xs → zeros ≡ replicate n falsity → IsConstant a falsity false → IsConstant a truth true → IsSum a b others zeros truth sums next
    → IsWordMade a b sums (length xs) (λ v. (2 ^ length xs - number v xs) % 2 ^ length xs)
negation_made a b xs others zeros sums n truth falsity next count turned none off one s =
    let w : length others ≡ length xs = ap length turned ∙ length-map xs negation in
    record {
      extends = s.extends;
      inside = s.inside;
      width_is = s.width_is ∙ w;
      number_is = λ bits.
          let k : number (value a bits) (map negation xs) + number (value a bits) xs + 1 ≡ 2 ^ length xs = number_negations a bits xs in
          let t : bit (value a bits truth) ≡ 1 = ap bit (one.value_is bits) in
          let f : bit (value a bits falsity) ≡ 0 = ap bit (off.value_is bits) in
          let z : number (value a bits) (replicate n falsity) + bit (value a bits falsity) ≡ bit (value a bits falsity) * 2 ^ n = number_replicate (value a bits) n falsity in
          let z' : number (value a bits) (replicate n falsity) ≡ 0 = number_zero _ _ _ f z in
          let h : number (value b bits) sums + 2 ^ length xs * bit (value b bits next) ≡ number (value a bits) (map negation xs) + number (value a bits) (replicate n falsity) + bit (value a bits truth) =
          subst (λ (q : ℕ). number (value b bits) sums + 2 ^ q * bit (value b bits next) ≡ number (value a bits) (map negation xs) + number (value a bits) (replicate n falsity) + bit (value a bits truth)) w
          (s.sum_is bits
          ∙ ap (λ (q : List ℕ). number (value a bits) q + number (value a bits) zeros + bit (value a bits truth)) turned
          ∙ ap (λ (q : List ℕ). number (value a bits) (map negation xs) + number (value a bits) q + bit (value a bits truth)) none) in
          let below : number (value b bits) sums < 2 ^ length xs = subst (λ (q : ℕ). number (value b bits) sums < 2 ^ q) (s.width_is ∙ w) (number_below (value b bits) sums) in
          let total : number (value b bits) sums + 2 ^ length xs * bit (value b bits next) ≡ 2 ^ length xs - number (value a bits) xs = omega arith in
          cut_is _ _ _ _ total below;
    }

-- a constant word of zeros
pub zeros_made : (a : Circuit) (literals : List ℕ) (n falsity : ℕ) → IsConstant a falsity false → literals ≡ replicate n falsity → IsWordMade a a literals n (λ v. 0)
zeros_made a literals n falsity off e = subst (λ (k : List ℕ). IsWordMade a a k n (λ v. 0)) (sym e) (record {
  extends = extends_itself a;
  inside = All-replicate (λ literal. literal < 2 * size a) n falsity off.inside;
  width_is = length-replicate n falsity;
  number_is = λ bits.
      let f : bit (value a bits falsity) ≡ 0 = ap bit (off.value_is bits) in
      number_zero _ _ _ f (number_replicate (value a bits) n falsity);
})
