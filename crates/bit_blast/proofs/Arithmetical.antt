-- Sums, products and operations bit by bit as words.
use Rattle.std.proofs.Common.{◌≡◌, ℕ, ◌+◌, ◌-◌, ◌*◌, ◌%◌, ◌^◌, ◌<◌, Bool, false, List, length, sym, ap, ◌∙◌, refl, arith, subst, zero, suc}
use Rattle.std.specs.Prelude.{map, pos, neg_ℤ}
use Rattle.std.proofs.Math.Nat.{mod-eq_of_lt}
use Rattle.std.proofs.lemmas.List.{length-map}
use Rattle.region_pool.specs.Literals.{negation}
use Rattle.word_bits.specs.declared.word.Word.{Word}
use Rattle.word_bits.specs.Words.{word, word_of, added, subtracted, multiplied, negated, complement, both_bits, either_bit, different_bits}
use Rattle.word_bits.proofs.Cuts.{word_of-difference}
use Rattle.bit_gates.specs.declared.words.BitOp.TheVariants.{And, Or, Xor}
use Rattle.bit_gates.specs.BitOps.{word_result}
use Rattle.bit_gates.specs.Circuit.{Circuit, value}
use Rattle.bit_gates.specs.Made.{IsConstant, IsWordMade, IsSum, IsDifference, AreIn, number, bit}
use Rattle.bit_gates.proofs.MadeLaws.{extends_itself}
use Rattle.bit_gates.proofs.NumberLaws.{number_below, number_negations, in_same, in_negations, cut_is}
use Rattle.bit_blast.specs.Blasted.{word_at, IsMadeWord}

-- words are equal by their parts
pub same_word : (m n x y : ℕ) → m ≡ n → x ≡ y → (let w : Word = record { width = m; value = x } in w) ≡ record { width = n; value = y }
same_word m n x y e f = rw (e, f) refl

-- literals that write a number are a word
pub word_made : (a b : Circuit) (ls : List ℕ) (n : ℕ) (f : (ℕ → Bool) → ℕ) (g : (ℕ → Bool) → Word) → IsWordMade a b ls n f
    → ((bits : ℕ → Bool) → (let w : Word = record { width = n; value = f (value a bits) } in w) ≡ g (value a bits)) → IsMadeWord a b ls g
word_made a b ls n f g w same = record {
  extends = w.extends;
  inside = w.inside;
  word_is = λ bits. same_word _ _ _ _ w.width_is (w.number_is bits) ∙ same bits;
}

pub added_made : (a b : Circuit) (xs ys sums : List ℕ) (carry next : ℕ) → IsConstant a carry false → IsSum a b xs ys carry sums next → IsMadeWord a b sums (λ v. added (word_at v xs) (word_at v ys))
added_made a b xs ys sums carry next off s = record {
  extends = s.extends;
  inside = s.inside;
  word_is = λ bits.
      let z : bit (value a bits carry) ≡ 0 = ap bit (off.value_is bits) in
      let below : number (value b bits) sums < 2 ^ length xs = subst (λ (k : ℕ). number (value b bits) sums < 2 ^ k) s.width_is (number_below (value b bits) sums) in
      let total : number (value b bits) sums + 2 ^ length xs * bit (value b bits next) ≡ number (value a bits) xs + number (value a bits) ys = omega (arith, s.sum_is bits) in
      same_word _ _ _ _ s.width_is (cut_is _ _ _ _ total below);
}

pub subtracted_made : (a b : Circuit) (xs ys sums : List ℕ) (next : ℕ) → length ys ≡ length xs → IsDifference a b xs ys sums next → IsMadeWord a b sums (λ v. subtracted (word_at v xs) (word_at v ys))
subtracted_made a b xs ys sums next widths s = record {
  extends = s.extends;
  inside = s.inside;
  word_is = λ bits.
      let below : number (value b bits) sums < 2 ^ length xs = subst (λ (k : ℕ). number (value b bits) sums < 2 ^ k) s.width_is (number_below (value b bits) sums) in
      let low : number (value a bits) ys < 2 ^ length xs = subst (λ (k : ℕ). number (value a bits) ys < 2 ^ k) widths (number_below (value a bits) ys) in
      let total : number (value b bits) sums + 2 ^ length xs * bit (value b bits next) ≡ number (value a bits) xs + (2 ^ length xs - number (value a bits) ys) = omega (arith, s.difference_is bits) in
      same_word _ _ _ _ s.width_is (cut_is _ _ _ _ total below)
      ∙ sym (word_of-difference (length xs) (number (value a bits) xs) (number (value a bits) ys) (omega arith));
}

pub multiplied_made : (a b : Circuit) (xs ys word : List ℕ) → IsWordMade a b word (length xs) (λ v. number v xs * number v ys % 2 ^ length xs) → IsMadeWord a b word (λ v. multiplied (word_at v xs) (word_at v ys))
multiplied_made a b xs ys word w = word_made a b word (length xs) (λ v. number v xs * number v ys % 2 ^ length xs) (λ v. multiplied (word_at v xs) (word_at v ys)) w (λ bits. refl)

pub minus_is : (n x : ℕ) → x < 2 ^ n → (let w : Word = record { width = n; value = (2 ^ n - x) % 2 ^ n } in w) ≡ word_of n (neg_ℤ (pos x))
minus_is n zero l =
    let z : 0 ≡ (2 ^ n - 0) % 2 ^ n = cut_is 0 (2 ^ n) 1 (2 ^ n - 0) (omega arith) l in
    let o : 0 ≡ 0 % 2 ^ n = cut_is 0 (2 ^ n) 0 0 (omega arith) l in
    same_word _ _ _ _ refl (sym z ∙ o)
minus_is n (suc x) l =
    let e : (2 ^ n - suc x) % 2 ^ n ≡ 2 ^ n - suc x = mod-eq_of_lt (omega arith) in
    let f : x % 2 ^ n ≡ x = mod-eq_of_lt (omega arith) in
    same_word _ _ _ _ refl (e ∙ (rw f (omega arith)))

pub negated_made : (a b : Circuit) (xs word : List ℕ) → IsWordMade a b word (length xs) (λ v. (2 ^ length xs - number v xs) % 2 ^ length xs) → IsMadeWord a b word (λ v. negated (word_at v xs))
negated_made a b xs word w = word_made a b word (length xs) (λ v. (2 ^ length xs - number v xs) % 2 ^ length xs) (λ v. negated (word_at v xs)) w
    (λ bits. minus_is (length xs) (number (value a bits) xs) (number_below (value a bits) xs))

pub complement_made : (a : Circuit) (xs word : List ℕ) → AreIn a xs → word ≡ map negation xs → IsMadeWord a a word (λ v. complement (word_at v xs))
complement_made a xs word h e = record {
  extends = extends_itself a;
  inside = in_same a word (map negation xs) e (in_negations a xs h);
  word_is = λ bits.
      let n : number (value a bits) (map negation xs) + number (value a bits) xs + 1 ≡ 2 ^ length xs = number_negations a bits xs in
      let v : number (value a bits) word ≡ number (value a bits) (map negation xs) = ap (number (value a bits)) e in
      same_word _ _ _ _ (ap length e ∙ length-map xs negation) (v ∙ omega arith);
}

pub both_made : (a b : Circuit) (xs ys word : List ℕ) → IsWordMade a b word (length xs) (λ v. word_result And (number v xs) (number v ys)) → IsMadeWord a b word (λ v. both_bits (word_at v xs) (word_at v ys))
both_made a b xs ys word w = word_made a b word (length xs) (λ v. word_result And (number v xs) (number v ys)) (λ v. both_bits (word_at v xs) (word_at v ys)) w (λ bits. refl)

pub either_made : (a b : Circuit) (xs ys word : List ℕ) → IsWordMade a b word (length xs) (λ v. word_result Or (number v xs) (number v ys)) → IsMadeWord a b word (λ v. either_bit (word_at v xs) (word_at v ys))
either_made a b xs ys word w = word_made a b word (length xs) (λ v. word_result Or (number v xs) (number v ys)) (λ v. either_bit (word_at v xs) (word_at v ys)) w (λ bits. refl)

pub different_made : (a b : Circuit) (xs ys word : List ℕ) → IsWordMade a b word (length xs) (λ v. word_result Xor (number v xs) (number v ys)) → IsMadeWord a b word (λ v. different_bits (word_at v xs) (word_at v ys))
different_made a b xs ys word w = word_made a b word (length xs) (λ v. word_result Xor (number v xs) (number v ys)) (λ v. different_bits (word_at v xs) (word_at v ys)) w (λ bits. refl)
