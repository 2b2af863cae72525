-- Tests of words as words of one bit.
use Rattle.std.proofs.Common.{◌≡◌, ℕ, ◌+◌, ◌-◌, ◌*◌, ◌^◌, ◌<◌, ◌≤◌, Bool, true, false, not, ltb, List, [], ◌∷◌, ◌++◌, length, take, get_or, sym, ap, ◌∙◌, refl, arith, subst, inl, inr, zero, suc}
use Rattle.std.specs.Prelude.{pos, ◌-ℤ◌}
use Rattle.std.proofs.lemmas.Bool.{lt-ltb, le-ltb, cases_lt}
use Rattle.std.proofs.lemmas.List.{length-take-le}
use Rattle.word_bits.specs.Words.{fits, is_less, is_sum_over, is_difference_over}
use Rattle.sym_terms.specs.Terms.{truth}
use Rattle.bit_gates.specs.Circuit.{Circuit, size, value}
use Rattle.bit_gates.specs.Made.{IsConstant, IsMade, IsSum, number, bit}
use Rattle.bit_gates.proofs.NumberLaws.{number_nil, number_cons, number_push, number_below}
use Rattle.bit_gates.proofs.WordLaws.{in_nil}
use Rattle.std.proofs.lemmas.List.Elements.{All-cons}
use Rattle.bit_blast.specs.Blasted.{word_at, IsMadeWord}
use Rattle.bit_blast.proofs.Arithmetical.{same_word}
use Rattle.bit_blast.proofs.Signed.{less_swapped}

one_bit : (v : ℕ → Bool) (l : ℕ) → number v (l ∷ []) ≡ bit (v l)
one_bit v l = number_cons v l [] ∙ (rw (number_nil v) (omega arith))

-- a literal as a word of one bit
pub truth_made : (a b : Circuit) (literal : ℕ) (word : List ℕ) (f t : (ℕ → Bool) → Bool) → word ≡ literal ∷ [] → IsMade a b literal f → ((bits : ℕ → Bool) → f (value a bits) ≡ t (value a bits)) → IsMadeWord a b word (λ v. truth (t v))
truth_made a b literal word f t e m same = subst (λ (k : List ℕ). IsMadeWord a b k (λ v. truth (t v))) (sym e) (record {
  extends = m.extends;
  inside = All-cons (λ l. l < 2 * size b) literal [] m.inside (in_nil b);
  word_is = λ bits. same_word _ _ _ _ refl (one_bit (value b bits) literal ∙ ap bit (m.value_is bits ∙ same bits));
})

carry_over : (s p t : ℕ) (c : Bool) → s + p * bit c ≡ t → s < p → c ≡ not (ltb t p)
carry_over s p t true e l = sym (ap not (le-ltb t p (omega arith)))
carry_over s p t false e l = sym (ap not (lt-ltb t p (omega arith)))

-- a sum without a sign is none of the width where there is a carry
pub sum_over_made : (a b : Circuit) (xs ys sums word : List ℕ) (carry next : ℕ) → word ≡ next ∷ [] → IsConstant a carry false → IsSum a b xs ys carry sums next → IsMadeWord a b word (λ v. truth (is_sum_over (word_at v xs) (word_at v ys) false))
sum_over_made a b xs ys sums word carry next e off s =
    truth_made a b next word (λ v. is_sum_over (word_at v xs) (word_at v ys) false) (λ v. is_sum_over (word_at v xs) (word_at v ys) false) e (record {
      extends = s.extends;
      inside = s.next_inside;
      value_is = λ bits.
          let z : bit (value a bits carry) ≡ 0 = ap bit (off.value_is bits) in
          let below : number (value b bits) sums < 2 ^ length xs = subst (λ (k : ℕ). number (value b bits) sums < 2 ^ k) s.width_is (number_below (value b bits) sums) in
          let total : number (value b bits) sums + 2 ^ length xs * bit (value b bits next) ≡ number (value a bits) xs + number (value a bits) ys = omega (arith, s.sum_is bits) in
          carry_over (number (value b bits) sums) (2 ^ length xs) (number (value a bits) xs + number (value a bits) ys) (value b bits next) total below;
    }) (λ bits. refl)

difference_less : (w x y : ℕ) → x < 2 ^ w → ltb x y ≡ not (fits false w (pos x -ℤ pos y))
difference_less w x zero l =
    le-ltb x 0 (omega arith) ∙ sym (ap not (lt-ltb (x + 0) (2 ^ w) (omega arith)))
difference_less w x (suc y) l = elim (cases_lt x (suc y)) [
  | inl h ↦ lt-ltb x (suc y) h ∙ (rw (lt-ltb x (suc y) h) refl)
  | inr h ↦ le-ltb x (suc y) h ∙ (rw (le-ltb x (suc y) h) (sym (ap not (lt-ltb (x - suc y) (2 ^ w) (omega arith)))))
]

-- a difference without a sign is none of the width where the first word is less
pub difference_over_made : (a b : Circuit) (xs ys word : List ℕ) (literal : ℕ) → word ≡ literal ∷ [] → IsMade a b literal (λ v. ltb (number v xs) (number v ys)) → IsMadeWord a b word (λ v. truth (is_difference_over (word_at v xs) (word_at v ys) false))
difference_over_made a b xs ys word literal e m =
    truth_made a b literal word (λ v. ltb (number v xs) (number v ys)) (λ v. is_difference_over (word_at v xs) (word_at v ys) false) e m
    (λ bits. difference_less (length xs) (number (value a bits) xs) (number (value a bits) ys) (number_below (value a bits) xs))

-- words with a sign, by words with swapped highest bits
pub less_signed_made : (a b : Circuit) (xs ys left right word : List ℕ) (literal : ℕ) → 1 ≤ length xs → length ys ≡ length xs → word ≡ literal ∷ []
    → left ≡ take (length xs - 1) xs ++ get_or ys (length xs - 1) 0 ∷ [] → right ≡ take (length ys - 1) ys ++ get_or xs (length xs - 1) 0 ∷ []
    → IsMade a b literal (λ v. ltb (number v left) (number v right)) → IsMadeWord a b word (λ v. truth (is_less (word_at v xs) (word_at v ys) true))
less_signed_made a b xs ys left right word literal some widths e el er m =
    truth_made a b literal word (λ v. ltb (number v left) (number v right)) (λ v. is_less (word_at v xs) (word_at v ys) true) e m
    (λ bits.
    let v = value a bits in
    let wl : length (take (length xs - 1) xs) ≡ length xs - 1 = length-take-le (length xs - 1) xs (omega arith) in
    let wr : length (take (length ys - 1) ys) ≡ length ys - 1 = length-take-le (length ys - 1) ys (omega arith) in
    let nl : number v left ≡ number v (take (length xs - 1) xs) + 2 ^ (length xs - 1) * bit (v (get_or ys (length xs - 1) 0)) =
    ap (number v) el ∙ number_push v (take (length xs - 1) xs) (get_or ys (length xs - 1) 0) ∙ ap (λ (k : ℕ). number v (take (length xs - 1) xs) + 2 ^ k * bit (v (get_or ys (length xs - 1) 0))) wl in
    let nr : number v right ≡ number v (take (length ys - 1) ys) + 2 ^ (length ys - 1) * bit (v (get_or xs (length xs - 1) 0)) =
    ap (number v) er ∙ number_push v (take (length ys - 1) ys) (get_or xs (length xs - 1) 0) ∙ ap (λ (k : ℕ). number v (take (length ys - 1) ys) + 2 ^ k * bit (v (get_or xs (length xs - 1) 0))) wr in
    rw (nl, nr) (less_swapped v xs ys some widths))
