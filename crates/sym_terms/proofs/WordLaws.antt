-- Laws of words.
use Rattle.std.proofs.Common.{◌≡◌, ℕ, zero, suc, ◌-◌, ◌%◌, ◌^◌, ◌<◌, ◌≤◌, ap, sym, ◌∙◌, refl, subst, arith, Bool, true, false, not, if◌then◌else◌, bit_and, bit_or, bit_xor, add-zero, inl, inr, ◌⊎◌}
use Rattle.std.specs.Prelude.{ℤ, pos, negsuc, ◌-ℤ◌, int_lt, ◌==◌}
use Rattle.std.specs.Int.Bits.{and_self, or_self, xor_self, or_zero_r, or_add_and, xor_add_and}
use Rattle.std.proofs.Math.Nat.{mod-le, mod-eq_of_lt, mod_self, pow-le-pow_right}
use Rattle.std.proofs.Math.Pow.{pow-lt}
use Rattle.std.proofs.lemmas.Nat.{pow_pos, and_mask}
use Rattle.std.proofs.lemmas.Bool.{eq-eqb, ne_eqb, lt-ltb, le-ltb, cases_lt}
use Rattle.word_bits.specs.declared.word.Word.{Word}
use Rattle.word_bits.specs.Words.{IsWord, IsWidth, word, word_of, value_of, fits, is_lawful, remainder, negated}
use Rattle.word_bits.proofs.Cuts.{word_at}
use Rattle.word_bits.proofs.Kept.{word-value, IsWord-word_of, width-word_of, width_of_word}
use Rattle.sym_terms.proofs.CommonParts.{added-negated}
use Rattle.sym_terms.specs.declared.term.TermOp.TheVariants.{Equal, Add, Sub, And, Or, Xor, Not, RemUnsigned, LessUnsigned, LessSigned, SubOverflowsUnsigned, SubOverflowsSigned}
use Rattle.sym_terms.specs.declared.laws.Law.TheVariants.{First, Value, Applied}
use Rattle.sym_terms.specs.Terms.{truth}
use Rattle.sym_terms.specs.Laws.{IsLaw, IsSameLaw}

-- zero is a word
pub IsWord-zero : (w : ℕ) → IsWidth w → IsWord (word_at w 0)
IsWord-zero w is = record { some_bits = is.some_bits; few_bits = is.few_bits; below = pow_pos w }

pub IsWord-bit : (n : ℕ) → n < 2 → IsWord (word_at 1 n)
IsWord-bit n h = record { some_bits = omega arith; few_bits = omega arith; below = omega arith }

not_less_itself : (z : ℤ) → int_lt z z ≡ false
not_less_itself (pos n) = le-ltb n n (omega arith)
not_less_itself (negsuc n) = le-ltb n n (omega arith)

less_itself : (z : ℤ) → z -ℤ z ≡ pos 0
less_itself (pos zero) = ap pos (omega arith)
less_itself (pos (suc n)) = rw (le-ltb (suc n) (suc n) (omega arith)) (ap pos (omega arith))
less_itself (negsuc n) = rw (le-ltb (suc n) (suc n) (omega arith)) (ap pos (omega arith))

zero_fits : (signed : Bool) (w : ℕ) → fits signed w (pos 0) ≡ true
zero_fits true w = lt-ltb 0 (2 ^ (w - 1)) (pow_pos (w - 1))
zero_fits false w = lt-ltb 0 (2 ^ w) (pow_pos w)

pub zero_at : (w : ℕ) (x : Word) → x.width ≡ w → word_at w 0 ≡ word_at x.width 0
zero_at w x e = ap (λ k. word_at k 0) (sym e)

module _ (w : ℕ) (is : IsWidth w) where
  pub same_and : IsSameLaw And w First
  same_and = record { fitting = refl; value_is = λ x h e. ap (word_at x.width) (sym (and_self x.value)) }

  pub same_or : IsSameLaw Or w First
  same_or = record { fitting = refl; value_is = λ x h e. ap (word_at x.width) (sym (or_self x.value)) }

  pub same_xor : IsSameLaw Xor w (Value (word_at w 0))
  same_xor = record { fitting = (IsWord-zero w is, refl); value_is = λ x h e. zero_at w x e ∙ ap (word_at x.width) (sym (xor_self x.value)) }

  pub same_sub : IsSameLaw Sub w (Value (word_at w 0))
  same_sub = record { fitting = (IsWord-zero w is, refl); value_is = λ x h e. zero_at w x e ∙ sym (ap (word_of x.width) (less_itself (pos x.value)) ∙ ap (word_at x.width) (mod-eq_of_lt (pow_pos x.width))) }

  pub same_rem : IsSameLaw RemUnsigned w (Value (word_at w 0))
  same_rem = record { fitting = (IsWord-zero w is, refl); value_is = λ x h e. zero_at w x e ∙ either (is_lawful x x false) x }
    where
      either : (t : Bool) (x : Word) → word_at x.width 0 ≡ (if t then remainder x x false else word x.width 0)
      either true x = sym (ap (λ k. word x.width k) (mod_self x.value) ∙ ap (word_at x.width) (mod-eq_of_lt (pow_pos x.width)))
      either false x = sym (ap (word_at x.width) (mod-eq_of_lt (pow_pos x.width)))

  pub same_equal : IsSameLaw Equal w (Value (word_at 1 1))
  same_equal = record { fitting = (IsWord-bit 1 (omega arith), refl); value_is = λ x h e. ap truth (sym (eq-eqb x.value x.value refl)) }

  pub same_less : IsSameLaw LessUnsigned w (Value (word_at 1 0))
  same_less = record { fitting = (IsWord-bit 0 (omega arith), refl); value_is = λ x h e. ap truth (sym (not_less_itself (value_of false x))) }

  pub same_less_signed : IsSameLaw LessSigned w (Value (word_at 1 0))
  same_less_signed = record { fitting = (IsWord-bit 0 (omega arith), refl); value_is = λ x h e. ap truth (sym (not_less_itself (value_of true x))) }

  pub same_difference : IsSameLaw SubOverflowsUnsigned w (Value (word_at 1 0))
  same_difference = record { fitting = (IsWord-bit 0 (omega arith), refl); value_is = λ x h e. ap (λ t. truth (not t)) (sym (ap (fits false x.width) (less_itself (value_of false x)) ∙ zero_fits false x.width)) }

  pub same_difference_signed : IsSameLaw SubOverflowsSigned w (Value (word_at 1 0))
  same_difference_signed = record { fitting = (IsWord-bit 0 (omega arith), refl); value_is = λ x h e. ap (λ t. truth (not t)) (sym (ap (fits true x.width) (less_itself (value_of true x)) ∙ zero_fits true x.width)) }

-- a word and no bits, all bits, or a power of two
module _ (w : ℕ) (is : IsWidth w) where
  pub zero_add : IsLaw Add w (word_at w 0) First
  zero_add = record { fitting = refl; value_is = λ x h e. sym (ap (word x.width) (add-zero x.value) ∙ word-value x h) }

  pub zero_sub : IsLaw Sub w (word_at w 0) First
  zero_sub = record { fitting = refl; value_is = λ x h e. sym (ap (word x.width) (add-zero x.value) ∙ word-value x h) }

  pub zero_or : IsLaw Or w (word_at w 0) First
  zero_or = record { fitting = refl; value_is = λ x h e. ap (word_at x.width) (sym (or_zero_r x.value)) }

  abbrev ones : Word
  ones = word_at w (2 ^ w - 1)

  IsWord-ones : IsWord ones
  IsWord-ones = record { some_bits = is.some_bits; few_bits = is.few_bits; below = let some : 0 < 2 ^ w = pow_pos w in omega arith }

  and_ones : (x : Word) → IsWord x → x.width ≡ w → bit_and x.value (2 ^ w - 1) ≡ x.value
  and_ones x h e =
      let below : x.value < 2 ^ w = subst (λ (k : ℕ). x.value < 2 ^ k) e h.below in
      and_mask x.value w ∙ mod-eq_of_lt below

  pub ones_and : IsLaw And w ones First
  ones_and = record { fitting = refl; value_is = λ x h e. ap (word_at x.width) (sym (and_ones x h e)) }

  pub ones_or : IsLaw Or w ones (Value ones)
  ones_or = record { fitting = (IsWord-ones, refl); value_is = λ x h e. let same : bit_or x.value (2 ^ w - 1) ≡ 2 ^ w - 1 = omega (arith, or_add_and x.value (2 ^ w - 1), and_ones x h e) in ap (λ k. word_at k (2 ^ w - 1)) (sym e) ∙ ap (word_at x.width) (sym same) }

  pub ones_xor : IsLaw Xor w ones (Applied Not ones)
  ones_xor = record {
    fitting = (IsWord-ones, (λ shift. cc), (λ binary. cc), refl);
    value_is = λ x h e.
        let same : bit_xor x.value (2 ^ w - 1) ≡ 2 ^ w - 1 - x.value = omega (arith, xor_add_and x.value (2 ^ w - 1), and_ones x h e) in
        ap (λ k. word_at x.width (2 ^ k - 1 - x.value)) e ∙ ap (word_at x.width) (sym same);
  }

  pub power_rem : (k : ℕ) → k < w → IsLaw RemUnsigned w (word_at w (2 ^ k)) (Applied And (word_at w (2 ^ k - 1)))
  power_rem k below = record {
    fitting = (record { some_bits = is.some_bits; few_bits = is.few_bits; below = small }, (λ shift. cc), (λ binary unshifted. refl), refl);
    value_is = λ x h e. either x h (is_lawful x (word_at w (2 ^ k)) false) (lawful x);
  }
    where
      some : 0 < 2 ^ k
      some = pow_pos k

      less : 2 ^ k < 2 ^ w
      less = pow-lt below

      small : 2 ^ k - 1 < 2 ^ w
      small = omega (arith, some, less)

      lawful : (x : Word) → is_lawful x (word_at w (2 ^ k)) false ≡ true
      lawful x = rw (ne_eqb (2 ^ k) 0 (λ e. omega (arith, some))) refl

      either : (x : Word) → IsWord x → (t : Bool) → t ≡ true → word_at x.width (bit_and x.value (2 ^ k - 1)) ≡ (if t then remainder x (word_at w (2 ^ k)) false else word x.width 0)
      either x h true t =
          let rest : x.value % 2 ^ k ≤ x.value = mod-le x.value (2 ^ k) in
          let within : x.value % 2 ^ k < 2 ^ x.width = omega (arith, h.below) in
          ap (word_at x.width) (and_mask x.value k ∙ sym (mod-eq_of_lt within))
      either x h false t = cc

-- a constant that the code found to be all bits, or a power of two
pub word_is : (c : Word) (w n : ℕ) → c.width ≡ w → c.value ≡ n → c ≡ word_at w n
word_is c w n e f = λ j. word_at (e j) (f j)

pub below_width : (k w n : ℕ) → 2 ^ k ≤ n → n < 2 ^ w → k < w
below_width k w n h below = by (cases_lt k w)
  where
    by : (k < w) ⊎ (w ≤ k) → k < w
    by (inl less) = less
    by (inr more) = let order : 2 ^ w ≤ 2 ^ k = pow-le-pow_right {n = 2} (omega arith) more in absurd (omega arith)

-- a constant that is taken away
pub sub_constant : (w : ℕ) → IsWidth w → (c : Word) → IsWord c → c.width ≡ w → IsLaw Sub w c (Applied Add (negated c))
sub_constant w is c constant e = record {
  fitting = (IsWord-word_of c.width _ (width_of_word c constant), (λ shift. cc), (λ binary plain. width-word_of c.width _ ∙ e), refl);
  value_is = λ x h f. added-negated x c constant (e ∙ sym f);
}

-- a bit that is compared
bit_below : (x : Word) → IsWord x → x.width ≡ 1 → x.value < 2
bit_below x h e = subst (λ (k : ℕ). x.value < 2 ^ k) e h.below

pub equal_zero : IsLaw Equal 1 (word_at 1 0) (Applied Not (word_at 1 0))
equal_zero = record {
  fitting = (IsWord-bit 0 (omega arith), (λ shift. cc), (λ binary. cc), refl);
  value_is = λ x h e. ap (λ k. word_at k (2 ^ k - 1 - x.value)) e ∙ by x.value (bit_below x h e);
}
  where
    by : (n : ℕ) → n < 2 → word_at 1 (2 ^ 1 - 1 - n) ≡ truth (n == 0)
    by zero h = refl
    by (suc zero) h = refl
    by (suc (suc n)) h = absurd (omega arith)

pub equal_one : IsLaw Equal 1 (word_at 1 1) First
equal_one = record { fitting = refl; value_is = λ x h e. ap (λ k. word_at k x.value) e ∙ by x.value (bit_below x h e) }
  where
    by : (n : ℕ) → n < 2 → word_at 1 n ≡ truth (n == 1)
    by zero h = refl
    by (suc zero) h = refl
    by (suc (suc n)) h = absurd (omega arith)
