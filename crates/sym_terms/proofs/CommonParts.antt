-- Laws of operations that share an operand, and of those whose operands change places.
use Rattle.std.proofs.Common.{◌≡◌, ℕ, ◌+◌, ◌-◌, ◌*◌, ◌%◌, ◌^◌, ◌<◌, ◌≤◌, ap, sym, ◌∙◌, refl, subst, arith, Bool, true, false, not, inl, inr, ◌⊎◌, eqb, bit_xor}
use Rattle.std.specs.Prelude.{pos, neg_ℤ, ◌==◌}
use Rattle.std.specs.Int.Bits.{xor_self, xor_assoc, xor_zero_r}
use Rattle.std.proofs.Math.IntN.{+ℤ_comm, *ℤ_comm, +ℤ_idl}
use Rattle.std.proofs.Math.Nat.{add_comm, mul_comm, mul_assoc, mod-lt, mod-eq_of_lt, mod-add-mod, add-mod-mod, add-mod_right}
use Rattle.std.proofs.lemmas.Nat.{and_comm, or_comm, xor_comm, and_assoc, pow_pos, mul-mod_first, mul-mod_second}
use Rattle.std.proofs.lemmas.Bool.{eq-eqb, ne_eqb, eqb-true, eqb-false, cases_lt}
use Rattle.word_bits.specs.declared.word.Word.{Word}
use Rattle.word_bits.specs.Words.{IsWord, word, word_of, value_of, fits, added, subtracted, negated, complement, different_bits}
use Rattle.word_bits.proofs.Cuts.{word_at, word_of-difference, mod_of_rest}
use Rattle.word_bits.proofs.Kept.{word-value, width-word_of}
use Rattle.sym_terms.specs.declared.term.TermOp.{TermOp}
use Rattle.sym_terms.specs.declared.term.TermOp.TheVariants.{Equal, Add, Sub, Mul, And, Or, Xor, AddOverflowsUnsigned, AddOverflowsSigned, MulOverflowsUnsigned, MulOverflowsSigned}
use Rattle.sym_terms.specs.Ops.{is_commutative, is_associative, is_cancelling}
use Rattle.sym_terms.specs.Terms.{truth, applied}

eqb_comm : (m n : ℕ) → eqb m n ≡ eqb n m
eqb_comm m n = by (eqb m n) refl
  where
    by : (t : Bool) → eqb m n ≡ t → t ≡ eqb n m
    by true e = sym (eq-eqb n m (sym (eqb-true m n e)))
    by false e = sym (ne_eqb n m (λ f. eqb-false m n e (sym f)))

-- operands that change places
pub applied_comm : (op : TermOp) → is_commutative op ≡ true → (a b : Word) → b.width ≡ a.width → applied op a b ≡ applied op b a
applied_comm Equal h a b e = ap truth (eqb_comm a.value b.value)
applied_comm Add h a b e = λ j. word (sym e j) (add_comm a.value b.value j)
applied_comm Mul h a b e = λ j. word (sym e j) (mul_comm a.value b.value j)
applied_comm And h a b e = λ j. word_at (sym e j) (and_comm a.value b.value j)
applied_comm Or h a b e = λ j. word_at (sym e j) (or_comm a.value b.value j)
applied_comm Xor h a b e = λ j. word_at (sym e j) (xor_comm a.value b.value j)
applied_comm AddOverflowsUnsigned h a b e = λ j. truth (not (fits false (sym e j) (+ℤ_comm (value_of false a) (value_of false b) j)))
applied_comm AddOverflowsSigned h a b e = λ j. truth (not (fits true (sym e j) (+ℤ_comm (value_of true a) (value_of true b) j)))
applied_comm MulOverflowsUnsigned h a b e = λ j. truth (not (fits false (sym e j) (*ℤ_comm (value_of false a) (value_of false b) j)))
applied_comm MulOverflowsSigned h a b e = λ j. truth (not (fits true (sym e j) (*ℤ_comm (value_of true a) (value_of true b) j)))
applied_comm _ h a b e = cc

-- an operand that is taken away again
module _ (p q : Word) (is : IsWord p) (below : q.value < 2 ^ p.width) (e : q.width ≡ p.width) where
  abbrev m : ℕ
  m = 2 ^ p.width

  whole : word p.width (p.value + m) ≡ p
  whole = ap (word_at p.width) (add-mod_right p.value m) ∙ word-value p is

  pub xor_xor : different_bits (different_bits p q) q ≡ p
  xor_xor = ap (word_at p.width) (xor_assoc p.value q.value q.value ∙ ap (bit_xor p.value) (xor_self q.value) ∙ xor_zero_r p.value)

  pub sub_add : subtracted (added p q) q ≡ p
  sub_add =
      let within : q.value ≤ m = omega arith in
      word_of-difference p.width ((p.value + q.value) % m) q.value within
      ∙ ap (word_at p.width) (mod-add-mod (p.value + q.value) m (m - q.value))
      ∙ ap (word p.width) (back p.value q.value m within) ∙ whole
    where
      back : (x y n : ℕ) → y ≤ n → x + y + (n - y) ≡ x + n
      back x y n h = omega arith

  pub add_sub : added (subtracted p q) q ≡ p
  add_sub =
      let within : q.value ≤ m = omega arith in
      ap (λ (w : Word). added w q) (word_of-difference p.width p.value q.value within)
      ∙ ap (word_at p.width) (mod-add-mod (p.value + (m - q.value)) m q.value)
      ∙ ap (word p.width) (back p.value q.value m within) ∙ whole
    where
      back : (x y n : ℕ) → y ≤ n → x + (n - y) + y ≡ x + n
      back x y n h = omega arith

  pub sub_sub : subtracted p (subtracted p q) ≡ q
  sub_sub =
      let within : q.value ≤ m = omega arith in
      let rest = (p.value + (m - q.value)) % m in
      let some : 0 < m = pow_pos p.width in
      let less : rest < m = mod-lt (p.value + (m - q.value)) some in
      let inside : rest ≤ m = omega arith in
      ap (λ (w : Word). subtracted p w) (word_of-difference p.width p.value q.value within)
      ∙ word_of-difference p.width p.value rest inside
      ∙ λ j. word_at (sym e j) (back (cases_lt p.value q.value) j)
    where
      back : (p.value < q.value) ⊎ (q.value ≤ p.value) → (p.value + (m - (p.value + (m - q.value)) % m)) % m ≡ q.value
      back (inl h) =
          let lower : (p.value + (m - q.value)) % m ≡ p.value + (m - q.value) = mod-eq_of_lt {n = p.value + (m - q.value)} (omega arith) in
          ap (λ k. (p.value + (m - k)) % m) lower ∙ mod_of_rest (p.value + (m - (p.value + (m - q.value)))) 0 q.value m (omega arith) below
      back (inr h) =
          let inside : p.value < m = is.below in
          let lower : (p.value + (m - q.value)) % m ≡ p.value - q.value = mod_of_rest (p.value + (m - q.value)) 1 (p.value - q.value) m (omega arith) (omega arith) in
          ap (λ k. (p.value + (m - k)) % m) lower ∙ mod_of_rest (p.value + (m - (p.value - q.value))) 1 q.value m (omega arith) below

-- the operation with one constant after the other is that with both at once
pub applied_assoc : (op : TermOp) → is_associative op ≡ true → (x c d : Word) → c.width ≡ x.width → applied op x (applied op c d) ≡ applied op (applied op x c) d
applied_assoc Add h x c d e =
    ap (λ k. word x.width (x.value + (c.value + d.value) % 2 ^ k)) e
    ∙ ap (word_at x.width) (add-mod-mod x.value (c.value + d.value) (2 ^ x.width) ∙ ap (λ k. k % 2 ^ x.width) sum ∙ sym (mod-add-mod (x.value + c.value) (2 ^ x.width) d.value))
  where
    sum : x.value + (c.value + d.value) ≡ x.value + c.value + d.value
    sum = omega arith
applied_assoc Mul h x c d e =
    ap (λ k. word x.width (x.value * ((c.value * d.value) % 2 ^ k))) e
    ∙ ap (word_at x.width) (mul-mod_second x.value (c.value * d.value) (2 ^ x.width) ∙ ap (λ k. k % 2 ^ x.width) (sym (mul_assoc x.value c.value d.value)) ∙ sym (mul-mod_first (x.value * c.value) d.value (2 ^ x.width)))
applied_assoc And h x c d e = ap (word_at x.width) (sym (and_assoc d.value x.value c.value))
applied_assoc Xor h x c d e = ap (word_at x.width) (sym (xor_assoc x.value c.value d.value))
applied_assoc _ h x c d e = cc

-- tests of two equations that hold together are one
pub same_equations : (m n k l : ℕ) → (m ≡ n → k ≡ l) → (k ≡ l → m ≡ n) → eqb m n ≡ eqb k l
same_equations m n k l there back = by (eqb m n) refl
  where
    by : (t : Bool) → eqb m n ≡ t → t ≡ eqb k l
    by true e = sym (eq-eqb k l (there (eqb-true m n e)))
    by false e = sym (ne_eqb k l (λ f. eqb-false m n e (back f)))

-- two words of one width with one number are equal
pub same_words : (a b : Word) → a.width ≡ b.width → a.value ≡ b.value → a ≡ b
same_words a b e f = λ j. record { width = e j; value = f j }

-- a second operand that both have cancels
module _ (q s p : Word) (first : IsWord q) (second : IsWord s) (e : p.width ≡ q.width) (f : p.width ≡ s.width) (below : p.value < 2 ^ p.width) where
  below_first : p.value < 2 ^ q.width
  below_first = subst (λ (k : ℕ). p.value < 2 ^ k) e below

  below_second : p.value < 2 ^ s.width
  below_second = subst (λ (k : ℕ). p.value < 2 ^ k) f below

  pub cancelled : (op : TermOp) → is_cancelling op ≡ true → applied op q p ≡ applied op s p → q ≡ s
  cancelled Add h same = sym (sub_add q p first below_first e) ∙ ap (λ (w : Word). subtracted w p) same ∙ sub_add s p second below_second f
  cancelled Sub h same = sym (add_sub q p first below_first e) ∙ ap (λ (w : Word). added w p) same ∙ add_sub s p second below_second f
  cancelled Xor h same = sym (xor_xor q p first below_first e) ∙ ap (λ (w : Word). different_bits w p) same ∙ xor_xor s p second below_second f
  cancelled _ h same = cc

  pub equal_cancelled : (op : TermOp) → is_cancelling op ≡ true → (applied op q p).width ≡ (applied op s p).width → truth ((applied op q p).value == (applied op s p).value) ≡ truth (q.value == s.value)
  equal_cancelled op h widths = ap truth (same_equations (applied op q p).value (applied op s p).value q.value s.value
      (λ same. ap (λ (w : Word). w.value) (cancelled op h (same_words (applied op q p) (applied op s p) widths same)))
      (λ same. ap (λ (w : Word). (applied op w p).value) (same_words q s (sym e ∙ f) same)))

-- minus a number, as a sum
pub negated_is : (c : Word) → IsWord c → negated c ≡ word c.width (0 + (2 ^ c.width - c.value))
negated_is c is =
    let below : c.value < 2 ^ c.width = is.below in
    let within : c.value ≤ 2 ^ c.width = omega arith in
    ap (word_of c.width) (sym (+ℤ_idl (neg_ℤ (pos c.value)))) ∙ word_of-difference c.width 0 c.value within

-- a constant that is taken away, as one that is added
pub added-negated : (x c : Word) → IsWord c → c.width ≡ x.width → added x (negated c) ≡ subtracted x c
added-negated x c is e =
    let below : c.value < 2 ^ c.width = is.below in
    let within : c.value ≤ 2 ^ x.width = subst (λ (k : ℕ). c.value ≤ 2 ^ k) e (omega arith) in
    ap (added x) (negated_is c is)
    ∙ ap (λ k. word x.width (x.value + (0 + (2 ^ k - c.value)) % 2 ^ k)) e
    ∙ ap (word_at x.width) (add-mod-mod x.value (0 + (2 ^ x.width - c.value)) (2 ^ x.width) ∙ ap (λ k. k % 2 ^ x.width) same)
    ∙ sym (word_of-difference x.width x.value c.value within)
  where
    same : x.value + (0 + (2 ^ x.width - c.value)) ≡ x.value + (2 ^ x.width - c.value)
    same = omega arith

-- twice
pub complement-complement : (x : Word) → IsWord x → complement (complement x) ≡ x
complement-complement x is =
    let below : x.value < 2 ^ x.width = is.below in
    ap (word_at x.width) (omega arith)

pub negated-negated : (x : Word) → IsWord x → negated (negated x) ≡ x
negated-negated x is =
    let zero_word = word_at x.width 0 in
    let is_zero : IsWord zero_word = record { some_bits = is.some_bits; few_bits = is.few_bits; below = pow_pos x.width } in
    let minus : (w : Word) → w.width ≡ x.width → negated w ≡ subtracted zero_word w = λ (w : Word) (e : w.width ≡ x.width). ap (λ k. word_of k (neg_ℤ (pos w.value))) e ∙ ap (word_of x.width) (sym (+ℤ_idl (neg_ℤ (pos w.value)))) in
    minus (negated x) (width-word_of x.width (neg_ℤ (pos x.value))) ∙ ap (subtracted zero_word) (minus x refl) ∙ sub_sub zero_word x is_zero is.below refl
