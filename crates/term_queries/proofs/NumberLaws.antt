-- Bits that are set one after another.
use Rattle.std.proofs.Common.{◌≡◌, ◌≢◌, ℕ, ◌+◌, ◌*◌, ◌%◌, ◌^◌, ◌<◌, ◌≤◌, ◌==◌, ◌&&◌, Bool, true, false, cond, List, [], length, get_or, subst, sym, ap, ◌∙◌, refl, arith, inl, inr}
use Rattle.std.specs.Prelude.{bit_or, slice_set, AllPairs}
use Rattle.std.specs.Int.{bit_at, w128}
use Rattle.std.proofs.lemmas.Bool.{eqb-true, eqb-false, eq-eqb, cases_lt, cases_order}
use Rattle.std.proofs.lemmas.List.{get_or-set_same, get_or-set_other}
use Rattle.std.proofs.lemmas.Nat.Bits.{bit_at-zero, bit_at_set_same, bit_at_set_other}
use Rattle.bit_gates.specs.declared.gates.InputBit.{InputBit}
use Rattle.bit_blast.specs.Inputs.{no_bit}
use Rattle.term_queries.specs.Numbers.{AreNumbers, HaveBits, IsBitPut, IsBitSet}

pub bit_set : (n k j : ℕ) → k < 128 → bit_at (bit_or n (1 * 2 ^ k % 2 ^ 128)) j ≡ cond (j == k) 1 (bit_at n j)
bit_set n k j within = by_cases (j == k) refl where
  by_cases : (t : Bool) → (j == k) ≡ t → bit_at (bit_or n (1 * 2 ^ k % 2 ^ 128)) j ≡ cond t 1 (bit_at n j)
  by_cases true e = ap (bit_at (bit_or n (1 * 2 ^ k % 2 ^ 128))) (eqb-true j k e) ∙ bit_at_set_same w128 n k within
  by_cases false e = bit_at_set_other w128 n k within j (eqb-false j k e)

-- a bit is set in a number of a list that was made longer
pub one_bit_set : (old mid new : List ℕ) (b : InputBit) → ((k : ℕ) → get_or mid k 0 ≡ get_or old k 0) → b.number < length mid → b.bit < 128 → new ≡ slice_set mid b.number (bit_or (get_or mid b.number 0) (1 * 2 ^ b.bit % 2 ^ 128)) → IsBitSet old new b
one_bit_set old mid new b kept inside small e k j = by_number (k == b.number) refl where
  set : ℕ
  set = bit_or (get_or mid b.number 0) (1 * 2 ^ b.bit % 2 ^ 128)

  by_number : (t : Bool) → (k == b.number) ≡ t → bit_at (get_or new k 0) j ≡ cond (t && j == b.bit) 1 (bit_at (get_or old k 0) j)
  by_number true g =
      let same : k ≡ b.number = eqb-true k b.number g in
      let here : get_or new k 0 ≡ set = ap (λ l. get_or l k 0) e ∙ ap (λ n. get_or (slice_set mid b.number set) n 0) same ∙ get_or-set_same mid b.number set 0 inside in
      ap (λ n. bit_at n j) here ∙ bit_set (get_or mid b.number 0) b.bit j small ∙ ap (λ n. cond (j == b.bit) 1 (bit_at n j)) (kept b.number ∙ ap (λ n. get_or old n 0) (sym same))
  by_number false g = ap (λ n. bit_at n j) (ap (λ l. get_or l k 0) e ∙ get_or-set_other mid b.number k set 0 (eqb-false k b.number g) ∙ kept k)

pub none_set : (inputs : List InputBit) (values : ℕ → Bool) → HaveBits inputs values [] 0
none_set inputs values = record { done = λ q before inside. absurd (omega (arith, before)); ahead = λ q from inside. bit_at-zero (get_or inputs q no_bit).bit }

-- two bits of the list that stand at different places are different
pub places_apart : (inputs : List InputBit) (p q : ℕ) → AllPairs (λ x y. x ≢ y) inputs → p < length inputs → q < length inputs → p ≢ q → get_or inputs p no_bit ≢ get_or inputs q no_bit
places_apart inputs p q apart hp hq far e = elim (cases_order p q) [
  | inl same ↦ far same
  | inr other ↦ elim other [ inl less ↦ apart p q no_bit less hq e | inr more ↦ apart q p no_bit more hp (sym e) ]
]

same_bit : (x y : InputBit) → (x.number == y.number && x.bit == y.bit) ≡ true → x ≡ y
same_bit x y h = bits (eqb-true x.number y.number (first (x.number == y.number) (x.bit == y.bit) h)) (eqb-true x.bit y.bit (second (x.number == y.number) (x.bit == y.bit) h)) where
  first : (a b : Bool) → (a && b) ≡ true → a ≡ true
  first true b h = refl
  first false b h = h

  second : (a b : Bool) → (a && b) ≡ true → b ≡ true
  second true b h = h
  second false b h = cc

  bits : x.number ≡ y.number → x.bit ≡ y.bit → x ≡ y
  bits e g = ap (λ n. made n x.bit) e ∙ ap (made y.number) g where
    made : ℕ → ℕ → InputBit
    made n k = record { number = n; bit = k }

-- the bit at a place is as the setting of another one left it
other_kept : (inputs : List InputBit) (old new : List ℕ) (p q : ℕ) → AllPairs (λ x y. x ≢ y) inputs → p < length inputs → q < length inputs → q ≢ p → IsBitSet old new (get_or inputs p no_bit)
    → bit_at (get_or new (get_or inputs q no_bit).number 0) (get_or inputs q no_bit).bit ≡ bit_at (get_or old (get_or inputs q no_bit).number 0) (get_or inputs q no_bit).bit
other_kept inputs old new p q apart hp hq far set =
    set (get_or inputs q no_bit).number (get_or inputs q no_bit).bit
    ∙ by_cases ((get_or inputs q no_bit).number == (get_or inputs p no_bit).number && (get_or inputs q no_bit).bit == (get_or inputs p no_bit).bit) refl
  where
    by_cases : (t : Bool) → ((get_or inputs q no_bit).number == (get_or inputs p no_bit).number && (get_or inputs q no_bit).bit == (get_or inputs p no_bit).bit) ≡ t
        → cond t 1 (bit_at (get_or old (get_or inputs q no_bit).number 0) (get_or inputs q no_bit).bit) ≡ bit_at (get_or old (get_or inputs q no_bit).number 0) (get_or inputs q no_bit).bit
    by_cases true e = absurd (places_apart inputs q p apart hq hp far (same_bit (get_or inputs q no_bit) (get_or inputs p no_bit) e))
    by_cases false e = refl

this_set : (b : InputBit) (old new : List ℕ) → IsBitSet old new b → bit_at (get_or new b.number 0) b.bit ≡ 1
this_set b old new set = set b.number b.bit ∙ ap (λ t. cond t 1 (bit_at (get_or old b.number 0) b.bit)) (both (b.number == b.number) (b.bit == b.bit) (eq-eqb b.number b.number refl) (eq-eqb b.bit b.bit refl)) where
  both : (x y : Bool) → x ≡ true → y ≡ true → (x && y) ≡ true
  both true y h g = g
  both false y h g = h

pub one_set : (inputs : List InputBit) (values : ℕ → Bool) (old new : List ℕ) (p : ℕ) → AllPairs (λ x y. x ≢ y) inputs → p < length inputs → values p ≡ true → IsBitSet old new (get_or inputs p no_bit) → HaveBits inputs values old p → HaveBits inputs values new (p + 1)
one_set inputs values old new p apart hp value set have = record {
  done = λ q before inside. elim (cases_lt q p) [
    | inl less ↦ ap (λ n. n == 1) (other_kept inputs old new p q apart hp inside (below q p less) set) ∙ have.done q less inside
    | inr upto ↦ (let same : q ≡ p = omega (arith, before, upto) in
        subst (λ k. (bit_at (get_or new (get_or inputs k no_bit).number 0) (get_or inputs k no_bit).bit == 1) ≡ values k) (sym same)
        (ap (λ n. n == 1) (this_set (get_or inputs p no_bit) old new set) ∙ sym value))
  ];
  ahead = λ q from inside. other_kept inputs old new p q apart hp inside (beyond q p from) set ∙ have.ahead q (omega (arith, from)) inside;
} where
  below : (q p : ℕ) → q < p → q ≢ p
  below q p less e = omega (arith, less, e)

  beyond : (q p : ℕ) → p + 1 ≤ q → q ≢ p
  beyond q p from e = omega (arith, from, e)

pub one_passed : (inputs : List InputBit) (values : ℕ → Bool) (numbers : List ℕ) (p : ℕ) → values p ≡ false → HaveBits inputs values numbers p → HaveBits inputs values numbers (p + 1)
one_passed inputs values numbers p value have = record {
  done = λ q before inside. elim (cases_lt q p) [
    | inl less ↦ have.done q less inside
    | inr upto ↦ (let same : q ≡ p = omega (arith, before, upto) in
        ap (λ n. n == 1) (have.ahead q upto inside) ∙ sym (ap values same ∙ value))
  ];
  ahead = λ q from inside. have.ahead q (omega (arith, from)) inside;
}

pub all_set : (inputs : List InputBit) (values : ℕ → Bool) (numbers : List ℕ) (p : ℕ) → length inputs ≤ p → HaveBits inputs values numbers p → AreNumbers inputs values (λ n. get_or numbers n 0)
all_set inputs values numbers p all have = λ q inside. have.done q (omega (arith, all, inside)) inside

-- one place more
pub placed_on : (inputs : List InputBit) (values : ℕ → Bool) (old new : List ℕ) (p : ℕ) (value : Bool) → AllPairs (λ x y. x ≢ y) inputs → p < length inputs → values p ≡ value → IsBitPut old new (get_or inputs p no_bit) value → HaveBits inputs values old p → HaveBits inputs values new (p + 1)
placed_on inputs values old new p true apart hp e put have = one_set inputs values old new p apart hp e put have
placed_on inputs values old new p false apart hp e put have = subst (λ l. HaveBits inputs values l (p + 1)) (sym put) (one_passed inputs values old p e have)
