-- Laws of sums of products.
use Rattle.std.proofs.Common.{◌≡◌, ℕ, ◌+◌, ◌-◌, ◌*◌, ◌/◌, ◌%◌, ◌^◌, ◌<◌, ◌≤◌, List, [], ◌∷◌, length, get_or, set, take, drop, ap, sym, ◌∙◌, refl, arith, bit_and}
use Rattle.std.proofs.lemmas.List.Sums.{sum_by-set, sum_by-cons}
use Rattle.std.proofs.lemmas.Option.{slice_get-get_or}
use Rattle.std.proofs.lemmas.Nat.{and_mask}
use Rattle.std.proofs.Math.Seq.{take-length}
use Rattle.std.proofs.Math.Nat.{zero-mod}
use Rattle.word_bits.proofs.Cuts.{greatest_is}
use Rattle.sym_terms.specs.declared.sums.Product.{Product}
use Rattle.sym_terms.specs.declared.sums.Summand.{Summand}
use Rattle.sym_terms.specs.Sums.{product_value, summand_value, sum_value, AreCongruent, IsProduct, IsPlace, Adds, IsNothing}
use Rattle.sym_terms.proofs.Congruences.{congruent_same, congruent_through, congruent-cut, congruent-sum, congruent-sum_first, congruent-sum_second, congruent-product, congruent-product_second, congruent_less}

pub sum_value-cons : (values : ℕ → ℕ) (x : Summand) (xs : List Summand) → sum_value values (x ∷ xs) ≡ summand_value values x + sum_value values xs
unfolding sum_value
sum_value-cons values x xs = sum_by-cons (summand_value values) x xs

pub sum_value-empty : (values : ℕ → ℕ) → sum_value values [] ≡ 0
unfolding sum_value
sum_value-empty values = refl

pub sum_value-set : (values : ℕ → ℕ) (xs : List Summand) (at : ℕ) (y d : Summand) → at < length xs → sum_value values (set xs at y) + summand_value values (get_or xs at d) ≡ sum_value values xs + summand_value values y
unfolding sum_value
sum_value-set values xs at y d inside = sum_by-set (summand_value values) xs at y d inside

-- the same change, with another form of the amount
pub Adds-as : {old new : List Summand} {amount : (ℕ → ℕ) → ℕ} (other : (ℕ → ℕ) → ℕ) → Adds old new amount → ((values : ℕ → ℕ) → AreCongruent 128 (amount values) (other values)) → Adds old new other
Adds-as {old} other adds same = record { sum_is = λ values. congruent_through (adds.sum_is values) (congruent-sum_first (sum_value values old) (same values)) }

-- no change
pub Adds-nothing : (xs : List Summand) (amount : (ℕ → ℕ) → ℕ) → ((values : ℕ → ℕ) → amount values ≡ 0) → Adds xs xs amount
Adds-nothing xs amount none = record {
  sum_is = λ values. congruent_same 128 (sum_value values xs) (sum_value values xs + amount values) (omega (arith, none values));
}

-- a change after another
pub Adds-both : {old mid new : List Summand} {first second : (ℕ → ℕ) → ℕ} → Adds old mid first → Adds mid new second → Adds old new (λ values. first values + second values)
Adds-both {old} {mid} {new} {first} {second} one two = record {
  sum_is = λ values.
      let more = congruent-sum_second (second values) (one.sum_is values) in
      let form : sum_value values old + first values + second values ≡ sum_value values old + (first values + second values) = omega arith in
      congruent_through (two.sum_is values) (congruent_through more (congruent_same 128 _ _ form));
}

-- a product is put at a place that it may have
pub Adds-set : (xs : List Summand) (at : ℕ) (product : Product) (coefficient : ℕ) (d : Summand) → IsPlace xs product at
    → Adds xs (set xs at (record { coefficient = ((get_or xs at d).coefficient + coefficient) % 2 ^ 128; product = product })) (λ values. coefficient * product_value values product)
Adds-set xs at product coefficient d place = record {
  sum_is = λ values.
      let found = get_or xs at d in
      let p = product_value values product in
      let before = found.coefficient in
      let now : Summand = record { coefficient = (before + coefficient) % 2 ^ 128; product = product } in
      let changed = sum_value-set values xs at now d place.inside in
      let was : summand_value values found ≡ before * p = place.value_is values found (slice_get-get_or xs at d place.inside) in
      let there : sum_value values (set xs at now) + before * p ≡ sum_value values xs + (before + coefficient) % 2 ^ 128 * p = ap (λ k. sum_value values (set xs at now) + k) (sym was) ∙ changed in
      let cut : AreCongruent 128 ((before + coefficient) % 2 ^ 128 * p) ((before + coefficient) * p) = congruent-product_second p (congruent-cut 128 (before + coefficient)) in
      let form : sum_value values xs + (before + coefficient) * p ≡ sum_value values xs + coefficient * p + before * p = omega arith in
      congruent_less (before * p) (congruent_through (congruent_same 128 _ _ there) (congruent_through (congruent-sum_first (sum_value values xs) cut) (congruent_same 128 _ _ form)));
}

-- a product of products
pub Adds-product : {old new : List Summand} (whole product : Product) (coefficient : ℕ) (summand : Summand) → IsProduct whole product summand.product
    → Adds old new (λ values. (coefficient * summand.coefficient) % 2 ^ 128 * product_value values whole)
    → Adds old new (λ values. coefficient * product_value values product * summand_value values summand)
Adds-product whole product coefficient summand is adds =
    Adds-as (λ values. coefficient * product_value values product * summand_value values summand) adds (λ values.
    let p = product_value values product in
    let q = product_value values summand.product in
    let cut : AreCongruent 128 ((coefficient * summand.coefficient) % 2 ^ 128 * product_value values whole) (coefficient * summand.coefficient * (p * q)) =
    congruent-product (congruent-cut 128 (coefficient * summand.coefficient)) (congruent_same 128 _ _ (is.value_is values)) in
    congruent_through cut (congruent_same 128 _ _ (form coefficient summand.coefficient p q)))
  where
    form : (c s p q : ℕ) → c * s * (p * q) ≡ c * p * (s * q)
    form c s p q = omega arith

-- a list of summands, the first and the rest
pub Adds-all_empty : (xs : List Summand) (product : Product) (coefficient : ℕ) → Adds xs xs (λ values. coefficient * product_value values product * sum_value values [])
Adds-all_empty xs product coefficient = Adds-nothing xs _ (λ values. ap (λ k. coefficient * product_value values product * k) (sum_value-empty values) ∙ none (coefficient * product_value values product))
  where
    none : (c : ℕ) → c * 0 ≡ 0
    none c = omega arith

pub Adds-all_cons : {old mid new : List Summand} (product : Product) (coefficient : ℕ) (x : Summand) (xs : List Summand)
    → Adds old mid (λ values. coefficient * product_value values product * summand_value values x)
    → Adds mid new (λ values. coefficient * product_value values product * sum_value values xs)
    → Adds old new (λ values. coefficient * product_value values product * sum_value values (x ∷ xs))
Adds-all_cons product coefficient x xs one two =
    Adds-as (λ values. coefficient * product_value values product * sum_value values (x ∷ xs)) (Adds-both one two) (λ values.
    congruent_same 128 _ _ (form (coefficient * product_value values product) (summand_value values x) (sum_value values xs)
    ∙ ap (λ k. coefficient * product_value values product * k) (sym (sum_value-cons values x xs))))
  where
    form : (c x y : ℕ) → c * x + c * y ≡ c * (x + y)
    form c x y = omega arith

-- the product of two sums, by the first summand of one and the rest
pub Adds-product_empty : (xs : List Summand) (second : List Summand) (coefficient : ℕ) → Adds xs xs (λ values. coefficient * (sum_value values [] * sum_value values second))
Adds-product_empty xs second coefficient = Adds-nothing xs _ (λ values. ap (λ k. coefficient * (k * sum_value values second)) (sum_value-empty values) ∙ none coefficient (sum_value values second))
  where
    none : (c s : ℕ) → c * (0 * s) ≡ 0
    none c s = omega arith

pub Adds-product_cons : {old mid new : List Summand} (coefficient : ℕ) (x : Summand) (xs second : List Summand)
    → Adds old mid (λ values. coefficient * (summand_value values x * sum_value values second))
    → Adds mid new (λ values. coefficient * (sum_value values xs * sum_value values second))
    → Adds old new (λ values. coefficient * (sum_value values (x ∷ xs) * sum_value values second))
Adds-product_cons coefficient x xs second one two =
    Adds-as (λ values. coefficient * (sum_value values (x ∷ xs) * sum_value values second)) (Adds-both one two) (λ values.
    congruent_same 128 _ _ (form coefficient (summand_value values x) (sum_value values xs) (sum_value values second)
    ∙ ap (λ k. coefficient * (k * sum_value values second)) (sym (sum_value-cons values x xs))))
  where
    form : (c x r s : ℕ) → c * (x * s) + c * (r * s) ≡ c * ((x + r) * s)
    form c x r s = omega arith

-- a summand times a sum
pub Adds-times : {old new : List Summand} (coefficient : ℕ) (one : Summand) (xs : List Summand)
    → Adds old new (λ values. (coefficient * one.coefficient) % 2 ^ 128 * product_value values one.product * sum_value values xs)
    → Adds old new (λ values. coefficient * (summand_value values one * sum_value values xs))
Adds-times coefficient one xs adds =
    Adds-as (λ values. coefficient * (summand_value values one * sum_value values xs)) adds (λ values.
    let p = product_value values one.product in
    let s = sum_value values xs in
    let cut : AreCongruent 128 ((coefficient * one.coefficient) % 2 ^ 128 * p * s) (coefficient * one.coefficient * p * s) =
    congruent-product_second s (congruent-product_second p (congruent-cut 128 (coefficient * one.coefficient))) in
    congruent_through cut (congruent_same 128 _ _ (form coefficient one.coefficient p s)))
  where
    form : (c x p s : ℕ) → c * x * p * s ≡ c * (x * p * s)
    form c x p s = omega arith

-- a list by its first element and the rest, as the code takes it apart
pub first_rest : (P : List Summand → Type 0) (xs : List Summand) (d : Summand) → 1 ≤ length xs → P (get_or xs 0 d ∷ take (length xs - 1) (drop 1 xs)) → P xs
first_rest P [] d some p = absurd (omega arith)
first_rest P (x ∷ xs) d some p = rw (whole, take_all) at p
  where
    whole : length (x ∷ xs) - 1 ≡ length xs
    whole = omega arith

    take_all : take (length xs) xs ≡ xs
    take_all = take-length xs

pub empty_list : (P : List Summand → Type 0) (xs : List Summand) → length xs < 1 → P [] → P xs
empty_list P [] none p = p
empty_list P (x ∷ xs) none p = absurd (omega arith)

-- no summand is left at the width
pub IsNothing-empty : (width : ℕ) → IsNothing width []
IsNothing-empty width = record { sum_is = λ values. congruent_same width _ _ (sum_value-empty values) }

pub IsNothing-cons : (width : ℕ) → width ≤ 128 → (x : Summand) (xs : List Summand) → bit_and x.coefficient ((2 ^ 128 - 1) / 2 ^ (128 - width)) ≡ 0 → IsNothing width xs → IsNothing width (x ∷ xs)
IsNothing-cons width few x xs e rest = record {
  sum_is = λ values.
      let none : x.coefficient % 2 ^ width ≡ 0 = sym (and_mask x.coefficient width) ∙ ap (bit_and x.coefficient) (sym (greatest_is width few)) ∙ e in
      let first : AreCongruent width x.coefficient 0 = record { cut = none ∙ sym (zero-mod (2 ^ width)) } in
      let both = congruent-sum (congruent-product_second (product_value values x.product) first) (rest.sum_is values) in
      congruent_through (congruent_same width _ _ (sum_value-cons values x xs)) (congruent_through both (congruent_same width _ _ (form (product_value values x.product))));
}
  where
    form : (p : ℕ) → 0 * p + 0 ≡ 0
    form p = omega arith
