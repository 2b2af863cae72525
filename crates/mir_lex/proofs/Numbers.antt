-- Numbers that digits write behind others.
use Rattle.std.proofs.Common.{◌≡◌, ℕ, ◌+◌, ◌*◌, ◌^◌, ◌<◌, ◌≤◌, Bool, true, false, nat_le, if◌then◌else◌, List, [], ◌∷◌, length, get_or, Option, Some, None, refl, sym, subst, arith, mul_comm}
use Rattle.std.specs.Option.{MatchOption}
use Rattle.std.proofs.lemmas.Bool.{lt-leb, le-leb}
use Rattle.mir_lex.specs.Bytes.{digit_value, value_from, number_within}
use Rattle.mir_lex.specs.Views.{capped}

grown : (base n d : ℕ) → 0 < base → n ≤ base * n + d
grown base n d h = grind arith

pub value_grows : (base n : ℕ) (digits : List ℕ) → 0 < base → n ≤ value_from base n digits
value_grows base n [] h = omega arith
value_grows base n (d ∷ ds) h = let i = value_grows base (base * n + digit_value d) ds h in let g = grown base n (digit_value d) h in omega arith

-- digits behind a number that is too great write one that is
pub too_great : (base n most : ℕ) (left digits : List ℕ) → 0 < base → value_from base n left ≡ value_from base 0 digits → 0 < length left → most < base * n + digit_value (get_or left 0 0) → None ≡ number_within base most digits
unfolding number_within
too_great base n most [] digits b e s h = absurd (omega arith)
too_great base n most (d ∷ ds) digits b e s h =
    let g = value_grows base (base * n + digit_value d) ds b in
    rw (lt-leb (value_from base 0 digits) most (omega (arith, e))) refl

-- the same where the product, or the sum, is no u128
pub wide_product : (base n most : ℕ) (left digits : List ℕ) → 0 < base → value_from base n left ≡ value_from base 0 digits → 0 < length left → (n * base < 2 ^ 128 → ⊥) → most < 2 ^ 128 → None ≡ number_within base most digits
wide_product base n most left digits b e s h m =
    let w : 2 ^ 128 ≤ n * base = grind arith in
    let c : n * base ≡ base * n = mul_comm n base in
    too_great base n most left digits b e s (omega arith)

pub wide_sum : (base n most p v : ℕ) (left digits : List ℕ) → 0 < base → value_from base n left ≡ value_from base 0 digits → 0 < length left → p ≡ n * base → v ≡ digit_value (get_or left 0 0) → (p + v < 2 ^ 128 → ⊥) → most < 2 ^ 128 → None ≡ number_within base most digits
wide_sum base n most p v left digits b e s q d h m =
    let w : 2 ^ 128 ≤ p + v = grind arith in
    let c : n * base ≡ base * n = mul_comm n base in
    too_great base n most left digits b e s (omega arith)

pub small_enough : (base n most : ℕ) (left digits : List ℕ) → value_from base n left ≡ value_from base 0 digits → length left < 1 → n ≤ most → Some n ≡ number_within base most digits
unfolding number_within
small_enough base n most [] digits e s h = rw (sym e) (rw (le-leb n most h) refl)
small_enough base n most (d ∷ left) digits e s h = absurd (omega arith)

pub too_great_end : (base n most : ℕ) (left digits : List ℕ) → value_from base n left ≡ value_from base 0 digits → length left < 1 → most < n → None ≡ number_within base most digits
unfolding number_within
too_great_end base n most [] digits e s h = rw (sym e) (rw (lt-leb n most h) refl)
too_great_end base n most (d ∷ left) digits e s h = absurd (omega arith)

-- The numbers of locals and blocks.

within_cases : (c : Bool) (v : ℕ) (o : Option ℕ) → nat_le v 4095 ≡ c → o ≡ (if c then Some v else None) → MatchOption o (4096 ≡ capped v) (λ n. n ≡ capped v)
within_cases true v o h e = rw e (rw h refl)
within_cases false v o h e = rw e (rw h refl)

capped_at : (digits : List ℕ) (o : Option ℕ) → o ≡ number_within 10 4095 digits → MatchOption o (4096 ≡ capped (value_from 10 0 digits)) (λ n. n ≡ capped (value_from 10 0 digits))
unfolding number_within
capped_at digits o e = within_cases (nat_le (value_from 10 0 digits) 4095) (value_from 10 0 digits) o refl e

pub capped_past : (digits : List ℕ) (o : Option ℕ) → o ≡ number_within 10 4095 digits → o ≡ None → 4096 ≡ capped (value_from 10 0 digits)
capped_past digits o e h = subst (λ r. MatchOption r (4096 ≡ capped (value_from 10 0 digits)) (λ n. n ≡ capped (value_from 10 0 digits))) h (capped_at digits o e)

pub capped_some : (digits : List ℕ) (o : Option ℕ) (n : ℕ) → o ≡ number_within 10 4095 digits → o ≡ Some n → n ≡ capped (value_from 10 0 digits)
capped_some digits o n e h = subst (λ r. MatchOption r (4096 ≡ capped (value_from 10 0 digits)) (λ n. n ≡ capped (value_from 10 0 digits))) h (capped_at digits o e)
