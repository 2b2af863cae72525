-- The digits of a number, as they are printed.
use Rattle.std.proofs.Common.{◌≡◌, ℕ, ◌+◌, ◌*◌, ◌/◌, ◌%◌, ◌^◌, ◌<◌, ◌≤◌, true, nat_le, List, [], ◌∷◌, ◌++◌, refl, ◌∙◌, arith}
use Rattle.std.proofs.lemmas.Bool.{and_from, and_parts, le-leb}
use Rattle.std.proofs.lemmas.Fmt.{decimal_by_steps_wide}
use Rattle.std.specs.List.{list_all}
use Rattle.std.specs.Fmt.{decimal}
use Rattle.mir_lex.specs.Bytes.{is_digit, first_is, digit_value, value_from}

-- decimal digits, at least one, of this number
pub record IsDecimalOf (n : ℕ) (ds : List ℕ) : Type 0 where
  pub all : list_all is_digit ds ≡ true
  pub some : first_is is_digit ds ≡ true
  pub value : value_from 10 0 ds ≡ n

value_more : (n d : ℕ) (ds : List ℕ) → value_from 10 n (ds ++ d ∷ []) ≡ 10 * value_from 10 n ds + digit_value d
value_more n d [] = refl
value_more n d (c ∷ ds) = value_more (10 * n + digit_value c) d ds

all_more : (d : ℕ) (ds : List ℕ) → list_all is_digit ds ≡ true → is_digit d ≡ true → list_all is_digit (ds ++ d ∷ []) ≡ true
all_more d [] h i = rw i refl
all_more d (c ∷ ds) h i = let p = and_parts (is_digit c) (list_all is_digit ds) h in and_from (is_digit c) (list_all is_digit (ds ++ d ∷ [])) p.0 (all_more d ds p.1 i)

some_more : (d : ℕ) (ds : List ℕ) → first_is is_digit ds ≡ true → first_is is_digit (ds ++ d ∷ []) ≡ true
some_more d [] h = absurd cc
some_more d (c ∷ ds) h = h

pub digit_is : (k : ℕ) → k < 10 → is_digit (48 + k) ≡ true
digit_is k h = and_from (nat_le 48 (48 + k)) (nat_le (48 + k) 57) (le-leb 48 (48 + k) (omega arith)) (le-leb (48 + k) 57 (omega arith))

digit_counts : (k : ℕ) → k < 10 → digit_value (48 + k) ≡ k
digit_counts k h = rw (le-leb (48 + k) 57 (omega arith)) (omega arith)

one_digit : (k : ℕ) → k < 10 → IsDecimalOf k ((48 + k) ∷ [])
one_digit k h = record { all = rw (digit_is k h) refl; some = digit_is k h; value = let e = digit_counts k h in omega arith }

more_digits : (n : ℕ) (ds : List ℕ) → 10 ≤ n → IsDecimalOf (n / 10) ds → IsDecimalOf n (ds ++ (48 + n % 10) ∷ [])
more_digits n ds h i = let low : n % 10 < 10 = omega arith in record {
  all = all_more (48 + n % 10) ds i.all (digit_is (n % 10) low);
  some = some_more (48 + n % 10) ds i.some;
  value = let e = digit_counts (n % 10) low in let f = i.value in let g = value_more 0 (48 + n % 10) ds in g ∙ (let q : 10 * value_from 10 0 ds + digit_value (48 + n % 10) ≡ n = omega arith in q);
}

pub decimal_digits : (n : ℕ) → n < 10 ^ 64 → IsDecimalOf n (decimal n)
decimal_digits n h = decimal_by_steps_wide IsDecimalOf one_digit more_digits n h
