-- Digits without leading zeros: different ones write different numbers.
use Rattle.std.proofs.Common.{◌≡◌, ℕ, zero, suc, ◌+◌, ◌*◌, ◌-◌, ◌<◌, ◌≤◌, ◌^◌, ◌==◌, not, nat_le, true, List, [], ◌∷◌, length, get_or, inl, inr, ◌⊎◌, refl, sym, ◌∙◌, ap, arith, eq-or-lt_of_le}
use Rattle.std.specs.List.{list_all}
use Rattle.std.specs.Fmt.{decimal}
use Rattle.std.proofs.lemmas.Bool.{and_from, and_parts, cases_order, le-leb, leb-true, ne_eqb, not-true, not_from_false, eqb-false}
use Rattle.std.proofs.lemmas.Fmt.{decimal_nonempty, digits_decimal, first_decimal, decimal_digit}
use Rattle.std.proofs.lemmas.Str.Parse.{IsDigitsTest, FoldsDigits, numerals_by_fold}
use Rattle.mir_lex.specs.Bytes.{digit_value, is_digit, value_from}
use Rattle.mir_lex.specs.Views.{is_index}

-- Digits.

digit_low : (d : ℕ) → is_digit d ≡ true → (48 ≤ d) × (d ≤ 57)
digit_low d h = let p = and_parts (nat_le 48 d) (nat_le d 57) h in (leb-true 48 d p.0, leb-true d 57 p.1)

digit_counts : (d : ℕ) → is_digit d ≡ true → digit_value d + 48 ≡ d
digit_counts d h = let p = digit_low d h in rw (le-leb d 57 p.1) (omega arith)

digit_small : (d : ℕ) → is_digit d ≡ true → digit_value d ≤ 9
digit_small d h = let p = digit_low d h in let e = digit_counts d h in omega arith

first_digit : (d : ℕ) (ds : List ℕ) → list_all is_digit (d ∷ ds) ≡ true → is_digit d ≡ true
first_digit d ds h = (and_parts (is_digit d) (list_all is_digit ds) h).0

more_digits : (d : ℕ) (ds : List ℕ) → list_all is_digit (d ∷ ds) ≡ true → list_all is_digit ds ≡ true
more_digits d ds h = (and_parts (is_digit d) (list_all is_digit ds) h).1

-- Numbers behind others.

-- as many digits keep the order of what stands before them
in_order : (n m : ℕ) (xs ys : List ℕ) → n < m → list_all is_digit xs ≡ true → list_all is_digit ys ≡ true → length xs ≡ length ys → value_from 10 n xs < value_from 10 m ys
in_order n m [] [] l h k e = l
in_order n m [] (y ∷ ys) l h k e = absurd (omega arith)
in_order n m (x ∷ xs) [] l h k e = absurd (omega arith)
in_order n m (x ∷ xs) (y ∷ ys) l h k e =
    let s = digit_small x (first_digit x xs h) in
    in_order (10 * n + digit_value x) (10 * m + digit_value y) xs ys (omega arith) (more_digits x xs h) (more_digits y ys k) (omega arith)

-- more digits behind a number write a greater one
longer : (n : ℕ) (xs ys : List ℕ) → 0 < n → list_all is_digit xs ≡ true → list_all is_digit ys ≡ true → length xs ≤ length ys → value_from 10 0 xs < value_from 10 n ys
longer n xs [] l h k e = in_order 0 n xs [] l h k (omega arith)
longer n xs (y ∷ ys) l h k e = elim (eq-or-lt_of_le e) [
  | inl s ↦ in_order 0 n xs (y ∷ ys) l h k s
  | inr s ↦ longer (10 * n + digit_value y) xs ys (omega arith) h (more_digits y ys k) (omega arith)
]

-- as many digits that write one number are equal
same_digits : (n m : ℕ) (xs ys : List ℕ) → list_all is_digit xs ≡ true → list_all is_digit ys ≡ true → length xs ≡ length ys → value_from 10 n xs ≡ value_from 10 m ys → (n ≡ m) × (xs ≡ ys)
same_digits n m [] [] h k l e = (e, refl)
same_digits n m [] (y ∷ ys) h k l e = absurd (omega arith)
same_digits n m (x ∷ xs) [] h k l e = absurd (omega arith)
same_digits n m (x ∷ xs) (y ∷ ys) h k l e =
    let a = digit_small x (first_digit x xs h) in
    let b = digit_small y (first_digit y ys k) in
    let c = digit_counts x (first_digit x xs h) in
    let d = digit_counts y (first_digit y ys k) in
    let s = same_digits (10 * n + digit_value x) (10 * m + digit_value y) xs ys (more_digits x xs h) (more_digits y ys k) (omega arith) e in
    let f : 10 * n + digit_value x ≡ 10 * m + digit_value y = s.0 in
    let g : n ≡ m = omega arith in
    let j : x ≡ y = omega arith in
    (g, ap (λ z. z ∷ xs) j ∙ ap (λ zs. y ∷ zs) s.1)

-- Digits without leading zeros.

pub index_all : (ds : List ℕ) → is_index ds ≡ true → list_all is_digit ds ≡ true
index_all [] h = refl
index_all (d ∷ []) h = and_from (is_digit d) true h refl
index_all (d ∷ e ∷ ds) h = (and_parts (not (d == 48)) (list_all is_digit (d ∷ e ∷ ds)) h).1

-- several begin with one that counts
lead_counts : (d : ℕ) (ds : List ℕ) → is_digit d ≡ true → (d ≡ 48 → ⊥) → 0 < digit_value d
lead_counts d ds h n =
    let e = digit_counts d h in
    let p = digit_low d h in
    elim (eq-or-lt_of_le p.0) [ inl s ↦ absurd (n (sym s)) | inr s ↦ omega arith ]

long_lead : (d e : ℕ) (ds : List ℕ) → is_index (d ∷ e ∷ ds) ≡ true → d ≡ 48 → ⊥
long_lead d e ds h s = let p = and_parts (not (d == 48)) (list_all is_digit (d ∷ e ∷ ds)) h in eqb-false d 48 (not-true (d == 48) p.0) s

-- fewer digits write a smaller number
fewer : (xs ys : List ℕ) → is_index xs ≡ true → is_index ys ≡ true → length xs < length ys → value_from 10 0 xs < value_from 10 0 ys
fewer xs [] h k l = absurd (omega arith)
fewer [] (y ∷ []) h k l = absurd cc
fewer (x ∷ xs) (y ∷ []) h k l = absurd (omega arith)
fewer xs (y ∷ z ∷ ys) h k l =
    let a = index_all (y ∷ z ∷ ys) k in
    let c = lead_counts y (z ∷ ys) (first_digit y (z ∷ ys) a) (long_lead y z ys k) in
    longer (10 * 0 + digit_value y) xs (z ∷ ys) (omega arith) (index_all xs h) (more_digits y (z ∷ ys) a) (omega arith)

pub index_same : (xs ys : List ℕ) → is_index xs ≡ true → is_index ys ≡ true → value_from 10 0 xs ≡ value_from 10 0 ys → xs ≡ ys
index_same xs ys h k e = by_length (cases_order (length xs) (length ys))
  where
    by_length : (length xs ≡ length ys) ⊎ ((length xs < length ys) ⊎ (length ys < length xs)) → xs ≡ ys
    by_length (inl s) = (same_digits 0 0 xs ys (index_all xs h) (index_all ys k) s e).1
    by_length (inr (inl s)) = let f = fewer xs ys h k s in absurd (omega arith)
    by_length (inr (inr s)) = let f = fewer ys xs k h s in absurd (omega arith)

-- digits that do not begin with a zero write a number that counts
pub index_counts : (d : ℕ) (ds : List ℕ) → is_index (d ∷ ds) ≡ true → (d ≡ 48 → ⊥) → 0 < value_from 10 0 (d ∷ ds)
index_counts d ds h n = let a = index_all (d ∷ ds) h in let c = lead_counts d ds (first_digit d ds a) n in
    let l : value_from 10 0 [] < value_from 10 (10 * 0 + digit_value d) ds = longer (10 * 0 + digit_value d) [] ds (omega arith) refl (more_digits d ds a) (omega arith) in omega arith

-- What is written of a number.

digits_test : IsDigitsTest (λ ds. list_all is_digit ds ≡ true)
digits_test = record {
  empty = refl;
  parts = λ c cs e. let p = and_parts (is_digit c) (list_all is_digit cs) e in let q = and_parts (nat_le 48 c) (nat_le c 57) p.0 in ((leb-true 48 c q.0, leb-true c 57 q.1), p.1);
  more = λ c cs k e. and_from (is_digit c) (list_all is_digit cs) (and_from (nat_le 48 c) (nat_le c 57) (le-leb 48 c k.0) (le-leb c 57 k.1)) e;
}

one_value : (n c : ℕ) → 48 ≤ c → c ≤ 57 → 10 * n + digit_value c ≡ n * 10 + (c - 48)
one_value n c h k = rw (le-leb c 57 k) (omega arith)

value_folds : FoldsDigits (value_from 10)
value_folds = record { empty = λ n. refl; more = λ n c cs k. ap (λ m. value_from 10 m cs) (one_value n c k.0 k.1) }

decimal_digits : (n : ℕ) → n < 2 ^ 64 → list_all is_digit (decimal n) ≡ true
decimal_digits n h = digits_decimal (numerals_by_fold (λ xs. list_all is_digit xs ≡ true) digits_test (value_from 10) value_folds) n h

index_from : (ds : List ℕ) → 0 < length ds → 48 < get_or ds 0 0 → list_all is_digit ds ≡ true → is_index ds ≡ true
index_from [] s l a = absurd (omega arith)
index_from (d ∷ []) s l a = first_digit d [] a
index_from (d ∷ e ∷ ds) s l a = and_from (not (d == 48)) (list_all is_digit (d ∷ e ∷ ds)) (not_from_false (d == 48) (ne_eqb d 48 (λ f. omega arith))) a

pub decimal_index : (n : ℕ) → n < 2 ^ 64 → is_index (decimal n) ≡ true
decimal_index zero h = ap is_index (decimal_digit 0 (omega arith))
decimal_index (suc n) h = index_from (decimal (suc n)) (decimal_nonempty (suc n) h) (first_decimal (suc n) (omega arith) h) (decimal_digits (suc n) h)
