-- Numbers are found exactly.
use Rattle.std.proofs.Common.{◌≡◌, inl, inr, ℕ, ◌+◌, ◌-◌, ◌^◌, ◌<◌, ◌≤◌, Bool, true, false, ◌==◌, ◌||◌, List, [], ◌∷◌, ◌++◌, length, take, drop, codes, nat_le, Option, Some, None, Ok, Err, unwrap_or, refl, sym, ◌∙◌, ap, subst, arith, append_assoc, append-nil, length-append}
use Rattle.std.proofs.lemmas.Bool.{and_parts, and_from, or_cases, or_parts, eqb-true, leb-true, leb-false, le-leb, lt-leb, not_from_false}
use Rattle.std.proofs.lemmas.Bool.Decides.{nat_tests}
use Rattle.std.proofs.lemmas.List.{take_at, drop_at}
use Rattle.std.specs.List.{prefix_len, list_all}
use Rattle.std.specs.Str.{bytes_eq}
use Rattle.mir_lex.specs.declared.token.TokenKind.{TokenKind}
use Rattle.mir_lex.specs.declared.token.TokenKind.TheVariants as kind
use Rattle.mir_lex.specs.declared.fault.FaultKind.TheVariants as fault
use Rattle.mir_lex.specs.declared.front.Found.{Found}
use Rattle.mir_lex.specs.declared.front.Fault.{Fault}
use Rattle.mir_lex.specs.Bytes.{is_digit, is_word_byte, is_word_start, is_width, is_integer_name, first_is, starts, value_from, number_within}
use Rattle.mir_lex.specs.Tokens.{is_decimal, is_suffix, IsToken, ends, BeginsWideNumber, GoesOn}
use Rattle.mir_lex.specs.Lexing.{token_of, failed, more, width_len, name_len, suffix_len, number_of, digits_of, number_at}
use Rattle.mir_lex.proofs.Runs.{if_cases, same_ok, same_err, same_some, run, run_on, run_none}

cons_same : (b c : ℕ) (xs ys : List ℕ) → b ≡ c → xs ≡ ys → b ∷ xs ≡ c ∷ ys
cons_same b c xs ys h e = cc

pub starts_takes : (needle bytes : List ℕ) → starts needle bytes ≡ true → (behind : List ℕ) × (bytes ≡ needle ++ behind)
starts_takes [] bytes h = (bytes, refl)
starts_takes (c ∷ needle) [] h = cc
starts_takes (c ∷ needle) (b ∷ bytes) h =
    let s = and_parts (b == c) (starts needle bytes) h in
    let i = starts_takes needle bytes s.1 in
    (i.0, cons_same b c bytes (needle ++ i.0) (eqb-true b c s.0) i.1)

-- so many bytes at the front pass a test
pub record Front_of (test : List ℕ → Bool) (bytes : List ℕ) (n : ℕ) : Type 0 where
  pub front : List ℕ
  pub behind : List ℕ
  pub joins : bytes ≡ front ++ behind
  pub good : test front ≡ true
  pub size : length front ≡ n

width_as : (w bytes : List ℕ) → is_width w ≡ true → starts w bytes ≡ true → Front_of is_width bytes (length w)
width_as w bytes g h = let s = starts_takes w bytes h in record { front = w; behind = s.0; joins = s.1; good = g; size = refl }

width_takes : (bytes : List ℕ) (n : ℕ) → width_len bytes ≡ Some n → Front_of is_width bytes n
width_takes bytes n h = elim (if_cases (starts (codes "8") bytes) _ _ _ h) [
  | inl p ↦ subst (Front_of is_width bytes) (same_some 1 n p.1) (width_as (codes "8") bytes refl p.0)
  | inr p ↦ elim (if_cases (starts (codes "16") bytes || (starts (codes "32") bytes || starts (codes "64") bytes)) _ _ _ p.1) [
    | inl q ↦ subst (Front_of is_width bytes) (same_some 2 n q.1) (elim (or_cases (starts (codes "16") bytes) (starts (codes "32") bytes || starts (codes "64") bytes) q.0) [
      | inl r ↦ width_as (codes "16") bytes refl r
      | inr r ↦ elim (or_cases (starts (codes "32") bytes) (starts (codes "64") bytes) r) [
        | inl s ↦ width_as (codes "32") bytes refl s
        | inr s ↦ width_as (codes "64") bytes refl s
      ]
    ])
    | inr q ↦ elim (if_cases (starts (codes "128") bytes) _ _ _ q.1) [
      | inl r ↦ subst (Front_of is_width bytes) (same_some 3 n r.1) (width_as (codes "128") bytes refl r.0)
      | inr r ↦ elim (if_cases (starts (codes "size") bytes) _ _ _ r.1) [
        | inl s ↦ subst (Front_of is_width bytes) (same_some 4 n s.1) (width_as (codes "size") bytes refl s.0)
        | inr s ↦ cc (s.1)
      ]
    ]
  ]
]

pub more_some : (o : Option ℕ) (n : ℕ) → more o ≡ Some n → (m : ℕ) × (o ≡ Some m) × (m + 1 ≡ n)
more_some None n h = cc
more_some (Some m) n h = (m, refl, same_some (m + 1) n h)

name_takes : (bytes : List ℕ) (n : ℕ) → name_len bytes ≡ Some n → Front_of is_integer_name bytes n
name_takes [] n h = cc
name_takes (a ∷ rest) n h = elim (if_cases ((a == 105) || (a == 117)) _ _ _ h) [
  | inl p ↦ let m = more_some (width_len rest) n p.1 in let w = width_takes rest m.0 m.1 in
      record { front = a ∷ w.front; behind = w.behind; joins = ap (λ r. a ∷ r) w.joins; good = and_from ((a == 105) || (a == 117)) (is_width w.front) p.0 w.good; size = let e = w.size in let f = m.2 in omega arith }
  | inr p ↦ cc (p.1)
]

suffix_some : (bytes : List ℕ) (n : ℕ) → suffix_len bytes ≡ Some n → Front_of is_suffix bytes n
unfolding suffix_len
suffix_some [] n h = cc
suffix_some (a ∷ rest) n h = elim (if_cases (a == 95) _ _ _ h) [
  | inl p ↦ let m = more_some (name_len rest) n p.1 in let w = name_takes rest m.0 m.1 in
      record { front = a ∷ w.front; behind = w.behind; joins = ap (λ r. a ∷ r) w.joins; good = and_from (a == 95) (is_integer_name w.front) p.0 w.good; size = let e = w.size in let f = m.2 in omega arith }
  | inr p ↦ cc (p.1)
]

suffix_at : (bytes : List ℕ) (o : Option ℕ) → suffix_len bytes ≡ o → Front_of is_suffix bytes (unwrap_or o 0)
suffix_at bytes None h = record { front = []; behind = bytes; joins = refl; good = refl; size = refl }
suffix_at bytes (Some n) h = suffix_some bytes n h

pub suffix_takes : (bytes : List ℕ) → Front_of is_suffix bytes (unwrap_or (suffix_len bytes) 0)
suffix_takes bytes = suffix_at bytes (suffix_len bytes) refl

same_bytes : (a b : List ℕ) → bytes_eq a b ≡ true → a ≡ b
same_bytes [] [] h = refl
same_bytes [] (y ∷ ys) h = cc
same_bytes (x ∷ xs) [] h = cc
same_bytes (x ∷ xs) (y ∷ ys) h = let s = and_parts (x == y) (bytes_eq xs ys) h in cons_same x y xs ys (eqb-true x y s.0) (same_bytes xs ys s.1)

width_again : (w behind : List ℕ) → is_width w ≡ true → width_len (w ++ behind) ≡ Some (length w)
width_again w behind g = elim (or_cases (bytes_eq w (codes "8")) _ g) [
  | inl e ↦ rw (same_bytes w (codes "8") e) refl
  | inr g ↦ elim (or_cases (bytes_eq w (codes "16")) _ g) [
    | inl e ↦ rw (same_bytes w (codes "16") e) refl
    | inr g ↦ elim (or_cases (bytes_eq w (codes "32")) _ g) [
      | inl e ↦ rw (same_bytes w (codes "32") e) refl
      | inr g ↦ elim (or_cases (bytes_eq w (codes "64")) _ g) [
        | inl e ↦ rw (same_bytes w (codes "64") e) refl
        | inr g ↦ elim (or_cases (bytes_eq w (codes "128")) _ g) [
          | inl e ↦ rw (same_bytes w (codes "128") e) refl
          | inr e ↦ rw (same_bytes w (codes "size") e) refl
        ]
      ]
    ]
  ]
]

more_same : (o : Option ℕ) (n : ℕ) → o ≡ Some n → more o ≡ Some (n + 1)
more_same o n h = ap more h

name_again : (name behind : List ℕ) → is_integer_name name ≡ true → name_len (name ++ behind) ≡ Some (length name)
name_again [] behind g = cc
name_again (a ∷ w) behind g = let s = and_parts ((a == 105) || (a == 117)) (is_width w) g in
    let e : length w + 1 ≡ length (a ∷ w) = omega arith in
    rw s.0 (ap more (width_again w behind s.1) ∙ ap Some e)

pub suffix_again : (a : ℕ) (name behind : List ℕ) → is_suffix (a ∷ name) ≡ true → suffix_len (a ∷ (name ++ behind)) ≡ Some (length (a ∷ name))
unfolding suffix_len
suffix_again a name behind g = let s = and_parts (a == 95) (is_integer_name name) g in
    let e : length name + 1 ≡ length (a ∷ name) = omega arith in
    rw s.0 (ap more (name_again name behind s.1) ∙ ap Some e)

-- how many bytes the longest digits with a suffix have
abbrev pub numeral_len : List ℕ → ℕ
numeral_len bytes = prefix_len is_digit bytes + unwrap_or (suffix_len (drop (prefix_len is_digit bytes) bytes)) 0

under_no_digit : (a : ℕ) → (a == 95) ≡ true → is_digit a ≡ false
under_no_digit a h = grind (arith, nat_tests)

none_first : (p : ℕ → Bool) (a : ℕ) (xs : List ℕ) → p a ≡ false → prefix_len p (a ∷ xs) ≡ 0
none_first p a xs h = rw h refl

-- digits with a suffix end the run of digits
suffix_run : (digits : List ℕ) (a : ℕ) (name behind : List ℕ) → list_all is_digit digits ≡ true → is_suffix (a ∷ name) ≡ true → prefix_len is_digit (digits ++ (a ∷ (name ++ behind))) ≡ length digits
suffix_run digits a name behind d g = let s = and_parts (a == 95) (is_integer_name name) g in
    let n = run_on is_digit digits (a ∷ (name ++ behind)) d in
    let z = none_first is_digit a (name ++ behind) (under_no_digit a s.0) in omega arith

suffix_behind : (digits : List ℕ) (a : ℕ) (name behind : List ℕ) (n : ℕ) → n ≡ length digits → is_suffix (a ∷ name) ≡ true → suffix_len (drop n (digits ++ (a ∷ (name ++ behind)))) ≡ Some (length (a ∷ name))
suffix_behind digits a name behind n e g = ap suffix_len (drop_at digits (a ∷ (name ++ behind)) n (sym e)) ∙ suffix_again a name behind g

numeral_with : (digits : List ℕ) (a : ℕ) (name behind : List ℕ) → list_all is_digit digits ≡ true → is_suffix (a ∷ name) ≡ true → numeral_len (digits ++ (a ∷ (name ++ behind))) ≡ length digits + length (a ∷ name)
numeral_with digits a name behind d g =
    let n = suffix_run digits a name behind d g in
    let s = suffix_behind digits a name behind _ n g in
    rw s (rw n refl)

-- no digits with a suffix at the front are longer
pub longest : (digits suffix behind : List ℕ) → list_all is_digit digits ≡ true → is_suffix suffix ≡ true → length (digits ++ suffix) ≤ numeral_len ((digits ++ suffix) ++ behind)
longest digits [] behind d g = rw (append-nil digits) (let n = run_on is_digit digits behind d in omega arith)
longest digits (a ∷ name) behind d g = rw (append_assoc digits (a ∷ name) behind) (let n = numeral_with digits a name behind d g in omega (arith, n, length-append digits (a ∷ name)))

-- What a token at the front of bytes says.
pub record IsAt (bytes : List ℕ) (k : TokenKind) (n : ℕ) : Type 0 where
  pub text : List ℕ
  pub rest : List ℕ
  pub joins : bytes ≡ text ++ rest
  pub size : length text ≡ n
  pub good : IsToken k text
  pub stops : ends k text rest ≡ true

-- the longest digits with a suffix at the front
record Numeral (bytes : List ℕ) : Type 0 where
  pub digits : List ℕ
  pub suffix : List ℕ
  pub behind : List ℕ
  pub joins : bytes ≡ (digits ++ suffix) ++ behind
  pub all : list_all is_digit digits ≡ true
  pub run : take (prefix_len is_digit bytes) bytes ≡ digits
  pub good : is_suffix suffix ≡ true
  pub size : length (digits ++ suffix) ≡ numeral_len bytes
  pub ends_run : first_is is_digit (suffix ++ behind) ≡ false

numeral_of : (bytes : List ℕ) → Numeral bytes
numeral_of bytes =
    let r = run is_digit bytes in
    let s = suffix_takes (drop (prefix_len is_digit bytes) bytes) in
    let d : drop (prefix_len is_digit bytes) bytes ≡ r.rest = ap (drop (prefix_len is_digit bytes)) r.joins ∙ drop_at r.front r.rest (prefix_len is_digit bytes) r.size in
    let j : r.rest ≡ s.front ++ s.behind = sym d ∙ s.joins in
    record {
      digits = r.front;
      suffix = s.front;
      behind = s.behind;
      joins = r.joins ∙ ap (λ x. r.front ++ x) j ∙ sym (append_assoc r.front s.front s.behind);
      all = r.all;
      run = ap (take (prefix_len is_digit bytes)) r.joins ∙ take_at r.front r.rest (prefix_len is_digit bytes) r.size;
      good = s.good;
      size = let e = s.size in let f = r.size in omega (arith, length-append r.front s.front);
      ends_run = subst (λ x. first_is is_digit x ≡ false) j r.stops;
    }

decimal_at : (b : ℕ) (rest digits : List ℕ) (tail : List ℕ) → is_digit b ≡ true → b ∷ rest ≡ digits ++ tail → list_all is_digit digits ≡ true → first_is is_digit tail ≡ false → is_decimal digits ≡ true
decimal_at b rest [] tail h e a s = cc (ap (first_is is_digit) e)
decimal_at b rest (c ∷ digits) tail h e a s = and_from (is_digit c) (list_all is_digit (c ∷ digits)) (and_parts (is_digit c) (list_all is_digit digits) a).0 a

numeral_decimal : (b : ℕ) (rest : List ℕ) (n : Numeral (b ∷ rest)) → is_digit b ≡ true → is_decimal n.digits ≡ true
numeral_decimal b rest n h = decimal_at b rest n.digits (n.suffix ++ n.behind) h (n.joins ∙ append_assoc n.digits n.suffix n.behind) n.all n.ends_run

within_small : (digits : List ℕ) (value : ℕ) → number_within 10 (2 ^ 128 - 1) digits ≡ Some value → value_from 10 0 digits < 2 ^ 128
unfolding number_within
within_small digits value h = elim (if_cases (nat_le (value_from 10 0 digits) (2 ^ 128 - 1)) _ _ _ h) [
  | inl p ↦ let q = leb-true (value_from 10 0 digits) (2 ^ 128 - 1) p.0 in omega arith
  | inr p ↦ cc (p.1)
]

within_none : (digits : List ℕ) → number_within 10 (2 ^ 128 - 1) digits ≡ None → 2 ^ 128 ≤ value_from 10 0 digits
unfolding number_within
within_none digits h = elim (if_cases (nat_le (value_from 10 0 digits) (2 ^ 128 - 1)) _ _ _ h) [
  | inl p ↦ cc (p.1)
  | inr p ↦ let q = leb-false (value_from 10 0 digits) (2 ^ 128 - 1) p.0 in omega arith
]

within_some : (digits : List ℕ) → value_from 10 0 digits < 2 ^ 128 → number_within 10 (2 ^ 128 - 1) digits ≡ Some (value_from 10 0 digits)
unfolding number_within
within_some digits h = let q : nat_le (value_from 10 0 digits) (2 ^ 128 - 1) ≡ true = le-leb (value_from 10 0 digits) (2 ^ 128 - 1) (omega arith) in rw q refl

within_wide : (digits : List ℕ) → 2 ^ 128 ≤ value_from 10 0 digits → number_within 10 (2 ^ 128 - 1) digits ≡ None
unfolding number_within
within_wide digits h = let q : nat_le (value_from 10 0 digits) (2 ^ 128 - 1) ≡ false = lt-leb (value_from 10 0 digits) (2 ^ 128 - 1) (omega arith) in rw q refl

-- the number at the front, once its digits are known to fit
number_is : (bytes : List ℕ) (n : Numeral bytes) (value : ℕ) → number_within 10 (2 ^ 128 - 1) (take (prefix_len is_digit bytes) bytes) ≡ Some value → number_at bytes ≡ number_of (numeral_len bytes) bytes
unfolding number_at
number_is bytes n value h = ap (digits_of (prefix_len is_digit bytes) bytes) h

drop_numeral : (bytes : List ℕ) (n : Numeral bytes) → drop (numeral_len bytes) bytes ≡ n.behind
drop_numeral bytes n = ap (drop (numeral_len bytes)) n.joins ∙ drop_at (n.digits ++ n.suffix) n.behind (numeral_len bytes) n.size

number_good : (bytes : List ℕ) (n : Numeral bytes) → is_decimal n.digits ≡ true → value_from 10 0 n.digits < 2 ^ 128 → IsToken kind.Number (n.digits ++ n.suffix)
number_good bytes n d v = (n.digits, n.suffix, refl, d, v, n.good)

number_fits : (b : ℕ) (rest : List ℕ) (value : ℕ) → number_within 10 (2 ^ 128 - 1) (take (prefix_len is_digit (b ∷ rest)) (b ∷ rest)) ≡ Some value → value_from 10 0 (numeral_of (b ∷ rest)).digits < 2 ^ 128
number_fits b rest value h = let n = numeral_of (b ∷ rest) in within_small n.digits value (ap (number_within 10 (2 ^ 128 - 1)) (sym n.run) ∙ h)

number_ok : (b : ℕ) (rest : List ℕ) (f : Found) (value : ℕ) → is_digit b ≡ true → number_within 10 (2 ^ 128 - 1) (take (prefix_len is_digit (b ∷ rest)) (b ∷ rest)) ≡ Some value
    → number_of (numeral_len (b ∷ rest)) (b ∷ rest) ≡ Ok f → IsAt (b ∷ rest) f.kind f.size
number_ok b rest f value d v h =
    let bytes = b ∷ rest in
    let n = numeral_of bytes in
    elim (if_cases (first_is is_word_byte (drop (numeral_len bytes) bytes)) _ _ _ h) [
      | inl p ↦ cc (p.1)
      | inr p ↦ subst (λ (g : Found). IsAt bytes g.kind g.size) (same_ok (record { kind = kind.Number; size = numeral_len bytes }) f p.1)
          (record {
            text = n.digits ++ n.suffix;
            rest = n.behind;
            joins = n.joins;
            size = n.size;
            good = number_good bytes n (numeral_decimal b rest n d) (number_fits b rest value v);
            stops = not_from_false (first_is is_word_byte n.behind) (ap (first_is is_word_byte) (sym (drop_numeral bytes n)) ∙ p.0);
          })
    ]

number_by : (b : ℕ) (rest : List ℕ) (f : Found) (o : Option ℕ) → is_digit b ≡ true → number_within 10 (2 ^ 128 - 1) (take (prefix_len is_digit (b ∷ rest)) (b ∷ rest)) ≡ o
    → digits_of (prefix_len is_digit (b ∷ rest)) (b ∷ rest) o ≡ Ok f → IsAt (b ∷ rest) f.kind f.size
number_by b rest f None d v h = cc
number_by b rest f (Some value) d v h = number_ok b rest f value d v h

pub number_takes : (b : ℕ) (rest : List ℕ) (f : Found) → is_digit b ≡ true → number_at (b ∷ rest) ≡ Ok f → IsAt (b ∷ rest) f.kind f.size
unfolding number_at
number_takes b rest f d h = number_by b rest f (number_within 10 (2 ^ 128 - 1) (take (prefix_len is_digit (b ∷ rest)) (b ∷ rest))) d refl h

-- what a fault of a number says
pub data NumberFault (bytes : List ℕ) (f : Fault) : Type 0 where
  Wide : f ≡ record { kind = fault.NumberTooWide; skip = 0 } → BeginsWideNumber bytes → NumberFault bytes f
  On : f.kind ≡ fault.BadByte → GoesOn f.skip bytes → NumberFault bytes f

number_err : (b : ℕ) (rest : List ℕ) (f : Fault) (value : ℕ) → is_digit b ≡ true → number_within 10 (2 ^ 128 - 1) (take (prefix_len is_digit (b ∷ rest)) (b ∷ rest)) ≡ Some value
    → number_of (numeral_len (b ∷ rest)) (b ∷ rest) ≡ Err f → NumberFault (b ∷ rest) f
number_err b rest f value d v h =
    let bytes = b ∷ rest in
    let n = numeral_of bytes in
    elim (if_cases (first_is is_word_byte (drop (numeral_len bytes) bytes)) _ _ _ h) [
      | inl p ↦ let e = same_err (record { kind = fault.BadByte; skip = numeral_len bytes }) f p.1 in
          On (sym (ap (λ (g : Fault). g.kind) e)) (subst (λ k. GoesOn k bytes) (ap (λ (g : Fault). g.skip) e) (
            n.digits,
            n.suffix,
            n.behind,
            n.joins,
            numeral_decimal b rest n d,
            number_fits b rest value v,
            n.good,
            n.size,
            ap (first_is is_word_byte) (sym (drop_numeral bytes n)) ∙ p.0,
            λ more end behind j m s. subst (λ x. length (more ++ end) ≤ numeral_len x) (sym j) (longest more end behind (and_parts (first_is is_digit more) (list_all is_digit more) m).1 s),
          ))
      | inr p ↦ cc (p.1)
    ]

number_fault_by : (b : ℕ) (rest : List ℕ) (f : Fault) (o : Option ℕ) → is_digit b ≡ true → number_within 10 (2 ^ 128 - 1) (take (prefix_len is_digit (b ∷ rest)) (b ∷ rest)) ≡ o
    → digits_of (prefix_len is_digit (b ∷ rest)) (b ∷ rest) o ≡ Err f → NumberFault (b ∷ rest) f
number_fault_by b rest f None d v h = let n = numeral_of (b ∷ rest) in
    Wide (sym (same_err (record { kind = fault.NumberTooWide; skip = 0 }) f h))
    (n.digits, n.suffix ++ n.behind, n.joins ∙ append_assoc n.digits n.suffix n.behind, numeral_decimal b rest n d, n.ends_run, within_none n.digits (ap (number_within 10 (2 ^ 128 - 1)) (sym n.run) ∙ v))
number_fault_by b rest f (Some value) d v h = number_err b rest f value d v h

pub number_faults : (b : ℕ) (rest : List ℕ) (f : Fault) → is_digit b ≡ true → number_at (b ∷ rest) ≡ Err f → NumberFault (b ∷ rest) f
unfolding number_at
number_faults b rest f d h = number_fault_by b rest f (number_within 10 (2 ^ 128 - 1) (take (prefix_len is_digit (b ∷ rest)) (b ∷ rest))) d refl h

-- the front of these bytes is read as these digits with this suffix
record Reads (digits suffix rest : List ℕ) : Type 0 where
  pub run : prefix_len is_digit ((digits ++ suffix) ++ rest) ≡ length digits
  pub all : numeral_len ((digits ++ suffix) ++ rest) ≡ length (digits ++ suffix)

reads_suffix : (digits : List ℕ) (a : ℕ) (name rest : List ℕ) → list_all is_digit digits ≡ true → is_suffix (a ∷ name) ≡ true → Reads digits (a ∷ name) rest
reads_suffix digits a name rest d g =
    let j : (digits ++ (a ∷ name)) ++ rest ≡ digits ++ (a ∷ (name ++ rest)) = append_assoc digits (a ∷ name) rest in
    record {
      run = ap (prefix_len is_digit) j ∙ suffix_run digits a name rest d g;
      all = ap numeral_len j ∙ numeral_with digits a name rest d g ∙ sym (length-append digits (a ∷ name));
    }

bare_at : (digits rest : List ℕ) → prefix_len is_digit (digits ++ rest) ≡ length digits → numeral_len (digits ++ rest) ≡ length digits → Reads digits [] rest
bare_at digits rest r n = record { run = rw (append-nil digits) r; all = rw (append-nil digits) n }

no_suffix : (rest : List ℕ) → first_is is_word_byte rest ≡ false → suffix_len rest ≡ None
unfolding suffix_len
no_suffix [] h = refl
no_suffix (c ∷ rest) h = let e : (c == 95) ≡ false = grind (arith, nat_tests) in rw e refl

no_digit : (rest : List ℕ) → first_is is_word_byte rest ≡ false → first_is is_digit rest ≡ false
no_digit [] h = refl
no_digit (c ∷ rest) h = (or_parts (is_word_start c) (is_digit c) h).1

bare_numeral : (digits rest : List ℕ) → prefix_len is_digit (digits ++ rest) ≡ length digits → suffix_len rest ≡ None → numeral_len (digits ++ rest) ≡ length digits
bare_numeral digits rest r s =
    let d : drop (prefix_len is_digit (digits ++ rest)) (digits ++ rest) ≡ rest = drop_at digits rest (prefix_len is_digit (digits ++ rest)) (sym r) in
    let e : suffix_len (drop (prefix_len is_digit (digits ++ rest)) (digits ++ rest)) ≡ None = ap suffix_len d ∙ s in
    rw e (rw r (omega arith))

reads_bare : (digits rest : List ℕ) → list_all is_digit digits ≡ true → first_is is_word_byte rest ≡ false → Reads digits [] rest
reads_bare digits rest d h =
    let r : prefix_len is_digit (digits ++ rest) ≡ length digits = let a = run_on is_digit digits rest d in let b = run_none is_digit rest (no_digit rest h) in omega arith in
    bare_at digits rest r (bare_numeral digits rest r (no_suffix rest h))

reads_closed : (digits suffix rest : List ℕ) → list_all is_digit digits ≡ true → is_suffix suffix ≡ true → first_is is_word_byte rest ≡ false → Reads digits suffix rest
reads_closed digits [] rest d g h = reads_bare digits rest d h
reads_closed digits (a ∷ name) rest d g h = reads_suffix digits a name rest d g

number_reads : (digits suffix rest : List ℕ) → Reads digits suffix rest → value_from 10 0 digits < 2 ^ 128 → number_at ((digits ++ suffix) ++ rest) ≡ number_of (length (digits ++ suffix)) ((digits ++ suffix) ++ rest)
unfolding number_at
number_reads digits suffix rest r v =
    let bytes = (digits ++ suffix) ++ rest in
    let t : take (prefix_len is_digit bytes) bytes ≡ digits = ap (take (prefix_len is_digit bytes)) (append_assoc digits suffix rest) ∙ take_at digits (suffix ++ rest) (prefix_len is_digit bytes) (sym r.run) in
    ap (digits_of (prefix_len is_digit bytes) bytes) (ap (number_within 10 (2 ^ 128 - 1)) t ∙ within_some digits v) ∙ ap (λ n. number_of n bytes) r.all

number_closed : (text rest : List ℕ) → first_is is_word_byte rest ≡ false → number_of (length text) (text ++ rest) ≡ token_of kind.Number (length text)
number_closed text rest h = let e : first_is is_word_byte (drop (length text) (text ++ rest)) ≡ false = ap (first_is is_word_byte) (drop_at text rest (length text) refl) ∙ h in rw e refl

number_open : (text rest : List ℕ) → first_is is_word_byte rest ≡ true → number_of (length text) (text ++ rest) ≡ failed fault.BadByte (length text)
number_open text rest h = let e : first_is is_word_byte (drop (length text) (text ++ rest)) ≡ true = ap (first_is is_word_byte) (drop_at text rest (length text) refl) ∙ h in rw e refl

all_digits : (digits : List ℕ) → is_decimal digits ≡ true → list_all is_digit digits ≡ true
all_digits digits h = (and_parts (first_is is_digit digits) (list_all is_digit digits) h).1

pub number_again : (text rest : List ℕ) → IsToken kind.Number text → first_is is_word_byte rest ≡ false → number_at (text ++ rest) ≡ token_of kind.Number (length text)
number_again text rest g h = rw (g.2)
    (number_reads g.0 g.1 rest (reads_closed g.0 g.1 rest (all_digits g.0 g.3) g.5 h) g.4 ∙ number_closed (g.0 ++ g.1) rest h)

bare_longest : (b : ℕ) (digits rest : List ℕ) → list_all is_digit (b ∷ digits) ≡ true → is_digit b ≡ true
    → ((more end behind : List ℕ) → (b ∷ digits) ++ rest ≡ (more ++ end) ++ behind → is_decimal more ≡ true → is_suffix end ≡ true → length (more ++ end) ≤ length (b ∷ digits)) → Reads (b ∷ digits) [] rest
bare_longest b digits rest d f m =
    let n = numeral_of (b ∷ (digits ++ rest)) in
    let short : length (n.digits ++ n.suffix) ≤ length (b ∷ digits) = m n.digits n.suffix n.behind n.joins (numeral_decimal b (digits ++ rest) n f) n.good in
    let size : length (n.digits ++ n.suffix) ≡ numeral_len (b ∷ (digits ++ rest)) = n.size in
    let r : prefix_len is_digit (b ∷ (digits ++ rest)) ≡ length (b ∷ digits) + prefix_len is_digit rest = run_on is_digit (b ∷ digits) rest d in
    bare_at (b ∷ digits) rest (omega arith) (omega arith)

-- where no digits with a suffix are longer, these are read
reads_longest : (digits suffix rest : List ℕ) → is_decimal digits ≡ true → is_suffix suffix ≡ true
    → ((more end behind : List ℕ) → (digits ++ suffix) ++ rest ≡ (more ++ end) ++ behind → is_decimal more ≡ true → is_suffix end ≡ true → length (more ++ end) ≤ length (digits ++ suffix))
    → Reads digits suffix rest
reads_longest digits (a ∷ name) rest d g m = reads_suffix digits a name rest (all_digits digits d) g
reads_longest [] [] rest d g m = cc
reads_longest (b ∷ digits) [] rest d g m = let p = and_parts (is_digit b) (list_all is_digit (b ∷ digits)) d in
    bare_longest b digits rest p.1 p.0 (rw (append-nil digits) at m)

longest_reads : (n : ℕ) (bytes : List ℕ) → (g : GoesOn n bytes) → Reads g.0 g.1 g.2
longest_reads n bytes g = reads_longest g.0 g.1 g.2 g.4 g.6
    (λ more end behind j m s. subst (λ k. length (more ++ end) ≤ k) (sym g.7) (g.9 more end behind (g.3 ∙ j) m s))

pub goes_on_again : (n : ℕ) (bytes : List ℕ) → GoesOn n bytes → number_at bytes ≡ failed fault.BadByte n
goes_on_again n bytes g = ap number_at g.3 ∙ number_reads g.0 g.1 g.2 (longest_reads n bytes g) g.5 ∙ number_open (g.0 ++ g.1) g.2 g.8 ∙ ap (failed fault.BadByte) g.7

pub wide_again : (bytes : List ℕ) → BeginsWideNumber bytes → number_at bytes ≡ failed fault.NumberTooWide 0
unfolding number_at
wide_again bytes w =
    let a = run_on is_digit w.0 w.1 (all_digits w.0 w.3) in
    let b = run_none is_digit w.1 w.4 in
    let r : prefix_len is_digit (w.0 ++ w.1) ≡ length w.0 = omega arith in
    let t : take (prefix_len is_digit (w.0 ++ w.1)) (w.0 ++ w.1) ≡ w.0 = take_at w.0 w.1 (prefix_len is_digit (w.0 ++ w.1)) (sym r) in
    rw (w.2) (ap (digits_of (prefix_len is_digit (w.0 ++ w.1)) (w.0 ++ w.1)) (ap (number_within 10 (2 ^ 128 - 1)) t ∙ within_wide w.0 w.5))
