-- Characters are found exactly.
use Rattle.std.proofs.Common.{◌≡◌, inl, inr, ℕ, ◌+◌, Bool, true, false, ◌==◌, not, ◌&&◌, nat_le, if◌then◌else◌, List, [], ◌∷◌, ◌++◌, length, take, drop, Option, Some, None, refl, sym, ◌∙◌, ap, subst, arith, append_assoc, length-append}
use Rattle.std.proofs.lemmas.Bool.{and_parts, and_from, or_from, or_parts, eqb-true, not-true, not_from_false, cases_lt}
use Rattle.std.proofs.lemmas.Bool.Decides.{nat_tests}
use Rattle.std.proofs.lemmas.List.{take_at, drop_at, take_all, length-take-le, take-append-drop}
use Rattle.std.specs.List.{prefix_len, list_all}
use Rattle.mir_lex.specs.Bytes.{is_hex, is_apostrophe, is_scalar, is_char, is_tail, is_head_of_three, is_head_of_four, within, first_is, value_from, number_within}
use Rattle.mir_lex.specs.Tokens.{Quoted, Scalar, Escape, Code, written, is_quoted, is_escape, is_code, is_special}
use Rattle.mir_lex.specs.Lexing.{more, scalar_len, codes_char, is_code_of, code_len, escape_len, quoted_len, quote_behind}
use Rattle.mir_lex.proofs.Runs.{if_cases, same_some, run, run_ends}
use Rattle.mir_lex.proofs.NumberLaws.{more_some}

-- what stands between quotes is at the front, with n bytes
pub record IsQuoted (bytes : List ℕ) (n : ℕ) : Type 0 where
  pub quoted : Quoted
  pub rest : List ℕ
  pub joins : bytes ≡ written quoted ++ rest
  pub good : is_quoted quoted ≡ true
  pub size : length (written quoted) ≡ n

-- one UTF-8 sequence

-- a longer front passes where a shorter one does not, so there are as many bytes
scalar_size : (k : ℕ) (bytes : List ℕ) → is_scalar (take k bytes) ≡ false → is_scalar (take (k + 1) bytes) ≡ true → length (take (k + 1) bytes) ≡ k + 1
scalar_size k bytes f t = elim (cases_lt k (length bytes)) [
  | inl l ↦ length-take-le (k + 1) bytes (omega arith)
  | inr l ↦ let e : take k bytes ≡ take (k + 1) bytes = take_all k bytes l ∙ sym (take_all (k + 1) bytes (omega arith)) in cc (ap is_scalar e)
]

pub record IsScalarAt (bytes : List ℕ) (n : ℕ) : Type 0 where
  pub front : List ℕ
  pub rest : List ℕ
  pub joins : bytes ≡ front ++ rest
  pub good : is_scalar front ≡ true
  pub size : length front ≡ n

scalar_next : (k : ℕ) (bytes : List ℕ) (n : ℕ) → is_scalar (take k bytes) ≡ false → is_scalar (take (k + 1) bytes) ≡ true → k + 1 ≡ n → IsScalarAt bytes n
scalar_next k bytes n f t e = record { front = take (k + 1) bytes; rest = drop (k + 1) bytes; joins = sym (take-append-drop (k + 1) bytes); good = t; size = scalar_size k bytes f t ∙ e }

scalar_takes : (bytes : List ℕ) (n : ℕ) → scalar_len bytes ≡ Some n → IsScalarAt bytes n
unfolding scalar_len
scalar_takes bytes n h = elim (if_cases (is_scalar (take 1 bytes)) _ _ _ h) [
  | inl p ↦ scalar_next 0 bytes n refl p.0 (same_some 1 n p.1)
  | inr p ↦ elim (if_cases (is_scalar (take 2 bytes)) _ _ _ p.1) [
    | inl q ↦ scalar_next 1 bytes n p.0 q.0 (same_some 2 n q.1)
    | inr q ↦ elim (if_cases (is_scalar (take 3 bytes)) _ _ _ q.1) [
      | inl r ↦ scalar_next 2 bytes n q.0 r.0 (same_some 3 n r.1)
      | inr r ↦ elim (if_cases (is_scalar (take 4 bytes)) _ _ _ r.1) [
        | inl s ↦ scalar_next 3 bytes n r.0 s.0 (same_some 4 n s.1)
        | inr s ↦ cc (s.1)
      ]
    ]
  ]
]

high_two : (a b : ℕ) → (within 194 223 a && is_tail b) ≡ true → nat_le a 127 ≡ false
high_two a b h = grind (arith, nat_tests)

high_three : (a b : ℕ) → is_head_of_three a b ≡ true → nat_le a 127 ≡ false
high_three a b h = grind (arith, nat_tests)

no_two_of_three : (a b : ℕ) → is_head_of_three a b ≡ true → (within 194 223 a && is_tail b) ≡ false
no_two_of_three a b h = grind (arith, nat_tests)

high_four : (a b : ℕ) → is_head_of_four a b ≡ true → nat_le a 127 ≡ false
high_four a b h = grind (arith, nat_tests)

no_two_of_four : (a b : ℕ) → is_head_of_four a b ≡ true → (within 194 223 a && is_tail b) ≡ false
no_two_of_four a b h = grind (arith, nat_tests)

no_three_of_four : (a b : ℕ) → is_head_of_four a b ≡ true → is_head_of_three a b ≡ false
no_three_of_four a b h = grind (arith, nat_tests)

scalar_again : (front rest : List ℕ) → is_scalar front ≡ true → scalar_len (front ++ rest) ≡ Some (length front)
unfolding scalar_len
scalar_again [] rest h = cc
scalar_again (a ∷ []) rest h = rw h refl
scalar_again (a ∷ b ∷ []) rest h = rw (high_two a b h) (rw h refl)
scalar_again (a ∷ b ∷ c ∷ []) rest h = let p = and_parts (is_head_of_three a b) (is_tail c) h in rw (high_three a b p.0) (rw (no_two_of_three a b p.0) (rw h refl))
scalar_again (a ∷ b ∷ c ∷ d ∷ []) rest h = let p = and_parts (is_head_of_four a b) (is_tail c && is_tail d) h in
    rw (high_four a b p.0) (rw (no_two_of_four a b p.0) (rw (no_three_of_four a b p.0) (rw h refl)))
scalar_again (a ∷ b ∷ c ∷ d ∷ e ∷ more) rest h = cc

-- \u{h}

char_within : (digits : List ℕ) → codes_char (number_within 16 1114111 digits) ≡ true → is_char (value_from 16 0 digits) ≡ true
unfolding number_within
char_within digits h = codes_at digits (nat_le (value_from 16 0 digits) 1114111) h
  where
    codes_at : (digits : List ℕ) (c : Bool) → codes_char (if c then Some (value_from 16 0 digits) else None) ≡ true → is_char (value_from 16 0 digits) ≡ true
    codes_at digits true h = h
    codes_at digits false h = cc

char_small : (c : ℕ) → is_char c ≡ true → nat_le c 1114111 ≡ true
char_small c h = grind (arith, nat_tests)

char_codes : (digits : List ℕ) → is_char (value_from 16 0 digits) ≡ true → codes_char (number_within 16 1114111 digits) ≡ true
unfolding number_within
char_codes digits h = rw (char_small (value_from 16 0 digits) h) h

bracket_at : (c : ℕ) (rest : List ℕ) → first_is (λ b. b == c) rest ≡ true → (behind : List ℕ) × (rest ≡ c ∷ behind)
bracket_at c [] h = cc
bracket_at c (b ∷ rest) h = (rest, ap (λ x. x ∷ rest) (eqb-true b c h))

pub record IsCodeAt (bytes : List ℕ) (n : ℕ) : Type 0 where
  pub digits : List ℕ
  pub rest : List ℕ
  pub joins : bytes ≡ digits ++ 125 ∷ rest
  pub good : is_code digits ≡ true
  pub size : length digits + 1 ≡ n

code_good : (digits : List ℕ) (n : ℕ) → list_all is_hex digits ≡ true → length digits ≡ n → (nat_le 1 n && nat_le n 6) ≡ true → is_char (value_from 16 0 digits) ≡ true → is_code digits ≡ true
code_good digits n a e s c = and_from (list_all is_hex digits) _ a (and_from (nat_le 1 (length digits) && nat_le (length digits) 6) (is_char (value_from 16 0 digits)) (rw e s) c)

code_takes : (bytes : List ℕ) (n : ℕ) → code_len bytes ≡ Some n → IsCodeAt bytes n
unfolding code_len
code_takes bytes n h =
    let k = prefix_len is_hex bytes in
    let r = run is_hex bytes in
    elim (if_cases (is_code_of k bytes) _ _ _ h) [
      | inl p ↦
          let s = and_parts (nat_le 1 k && nat_le k 6) (codes_char (number_within 16 1114111 (take k bytes)) && first_is (λ c. c == 125) (drop k bytes)) p.0 in
          let t = and_parts (codes_char (number_within 16 1114111 (take k bytes))) (first_is (λ c. c == 125) (drop k bytes)) s.1 in
          let front : take k bytes ≡ r.front = ap (take k) r.joins ∙ take_at r.front r.rest k r.size in
          let behind : drop k bytes ≡ r.rest = ap (drop k) r.joins ∙ drop_at r.front r.rest k r.size in
          let b = bracket_at 125 r.rest (ap (first_is (λ c. c == 125)) (sym behind) ∙ t.1) in
          record {
            digits = r.front;
            rest = b.0;
            joins = r.joins ∙ ap (λ x. r.front ++ x) b.1;
            good = code_good r.front k r.all r.size s.0 (char_within r.front (ap (λ d. codes_char (number_within 16 1114111 d)) (sym front) ∙ t.0));
            size = ap (λ m. m + 1) r.size ∙ same_some (k + 1) n p.1;
          }
      | inr p ↦ cc (p.1)
    ]

code_again : (digits rest : List ℕ) → is_code digits ≡ true → code_len (digits ++ 125 ∷ rest) ≡ Some (length digits + 1)
unfolding code_len
code_again digits rest h =
    let s = and_parts (list_all is_hex digits) ((nat_le 1 (length digits) && nat_le (length digits) 6) && is_char (value_from 16 0 digits)) h in
    let t = and_parts (nat_le 1 (length digits) && nat_le (length digits) 6) (is_char (value_from 16 0 digits)) s.1 in
    let n : prefix_len is_hex (digits ++ 125 ∷ rest) ≡ length digits = run_ends is_hex digits (125 ∷ rest) s.0 refl in
    let front : take (length digits) (digits ++ 125 ∷ rest) ≡ digits = take_at digits (125 ∷ rest) (length digits) refl in
    let behind : drop (length digits) (digits ++ 125 ∷ rest) ≡ 125 ∷ rest = drop_at digits (125 ∷ rest) (length digits) refl in
    let c = char_codes digits t.1 in
    rw n (rw front (rw behind (rw t.0 (rw c refl))))

-- behind a backslash: what stands between the quotes, with the backslash before it
escape_one : (a : ℕ) (rest : List ℕ) (n : ℕ) → is_escape a ≡ true → 1 ≡ n → IsQuoted (92 ∷ a ∷ rest) (n + 1)
escape_one a rest n h e = record { quoted = Escape a; rest = rest; joins = refl; good = h; size = omega arith }

escape_code : (a b : ℕ) (rest : List ℕ) (n : ℕ) → (a == 117 && b == 123) ≡ true → more (more (code_len rest)) ≡ Some n → IsQuoted (92 ∷ a ∷ b ∷ rest) (n + 1)
escape_code a b rest n s h =
    let t = and_parts (a == 117) (b == 123) s in
    let m = more_some (more (code_len rest)) n h in
    let k = more_some (code_len rest) m.0 m.1 in
    let c = code_takes rest k.0 k.1 in
    let e = eqb-true a 117 t.0 in
    let f = eqb-true b 123 t.1 in
    let j : rest ≡ (c.digits ++ 125 ∷ []) ++ c.rest = c.joins ∙ sym (append_assoc c.digits (125 ∷ []) c.rest) in
    record {
      quoted = Code c.digits;
      rest = c.rest;
      joins = rw e (rw f (ap (λ x. 92 ∷ 117 ∷ 123 ∷ x) j));
      good = c.good;
      size = let x = c.size in let y = k.2 in let z = m.2 in omega (arith, length-append c.digits (125 ∷ []));
    }

escape_takes : (bytes : List ℕ) (n : ℕ) → escape_len bytes ≡ Some n → IsQuoted (92 ∷ bytes) (n + 1)
escape_takes [] n h = cc
escape_takes (a ∷ []) n h = elim (if_cases (is_escape a) _ _ _ h) [
  | inl p ↦ escape_one a [] n p.0 (same_some 1 n p.1)
  | inr p ↦ cc (p.1)
]
escape_takes (a ∷ b ∷ rest) n h = elim (if_cases (is_escape a) _ _ _ h) [
  | inl p ↦ escape_one a (b ∷ rest) n p.0 (same_some 1 n p.1)
  | inr p ↦ elim (if_cases (a == 117 && b == 123) _ _ _ p.1) [
    | inl q ↦ escape_code a b rest n q.0 q.1
    | inr q ↦ cc (q.1)
  ]
]

scalar_quoted : (a : ℕ) (rest : List ℕ) (n : ℕ) → (a == 92) ≡ false → (a == 39) ≡ false → IsScalarAt (a ∷ rest) n → IsQuoted (a ∷ rest) n
scalar_quoted a rest n s q i = record { quoted = Scalar i.front; rest = i.rest; joins = i.joins; good = and_from (is_scalar i.front) _ i.good (not_from_false (first_is is_special i.front) (plain_first i.front i.rest i.joins)); size = i.size }
  where
    plain_first : (front behind : List ℕ) → a ∷ rest ≡ front ++ behind → first_is is_special front ≡ false
    plain_first [] behind e = refl
    plain_first (b ∷ front) behind e = let k : a ≡ b = cc in subst (λ c. is_special c ≡ false) k (or_from (a == 39) (a == 92) q s)

quoted_takes_some : (bytes : List ℕ) (n : ℕ) → quoted_len bytes ≡ Some n → IsQuoted bytes n
quoted_takes_some [] n h = cc
quoted_takes_some (a ∷ rest) n h = elim (if_cases (a == 92) _ _ _ h) [
  | inl p ↦ let m = more_some (escape_len rest) n p.1 in
      subst (λ x. IsQuoted (x ∷ rest) n) (sym (eqb-true a 92 p.0)) (subst (IsQuoted (92 ∷ rest)) m.2 (escape_takes rest m.0 m.1))
  | inr p ↦ elim (if_cases (a == 39) _ _ _ p.1) [
    | inl q ↦ cc (q.1)
    | inr q ↦ scalar_quoted a rest n p.0 q.0 (scalar_takes (a ∷ rest) n q.1)
  ]
]

-- a character behind its first quote
pub record IsCharacter (bytes : List ℕ) (n : ℕ) : Type 0 where
  pub quoted : Quoted
  pub rest : List ℕ
  pub joins : bytes ≡ written quoted ++ 39 ∷ rest
  pub good : is_quoted quoted ≡ true
  pub size : length (written quoted) ≡ n

behind_some : (bytes : List ℕ) (o : Option ℕ) (n : ℕ) → quote_behind bytes o ≡ Some n → (o ≡ Some n) × (first_is is_apostrophe (drop n bytes) ≡ true)
behind_some bytes None n h = cc
behind_some bytes (Some m) n h = elim (if_cases (first_is is_apostrophe (drop m bytes)) _ _ _ h) [
  | inl p ↦ (p.1, subst (λ k. first_is is_apostrophe (drop k bytes) ≡ true) (same_some m n p.1) p.0)
  | inr p ↦ cc (p.1)
]

pub character_takes : (bytes : List ℕ) (n : ℕ) → quote_behind bytes (quoted_len bytes) ≡ Some n → IsCharacter bytes n
character_takes bytes n h =
    let p = behind_some bytes (quoted_len bytes) n h in
    let q = quoted_takes_some bytes n p.0 in
    let d : drop n bytes ≡ q.rest = ap (drop n) q.joins ∙ drop_at (written q.quoted) q.rest n q.size in
    let b = bracket_at 39 q.rest (ap (first_is is_apostrophe) (sym d) ∙ p.1) in
    record { quoted = q.quoted; rest = b.0; joins = q.joins ∙ ap (λ x. written q.quoted ++ x) b.1; good = q.good; size = q.size }

escape_again : (a : ℕ) (rest : List ℕ) → is_escape a ≡ true → escape_len (a ∷ rest) ≡ Some 1
escape_again a [] h = rw h refl
escape_again a (b ∷ rest) h = rw h refl

-- what stands between the quotes is read again, where a quote stands behind it
quoted_again : (quoted : Quoted) (rest : List ℕ) → is_quoted quoted ≡ true → quoted_len (written quoted ++ 39 ∷ rest) ≡ Some (length (written quoted))
quoted_again (Scalar []) rest h = cc
quoted_again (Scalar (a ∷ front)) rest h =
    let s = and_parts (is_scalar (a ∷ front)) (not (is_special a)) h in
    let t = or_parts (a == 39) (a == 92) (not-true (is_special a) s.1) in
    rw (t.1) (rw (t.0) (scalar_again (a ∷ front) (39 ∷ rest) s.0))
quoted_again (Escape b) rest h = ap more (escape_again b (39 ∷ rest) h)
quoted_again (Code digits) rest h =
    let j : (digits ++ 125 ∷ []) ++ 39 ∷ rest ≡ digits ++ 125 ∷ 39 ∷ rest = append_assoc digits (125 ∷ []) (39 ∷ rest) in
    let n : length digits + 1 + 1 + 1 + 1 ≡ length (written (Code digits)) = omega (arith, length-append digits (125 ∷ [])) in
    rw j (rw (code_again digits (39 ∷ rest) h) (ap Some n))

pub character_again : (quoted : Quoted) (rest : List ℕ) → is_quoted quoted ≡ true → quote_behind (written quoted ++ 39 ∷ rest) (quoted_len (written quoted ++ 39 ∷ rest)) ≡ Some (length (written quoted))
character_again quoted rest h =
    let bytes = written quoted ++ 39 ∷ rest in
    let a : first_is is_apostrophe (drop (length (written quoted)) bytes) ≡ true = ap (first_is is_apostrophe) (drop_at (written quoted) (39 ∷ rest) (length (written quoted)) refl) in
    ap (quote_behind bytes) (quoted_again quoted rest h) ∙ rw a refl
