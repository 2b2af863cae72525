-- Words, lifetimes and their faults are found exactly.
use Rattle.std.proofs.Common.{◌≡◌, inl, inr, ℕ, ◌+◌, ◌<◌, ◌≤◌, true, false, not, nat_le, List, [], ◌∷◌, ◌++◌, length, drop, Ok, Err, if◌then◌else◌, refl, sym, ◌∙◌, ap, subst, arith}
use Rattle.std.proofs.lemmas.Bool.{and_parts, and_from, or_left, leb-true, leb-false, le-leb, lt-leb, not-true, not_from_false}
use Rattle.std.proofs.lemmas.List.{drop_at}
use Rattle.std.specs.List.{prefix_len, list_all}
use Rattle.mir_lex.specs.declared.token.TokenKind.TheVariants as kind
use Rattle.mir_lex.specs.declared.fault.FaultKind.TheVariants as fault
use Rattle.mir_lex.specs.declared.front.Found.{Found}
use Rattle.mir_lex.specs.declared.front.Fault.{Fault}
use Rattle.mir_lex.specs.Bytes.{is_digit, is_word_byte, is_word_start, is_apostrophe, first_is}
use Rattle.mir_lex.specs.Tokens.{is_word, ends, BeginsLongWord, BeginsLongLifetime}
use Rattle.mir_lex.specs.Lexing.{token_of, failed, word_at, lifetime_of, lifetime_at}
use Rattle.mir_lex.proofs.Runs.{if_cases, same_ok, same_err, Run, run, run_ends, run_first}
use Rattle.mir_lex.proofs.NumberLaws.{IsAt}

pub start_is_byte : (b : ℕ) → is_word_start b ≡ true → is_word_byte b ≡ true
start_is_byte b h = or_left (is_word_start b) (is_digit b) h

pub run_is_word : (b : ℕ) (rest : List ℕ) (r : Run is_word_byte (b ∷ rest)) → is_word_start b ≡ true → is_word r.front ≡ true
run_is_word b rest r h = and_from (first_is is_word_start r.front) (list_all is_word_byte r.front) (run_first is_word_byte is_word_start b rest r (start_is_byte b h) h) r.all

pub word_takes : (b : ℕ) (rest : List ℕ) (f : Found) → is_word_start b ≡ true → word_at (b ∷ rest) ≡ Ok f → IsAt (b ∷ rest) f.kind f.size
unfolding word_at
word_takes b rest f s h =
    let n = prefix_len is_word_byte (b ∷ rest) in
    let r = run is_word_byte (b ∷ rest) in
    elim (if_cases (nat_le n 256) _ _ _ h) [
      | inl p ↦ let short = leb-true n 256 p.0 in let size = r.size in
          subst (λ (g : Found). IsAt (b ∷ rest) g.kind g.size) (same_ok (record { kind = kind.Word; size = n }) f p.1)
          (record { text = r.front; rest = r.rest; joins = r.joins; size = r.size; good = (run_is_word b rest r s, omega arith); stops = not_from_false (first_is is_word_byte r.rest) r.stops })
      | inr p ↦ cc (p.1)
    ]

pub word_faults : (b : ℕ) (rest : List ℕ) (f : Fault) → is_word_start b ≡ true → word_at (b ∷ rest) ≡ Err f → (f ≡ record { kind = fault.NameTooLong; skip = 0 }) × BeginsLongWord (b ∷ rest)
unfolding word_at
word_faults b rest f s h =
    let n = prefix_len is_word_byte (b ∷ rest) in
    let r = run is_word_byte (b ∷ rest) in
    elim (if_cases (nat_le n 256) _ _ _ h) [
      | inl p ↦ cc (p.1)
      | inr p ↦ let long = leb-false n 256 p.0 in let size = r.size in
          (sym (same_err (record { kind = fault.NameTooLong; skip = 0 }) f p.1), (r.front, r.rest, r.joins, run_is_word b rest r s, r.stops, omega arith))
    ]

word_len : (text rest : List ℕ) → is_word text ≡ true → first_is is_word_byte rest ≡ false → prefix_len is_word_byte (text ++ rest) ≡ length text
word_len text rest g s = run_ends is_word_byte text rest (and_parts (first_is is_word_start text) (list_all is_word_byte text) g).1 s

pub word_again : (text rest : List ℕ) → is_word text ≡ true → length text ≤ 256 → first_is is_word_byte rest ≡ false → word_at (text ++ rest) ≡ token_of kind.Word (length text)
unfolding word_at
word_again text rest g l s = let n = word_len text rest g s in let e : nat_le (length text) 256 ≡ true = le-leb (length text) 256 l in rw n (rw e refl)

pub long_word_again : (bytes : List ℕ) → BeginsLongWord bytes → word_at bytes ≡ failed fault.NameTooLong 0
unfolding word_at
long_word_again bytes w = let n = word_len w.0 w.1 w.3 w.4 in let e : nat_le (length w.0) 256 ≡ false = lt-leb (length w.0) 256 w.5 in rw (w.2) (rw n (rw e refl))

-- Lifetimes, behind their '.

-- what a fault behind a ' says
pub data LifetimeFault (rest : List ℕ) (f : Fault) : Type 0 where
  NoLifetime : f ≡ record { kind = fault.OpenText; skip = 0 } → LifetimeFault rest f
  LongLifetime : f ≡ record { kind = fault.NameTooLong; skip = 1 } → BeginsLongLifetime (39 ∷ rest) → LifetimeFault rest f

drop_run : (bytes : List ℕ) (r : Run is_word_byte bytes) → drop (prefix_len is_word_byte bytes) bytes ≡ r.rest
drop_run bytes r = ap (drop (prefix_len is_word_byte bytes)) r.joins ∙ drop_at r.front r.rest (prefix_len is_word_byte bytes) r.size

lifetime_ends : (rest : List ℕ) → first_is is_word_byte rest ≡ false → first_is is_apostrophe rest ≡ false → ends kind.Lifetime [] rest ≡ true
lifetime_ends rest w a = and_from (not (first_is is_word_byte rest)) (not (first_is is_apostrophe rest)) (not_from_false (first_is is_word_byte rest) w) (not_from_false (first_is is_apostrophe rest) a)

lifetime_word : (b : ℕ) (rest : List ℕ) (f : Found) → is_word_start b ≡ true → lifetime_of (prefix_len is_word_byte (b ∷ rest)) (b ∷ rest) ≡ Ok f → IsAt (39 ∷ b ∷ rest) f.kind f.size
lifetime_word b rest f s h =
    let n = prefix_len is_word_byte (b ∷ rest) in
    let r = run is_word_byte (b ∷ rest) in
    elim (if_cases (first_is is_apostrophe (drop n (b ∷ rest))) _ _ _ h) [
      | inl p ↦ cc (p.1)
      | inr p ↦ elim (if_cases (nat_le n 256) _ _ _ p.1) [
        | inl q ↦ let short = leb-true n 256 q.0 in let size = r.size in
            subst (λ (g : Found). IsAt (39 ∷ b ∷ rest) g.kind g.size) (same_ok (record { kind = kind.Lifetime; size = n + 1 }) f q.1)
            (record {
              text = 39 ∷ r.front;
              rest = r.rest;
              joins = ap (λ x. 39 ∷ x) r.joins;
              size = omega arith;
              good = (r.front, refl, run_is_word b rest r s, omega arith);
              stops = lifetime_ends r.rest r.stops (ap (first_is is_apostrophe) (sym (drop_run (b ∷ rest) r)) ∙ p.0);
            })
        | inr q ↦ cc (q.1)
      ]
    ]

lifetime_starts : (rest : List ℕ) (f : Found) → first_is is_word_start rest ≡ true → lifetime_of (prefix_len is_word_byte rest) rest ≡ Ok f → IsAt (39 ∷ rest) f.kind f.size
lifetime_starts [] f s h = cc
lifetime_starts (b ∷ rest) f s h = lifetime_word b rest f s h

pub lifetime_takes : (rest : List ℕ) (f : Found) → lifetime_at rest ≡ Ok f → IsAt (39 ∷ rest) f.kind f.size
unfolding lifetime_at
lifetime_takes rest f h = elim (if_cases (first_is is_word_start rest) _ _ _ h) [
  | inl p ↦ lifetime_starts rest f p.0 p.1
  | inr p ↦ cc (p.1)
]

fault_word : (b : ℕ) (rest : List ℕ) (f : Fault) → is_word_start b ≡ true → lifetime_of (prefix_len is_word_byte (b ∷ rest)) (b ∷ rest) ≡ Err f → LifetimeFault (b ∷ rest) f
fault_word b rest f s h =
    let n = prefix_len is_word_byte (b ∷ rest) in
    let r = run is_word_byte (b ∷ rest) in
    elim (if_cases (first_is is_apostrophe (drop n (b ∷ rest))) _ _ _ h) [
      | inl p ↦ NoLifetime (sym (same_err (record { kind = fault.OpenText; skip = 0 }) f p.1))
      | inr p ↦ elim (if_cases (nat_le n 256) _ _ _ p.1) [
        | inl q ↦ cc (q.1)
        | inr q ↦ let long = leb-false n 256 q.0 in let size = r.size in
            LongLifetime (sym (same_err (record { kind = fault.NameTooLong; skip = 1 }) f q.1))
            (r.front, r.rest, ap (λ x. 39 ∷ x) r.joins, run_is_word b rest r s, lifetime_ends r.rest r.stops (ap (first_is is_apostrophe) (sym (drop_run (b ∷ rest) r)) ∙ p.0), omega arith)
      ]
    ]

fault_starts : (rest : List ℕ) (f : Fault) → first_is is_word_start rest ≡ true → lifetime_of (prefix_len is_word_byte rest) rest ≡ Err f → LifetimeFault rest f
fault_starts [] f s h = cc
fault_starts (b ∷ rest) f s h = fault_word b rest f s h

pub lifetime_faults : (rest : List ℕ) (f : Fault) → lifetime_at rest ≡ Err f → LifetimeFault rest f
unfolding lifetime_at
lifetime_faults rest f h = elim (if_cases (first_is is_word_start rest) _ _ _ h) [
  | inl p ↦ fault_starts rest f p.0 p.1
  | inr p ↦ NoLifetime (sym (same_err (record { kind = fault.OpenText; skip = 0 }) f p.1))
]

first_of_word : (word rest : List ℕ) → is_word word ≡ true → first_is is_word_start (word ++ rest) ≡ true
first_of_word [] rest h = cc
first_of_word (b ∷ word) rest h = (and_parts (is_word_start b) (list_all is_word_byte (b ∷ word)) h).0

-- a word behind a ', with no ' behind it
lifetime_read : (word rest : List ℕ) → is_word word ≡ true → ends kind.Lifetime (39 ∷ word) rest ≡ true → lifetime_at (word ++ rest) ≡ (if nat_le (length word) 256 then token_of kind.Lifetime (length word + 1) else failed fault.NameTooLong 1)
unfolding lifetime_at
lifetime_read word rest g e =
    let s = and_parts (not (first_is is_word_byte rest)) (not (first_is is_apostrophe rest)) e in
    let n = word_len word rest g (not-true (first_is is_word_byte rest) s.0) in
    let a : first_is is_apostrophe (drop (length word) (word ++ rest)) ≡ false = ap (first_is is_apostrophe) (drop_at word rest (length word) refl) ∙ not-true (first_is is_apostrophe rest) s.1 in
    rw (first_of_word word rest g) (rw n (rw a refl))

pub lifetime_again : (word rest : List ℕ) → is_word word ≡ true → length word ≤ 256 → ends kind.Lifetime (39 ∷ word) rest ≡ true → lifetime_at (word ++ rest) ≡ token_of kind.Lifetime (length word + 1)
lifetime_again word rest g l e = let c : nat_le (length word) 256 ≡ true = le-leb (length word) 256 l in lifetime_read word rest g e ∙ rw c refl

pub long_lifetime_read : (word rest : List ℕ) → is_word word ≡ true → 256 < length word → ends kind.Lifetime (39 ∷ word) rest ≡ true → lifetime_at (word ++ rest) ≡ failed fault.NameTooLong 1
long_lifetime_read word rest g l e = let c : nat_le (length word) 256 ≡ false = lt-leb (length word) 256 l in lifetime_read word rest g e ∙ rw c refl
