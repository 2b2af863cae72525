-- Texts and impl segments are found exactly.
use Rattle.std.proofs.Common.{◌≡◌, inl, inr, ℕ, ◌+◌, ◌-◌, ◌≤◌, Bool, true, false, ◌==◌, not, ◌&&◌, nat_le, nat_lt, if◌then◌else◌, List, [], ◌∷◌, ◌++◌, length, Option, Some, None, Ok, Err, refl, sym, ap, arith}
use Rattle.std.proofs.lemmas.Bool.{and_parts, eqb-true, ne_eqb, not-true, le-ltb, ltb-true, ltb-false}
use Rattle.mir_lex.specs.declared.token.TokenKind.{TokenKind}
use Rattle.mir_lex.specs.declared.fault.FaultKind.TheVariants as fault
use Rattle.mir_lex.specs.declared.front.Found.{Found}
use Rattle.mir_lex.specs.declared.front.Fault.{Fault}
use Rattle.mir_lex.specs.Tokens.{is_text_body, is_segment_body}
use Rattle.mir_lex.specs.Lexing.{more, closed, body_len, segment_len}
use Rattle.mir_lex.proofs.Runs.{if_cases, same_ok, same_err, same_some}
use Rattle.mir_lex.proofs.NumberLaws.{more_some}

-- bytes that pass stand before a byte c, so many
pub record IsBefore (c : ℕ) (test : List ℕ → Bool) (bytes : List ℕ) (n : ℕ) : Type 0 where
  pub body : List ℕ
  pub rest : List ℕ
  pub joins : bytes ≡ body ++ c ∷ rest
  pub good : test body ≡ true
  pub size : length body ≡ n

longer : (c b : ℕ) (test inner : List ℕ → Bool) (bytes : List ℕ) (o : Option ℕ) (n : ℕ) → more o ≡ Some n → ((m : ℕ) → o ≡ Some m → IsBefore c inner bytes m)
    → ((body : List ℕ) → inner body ≡ true → test (b ∷ body) ≡ true) → IsBefore c test (b ∷ bytes) n
longer c b test inner bytes o n h ih good =
    let m = more_some o n h in let i = ih m.0 m.1 in
    record { body = b ∷ i.body; rest = i.rest; joins = ap (λ r. b ∷ r) i.joins; good = good i.body i.good; size = let e = i.size in let f = m.2 in omega arith }

body_at : (b : ℕ) (bytes : List ℕ) (quote slash : Bool) (n : ℕ) → (b == 34) ≡ quote → (b == 92) ≡ slash
    → (if quote then Some 0 else (if slash then more (body_len true bytes) else (if nat_le 32 b then more (body_len false bytes) else None))) ≡ Some n
    → ((m : ℕ) → body_len true bytes ≡ Some m → IsBefore 34 (is_text_body true) bytes m) → ((m : ℕ) → body_len false bytes ≡ Some m → IsBefore 34 (is_text_body false) bytes m) → IsBefore 34 (is_text_body false) (b ∷ bytes) n
body_at b bytes true slash n q k h i j = record { body = []; rest = bytes; joins = ap (λ r. r ∷ bytes) (eqb-true b 34 q); good = refl; size = same_some 0 n h }
body_at b bytes false true n q k h i j = longer 34 b (is_text_body false) (is_text_body true) bytes (body_len true bytes) n h i (λ body g. rw k g)
body_at b bytes false false n q k h i j = elim (if_cases (nat_le 32 b) (more (body_len false bytes)) None (Some n) h) [
  | inl s ↦ longer 34 b (is_text_body false) (is_text_body false) bytes (body_len false bytes) n s.1 j (λ body g. rw k (rw s.0 (rw q g)))
  | inr s ↦ cc (s.1)
]

pub body_takes : (escaped : Bool) (bytes : List ℕ) (n : ℕ) → body_len escaped bytes ≡ Some n → IsBefore 34 (is_text_body escaped) bytes n
body_takes true [] n h = cc
body_takes false [] n h = cc
body_takes true (b ∷ bytes) n h = elim (if_cases (nat_le 32 b) (more (body_len false bytes)) None (Some n) h) [
  | inl s ↦ longer 34 b (is_text_body true) (is_text_body false) bytes (body_len false bytes) n s.1 (body_takes false bytes) (λ body g. rw s.0 g)
  | inr s ↦ cc (s.1)
]
body_takes false (b ∷ bytes) n h = body_at b bytes (b == 34) (b == 92) n refl refl h (body_takes true bytes) (body_takes false bytes)

next_len : (b : ℕ) (rest : List ℕ) (o : Option ℕ) → o ≡ Some (length rest) → more o ≡ Some (length (b ∷ rest))
next_len b rest o e = let q : length rest + 1 ≡ length (b ∷ rest) = omega arith in rw e (ap Some q)

body_again_at : (b : ℕ) (body rest : List ℕ) (slash : Bool) → (b == 92) ≡ slash → (if slash then is_text_body true body else (nat_le 32 b && (not (b == 34) && is_text_body false body))) ≡ true
    → (is_text_body true body ≡ true → body_len true (body ++ 34 ∷ rest) ≡ Some (length body)) → (is_text_body false body ≡ true → body_len false (body ++ 34 ∷ rest) ≡ Some (length body))
    → body_len false (b ∷ (body ++ 34 ∷ rest)) ≡ Some (length (b ∷ body))
body_again_at b body rest true k h i j = let q : (b == 34) ≡ false = ne_eqb b 34 (λ e. absurd (omega (arith, eqb-true b 92 k))) in
    rw q (rw k (next_len b body (body_len true (body ++ 34 ∷ rest)) (i h)))
body_again_at b body rest false k h i j =
    let p = and_parts (nat_le 32 b) (not (b == 34) && is_text_body false body) h in
    let r = and_parts (not (b == 34)) (is_text_body false body) p.1 in
    let q : (b == 34) ≡ false = not-true (b == 34) r.0 in
    rw q (rw k (rw p.0 (next_len b body (body_len false (body ++ 34 ∷ rest)) (j r.1))))

pub body_again : (escaped : Bool) (body rest : List ℕ) → is_text_body escaped body ≡ true → body_len escaped (body ++ 34 ∷ rest) ≡ Some (length body)
body_again true [] rest h = cc
body_again false [] rest h = refl
body_again true (b ∷ body) rest h = let p = and_parts (nat_le 32 b) (is_text_body false body) h in
    rw p.0 (next_len b body (body_len false (body ++ 34 ∷ rest)) (body_again false body rest p.1))
body_again false (b ∷ body) rest h = body_again_at b body rest (b == 92) refl h (body_again true body rest) (body_again false body rest)

segment_at_byte : (depth b : ℕ) (bytes : List ℕ) (up down deep : Bool) (n : ℕ) → (b == 60) ≡ up → (b == 62) ≡ down → nat_lt 1 depth ≡ deep → (1 ≤ depth)
    → (if up then more (segment_len (depth + 1) bytes) else (if down then (if deep then more (segment_len (depth - 1) bytes) else Some 0) else (if nat_le 32 b then more (segment_len depth bytes) else None))) ≡ Some n
    → ((d m : ℕ) → 1 ≤ d → segment_len d bytes ≡ Some m → IsBefore 62 (is_segment_body d) bytes m) → IsBefore 62 (is_segment_body depth) (b ∷ bytes) n
segment_at_byte depth b bytes true down deep n u w d l h i = longer 62 b (is_segment_body depth) (is_segment_body (depth + 1)) bytes (segment_len (depth + 1) bytes) n h (λ m. i (depth + 1) m (omega arith)) (λ body g. rw u g)
segment_at_byte depth b bytes false true true n u w d l h i = longer 62 b (is_segment_body depth) (is_segment_body (depth - 1)) bytes (segment_len (depth - 1) bytes) n h (λ m. i (depth - 1) m (omega (arith, ltb-true 1 depth d))) (λ body g. rw u (rw w (rw d g)))
segment_at_byte depth b bytes false true false n u w d l h i =
    let one : depth ≡ 1 = omega (arith, ltb-false 1 depth d) in
    record { body = []; rest = bytes; joins = ap (λ r. r ∷ bytes) (eqb-true b 62 w); good = rw one refl; size = same_some 0 n h }
segment_at_byte depth b bytes false false deep n u w d l h i = elim (if_cases (nat_le 32 b) (more (segment_len depth bytes)) None (Some n) h) [
  | inl s ↦ longer 62 b (is_segment_body depth) (is_segment_body depth) bytes (segment_len depth bytes) n s.1 (λ m. i depth m l) (λ body g. rw u (rw w (rw s.0 g)))
  | inr s ↦ cc (s.1)
]

pub segment_takes : (depth : ℕ) (bytes : List ℕ) (n : ℕ) → 1 ≤ depth → segment_len depth bytes ≡ Some n → IsBefore 62 (is_segment_body depth) bytes n
segment_takes depth [] n l h = cc
segment_takes depth (b ∷ bytes) n l h = segment_at_byte depth b bytes (b == 60) (b == 62) (nat_lt 1 depth) n refl refl refl l h (λ d m. segment_takes d bytes m)

segment_again_at : (depth b : ℕ) (body rest : List ℕ) (up down : Bool) → (b == 60) ≡ up → (b == 62) ≡ down
    → (if up then is_segment_body (depth + 1) body else (if down then (nat_lt 1 depth && is_segment_body (depth - 1) body) else (nat_le 32 b && is_segment_body depth body))) ≡ true
    → ((d : ℕ) → is_segment_body d body ≡ true → segment_len d (body ++ 62 ∷ rest) ≡ Some (length body)) → segment_len depth (b ∷ (body ++ 62 ∷ rest)) ≡ Some (length (b ∷ body))
segment_again_at depth b body rest true down u w h i = rw u (next_len b body (segment_len (depth + 1) (body ++ 62 ∷ rest)) (i (depth + 1) h))
segment_again_at depth b body rest false true u w h i = let p = and_parts (nat_lt 1 depth) (is_segment_body (depth - 1) body) h in
    rw u (rw w (rw p.0 (next_len b body (segment_len (depth - 1) (body ++ 62 ∷ rest)) (i (depth - 1) p.1))))
segment_again_at depth b body rest false false u w h i = let p = and_parts (nat_le 32 b) (is_segment_body depth body) h in
    rw u (rw w (rw p.0 (next_len b body (segment_len depth (body ++ 62 ∷ rest)) (i depth p.1))))

pub segment_again : (depth : ℕ) (body rest : List ℕ) → is_segment_body depth body ≡ true → segment_len depth (body ++ 62 ∷ rest) ≡ Some (length body)
segment_again depth [] rest h = let e : nat_lt 1 depth ≡ false = le-ltb 1 depth (omega (arith, eqb-true depth 1 h)) in rw e refl
segment_again depth (b ∷ body) rest h = segment_again_at depth b body rest (b == 60) (b == 62) refl refl h (λ d. segment_again d body rest)

-- a token that ends, or does not
pub closed_ok : (k : TokenKind) (beside : ℕ) (o : Option ℕ) (f : Found) → closed k beside o ≡ Ok f → (n : ℕ) × (o ≡ Some n) × (f ≡ record { kind = k; size = n + beside })
closed_ok k beside None f h = cc
closed_ok k beside (Some n) f h = (n, refl, sym (same_ok (record { kind = k; size = n + beside }) f h))

pub closed_err : (k : TokenKind) (beside : ℕ) (o : Option ℕ) (f : Fault) → closed k beside o ≡ Err f → f ≡ record { kind = fault.OpenText; skip = 0 }
closed_err k beside None f h = sym (same_err (record { kind = fault.OpenText; skip = 0 }) f h)
closed_err k beside (Some n) f h = cc
