-- A text has one lexing.
use Rattle.std.proofs.Common.{◌≡◌, ◌⊎◌, inl, inr, ℕ, ◌+◌, ◌-◌, ◌≤◌, true, nat_le, List, [], ◌∷◌, ◌++◌, length, take, drop, Ok, Err, refl, sym, ◌∙◌, ap, subst, arith, append_assoc, length-append}
use Rattle.std.proofs.lemmas.Bool.{and_from, le-leb}
use Rattle.std.proofs.lemmas.List.{take_at, drop_at}
use Rattle.mir_lex.specs.declared.token.Token.{Token}
use Rattle.mir_lex.specs.declared.fault.FaultKind.{FaultKind}
use Rattle.mir_lex.specs.declared.front.Fault.{Fault}
use Rattle.mir_lex.specs.Tokens.{Separator, Blank, Comment, Separates, IsToken, LexesTo, Lexes, Fails}
use Rattle.mir_lex.specs.Lexing.{Lexed, lexed}
use Rattle.mir_lex.specs.Views.{slice_of, AreSlices, AreInOrder}
use Rattle.mir_lex.specs.Agreement.{HasOneLexing}
use Rattle.mir_lex.proofs.Runs.{same_ok, same_err}
use Rattle.mir_lex.proofs.FoundLaws.{token_long}
use Rattle.mir_lex.proofs.LexLaws.{Answers, lexed_right, lexes_again, fails_again}

-- the bytes of separators
separated : (gap : List Separator) (bytes mid : List ℕ) → Separates bytes gap mid → (front : List ℕ) × (bytes ≡ front ++ mid)
separated [] bytes mid h = ([], h)
separated (Blank b ∷ more) bytes mid h = let i = separated more h.0 mid h.3 in (b ∷ i.0, h.1 ∙ ap (λ x. b ∷ x) i.1)
separated (Comment body ∷ more) bytes mid h = let i = separated more h.0 mid h.3 in
    (47 ∷ 47 ∷ (body ++ 10 ∷ i.0), h.1 ∙ ap (λ x. 47 ∷ 47 ∷ (body ++ 10 ∷ x)) i.1 ∙ ap (λ x. 47 ∷ 47 ∷ x) (sym (append_assoc body (10 ∷ i.0) mid)))

slice_at : (source pre text behind : List ℕ) (start end : ℕ) → source ≡ pre ++ (text ++ behind) → start ≡ length pre → end ≡ start + length text → slice_of source start end ≡ text
slice_at source pre text behind start end e s n =
    let sizes = ap length e in
    let low : nat_le start end ≡ true = le-leb start end (omega arith) in
    let high : nat_le end (length source) ≡ true = le-leb end (length source) (omega (arith, length-append pre (text ++ behind), length-append text behind)) in
    let d : drop start source ≡ text ++ behind = ap (drop start) e ∙ drop_at pre (text ++ behind) start (sym s) in
    let size : length text ≡ end - start = omega arith in
    rw (and_from (nat_le start end) (nat_le end (length source)) low high) (ap (take (end - start)) d ∙ take_at text behind (end - start) size)

abbrev Placed : ℕ → List ℕ → List Token → Type 0
Placed here source ts = AreSlices source ts × AreInOrder here (length source) ts

placed_here : (source pre text behind : List ℕ) (here : ℕ) (t : Token) (ts : List Token) → source ≡ pre ++ (text ++ behind) → here ≤ length pre → IsToken t.kind text → t.start ≡ length pre → t.end ≡ t.start + length text
    → Placed (length (pre ++ text)) source ts → Placed here source (t ∷ ts)
placed_here source pre text behind here t ts e h g s n p =
    let long = token_long t.kind text g in
    let last : length (pre ++ text) ≡ t.end = omega (arith, length-append pre text) in (
      (subst (IsToken t.kind) (sym (slice_at source pre text behind t.start t.end e s n)) g, p.0),
      (omega arith, omega arith, subst (λ k. AreInOrder k (length source) ts) last p.1),
    )

placed : (ts : List Token) (source pre bytes rest : List ℕ) → source ≡ pre ++ bytes → LexesTo (length source) bytes ts rest → Placed (length pre) source ts
placed [] source pre bytes rest e h = (tt, let s = ap length e in omega (arith, length-append pre bytes))
placed (t ∷ ts) source pre bytes rest e h =
    let g = separated h.0 bytes h.1 h.4 in
    let j : source ≡ (pre ++ g.0) ++ (h.2 ++ h.3) = e ∙ ap (λ x. pre ++ x) (g.1 ∙ ap (λ x. g.0 ++ x) h.5) ∙ sym (append_assoc pre g.0 (h.2 ++ h.3)) in
    let sizes = ap length j in
    let mid = ap length h.5 in
    let start : t.start ≡ length (pre ++ g.0) = omega (arith, h.8, length-append (pre ++ g.0) (h.2 ++ h.3), length-append h.2 h.3) in
    placed_here source (pre ++ g.0) h.2 h.3 (length pre) t ts j (omega (arith, length-append pre g.0)) h.6 start h.9
    (placed ts source ((pre ++ g.0) ++ h.2) h.3 rest (j ∙ sym (append_assoc (pre ++ g.0) h.2 h.3)) h.10)

either_by : (text : List ℕ) (r : Lexed) → Answers (length text) text r → ((ts : List Token) × Lexes text ts) ⊎ ((k : FaultKind) × (n : ℕ) × Fails text k n)
either_by text (Ok ts) h = inl (ts, h)
either_by text (Err f) h = inr (f.kind, f.skip, h)

one_fault : (k l : FaultKind) (m n : ℕ) → (r : Lexed) → r ≡ Err (record { kind = k; skip = m }) → r ≡ Err (record { kind = l; skip = n }) → (k ≡ l) × (m ≡ n)
one_fault k l m n r e f = let q = same_err {A = List Token} (record { kind = k; skip = m }) (record { kind = l; skip = n }) (sym e ∙ f) in (ap (λ (g : Fault). g.kind) q, ap (λ (g : Fault). g.skip) q)

pub has_one_lexing : (text : List ℕ) → HasOneLexing text
has_one_lexing text = record {
  tokens = λ a b h k. same_ok {E = Fault} a b (sym (lexes_again text a h) ∙ lexes_again text b k);
  fault = λ k l m n h i. one_fault k l m n (lexed text) (fails_again text k m h) (fails_again text l n i);
  apart = λ ts k n h i. cc (lexes_again text ts h, fails_again text k n i);
  either = either_by text (lexed text) (lexed_right text);
  slices = λ ts h. (placed ts text [] text h.0 refl h.3).0;
  order = λ ts h. (placed ts text [] text h.0 refl h.3).1;
}
