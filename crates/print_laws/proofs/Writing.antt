-- Bytes that spell lexemes have them as their tokens.
use Rattle.std.proofs.Common.{◌≡◌, ℕ, ◌+◌, ◌-◌, true, nat_le, List, [], ◌∷◌, ◌++◌, length, take, drop, refl, sym, ◌∙◌, ap, subst, arith, append_assoc, append-nil, length-append, inl}
use Rattle.std.proofs.lemmas.Bool.{and_from, le-leb}
use Rattle.std.proofs.lemmas.List.{take_at, drop_at}
use Rattle.mir_lex.specs.declared.token.Token.{Token}
use Rattle.mir_lex.specs.Tokens.{Separator, Blank, Comment, Separates, LexesTo}
use Rattle.mir_lex.specs.Views.{slice_of}
use Rattle.mir_grammar.specs.Lexemes.{Lexeme}
use Rattle.grammar_words.specs.Classes.{has}
use Rattle.print_laws.specs.Printed.{AreWritten, Writes}
use Rattle.print_laws.proofs.Leads.{lead}
use Rattle.print_laws.proofs.Fits.{Spells, Fits}

-- the bytes of separators
separated : (gap : List Separator) (bytes mid : List ℕ) → Separates bytes gap mid → (front : List ℕ) × (bytes ≡ front ++ mid)
separated [] bytes mid h = ([], h)
separated (Blank b ∷ more) bytes mid h = let i = separated more h.0 mid h.3 in (b ∷ i.0, h.1 ∙ ap (λ x. b ∷ x) i.1)
separated (Comment body ∷ more) bytes mid h = let i = separated more h.0 mid h.3 in
    (47 ∷ 47 ∷ (body ++ 10 ∷ i.0), h.1 ∙ ap (λ x. 47 ∷ 47 ∷ (body ++ 10 ∷ x)) i.1 ∙ ap (λ x. 47 ∷ 47 ∷ x) (sym (append_assoc body (10 ∷ i.0) mid)))

slice_at : (source pre text behind : List ℕ) (start end : ℕ) → source ≡ pre ++ (text ++ behind) → start ≡ length pre → end ≡ start + length text → slice_of source start end ≡ text
slice_at source pre text behind start end e s n =
    let sizes = ap length e in
    let low : nat_le start end ≡ true = le-leb start end (omega arith) in
    let high : nat_le end (length source) ≡ true = le-leb end (length source) (omega (arith, length-append pre (text ++ behind), length-append text behind)) in
    let d : drop start source ≡ text ++ behind = ap (drop start) e ∙ drop_at pre (text ++ behind) start (sym s) in
    let size : length text ≡ end - start = omega arith in
    rw (and_from (nat_le start end) (nat_le end (length source)) low high) (ap (take (end - start)) d ∙ take_at text behind (end - start) size)

-- tokens of the last bytes of a source
abbrev Ends : List ℕ → List ℕ → List Lexeme → Type 0
Ends source bytes ls = (ts : List Token) × (rest : List ℕ) × (gap : List Separator) × LexesTo (length source) bytes ts rest × Separates rest gap [] × AreWritten source ts ls

ends_at : (ls : List Lexeme) (source pre bytes : List ℕ) → source ≡ pre ++ bytes → Spells bytes ls → Ends source bytes ls
ends_at [] source pre bytes e h = ([], bytes, h.0, refl, h.1, tt)
ends_at (l ∷ ls) source pre bytes e h =
    let g = separated h.0 bytes h.1 h.3 in
    let j : source ≡ (pre ++ g.0) ++ (l.text ++ h.2) = e ∙ ap (λ x. pre ++ x) (g.1 ∙ ap (λ x. g.0 ++ x) h.4) ∙ sym (append_assoc pre g.0 (l.text ++ h.2)) in
    let sizes = ap length j in
    let mid = ap length h.4 in
    let start : length source - length h.1 ≡ length (pre ++ g.0) = omega (arith, length-append (pre ++ g.0) (l.text ++ h.2), length-append l.text h.2) in
    let i = ends_at ls source ((pre ++ g.0) ++ l.text) h.2 (j ∙ sym (append_assoc (pre ++ g.0) l.text h.2)) h.7 in (
      record { kind = l.kind; start = length source - length h.1; end = length source - length h.1 + length l.text } ∷ i.0,
      i.1,
      i.2,
      (h.0, h.1, l.text, h.2, h.3, h.4, h.5, h.6, refl, refl, i.3),
      i.4,
      (refl, slice_at source (pre ++ g.0) l.text h.2 (length source - length h.1) (length source - length h.1 + length l.text) j start refl, i.5),
    )

pub writes : (text : List ℕ) (ls : List Lexeme) → Spells text ls → Writes text ls
writes text ls h = let i = ends_at ls text [] text refl h in (i.0, (i.1, [], i.2, i.3, i.4, inl refl), i.5)

-- a text with nothing behind it
pub fits_writes : (s l : List ℕ) (text : List ℕ) (ls : List Lexeme) → has s 0 ≡ true → Fits s l text ls → Writes text ls
unfolding lead
fits_writes s l text ls h f = writes text ls (subst (λ x. Spells x ls) (append-nil text) (subst (λ x. Spells (text ++ []) x) (append-nil ls) (f.spells [] [] h ([], refl))))
