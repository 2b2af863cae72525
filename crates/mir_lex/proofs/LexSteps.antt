-- A turn of the loop that finds tokens.
use Rattle.std.proofs.Common.{◌≡◌, ℕ, suc, ◌+◌, ◌-◌, ◌<◌, ◌==◌, true, false, List, [], ◌∷◌, ◌++◌, length, drop, Ok, Err, refl, sym, ◌∙◌, ap, arith, append_assoc, append-nil}
use Rattle.std.proofs.lemmas.Bool.{eqb-true}
use Rattle.mir_lex.specs.declared.token.Token.{Token}
use Rattle.mir_lex.specs.declared.front.Found.{Found}
use Rattle.mir_lex.specs.declared.front.Fault.{Fault}
use Rattle.mir_lex.specs.Lexing.{Lexed, skipped, token_at, before, with_front, lexed_here, lexed_from}

-- tokens before those that are found
abbrev pub with_before : List Token → Lexed → Lexed
with_before acc (Ok ts) = Ok (acc ++ ts)
with_before acc (Err e) = Err e

turn_left : (n i size : ℕ) (bytes : List ℕ) → i < n → lexed_from (n - i) size bytes ≡ lexed_here (lexed_from (n - (i + 1)) size) size (skipped false bytes)
turn_left n i size bytes h = let e : n - i ≡ suc (n - (i + 1)) = omega arith in rw e refl

none_left : (more : List ℕ → Lexed) (size : ℕ) (mid : List ℕ) → (length mid == 0) ≡ true → lexed_here more size mid ≡ Ok []
none_left more size [] h = refl
none_left more size (b ∷ rest) h = absurd (omega (arith, eqb-true (length (b ∷ rest)) 0 h))

one_left : (more : List ℕ → Lexed) (size : ℕ) (mid : List ℕ) → (length mid == 0) ≡ false → lexed_here more size mid ≡ with_front more (size - length mid) mid (token_at mid)
one_left more size [] h = cc
one_left more size (b ∷ rest) h = refl

pub lexed_all : (n i size : ℕ) (bytes mid : List ℕ) (acc : List Token) (whole : Lexed) → i < n → with_before acc (lexed_from (n - i) size bytes) ≡ whole
    → mid ≡ skipped false bytes → (length mid == 0) ≡ true → Ok acc ≡ whole
lexed_all n i size bytes mid acc whole l inv e h =
    let t = turn_left n i size bytes l ∙ ap (lexed_here (lexed_from (n - (i + 1)) size) size) (sym e) ∙ none_left (lexed_from (n - (i + 1)) size) size mid h in
    ap Ok (sym (append-nil acc)) ∙ sym (ap (with_before acc) t) ∙ inv

pub lexed_fault : (n i size start : ℕ) (bytes mid : List ℕ) (acc : List Token) (whole : Lexed) (f : Fault) → i < n → with_before acc (lexed_from (n - i) size bytes) ≡ whole
    → mid ≡ skipped false bytes → (length mid == 0) ≡ false → start ≡ size - length mid → token_at mid ≡ Err f → Err (record { kind = f.kind; skip = start + f.skip }) ≡ whole
lexed_fault n i size start bytes mid acc whole f l inv e h s k =
    let more = lexed_from (n - (i + 1)) size in
    let t = turn_left n i size bytes l ∙ ap (lexed_here more size) (sym e) ∙ one_left more size mid h ∙ ap (with_front more (size - length mid) mid) k in
    ap (λ b. with_before acc (with_front more b mid (Err f))) s ∙ sym (ap (with_before acc) t) ∙ inv

more_before : (acc : List Token) (t : Token) (o : Lexed) → with_before (acc ++ t ∷ []) o ≡ with_before acc (before t o)
more_before acc t (Err e) = refl
more_before acc t (Ok ts) = ap Ok (append_assoc acc (t ∷ []) ts)

pub lexed_one : (n i size start : ℕ) (bytes mid rest : List ℕ) (acc : List Token) (whole : Lexed) (f : Found) → i < n → with_before acc (lexed_from (n - i) size bytes) ≡ whole
    → mid ≡ skipped false bytes → (length mid == 0) ≡ false → start ≡ size - length mid → token_at mid ≡ Ok f → rest ≡ drop f.size mid
    → with_before (acc ++ record { kind = f.kind; start = start; end = start + f.size } ∷ []) (lexed_from (n - (i + 1)) size rest) ≡ whole
lexed_one n i size start bytes mid rest acc whole f l inv e h s k r =
    let more = lexed_from (n - (i + 1)) size in
    let t = turn_left n i size bytes l ∙ ap (lexed_here more size) (sym e) ∙ one_left more size mid h ∙ ap (with_front more (size - length mid) mid) k in
    more_before acc (record { kind = f.kind; start = start; end = start + f.size }) (more rest)
    ∙ ap (λ x. with_before acc (before (record { kind = f.kind; start = start; end = start + f.size }) (more x))) r
    ∙ ap (λ b. with_before acc (with_front more b mid (Ok f))) s
    ∙ sym (ap (with_before acc) t) ∙ inv
