-- Separators are left out exactly.
use Rattle.std.proofs.Common.{◌≡◌, ◌⊎◌, inl, inr, ℕ, Bool, true, false, ◌&&◌, not, ◌==◌, if◌then◌else◌, List, [], ◌∷◌, ◌++◌, refl, sym, ◌∙◌, ap, subst, arith}
use Rattle.std.proofs.lemmas.Bool.{and_parts, eqb-true}
use Rattle.mir_lex.specs.Tokens.{has_no_line_feed, Separator, Blank, Comment, Separates, IsEnd}
use Rattle.mir_lex.specs.Bytes.{is_separator, first_is}
use Rattle.mir_lex.specs.Lexing.{skipped}

-- r is what stands behind the separators, or nothing where the text ends among them
abbrev pub Skips : List ℕ → List ℕ → Type 0
Skips bytes r = (gap : List Separator) × (mid : List ℕ) × Separates bytes gap mid × ((mid ≡ r) ⊎ (IsEnd mid × (r ≡ [])))

abbrev SkipsIn : Bool → List ℕ → List ℕ → Type 0
SkipsIn false bytes r = Skips bytes r
SkipsIn true bytes r = ((body mid : List ℕ) × (bytes ≡ body ++ 10 ∷ mid) × (has_no_line_feed body ≡ true) × Skips mid r) ⊎ ((has_no_line_feed bytes ≡ true) × (r ≡ []))

tail_of : (b c : ℕ) (xs ys : List ℕ) → b ∷ xs ≡ c ∷ ys → xs ≡ ys
tail_of b c xs ys h = cc

head_of : (b c : ℕ) (xs ys : List ℕ) → b ∷ xs ≡ c ∷ ys → b ≡ c
head_of b c xs ys h = cc

not_ten : (b : ℕ) → (b == 10) ≡ false → (xs : List ℕ) → has_no_line_feed xs ≡ true → has_no_line_feed (b ∷ xs) ≡ true
not_ten b h xs n = rw h n

in_line : (b : ℕ) (rest : List ℕ) (c : Bool) → (b == 10) ≡ c → SkipsIn (not c) rest (skipped (not c) rest) → SkipsIn true (b ∷ rest) (skipped (not c) rest)
in_line b rest true h s = inl ([], rest, ap (λ x. x ∷ rest) (eqb-true b 10 h), refl, s)
in_line b rest false h (inl s) = inl (b ∷ s.0, s.1, ap (λ r. b ∷ r) s.2, not_ten b h s.0 s.3, s.4)
in_line b rest false h (inr s) = inr (not_ten b h rest s.0, s.1)

in_comment_at : (c : ℕ) (rest body mid r : List ℕ) → (c == 47) ≡ true → c ∷ rest ≡ body ++ 10 ∷ mid → has_no_line_feed body ≡ true → Skips mid r → Skips (47 ∷ c ∷ rest) r
in_comment_at c rest [] mid r h e n s = absurd (omega (arith, eqb-true c 47 h, head_of c 10 rest mid e))
in_comment_at c rest (d ∷ body) mid r h e n s =
    (Comment body ∷ s.0, s.1, (mid, rw (eqb-true c 47 h) (ap (λ t. 47 ∷ 47 ∷ t) (tail_of c d rest (body ++ 10 ∷ mid) e)), (and_parts (not (d == 10)) (has_no_line_feed body) n).1, s.2), s.3)

in_comment : (rest r : List ℕ) → first_is (λ c. c == 47) rest ≡ true → SkipsIn true rest r → Skips (47 ∷ rest) r
in_comment [] r h s = cc
in_comment (c ∷ rest) r h (inl s) = in_comment_at c rest s.0 s.1 r h s.2 s.3 s.4
in_comment (c ∷ rest) r h (inr s) =
    ([], 47 ∷ c ∷ rest, refl, inr (inr (rest, ap (λ x. 47 ∷ x ∷ rest) (eqb-true c 47 h), (and_parts (not (c == 10)) (has_no_line_feed rest) s.0).1), s.1))

at_byte : (b : ℕ) (rest : List ℕ) (blank comment : Bool) → is_separator b ≡ blank → (b == 47 && first_is (λ c. c == 47) rest) ≡ comment → Skips rest (skipped false rest) → SkipsIn true rest (skipped true rest)
    → Skips (b ∷ rest) (if blank then skipped false rest else (if comment then skipped true rest else b ∷ rest))
at_byte b rest true comment h k s t = (Blank b ∷ s.0, s.1, (rest, refl, h, s.2), s.3)
at_byte b rest false true h k s t = let p = and_parts (b == 47) (first_is (λ c. c == 47) rest) k in
    subst (λ x. Skips (x ∷ rest) (skipped true rest)) (sym (eqb-true b 47 p.0)) (in_comment rest (skipped true rest) p.1 t)
at_byte b rest false false h k s t = ([], b ∷ rest, refl, inl refl)

skip_in : (comment : Bool) (bytes : List ℕ) → SkipsIn comment bytes (skipped comment bytes)
skip_in true [] = inr (refl, refl)
skip_in false [] = ([], [], refl, inl refl)
skip_in true (b ∷ rest) = in_line b rest (b == 10) refl (skip_in (not (b == 10)) rest)
skip_in false (b ∷ rest) = at_byte b rest (is_separator b) (b == 47 && first_is (λ c. c == 47) rest) refl refl (skip_in false rest) (skip_in true rest)

pub skip_takes : (bytes : List ℕ) → Skips bytes (skipped false bytes)
skip_takes bytes = skip_in false bytes

closed_comment : (body mid : List ℕ) → has_no_line_feed body ≡ true → skipped true (body ++ 10 ∷ mid) ≡ skipped false mid
closed_comment [] mid n = refl
closed_comment (b ∷ body) mid n = let p = and_parts (not (b == 10)) (has_no_line_feed body) n in
    subst (λ c. skipped c (body ++ 10 ∷ mid) ≡ skipped false mid) (sym p.0) (closed_comment body mid p.1)

open_comment : (body : List ℕ) → has_no_line_feed body ≡ true → skipped true body ≡ []
open_comment [] n = refl
open_comment (b ∷ body) n = let p = and_parts (not (b == 10)) (has_no_line_feed body) n in
    subst (λ c. skipped c body ≡ []) (sym p.0) (open_comment body p.1)

pub skip_again : (gap : List Separator) (bytes mid : List ℕ) → Separates bytes gap mid → skipped false bytes ≡ skipped false mid
skip_again [] bytes mid h = ap (skipped false) h
skip_again (Blank b ∷ more) bytes mid h = rw h.1 (rw h.2 (skip_again more h.0 mid h.3))
skip_again (Comment body ∷ more) bytes mid h = rw h.1 (closed_comment body h.0 h.2 ∙ skip_again more h.0 mid h.3)

pub skip_end : (bytes : List ℕ) → IsEnd bytes → skipped false bytes ≡ []
skip_end bytes (inl e) = rw e refl
skip_end bytes (inr h) = rw h.1 (open_comment h.0 h.2)
