-- The tokens of a text, or its fault, are found exactly.
use Rattle.std.proofs.Common.{◌≡◌, inl, inr, ℕ, zero, suc, ◌+◌, ◌-◌, ◌<◌, ◌≤◌, true, false, ◌==◌, ◌&&◌, not, Bool, if◌then◌else◌, List, [], ◌∷◌, ◌++◌, length, drop, Ok, Err, refl, sym, ◌∙◌, ap, subst, arith, append_assoc, append-nil, length-append}
use Rattle.std.proofs.lemmas.Bool.{or_parts, or_from}
use Rattle.std.proofs.lemmas.List.{drop_at}
use Rattle.mir_lex.specs.declared.token.TokenKind.{TokenKind}
use Rattle.mir_lex.specs.declared.token.Token.{Token}
use Rattle.mir_lex.specs.declared.fault.FaultKind.{FaultKind}
use Rattle.mir_lex.specs.declared.fault.FaultKind.TheVariants as fault
use Rattle.mir_lex.specs.Bytes.{is_separator, first_is}
use Rattle.mir_lex.specs.Tokens.{is_word, is_decimal, OpensOnly, OpenQuote, OpenApostrophe, OpenSegment, begins_separator, Separator, Blank, Comment, Separates, IsToken, ends, IsEnd, IsFault, LexesTo, Lexes, Fails}
use Rattle.mir_lex.specs.Lexing.{skipped, Front, token_of, token_at, Lexed, before, with_front, lexed_here, lexed_from, lexed}
use Rattle.mir_lex.proofs.LexSteps.{with_before}
use Rattle.mir_lex.proofs.Skipping.{Skips, skip_takes, skip_again, skip_end}
use Rattle.mir_lex.proofs.NumberLaws.{IsAt}
use Rattle.mir_lex.proofs.TokenLaws.{token_takes}
use Rattle.mir_lex.proofs.FoundLaws.{token_again, token_stays, token_long}
use Rattle.mir_lex.proofs.FaultLaws.{fault_takes, fault_again}

-- separators are all left out
stays : (bytes : List ℕ) → begins_separator bytes ≡ false → skipped false bytes ≡ bytes
stays [] h = refl
stays (b ∷ rest) h = let p = or_parts (is_separator b) ((b == 47) && first_is (λ c. c == 47) rest) h in rw (p.0) (rw (p.1) refl)

-- nothing that begins with a separator is left
left_at : (b : ℕ) (rest : List ℕ) (blank comment : Bool) → is_separator b ≡ blank → ((b == 47) && first_is (λ c. c == 47) rest) ≡ comment
    → begins_separator (skipped false rest) ≡ false → begins_separator (skipped true rest) ≡ false
    → begins_separator (if blank then skipped false rest else (if comment then skipped true rest else b ∷ rest)) ≡ false
left_at b rest true comment h k i j = i
left_at b rest false true h k i j = j
left_at b rest false false h k i j = or_from (is_separator b) ((b == 47) && first_is (λ c. c == 47) rest) h k

skipped_stays : (comment : Bool) (bytes : List ℕ) → begins_separator (skipped comment bytes) ≡ false
skipped_stays true [] = refl
skipped_stays false [] = refl
skipped_stays true (b ∷ rest) = skipped_stays (not (b == 10)) rest
skipped_stays false (b ∷ rest) = left_at b rest (is_separator b) ((b == 47) && first_is (λ c. c == 47) rest) refl refl (skipped_stays false rest) (skipped_stays true rest)

-- what a text of this size, of which these bytes are left, is
abbrev pub LexesEnd : ℕ → List ℕ → List Token → Type 0
LexesEnd size bytes ts = (rest mid : List ℕ) × (gap : List Separator) × LexesTo size bytes ts rest × Separates rest gap mid × IsEnd mid

abbrev pub FailsEnd : ℕ → List ℕ → FaultKind → ℕ → Type 0
FailsEnd size bytes kind offset = (ts : List Token) × (rest mid : List ℕ) × (gap : List Separator) × (skip : ℕ) × LexesTo size bytes ts rest × Separates rest gap mid
    × (begins_separator mid ≡ false) × IsFault kind skip mid × (offset ≡ size - length mid + skip)

abbrev pub Answers : ℕ → List ℕ → Lexed → Type 0
Answers size bytes (Ok ts) = LexesEnd size bytes ts
Answers size bytes (Err f) = FailsEnd size bytes f.kind f.skip

skipped_end : (size : ℕ) (bytes : List ℕ) → Skips bytes [] → LexesEnd size bytes []
skipped_end size bytes s = elim s.3 [ inl e ↦ (bytes, s.1, s.0, refl, s.2, inl e) | inr h ↦ (bytes, s.1, s.0, refl, s.2, h.0) ]

skipped_to : (bytes : List ℕ) (b : ℕ) (rest : List ℕ) → Skips bytes (b ∷ rest) → (gap : List Separator) × Separates bytes gap (b ∷ rest)
skipped_to bytes b rest s = elim s.3 [ inl e ↦ (s.0, subst (λ m. Separates bytes s.0 m) e s.2) | inr h ↦ cc (h.1) ]

-- a token before what stands behind it
put_before : (size : ℕ) (bytes mid text behind : List ℕ) (t : Token) (gap : List Separator) → Separates bytes gap mid → mid ≡ text ++ behind → IsToken t.kind text → ends t.kind text behind ≡ true
    → t.start ≡ size - length mid → t.end ≡ t.start + length text → (r : Lexed) → Answers size behind r → Answers size bytes (before t r)
put_before size bytes mid text behind t gap s j g e st en (Ok ts) a = (a.0, a.1, a.2, (gap, mid, text, behind, s, j, g, e, st, en, a.3), a.4, a.5)
put_before size bytes mid text behind t gap s j g e st en (Err f) a = (t ∷ a.0, a.1, a.2, a.3, a.4, (gap, mid, text, behind, s, j, g, e, st, en, a.5), a.6, a.7, a.8, a.9)

drop_text : (mid : List ℕ) (k : TokenKind) (n : ℕ) (i : IsAt mid k n) → drop n mid ≡ i.rest
drop_text mid k n i = ap (drop n) i.joins ∙ drop_at i.text i.rest n i.size

rest_shorter : (mid : List ℕ) (k : TokenKind) (n : ℕ) (i : IsAt mid k n) → length (drop n mid) < length mid
rest_shorter mid k n i = let l = token_long k i.text i.good in let e = ap length i.joins in rw (drop_text mid k n i) (omega (arith, length-append i.text i.rest))

with_takes : (more : List ℕ → Lexed) (size : ℕ) (bytes : List ℕ) (b : ℕ) (rest : List ℕ) (gap : List Separator) → Separates bytes gap (b ∷ rest) → begins_separator (b ∷ rest) ≡ false
    → ((xs : List ℕ) → length xs < length (b ∷ rest) → Answers size xs (more xs))
    → (o : Front) → token_at (b ∷ rest) ≡ o → Answers size bytes (with_front more (size - length (b ∷ rest)) (b ∷ rest) o)
with_takes more size bytes b rest gap s k ih (Ok f) e =
    let i = token_takes b rest f e in
    put_before size bytes (b ∷ rest) i.text i.rest (record { kind = f.kind; start = size - length (b ∷ rest); end = size - length (b ∷ rest) + f.size }) gap s i.joins i.good i.stops refl
    (ap (λ n. size - length (b ∷ rest) + n) (sym i.size)) (more (drop f.size (b ∷ rest)))
    (subst (λ x. Answers size x (more (drop f.size (b ∷ rest)))) (drop_text (b ∷ rest) f.kind f.size i) (ih (drop f.size (b ∷ rest)) (rest_shorter (b ∷ rest) f.kind f.size i)))
with_takes more size bytes b rest gap s k ih (Err f) e = ([], bytes, b ∷ rest, gap, f.skip, refl, s, k, fault_takes b rest f e, refl)

here_takes : (more : List ℕ → Lexed) (size : ℕ) (bytes mid : List ℕ) → Skips bytes mid → begins_separator mid ≡ false → ((xs : List ℕ) → length xs < length mid → Answers size xs (more xs)) → Answers size bytes (lexed_here more size mid)
here_takes more size bytes [] s k ih = skipped_end size bytes s
here_takes more size bytes (b ∷ rest) s k ih = let g = skipped_to bytes b rest s in with_takes more size bytes b rest g.0 g.1 k ih (token_at (b ∷ rest)) refl

separates_longer : (gap : List Separator) (bytes mid : List ℕ) → Separates bytes gap mid → length mid ≤ length bytes
separates_longer [] bytes mid h = rw h (omega arith)
separates_longer (Blank b ∷ more) bytes mid h = let i = separates_longer more h.0 mid h.3 in rw h.1 (omega arith)
separates_longer (Comment body ∷ more) bytes mid h = let i = separates_longer more h.0 mid h.3 in rw h.1 (omega (arith, length-append body (10 ∷ h.0)))

skips_longer : (bytes r : List ℕ) → Skips bytes r → length r ≤ length bytes
skips_longer bytes r s = let l = separates_longer s.0 bytes s.1 s.2 in elim s.3 [ inl e ↦ subst (λ x. length x ≤ length bytes) e l | inr h ↦ subst (λ x. length x ≤ length bytes) (sym h.1) (omega arith) ]

lexed_takes : (n size : ℕ) (bytes : List ℕ) → length bytes < n → Answers size bytes (lexed_from n size bytes)
lexed_takes zero size bytes l = absurd (omega arith)
lexed_takes (suc n) size bytes l =
    let s = skip_takes bytes in
    let m = skips_longer bytes (skipped false bytes) s in
    here_takes (lexed_from n size) size bytes (skipped false bytes) s (skipped_stays false bytes) (λ xs h. lexed_takes n size xs (omega arith))

-- What a text is, is found.

some_first : (xs : List ℕ) → 0 < length xs → (b : ℕ) × (rest : List ℕ) × (xs ≡ b ∷ rest)
some_first [] h = absurd (omega arith)
some_first (b ∷ rest) h = (b, rest, refl)

here_token : (more : List ℕ → Lexed) (size : ℕ) (k : TokenKind) (mid text rest : List ℕ) → 0 < length mid → token_at mid ≡ token_of k (length text) → drop (length text) mid ≡ rest
    → lexed_here more size mid ≡ before (record { kind = k; start = size - length mid; end = size - length mid + length text }) (more rest)
here_token more size k [] text rest l t d = absurd (omega arith)
here_token more size k (b ∷ mid) text rest l t d = ap (with_front more (size - length (b ∷ mid)) (b ∷ mid)) t
    ∙ ap (λ x. before (record { kind = k; start = size - length (b ∷ mid); end = size - length (b ∷ mid) + length text }) (more x)) d

here_fault : (more : List ℕ → Lexed) (size : ℕ) (k : FaultKind) (skip : ℕ) (mid : List ℕ) → 0 < length mid → token_at mid ≡ Err (record { kind = k; skip = skip })
    → lexed_here more size mid ≡ Err (record { kind = k; skip = size - length mid + skip })
here_fault more size k skip [] l t = absurd (omega arith)
here_fault more size k skip (b ∷ mid) l t = ap (with_front more (size - length (b ∷ mid)) (b ∷ mid)) t

same_token : (t : Token) (start n : ℕ) → t.start ≡ start → t.end ≡ t.start + n → record { kind = t.kind; start = start; end = start + n } ≡ t
same_token t start n s e =
    let f : start + n ≡ t.end = ap (λ x. x + n) (sym s) ∙ sym e in
    let P : ℕ → ℕ → Token = λ x y. record { kind = t.kind; start = x; end = y } in
    ap (λ x. P x (start + n)) (sym s) ∙ ap (P t.start) f

before_all : (t : Token) (ts : List Token) (r : Lexed) → before t (with_before ts r) ≡ with_before (t ∷ ts) r
before_all t ts (Ok us) = refl
before_all t ts (Err e) = refl

before_none : (r : Lexed) → r ≡ with_before [] r
before_none (Ok ts) = refl
before_none (Err e) = refl

token_step : (n size : ℕ) (bytes mid text behind : List ℕ) (t : Token) (gap : List Separator) (r : Lexed) → Separates bytes gap mid → mid ≡ text ++ behind → IsToken t.kind text → ends t.kind text behind ≡ true
    → t.start ≡ size - length mid → t.end ≡ t.start + length text → (length behind < n → lexed_from n size behind ≡ r) → length bytes < suc n → lexed_from (suc n) size bytes ≡ before t r
token_step n size bytes mid text behind t gap r s j g e st en ih l =
    let long = token_long t.kind text g in
    let sizes : length mid ≡ length text + length behind = ap length j ∙ length-append text behind in
    let fit = separates_longer gap bytes mid s in
    let k : begins_separator mid ≡ false = ap begins_separator j ∙ token_stays t.kind text behind g in
    let found : token_at mid ≡ token_of t.kind (length text) = ap token_at j ∙ token_again t.kind text behind g e in
    let d : drop (length text) mid ≡ behind = ap (drop (length text)) j ∙ drop_at text behind (length text) refl in
    ap (lexed_here (lexed_from n size) size) (skip_again gap bytes mid s ∙ stays mid k)
    ∙ here_token (lexed_from n size) size t.kind mid text behind (omega arith) found d
    ∙ ap (λ x. before x (lexed_from n size behind)) (same_token t (size - length mid) (length text) st en)
    ∙ ap (before t) (ih (omega arith))

to_again : (ts : List Token) (n size : ℕ) (bytes rest : List ℕ) (r : Lexed) → LexesTo size bytes ts rest → ((m : ℕ) → length rest < m → lexed_from m size rest ≡ r) → length bytes < n → lexed_from n size bytes ≡ with_before ts r
to_again [] n size bytes rest r h e l = ap (lexed_from n size) h ∙ e n (subst (λ x. length x < n) h l) ∙ before_none r
to_again (t ∷ ts) zero size bytes rest r h e l = absurd (omega arith)
to_again (t ∷ ts) (suc n) size bytes rest r h e l =
    token_step n size bytes h.1 h.2 h.3 t h.0 (with_before ts r) h.4 h.5 h.6 h.7 h.8 h.9 (to_again ts n size h.3 rest r h.10 e) l ∙ before_all t ts r

end_again : (m size : ℕ) (rest mid : List ℕ) (gap : List Separator) → Separates rest gap mid → IsEnd mid → length rest < m → lexed_from m size rest ≡ Ok []
end_again zero size rest mid gap s e l = absurd (omega arith)
end_again (suc m) size rest mid gap s e l = ap (lexed_here (lexed_from m size) size) (skip_again gap rest mid s ∙ skip_end mid e)

decimal_long : (digits rest : List ℕ) → is_decimal digits ≡ true → 0 < length (digits ++ rest)
decimal_long [] rest h = cc
decimal_long (b ∷ digits) rest h = omega arith

word_long : (word rest : List ℕ) → is_word word ≡ true → 0 < length (word ++ rest)
word_long [] rest h = cc
word_long (b ∷ digits) rest h = omega arith

opens_long : (bytes : List ℕ) → OpensOnly bytes → 0 < length bytes
opens_long [] (OpenQuote q never) = cc
opens_long [] (OpenApostrophe q char never long) = cc
opens_long [] (OpenSegment o never) = cc
opens_long (b ∷ rest) o = omega arith

long_at : (bytes xs : List ℕ) → bytes ≡ xs → 0 < length xs → 0 < length bytes
long_at bytes xs e l = subst (λ x. 0 < length x) (sym e) l

fault_long : (k : FaultKind) (skip : ℕ) (bytes : List ℕ) → IsFault k skip bytes → 0 < length bytes
fault_long fault.BadByte skip bytes (inl h) = long_at bytes (h.1 ∷ h.2) h.3 (omega arith)
fault_long fault.BadByte skip bytes (inr g) = long_at bytes (g.0 ++ (g.1 ++ g.2)) (g.3 ∙ append_assoc g.0 g.1 g.2) (decimal_long g.0 (g.1 ++ g.2) g.4)
fault_long fault.OpenText skip bytes h = opens_long bytes h.1
fault_long fault.NumberTooWide skip bytes h = long_at bytes (h.1.0 ++ h.1.1) h.1.2 (decimal_long h.1.0 h.1.1 h.1.3)
fault_long fault.NameTooLong skip bytes (inl h) = long_at bytes (h.1.0 ++ h.1.1) h.1.2 (word_long h.1.0 h.1.1 h.1.3)
fault_long fault.NameTooLong skip bytes (inr h) = long_at bytes (39 ∷ (h.1.0 ++ h.1.1)) h.1.2 (omega arith)

fault_step : (m size : ℕ) (rest mid : List ℕ) (gap : List Separator) (k : FaultKind) (skip : ℕ) → Separates rest gap mid → begins_separator mid ≡ false → IsFault k skip mid → length rest < m
    → lexed_from m size rest ≡ Err (record { kind = k; skip = size - length mid + skip })
fault_step zero size rest mid gap k skip s b f l = absurd (omega arith)
fault_step (suc m) size rest mid gap k skip s b f l = ap (lexed_here (lexed_from m size) size) (skip_again gap rest mid s ∙ stays mid b)
    ∙ here_fault (lexed_from m size) size k skip mid (fault_long k skip mid f) (fault_again k skip mid f)

-- The laws.

pub lexed_right : (text : List ℕ) → Answers (length text) text (lexed text)
unfolding lexed
lexed_right text = lexed_takes (length text + 1) (length text) text (omega arith)

pub lexes_again : (text : List ℕ) (ts : List Token) → Lexes text ts → lexed text ≡ Ok ts
unfolding lexed
lexes_again text ts h =
    to_again ts (length text + 1) (length text) text h.0 (Ok []) h.3 (λ m l. end_again m (length text) h.0 h.1 h.2 h.4 h.5 l) (omega arith)
    ∙ ap Ok (append-nil ts)

pub fails_again : (text : List ℕ) (k : FaultKind) (offset : ℕ) → Fails text k offset → lexed text ≡ Err (record { kind = k; skip = offset })
unfolding lexed
fails_again text k offset h =
    let r : Lexed = Err (record { kind = k; skip = length text - length h.2 + h.4 }) in
    to_again h.0 (length text + 1) (length text) text h.1 r h.5 (λ m l. fault_step m (length text) h.1 h.2 h.3 k h.4 h.6 h.7 h.8 l) (omega arith)
    ∙ ap (λ n. Err (record { kind = k; skip = n })) (sym h.9)
