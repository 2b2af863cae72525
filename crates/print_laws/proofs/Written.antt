-- How the bytes of tokens are written in a name.
use Rattle.std.proofs.Common.{◌≡◌, ℕ, ◌+◌, ◌-◌, ◌≤◌, Bool, true, false, ◌&&◌, ◌||◌, ◌==◌, not, nat_lt, nat_le, if◌then◌else◌, List, [], ◌∷◌, ◌++◌, codes, refl, sym, ◌∙◌, ap, arith, append_assoc, append-nil}
use Rattle.std.proofs.lemmas.Bool.{and_parts, eqb-true, ltb-true, ne_eqb}
use Rattle.std.specs.List.{list_all}
use Rattle.mir_lex.specs.Bytes.{is_word_byte, is_blank, first_is}
use Rattle.mir_lex.specs.Tokens.{opens_impl, is_segment_body}
use Rattle.canonical_text.specs.declared.positions.Position.{Position}
use Rattle.canonical_text.specs.declared.positions.Position.TheVariants.{AsValue, AsConstant, AsType, Alone}
use Rattle.canonical_text.specs.Names.{is_reserved, announces_path, word_behind, position_behind, open_behind, colons_before, rest_written}

byte_by : (p : ℕ → Bool) (b c : ℕ) → p c ≡ false → p b ≡ true → (t : Bool) → (b == c) ≡ t → (b == c) ≡ false
byte_by p b c n h true e = absurd (cc (ap p (eqb-true b c e), h, n))
byte_by p b c n h false e = e

-- a byte of a class is not one that is outside of it
not_byte : (p : ℕ → Bool) (b c : ℕ) → p c ≡ false → p b ≡ true → (b == c) ≡ false
not_byte p b c n h = byte_by p b c n h (b == c) refl

closed_by : (c : Bool) → (if c then 0 - 1 else 0) ≡ 0
closed_by true = refl
closed_by false = refl

-- a byte that is no <
one_written : (p : Position) (v rest : List ℕ) (b : ℕ) → (b == 60) ≡ false → rest_written p v 0 (b ∷ rest) ≡ b ∷ rest_written (position_behind p v b) (word_behind v b) 0 rest
one_written p v rest b h = rw h (ap (λ n. b ∷ rest_written (position_behind p v b) (word_behind v b) n rest) (closed_by (b == 62)))

word_more : (v : List ℕ) (b : ℕ) → is_word_byte b ≡ true → word_behind v b ≡ v ++ b ∷ []
word_more v b h = ap (λ c. if c then v ++ b ∷ [] else []) h

abbrev place_by : Bool → Bool → Bool → Bool → Position → Position
place_by word colon blank announced p = if word then p else (if colon || (blank && announced) then Alone else AsType)

same_place : (p : Position) (v : List ℕ) (b : ℕ) → is_word_byte b ≡ true → position_behind p v b ≡ p
same_place p v b h = ap (λ c. place_by c (b == 58) (b == 32) (announces_path v) p) h

-- bytes of a word
pub run_written : (p : Position) (v w behind : List ℕ) → list_all is_word_byte w ≡ true → rest_written p v 0 (w ++ behind) ≡ w ++ rest_written p (v ++ w) 0 behind
run_written p v [] behind h = ap (λ x. rest_written p x 0 behind) (sym (append-nil v))
run_written p v (b ∷ w) behind h =
    let q = and_parts (is_word_byte b) (list_all is_word_byte w) h in
    one_written p v (w ++ behind) b (not_byte is_word_byte b 60 refl q.0)
    ∙ ap (λ x. b ∷ rest_written x (word_behind v b) 0 (w ++ behind)) (same_place p v b q.0)
    ∙ ap (λ x. b ∷ rest_written p x 0 (w ++ behind)) (word_more v b q.0)
    ∙ ap (λ x. b ∷ x) (run_written p (v ++ b ∷ []) w behind q.1 ∙ ap (λ x. w ++ rest_written p x 0 behind) (append_assoc v (b ∷ []) w))

-- No word stands before the bytes any more.

none_reserved : (p : Position) → is_reserved p [] ≡ false
unfolding is_reserved
none_reserved AsValue = refl
none_reserved AsConstant = refl
none_reserved AsType = refl
none_reserved Alone = refl

pub alone_free : (w : List ℕ) → is_reserved Alone w ≡ false
unfolding is_reserved
alone_free w = refl

word_over : (v : List ℕ) (b : ℕ) → is_word_byte b ≡ false → word_behind v b ≡ word_behind [] b
word_over v b h = ap (λ c. if c then v ++ b ∷ [] else []) h ∙ sym (ap (λ c. if c then b ∷ [] else []) h)

place_over : (p : Position) (v : List ℕ) (b : ℕ) → is_word_byte b ≡ false → (b == 32) ≡ false → position_behind p v b ≡ position_behind AsType [] b
place_over p v b f n =
    ap (λ c. place_by c (b == 58) (b == 32) (announces_path v) p) f ∙ ap (λ c. place_by false (b == 58) c (announces_path v) p) n
    ∙ sym (ap (λ c. place_by c (b == 58) (b == 32) (announces_path []) AsType) f ∙ ap (λ c. place_by false (b == 58) c (announces_path []) AsType) n)

-- `as` and a blank
abbrev pub opens_as : List ℕ → Bool
opens_as [] = false
opens_as (a ∷ []) = false
opens_as (a ∷ b ∷ []) = false
opens_as (a ∷ b ∷ c ∷ rest) = (a == 97) && ((b == 115) && (c == 32))

-- a blank that is not the one before `as`
abbrev pub lone_blank : List ℕ → Bool
lone_blank [] = false
lone_blank (b ∷ rest) = (b == 32) && not (opens_as rest)

as_written : (p : Position) (v rest : List ℕ) → rest_written p v 0 (codes " as " ++ rest) ≡ codes " as " ++ rest_written Alone [] 0 rest
as_written p v rest = refl

blank_over : (p : Position) (v rest : List ℕ) → opens_as rest ≡ true → rest_written p v 0 (32 ∷ rest) ≡ rest_written AsType [] 0 (32 ∷ rest)
blank_over p v [] h = absurd cc
blank_over p v (a ∷ []) h = absurd cc
blank_over p v (a ∷ b ∷ []) h = absurd cc
blank_over p v (a ∷ b ∷ c ∷ rest) h =
    let q = and_parts (a == 97) ((b == 115) && (c == 32)) h in
    let r = and_parts (b == 115) (c == 32) q.1 in
    let e : a ∷ b ∷ c ∷ rest ≡ codes "as " ++ rest = ap (λ x. x ∷ b ∷ c ∷ rest) (eqb-true a 97 q.0) ∙ ap (λ x. 97 ∷ x ∷ c ∷ rest) (eqb-true b 115 r.0) ∙ ap (λ x. 97 ∷ 115 ∷ x ∷ rest) (eqb-true c 32 r.1) in
    ap (λ x. rest_written p v 0 (32 ∷ x)) e ∙ as_written p v rest ∙ sym (as_written AsType [] rest) ∙ sym (ap (λ x. rest_written AsType [] 0 (32 ∷ x)) e)

other_over : (p : Position) (v : List ℕ) (b : ℕ) (rest : List ℕ) → colons_before p v 0 b rest ≡ colons_before AsType [] 0 b rest → is_word_byte b ≡ false → (b == 32) ≡ false → rest_written p v 0 (b ∷ rest) ≡ rest_written AsType [] 0 (b ∷ rest)
other_over p v b rest c f n = ap (λ x. x ++ (b ∷ rest_written (position_behind p v b) (word_behind v b) (open_behind 0 b rest) rest)) c
    ∙ ap (λ x. colons_before AsType [] 0 b rest ++ (b ∷ rest_written x (word_behind v b) (open_behind 0 b rest) rest)) (place_over p v b f n)
    ∙ ap (λ x. colons_before AsType [] 0 b rest ++ (b ∷ rest_written (position_behind AsType [] b) x (open_behind 0 b rest) rest)) (word_over v b f)

not_not : (c : Bool) → not c ≡ false → c ≡ true
not_not true h = refl
not_not false h = absurd cc

over : (p : Position) (v : List ℕ) (b : ℕ) (rest : List ℕ) → colons_before p v 0 b rest ≡ colons_before AsType [] 0 b rest → is_word_byte b ≡ false → (c : Bool) → (b == 32) ≡ c → (c && not (opens_as rest)) ≡ false
    → rest_written p v 0 (b ∷ rest) ≡ rest_written AsType [] 0 (b ∷ rest)
over p v b rest k f true e n = let i = eqb-true b 32 e in
    ap (λ x. rest_written p v 0 (x ∷ rest)) i ∙ blank_over p v rest (not_not (opens_as rest) n) ∙ sym (ap (λ x. rest_written AsType [] 0 (x ∷ rest)) i)
over p v b rest k f false e n = other_over p v b rest k f e

abbrev colons_where : Bool → Bool → List ℕ → List ℕ
colons_where c r rest = if c && (true && (not (opens_impl rest) && r)) then codes "::" else []

-- What stands behind a word is written as a type would be.
pub free_over : (p : Position) (v behind : List ℕ) → is_reserved p v ≡ false → first_is is_word_byte behind ≡ false → lone_blank behind ≡ false → rest_written p v 0 behind ≡ rest_written AsType [] 0 behind
free_over p v [] r f n = refl
free_over p v (b ∷ rest) r f n = over p v b rest (ap (λ x. colons_where (b == 60) x rest) (r ∙ sym (none_reserved AsType))) f (b == 32) refl n

pub word_end : (p : Position) (v behind : List ℕ) → first_is (λ b. b == 60) behind ≡ false → first_is is_word_byte behind ≡ false → lone_blank behind ≡ false → rest_written p v 0 behind ≡ rest_written AsType [] 0 behind
word_end p v [] l f n = refl
word_end p v (b ∷ rest) l f n = over p v b rest (ap (λ x. colons_where x (is_reserved p v) rest) l ∙ sym (ap (λ x. colons_where x (is_reserved AsType []) rest) l)) f (b == 32) refl n

-- Arguments.

less_by : (p : Position) (v rest : List ℕ) (r : Bool) → opens_impl rest ≡ false → is_reserved p v ≡ r → rest_written p v 0 (60 ∷ rest) ≡ (if r then codes "::" else []) ++ (60 ∷ rest_written AsType [] 0 rest)
less_by p v rest r o g = rw o (rw g refl)

pub arguments_written : (p : Position) (v rest : List ℕ) → is_reserved p v ≡ true → opens_impl rest ≡ false → rest_written p v 0 (60 ∷ rest) ≡ codes "::" ++ (60 ∷ rest_written AsType [] 0 rest)
arguments_written p v rest r o = less_by p v rest true o r

pub less_written : (p : Position) (rest : List ℕ) → opens_impl rest ≡ false → rest_written p [] 0 (60 ∷ rest) ≡ 60 ∷ rest_written AsType [] 0 rest
less_written p rest o = less_by p [] rest false o (none_reserved p)

-- Impl segments.

open_by : (c d x y : Bool) (q : Position) (w rest : List ℕ) (k b o : ℕ) → d ≡ false
    → (if c && (d && x) then codes "::" else []) ++ (b ∷ rest_written q w (if c then (if d && y then 0 else k + 1) else o) rest) ≡ b ∷ rest_written q w (if c then k + 1 else o) rest
open_by true true x y q w rest k b o e = absurd (cc e)
open_by true false x y q w rest k b o e = refl
open_by false d x y q w rest k b o e = refl

open_step : (p : Position) (w rest : List ℕ) (k b : ℕ) → 1 ≤ k → rest_written p w k (b ∷ rest) ≡ b ∷ rest_written (position_behind p w b) (word_behind w b) (if b == 60 then k + 1 else (if b == 62 then k - 1 else k)) rest
open_step p w rest k b h = open_by (b == 60) (k == 0) (not (opens_impl rest) && is_reserved p w) (not (opens_impl rest)) (position_behind p w b) (word_behind w b) rest k b (if b == 62 then k - 1 else k) (ne_eqb k 0 (λ e. absurd (omega (arith, h, e))))

segment_by : (body behind : List ℕ) (k b : ℕ) → ((q : Position) (v : List ℕ) (n : ℕ) → 1 ≤ n → is_segment_body n body ≡ true → rest_written q v n (body ++ 62 ∷ behind) ≡ body ++ 62 ∷ rest_written AsType [] 0 behind)
    → (q : Position) (w : List ℕ) → 1 ≤ k → (c d : Bool)
    → (if c then is_segment_body (k + 1) body else (if d then (nat_lt 1 k && is_segment_body (k - 1) body) else (nat_le 32 b && is_segment_body k body))) ≡ true
    → rest_written q w (if c then k + 1 else (if d then k - 1 else k)) (body ++ 62 ∷ behind) ≡ body ++ 62 ∷ rest_written AsType [] 0 behind
segment_by body behind k b ih q w l true d h = ih q w (k + 1) (omega arith) h
segment_by body behind k b ih q w l false true h = let p = and_parts (nat_lt 1 k) (is_segment_body (k - 1) body) h in ih q w (k - 1) (let m = ltb-true 1 k p.0 in omega (arith, m)) p.1
segment_by body behind k b ih q w l false false h = ih q w k l (and_parts (nat_le 32 b) (is_segment_body k body) h).1

segment_written : (body behind : List ℕ) (p : Position) (v : List ℕ) (k : ℕ) → 1 ≤ k → is_segment_body k body ≡ true → rest_written p v k (body ++ 62 ∷ behind) ≡ body ++ 62 ∷ rest_written AsType [] 0 behind
segment_written [] behind p v k l h = open_step p v behind k 62 l ∙ ap (λ n. 62 ∷ rest_written AsType [] n behind) (let e = eqb-true k 1 h in let f : k - 1 ≡ 0 = omega (arith, e) in f)
segment_written (b ∷ body) behind p v k l h = open_step p v (body ++ 62 ∷ behind) k b l ∙ ap (λ x. b ∷ x) (segment_by body behind k b (λ q w n. segment_written body behind q w n) (position_behind p v b) (word_behind v b) l (b == 60) (b == 62) h)

impl_begun : (p : Position) (v rest : List ℕ) → opens_impl rest ≡ true → rest_written p v 0 (60 ∷ rest) ≡ 60 ∷ rest_written AsType [] 1 rest
impl_begun p v rest h = rw h refl

blank_open : (p : Position) (v rest : List ℕ) (b : ℕ) → is_blank b ≡ true → rest_written p v 1 (b ∷ rest) ≡ b ∷ rest_written (position_behind p v b) (word_behind v b) 1 rest
blank_open p v rest b h = open_step p v rest 1 b (omega arith) ∙ ap (λ c. b ∷ rest_written (position_behind p v b) (word_behind v b) (if c then 2 else (if b == 62 then 0 else 1)) rest) (not_byte is_blank b 60 refl h)
    ∙ ap (λ c. b ∷ rest_written (position_behind p v b) (word_behind v b) (if c then 0 else 1) rest) (not_byte is_blank b 62 refl h)

pub impl_written : (p : Position) (blank : ℕ) (body behind : List ℕ) → is_blank blank ≡ true → is_segment_body 1 body ≡ true
    → rest_written p [] 0 (codes "<impl" ++ blank ∷ (body ++ 62 ∷ behind)) ≡ codes "<impl" ++ blank ∷ (body ++ 62 ∷ rest_written AsType [] 0 behind)
impl_written p blank body behind h i = impl_begun p [] (codes "impl" ++ blank ∷ (body ++ 62 ∷ behind)) h
    ∙ ap (λ x. codes "<impl" ++ x) (blank_open AsType (codes "impl") (body ++ 62 ∷ behind) blank h
    ∙ ap (λ x. blank ∷ x) (segment_written body behind (position_behind AsType (codes "impl") blank) (word_behind (codes "impl") blank) 1 (omega arith) i))
