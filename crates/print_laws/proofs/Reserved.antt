-- Words that begin a path only before ::, by their classes.
use Rattle.std.proofs.Common.{◌≡◌, ℕ, zero, suc, ◌+◌, ◌-◌, ◌≤◌, Bool, true, false, ◌==◌, if◌then◌else◌, List, [], ◌∷◌, drop, refl, sym, ◌∙◌, ap, subst, arith}
use Rattle.std.specs.Bool.{⊤}
use Rattle.std.proofs.lemmas.Bool.{eqb-true}
use Rattle.mir_lex.specs.Views.{is_local, is_label, decimal}
use Rattle.grammar_words.specs.Classes.{has}
use Rattle.grammar_words.proofs.Sets.{if_both}
use Rattle.mir_grammar.specs.Lexemes.{Lexeme, class_of, kind_class, word_class, number_among, words}
use Rattle.mir_grammar.specs.Types.{run, type_words}
use Rattle.mir_grammar.specs.Values.{truths, value_words}
use Rattle.canonical_text.specs.declared.positions.Position.{Position}
use Rattle.canonical_text.specs.declared.positions.Position.TheVariants.{AsValue, AsConstant, AsType}
use Rattle.canonical_text.specs.Names.{is_reserved}
use Rattle.print_laws.proofs.Bands.{all_of, is_word_kind, nth, word_text}

-- each of these classes is that of a word that is reserved at this position
abbrev pub are_reserved : Position → List ℕ → Bool
are_reserved p [] = true
are_reserved p (x ∷ set) = if is_reserved p (nth (x - 100) words) then are_reserved p set else false

-- and none is that of a local, a label or a word without a place of its own
abbrev pub AreHigh : List ℕ → Type 0
AreHigh [] = ⊤
AreHigh (x ∷ set) = (34 ≤ x) × AreHigh set

-- classes of words that begin a path only before :: at this position
pub record AreKeys (p : Position) (keys : List ℕ) : Type 0 where
  pub reserved : are_reserved p keys ≡ true
  pub high : AreHigh keys

reserved_step : (p : Position) (x n : ℕ) (set : List ℕ) → (has set n ≡ true → is_reserved p (nth (n - 100) words) ≡ true) → is_reserved p (nth (x - 100) words) ≡ true → (t : Bool) → (x == n) ≡ t → (if t then true else has set n) ≡ true
    → is_reserved p (nth (n - 100) words) ≡ true
reserved_step p x n set ih h true e m = subst (λ k. is_reserved p (nth (k - 100) words) ≡ true) (eqb-true x n e) h
reserved_step p x n set ih h false e m = ih m

reserved_has : (p : Position) (set : List ℕ) (n : ℕ) → are_reserved p set ≡ true → has set n ≡ true → is_reserved p (nth (n - 100) words) ≡ true
reserved_has p [] n s h = absurd cc
reserved_has p (x ∷ set) n s h = let e = if_both (is_reserved p (nth (x - 100) words)) (are_reserved p set) s in reserved_step p x n set (reserved_has p set n e.1) e.0 (x == n) refl h

high_step : (x n : ℕ) (set : List ℕ) → 34 ≤ x → (has set n ≡ true → 34 ≤ n) → (t : Bool) → (x == n) ≡ t → (if t then true else has set n) ≡ true → 34 ≤ n
high_step x n set l ih true e m = let f = eqb-true x n e in omega (arith, f, l)
high_step x n set l ih false e m = ih m

high_has : (set : List ℕ) (n : ℕ) → AreHigh set → has set n ≡ true → 34 ≤ n
high_has [] n s h = absurd cc
high_has (x ∷ set) n s h = high_step x n set s.0 (high_has set n s.1) (x == n) refl h

run_high : (n k : ℕ) → 34 ≤ n → AreHigh (run n k)
run_high n zero h = tt
run_high n (suc k) h = (h, run_high (n + 1) k (omega (arith, h)))

value_reserved : are_reserved AsValue value_words ≡ true
unfolding is_reserved
value_reserved = refl

pub value_keys : AreKeys AsValue value_words
value_keys = record { reserved = value_reserved; high = (omega arith, (omega arith, (omega arith, run_high 124 27 (omega arith)))) }

constant_reserved : are_reserved AsConstant truths ≡ true
unfolding is_reserved
constant_reserved = refl

pub constant_keys : AreKeys AsConstant truths
constant_keys = record { reserved = constant_reserved; high = (omega arith, (omega arith, tt)) }

type_reserved : are_reserved AsType type_words ≡ true
unfolding is_reserved
type_reserved = refl

pub type_keys : AreKeys AsType type_words
type_keys = record { reserved = type_reserved; high = run_high 100 16 (omega arith) }

low_word : (keys : List ℕ) (n : ℕ) → AreHigh keys → has keys n ≡ true → n ≤ 33 → ⊥
low_word keys n g h l = let k = high_has keys n g h in omega (arith, k, l)

word_by : (keys : List ℕ) → AreHigh keys → (local zero_ label : Bool) (n : ℕ) → has keys (if local then (if zero_ then 30 else 31) else (if label then 32 else n)) ≡ true → has keys n ≡ true
word_by keys g true true label n h = absurd (low_word keys 30 g h (omega arith))
word_by keys g true false label n h = absurd (low_word keys 31 g h (omega arith))
word_by keys g false z true n h = absurd (low_word keys 32 g h (omega arith))
word_by keys g false z false n h = h

-- a word of such a class is reserved
pub reserved_text : (p : Position) (keys : List ℕ) → AreKeys p keys → all_of 1 keys ≡ true → (t : Lexeme) → has keys (class_of t) ≡ true → is_reserved p t.text ≡ true
unfolding class_of
reserved_text p keys g a t h =
    let k = is_word_kind keys t h a in
    let e : has keys (word_class t.text) ≡ true = ap (λ x. has keys (kind_class x t)) (sym k) ∙ h in
    let i = word_by keys g.high (is_local t.text) (decimal (drop 1 t.text) == 0) (is_label t.text) (number_among words 100 t.text 33) e in
    let l = high_has keys (number_among words 100 t.text 33) g.high i in
    ap (is_reserved p) (word_text t.text (number_among words 100 t.text 33) refl l) ∙ reserved_has p keys (number_among words 100 t.text 33) g.reserved i
