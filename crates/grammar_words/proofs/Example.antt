-- A small grammar, read and proved: numbers in brackets and parentheses, with a limit on their nesting.
-- part := number | '[' (part (',' part)*)? ']' | '(' part ')'
use Rattle.std.proofs.Common.{◌≡◌, inl, inr, ℕ, zero, suc, ◌+◌, ◌≤◌, Bool, true, false, List, [], ◌∷◌, length, refl, arith}
use Rattle.grammar_words.specs.declared.stop.Why.TheVariants.{Wrong, Deep}
use Rattle.grammar_words.specs.Grammar.{Part, Made, Either, Never, At}
use Rattle.grammar_words.specs.Reading.{Outcome, Got, Fault, Reader, chained, made, choose, pick, guard, deep}
use Rattle.grammar_words.specs.Classes.{has, inside, outside, Tok, tok, Past, past, Ended, ended, Listed, listed}
use Rattle.grammar_words.specs.Exact.{whole, IsRight}
use Rattle.grammar_words.proofs.Laws.{Goes}
use Rattle.grammar_words.proofs.Whole.{right}
use Rattle.grammar_words.proofs.Ready.{Shape, Ready, tok-ready, made-ready, wider-ready}
use Rattle.grammar_words.proofs.ReadyJoin.{either-ready}
use Rattle.grammar_words.proofs.ReadyWords.{past-ready, ended-ready, listed-ready}
use Rattle.grammar_words.proofs.Starts.{Starts, starts-tok, starts-made, starts-past, starts-either, starts-opens, one_of}
use Rattle.grammar_words.proofs.ReadyLimit.{guard-ready, limit-ready, limit_shape, levels}

-- tokens are numbers, and the class of one is itself: 1 a number, 2 '[', 3 ',', 4 ']', 5 '(', 6 ')'
abbrev class_of : ℕ → ℕ
class_of t = t

-- what a part means: how many numbers are in it
abbrev sum : List ℕ → ℕ
sum [] = 0
sum (n ∷ ns) = n + sum ns

abbrev Number : Part ℕ ℕ
Number = Made (λ t. 1) (Tok class_of (1 ∷ []))

abbrev Row : Part ℕ ℕ → Part ℕ ℕ
Row T = Made sum (Past class_of (2 ∷ []) (Ended class_of (Listed class_of (3 ∷ []) T) (4 ∷ [])))

abbrev Inner : Part ℕ ℕ → Part ℕ ℕ
Inner T = Past class_of (5 ∷ []) (Ended class_of T (6 ∷ []))

abbrev Body : Part ℕ ℕ → Part ℕ ℕ
Body T = Either Number (Either (Row T) (Inner T))

-- parts so many levels deep, where B stands for those below
abbrev Level : Part ℕ ℕ → ℕ → Part ℕ ℕ
Level B zero = B
Level B (suc d) = Body (Level B d)

-- Its reading, in the same words.

abbrev firsts : List ℕ
firsts = 1 ∷ 2 ∷ 5 ∷ []

abbrev number : Reader ℕ ℕ
number = made (λ t. 1) (tok class_of (1 ∷ []))

abbrev row : ℕ → Reader ℕ ℕ → Reader ℕ ℕ
row m t = made sum (past class_of (2 ∷ []) (ended class_of (listed class_of firsts (3 ∷ []) t m) (4 ∷ [])))

abbrev inner : Reader ℕ ℕ → Reader ℕ ℕ
inner t = past class_of (5 ∷ []) (ended class_of t (6 ∷ []))

abbrev body : ℕ → Reader ℕ ℕ → Reader ℕ ℕ
body m t = pick (inside class_of (1 ∷ [])) number (pick (inside class_of (2 ∷ [])) (row m t) (inner t))

abbrev level : ℕ → ℕ → Reader ℕ ℕ
level m zero = guard (inside class_of firsts) deep
level m (suc d) = guard (inside class_of firsts) (body m (level m d))

-- Each production is ready.

abbrev far : Shape
far = limit_shape [] firsts

abbrev near : Shape
near = record { stops = []; firsts = firsts; empty = false; flat = false; near = true }

row_ready : {m : ℕ} {x : List ℕ} {R W : Part ℕ ℕ} {H : List ℕ → Part ℕ ℕ} {p w : Reader ℕ ℕ} → Ready class_of m far x R W H p w
    → Ready class_of m (record { stops = []; firsts = 2 ∷ []; empty = false; flat = false; near = true }) x (Row R) (Row W) (λ y. Row (H y)) (row m p) (row m w)
row_ready r = wider-ready _ (made-ready sum (past-ready (2 ∷ []) 2 refl (ended-ready (4 ∷ []) 4 refl (listed-ready firsts (3 ∷ []) 3 refl r refl) refl) refl)) refl

inner_ready : {m : ℕ} {x : List ℕ} {R W : Part ℕ ℕ} {H : List ℕ → Part ℕ ℕ} {p w : Reader ℕ ℕ} → Ready class_of m far x R W H p w
    → Ready class_of m (limit_shape [] (5 ∷ [])) x (Inner R) (Inner W) (λ y. Inner (H y)) (inner p) (inner w)
inner_ready r = wider-ready _ (past-ready (5 ∷ []) 5 refl (ended-ready (6 ∷ []) 6 refl r refl) refl) refl

body_ready : {m : ℕ} {x : List ℕ} {R W : Part ℕ ℕ} {H : List ℕ → Part ℕ ℕ} {p w : Reader ℕ ℕ} → Ready class_of m far x R W H p w
    → Ready class_of m near x (Body R) (Body W) (λ y. Body (H y)) (body m p) (body m w)
body_ready {m} {x} r = wider-ready near (either-ready (1 ∷ []) (made-ready (λ t. 1) (tok-ready class_of m (1 ∷ []) 1 refl x)) (either-ready (2 ∷ []) (row_ready r) (inner_ready r) refl) refl) refl

-- Below the limit: which tokens begin a part, and a part for each.

body_starts : (T : Part ℕ ℕ) → Starts class_of firsts (Body T)
body_starts T = starts-either (starts-made (λ t. 1) (starts-tok class_of firsts (1 ∷ []) refl))
    (starts-either (starts-made sum (starts-past class_of firsts (2 ∷ []) (Ended class_of (Listed class_of (3 ∷ []) T) (4 ∷ [])) refl)) (starts-past class_of firsts (5 ∷ []) (Ended class_of T (6 ∷ [])) refl))

number_begins : (z : ℕ → Bool) (e t : ℕ) → has (1 ∷ []) t ≡ true → Goes z (Level Never (suc e)) (t ∷ [])
unfolding inside
number_begins z e t h = ([], 1, λ k n. inl (t, refl, (h, refl)))

begins : (z : ℕ → Bool) (e t : ℕ) → has firsts t ≡ true → Goes z (Level Never (suc (suc e))) (t ∷ [])
unfolding inside
begins z e t h = elim (one_of 1 t (2 ∷ 5 ∷ []) h) [
  | inl i ↦ number_begins z (suc e) t i
  | inr i ↦ elim (one_of 2 t (5 ∷ []) i) [
    | inl j ↦ (4 ∷ [], 0, λ k n. inr (inl ([], refl, ((t, []), refl, (4 ∷ k, (j, refl), (([], 4), refl, (4 ∷ k, inr (refl, refl), (refl, refl))))))))
    | inr j ↦ (1 ∷ 6 ∷ [], 1, λ k n. inr (inr ((t, 1), refl, (1 ∷ 6 ∷ k, (j, refl), ((1, 6), refl, (6 ∷ k, inl (1, refl, (refl, refl)), (refl, refl)))))))
  ]
]

level_ready : (m : ℕ) (x : List ℕ) (d e : ℕ) → d + 4 ≤ e → Ready class_of m far x (Level Never d) (Level Never e) (λ y. Level (At (inside class_of firsts) x y) d) (level m d) (level m e)
level_ready m x zero zero h = absurd (omega arith)
level_ready m x zero (suc zero) h = absurd (omega arith)
level_ready m x zero (suc (suc e)) h =
    limit-ready [] firsts (body m (level m (suc e))) (unfold inside in λ t i. begins (outside class_of []) e t i) (1 ∷ [], 1, λ k n. inl (1, refl, unfold inside in (refl, refl))) (starts-opens [] (body_starts (Level Never (suc e))))
level_ready m x (suc d) zero h = absurd (omega arith)
level_ready m x (suc d) (suc e) h = wider-ready far (guard-ready firsts (body_ready (level_ready m x d e (omega arith))) refl) refl

abbrev answer : ℕ → List ℕ → Outcome ℕ ℕ
answer n ts = whole (level (length ts + 1) n ts)

each_answer_is_right : (n : ℕ) (ts : List ℕ) → IsRight (Level Never) (λ d x y. Level (At (inside class_of firsts) x y) d) n ts (answer n ts)
each_answer_is_right n ts = right (levels (level_ready (length ts + 1))) n ts (omega arith)

-- [1,(1)] has two numbers; at the limit 1 its first number is too deep; a ] behind a comma is wrong.
two_numbers : answer 3 (2 ∷ 1 ∷ 3 ∷ 5 ∷ 1 ∷ 6 ∷ 4 ∷ []) ≡ Got 2 []
unfolding inside chained made choose guard
two_numbers = refl

too_deep : answer 1 (2 ∷ 1 ∷ 3 ∷ 5 ∷ 1 ∷ 6 ∷ 4 ∷ []) ≡ Fault Deep (1 ∷ 3 ∷ 5 ∷ 1 ∷ 6 ∷ 4 ∷ [])
unfolding inside chained made choose guard
too_deep = refl

wrong_comma : answer 3 (2 ∷ 1 ∷ 3 ∷ 4 ∷ []) ≡ Fault Wrong (4 ∷ [])
unfolding inside chained made choose guard
wrong_comma = refl
