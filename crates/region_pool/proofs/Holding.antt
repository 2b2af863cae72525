-- A line that follows holds wherever the clauses hold, so a refuted list has no satisfying assignment.
use Rattle.std.proofs.Common.{◌≡◌, ◌≢◌, ◌⊎◌, ℕ, zero, suc, ◌+◌, ◌-◌, ◌*◌, ◌<◌, ◌≤◌, Bool, true, false, not, List, [], ◌∷◌, ◌++◌, length, take, refl, ap, sym, subst, ◌∙◌, inl, inr, arith}
use Rattle.std.specs.Prelude.{IsTrue, All}
use Rattle.std.proofs.lemmas.Bool.Decides.{nat_tests}
use Rattle.std.proofs.lemmas.List.{take_more, map_push, append-nil, append_assoc}
use Rattle.std.proofs.lemmas.List.Elements.{All-nil, All-cons, All-head, All-tail, All-append, All-contains}
use Rattle.region_pool.specs.Blocks.{block_at}
use Rattle.region_pool.specs.Clauses.{ClauseList}
use Rattle.region_pool.specs.Literals.{negation, literal_value, ClauseHolds, Satisfies, IsUnsatisfiable}
use Rattle.region_pool.specs.Log.{Line, line_at}
use Rattle.region_pool.specs.Refutation.{IsFalse, Reaches, negations, LineFollows, literals_of, known_before, EachFollows, Refutes}

-- the literal is true
abbrev pub IsTrueIn : (ℕ → Bool) → ℕ → Type 0
IsTrueIn assignment literal = IsTrue (literal_value assignment literal)

pub negation-negation : (literal : ℕ) → negation (negation literal) ≡ literal
unfolding negation
negation-negation literal = grind (arith, nat_tests)

pub negation_differs : (literal : ℕ) → negation literal ≢ literal
unfolding negation
negation_differs literal = grind (arith, nat_tests)

-- a literal of the same variables
pub negation-within : (variables literal : ℕ) → literal < 2 * variables → negation literal < 2 * variables
unfolding negation
negation-within variables literal within = grind (arith, nat_tests)

-- the negation of a literal is true exactly where the literal is false
pub literal_value-negation : (assignment : ℕ → Bool) (literal : ℕ) → literal_value assignment (negation literal) ≡ not (literal_value assignment literal)
unfolding negation literal_value
literal_value-negation assignment literal = grind (arith, nat_tests)

-- a literal and its negation are not both true
not_both : (assignment : ℕ → Bool) (literal : ℕ) → IsTrueIn assignment literal → IsTrueIn assignment (negation literal) → ⊥
not_both assignment literal here there =
    let e : true ≡ not true = sym there ∙ (literal_value-negation assignment literal ∙ ap not here) in
    cc

-- one of the literal and its negation is true
one_of_both : (assignment : ℕ → Bool) (literal : ℕ) → IsTrueIn assignment literal ⊎ IsTrueIn assignment (negation literal)
one_of_both assignment literal =
    let cases : (value : Bool) → literal_value assignment literal ≡ value → IsTrueIn assignment literal ⊎ IsTrueIn assignment (negation literal) =
    λ value e. elim value as (λ v. literal_value assignment literal ≡ v → IsTrueIn assignment literal ⊎ IsTrueIn assignment (negation literal)) [
      | true ↦ λ is_true. inl is_true
      | false ↦ λ is_false. inr (literal_value-negation assignment literal ∙ ap not is_false)
    ] e in
    cases (literal_value assignment literal) refl

-- each literal of the list is true
abbrev pub AreTrueIn : (ℕ → Bool) → List ℕ → Type 0
AreTrueIn assignment literals = All (IsTrueIn assignment) literals

-- a literal that is false, where the literals of the list are true, has no chance
false_in : (assignment : ℕ → Bool) (assigned : List ℕ) (literal : ℕ) → AreTrueIn assignment assigned → IsFalse assigned literal → IsTrueIn assignment literal → ⊥
false_in assignment assigned literal true_ones is_false here =
    not_both assignment literal here (All-contains (IsTrueIn assignment) assigned (negation literal) true_ones is_false)

-- what holds of all holds of a clause by its number
clause_holds : (assignment : ℕ → Bool) (clauses : List (List ℕ)) (number : ℕ) → number < length clauses → Satisfies assignment clauses → ClauseHolds assignment (block_at clauses number)
clause_holds assignment clauses number in_range holds = holds number [] in_range

-- propagation along hints does not end in a conflict where the clauses and what is assumed hold
pub no_conflict : (assignment : ℕ → Bool) (clauses : List (List ℕ)) (assigned hints : List ℕ) → Satisfies assignment clauses → AreTrueIn assignment assigned → All (λ hint. hint < length clauses) hints → Reaches clauses assigned hints → ⊥
no_conflict assignment clauses assigned [] holds true_ones within reaches = reaches
no_conflict assignment clauses assigned (hint ∷ hints) holds true_ones within reaches =
    let in_range : hint < length clauses = All-head (λ (h : ℕ). h < length clauses) hint hints within in
    let some : ClauseHolds assignment (block_at clauses hint) = clause_holds assignment clauses hint in_range holds in
    let rest : All (λ h. h < length clauses) hints = All-tail (λ (h : ℕ). h < length clauses) hint hints within in
    elim reaches [
      | inl falsified ↦
          let is_false : IsFalse assigned some.1 = subst (IsFalse assigned) some.3 (falsified some.0 some.1 some.2) in
          false_in assignment assigned some.1 true_ones is_false some.4
      | inr forced ↦
          let cases : (some.1 ≡ forced.0) ⊎ IsFalse assigned some.1 = subst (λ other. (other ≡ forced.0) ⊎ IsFalse assigned other) some.3 (forced.1.others some.0 some.1 some.2) in
          let is_true : IsTrueIn assignment forced.0 = elim cases [
            | inl same ↦ subst (IsTrueIn assignment) same some.4
            | inr is_false ↦ absurd (false_in assignment assigned some.1 true_ones is_false some.4)
          ] in
          no_conflict assignment clauses (forced.0 ∷ assigned) hints holds (All-cons (IsTrueIn assignment) forced.0 assigned is_true true_ones) rest forced.2
    ]

-- a clause holds, or the negations of its literals are all true
holds_or_not : (assignment : ℕ → Bool) (clause : List ℕ) → ClauseHolds assignment clause ⊎ AreTrueIn assignment (negations clause)
holds_or_not assignment [] = inr (All-nil (IsTrueIn assignment))
holds_or_not assignment (literal ∷ clause) = elim (one_of_both assignment literal) [
  | inl here ↦ inl (0, literal, omega arith, refl, here)
  | inr there ↦ elim (holds_or_not assignment clause) [
    | inl some ↦ inl (suc some.0, some.1, omega (arith, some.2), some.3, some.4)
    | inr none ↦ inr (All-cons (IsTrueIn assignment) (negation literal) (negations clause) there none)
  ]
]

-- a line that follows from clauses holds where they hold
pub line_holds : (assignment : ℕ → Bool) (variables : ℕ) (clauses : List (List ℕ)) (line : Line) → LineFollows variables clauses line → Satisfies assignment clauses → ClauseHolds assignment line.literals
line_holds assignment variables clauses line follows holds = elim (holds_or_not assignment line.literals) [
  | inl some ↦ some
  | inr none ↦ absurd (no_conflict assignment clauses (negations line.literals) line.hints holds none follows.hints follows.conflict)
]

-- one line more is known
pub known_before-more : (input : ClauseList) (log : List Line) (number : ℕ) → number < length log → known_before input log (number + 1) ≡ known_before input log number ++ (line_at log number).literals ∷ []
known_before-more input log number in_range =
    let literals_in = λ (line : Line). line.literals in
    let empty : Line = record { literals = []; hints = [] } in
    let e : literals_of (take (number + 1) log) ≡ literals_of (take number log) ++ (line_at log number).literals ∷ [] =
    ap literals_of (take_more log number empty in_range) ∙ map_push literals_in (take number log) (line_at log number) in
    ap (λ (rest : List (List ℕ)). input.clauses ++ rest) e ∙ sym (append_assoc input.clauses (literals_of (take number log)) ((line_at log number).literals ∷ []))

-- the input clauses and the lines that follow hold
pub known_holds : (assignment : ℕ → Bool) (input : ClauseList) (log : List Line) (count : ℕ) → count ≤ length log → EachFollows input log count → Satisfies assignment input.clauses → Satisfies assignment (known_before input log count)
known_holds assignment input log zero within follows holds = rw append-nil holds
known_holds assignment input log (suc count) within follows holds =
    let before : Satisfies assignment (known_before input log count) =
    known_holds assignment input log count (omega arith) (λ number below. follows number (omega arith)) holds in
    let line : ClauseHolds assignment (line_at log count).literals =
    line_holds assignment input.variables (known_before input log count) (line_at log count) (follows count (omega arith)) before in
    let e : suc count ≡ count + 1 = omega arith in
    rw (e, known_before-more input log count (omega arith)) (All-append (ClauseHolds assignment) _ _ before (All-cons (ClauseHolds assignment) _ [] line (All-nil (ClauseHolds assignment))))

-- a list of clauses that a log refutes has no satisfying assignment
pub refuted_has_none : (input : ClauseList) (log : List Line) → Refutes input log → IsUnsatisfiable input.clauses
refuted_has_none input log refutes assignment holds =
    let last = length log - 1 in
    let there : last < length log = omega (arith, refutes.ends.0) in
    let before : Satisfies assignment (known_before input log last) =
    known_holds assignment input log last (omega arith) (λ number below. refutes.follows number (omega arith)) holds in
    let line : ClauseHolds assignment (line_at log last).literals =
    line_holds assignment input.variables (known_before input log last) (line_at log last) (refutes.follows last there) before in
    let empty : ClauseHolds assignment [] = subst (ClauseHolds assignment) refutes.ends.1 line in
    omega (arith, empty.2)
