-- What a turn along the hints does to what they reach.
use Rattle.std.proofs.Common.{◌≡◌, ◌⊎◌, ℕ, ◌+◌, ◌-◌, ◌<◌, ◌≤◌, List, [], ◌∷◌, ◌++◌, length, get_or, take, refl, ap, sym, subst, ◌∙◌, inl, inr, arith}
use Rattle.std.specs.Prelude.{All, Any, Contains, ◌↔◌}
use Rattle.std.proofs.lemmas.Bool.{cases_lt}
use Rattle.std.proofs.lemmas.List.{length-append, length-map, length-take-le, get_or_append_left, get_or-append_right, get_or-map, get_or-take, get_or_default}
use Rattle.std.proofs.lemmas.List.Elements.{All-head, All-tail, All-weaker, All-contains, Contains-get_or}
use Rattle.region_pool.specs.Blocks.{block_at}
use Rattle.region_pool.specs.Clauses.{ClauseList, AreLiterals, HasLiterals}
use Rattle.region_pool.specs.Literals.{negation}
use Rattle.region_pool.specs.Log.{Line, line_at}
use Rattle.region_pool.specs.Refutation.{IsFalse, IsUnit, IsFalsified, Reaches, negations, IsConsistent, literals_of, known_before, FollowsAt}
use Rattle.region_pool.proofs.Holding.{negation-negation}
use Rattle.refute_check.specs.Accepting.{HaveLiteralsBefore}
use Rattle.refute_check.specs.Marks.{IsSameSet}
use Rattle.refute_check.specs.Propagation.{all_clauses}
use Rattle.refute_check.proofs.MarkFacts.{same_set_cons}
use Rattle.refute_check.proofs.StandingFacts.{IsNeither}

-- what is false, open, falsified or forced depends on the set of the literals alone
falsified_kept : (a b clause : List ℕ) → IsSameSet a b → IsFalsified a clause → IsFalsified b clause
falsified_kept a b clause f falsified = All-weaker (IsFalse a) (IsFalse b) (λ x m. (f (negation x)).0 m) clause falsified

unit_kept : (a b clause : List ℕ) (literal : ℕ) → IsSameSet a b → IsUnit a clause literal → IsUnit b clause literal
unit_kept a b clause literal f unit = record {
  member = unit.member;
  free = (λ m. unit.free.0 ((f literal).1 m), λ m. unit.free.1 ((f (negation literal)).1 m));
  others = All-weaker (λ x. (x ≡ literal) ⊎ IsFalse a x) (λ x. (x ≡ literal) ⊎ IsFalse b x) (λ x h. elim h [ inl same ↦ inl same | inr m ↦ inr ((f (negation x)).0 m) ]) clause unit.others;
}

pub reaches_kept : (clauses : List (List ℕ)) (a b hints : List ℕ) → IsSameSet a b → Reaches clauses a hints → Reaches clauses b hints
reaches_kept clauses a b [] f reaches = reaches
reaches_kept clauses a b (hint ∷ hints) f reaches = elim reaches [
  | inl falsified ↦ inl (falsified_kept a b (block_at clauses hint) f falsified)
  | inr forced ↦ inr (forced.0, unit_kept a b (block_at clauses hint) forced.0 f forced.1, reaches_kept clauses (forced.0 ∷ a) (forced.0 ∷ b) hints (same_set_cons a b forced.0 f) forced.2)
]

pub same_set_back : (a b : List ℕ) → IsSameSet a b → IsSameSet b a
same_set_back a b f x = ((f x).1, (f x).0)

-- a falsified clause forces nothing
falsified_not_unit : (assigned clause : List ℕ) (literal : ℕ) → IsFalsified assigned clause → IsUnit assigned clause literal → ⊥
falsified_not_unit assigned clause literal falsified unit = unit.free.1 (All-contains (IsFalse assigned) clause literal falsified unit.member)

-- a clause forces one literal alone
unit_once : (assigned clause : List ℕ) (a b : ℕ) → IsUnit assigned clause a → IsUnit assigned clause b → b ≡ a
unit_once assigned clause a b unit_a unit_b = elim (All-contains (λ x. (x ≡ a) ⊎ IsFalse assigned x) clause b unit_a.others unit_b.member) [
  | inl same ↦ same
  | inr is_false ↦ absurd (unit_b.free.1 is_false)
]

-- after a clause that forces a literal, what is reached is what the rest reaches
pub reaches_on : (clauses : List (List ℕ)) (before after : List ℕ) (hint : ℕ) (hints : List ℕ) (literal : ℕ) → IsUnit before (block_at clauses hint) literal → IsSameSet (literal ∷ before) after → Reaches clauses after hints ↔ Reaches clauses before (hint ∷ hints)
reaches_on clauses before after hint hints literal unit f = (
  λ reaches. inr (literal, unit, reaches_kept clauses after (literal ∷ before) hints (same_set_back (literal ∷ before) after f) reaches),
  λ reaches. elim reaches [
    | inl falsified ↦ absurd (falsified_not_unit before (block_at clauses hint) literal falsified unit)
    | inr forced ↦
        let same = unit_once before (block_at clauses hint) literal forced.0 unit forced.1 in
        reaches_kept clauses (literal ∷ before) after hints f (subst (λ x. Reaches clauses (x ∷ before) hints) same forced.2)
  ],
)

-- a clause that does neither ends it
pub reaches_not : (clauses : List (List ℕ)) (assigned : List ℕ) (hint : ℕ) (hints : List ℕ) → IsNeither assigned (block_at clauses hint) → Reaches clauses assigned (hint ∷ hints) → ⊥
reaches_not clauses assigned hint hints neither reaches = elim reaches [
  | inl falsified ↦ neither.0 falsified
  | inr forced ↦ neither.1 forced.0 forced.1
]

-- only the hinted clauses count
pub reaches_agree : (clauses others : List (List ℕ)) (assigned hints : List ℕ) → All (λ hint. block_at clauses hint ≡ block_at others hint) hints → Reaches clauses assigned hints → Reaches others assigned hints
reaches_agree clauses others assigned [] agree reaches = reaches
reaches_agree clauses others assigned (hint ∷ hints) agree reaches =
    let here = All-head (λ (h : ℕ). block_at clauses h ≡ block_at others h) hint hints agree in
    let rest = All-tail (λ (h : ℕ). block_at clauses h ≡ block_at others h) hint hints agree in
    elim reaches [
      | inl falsified ↦ inl (subst (IsFalsified assigned) here falsified)
      | inr forced ↦ inr (forced.0, subst (λ clause. IsUnit assigned clause forced.0) here forced.1, reaches_agree clauses others (forced.0 ∷ assigned) hints rest forced.2)
    ]

-- an input clause, or the literals of a line
block_left : (input : ClauseList) (lines : List Line) (hint : ℕ) → hint < length input.clauses → block_at (input.clauses ++ literals_of lines) hint ≡ block_at input.clauses hint
block_left input lines hint below = get_or_append_left input.clauses (literals_of lines) [] hint below

block_right : (input : ClauseList) (lines : List Line) (hint : ℕ) → length input.clauses ≤ hint → hint - length input.clauses < length lines → block_at (input.clauses ++ literals_of lines) hint ≡ (line_at lines (hint - length input.clauses)).literals
block_right input lines hint above there =
    get_or-append_right input.clauses (literals_of lines) (length input.clauses) hint [] refl above
    ∙ get_or-map (λ (line : Line). line.literals) lines (hint - length input.clauses) (record { literals = []; hints = [] }) [] there

-- what is hinted at has literals of the variables
pub hinted_literals : (input : ClauseList) (log : List Line) (line hint : ℕ) → HasLiterals input → HaveLiteralsBefore input.variables log line → line ≤ length log → hint < length input.clauses + line → AreLiterals input.variables (block_at (all_clauses input log) hint)
hinted_literals input log line hint inputs lines within below = elim (cases_lt hint (length input.clauses)) [
  | inl left ↦ rw (block_left input log hint left) (inputs hint [] left)
  | inr right ↦ rw (block_right input log hint right (omega arith)) (lines (hint - length input.clauses) (omega arith))
]

-- a hint finds the same clause among all as among those before the line
pub hinted_agree : (input : ClauseList) (log : List Line) (line hint : ℕ) → line ≤ length log → hint < length input.clauses + line → block_at (all_clauses input log) hint ≡ block_at (known_before input log line) hint
hinted_agree input log line hint within below = elim (cases_lt hint (length input.clauses)) [
  | inl left ↦ block_left input log hint left ∙ sym (block_left input (take line log) hint left)
  | inr right ↦
      let at = hint - length input.clauses in
      let size : length (take line log) ≡ line = length-take-le line log within in
      block_right input log hint right (omega arith)
      ∙ (ap (λ (l : Line). l.literals) (sym (get_or-take line log at (record { literals = []; hints = [] }) (omega arith)))
      ∙ sym (block_right input (take line log) hint right (omega arith)))
]

pub length-known_before : (input : ClauseList) (log : List Line) (line : ℕ) → line ≤ length log → length (known_before input log line) ≡ length input.clauses + line
length-known_before input log line within =
    omega (arith, length-append input.clauses (literals_of (take line log)), length-map (take line log) (λ (l : Line). l.literals), length-take-le line log within)

-- the negations of the members
in_negations : (literals : List ℕ) (x : ℕ) → Contains literals x → Contains (negations literals) (negation x)
in_negations literals x (k, there, same) =
    (k, omega (arith, length-map literals negation), get_or-map negation literals k x (negation x) there ∙ ap negation same)

from_negations : (literals : List ℕ) (x : ℕ) → Contains (negations literals) x → Contains literals (negation x)
from_negations literals x (k, there, same) =
    let lt : k < length literals = omega (arith, length-map literals negation) in
    let at : x ≡ negation (get_or literals k 0) = sym same ∙ get_or-map negation literals k 0 x lt in
    let back : negation x ≡ get_or literals k 0 = ap negation at ∙ negation-negation (get_or literals k 0) in
    subst (Contains literals) (sym back) (Contains-get_or literals k 0 lt)

-- once all literals are assumed false, one of them is true exactly where it stands beside its negation
pub not_consistent : (literals assigned : List ℕ) → IsSameSet (negations literals) assigned → Any (Contains assigned) literals → IsConsistent literals → ⊥
not_consistent literals assigned f (k, x, there, same, member) consistent =
    consistent k x there (subst (λ l. Contains literals (negation l)) (sym same) (from_negations literals x ((f x).1 member)))

pub is_consistent : (literals assigned : List ℕ) → IsSameSet (negations literals) assigned → (¬ Any (Contains assigned) literals) → IsConsistent literals
is_consistent literals assigned f none k d there member =
    let literal = get_or literals k d in
    let here : Contains (negations literals) literal = subst (Contains (negations literals)) (negation-negation literal) (in_negations literals (negation literal) member) in
    none (k, literal, there, get_or_default literals k literal d there, (f literal).0 here)

-- a line whose literals and hints are in order follows exactly where its hints reach a conflict
pub follows_by : (input : ClauseList) (log : List Line) (line : ℕ) (assigned : List ℕ) → line < length log → AreLiterals input.variables (line_at log line).literals → All (λ hint. hint < length input.clauses + line) (line_at log line).hints → IsConsistent (line_at log line).literals → IsSameSet (negations (line_at log line).literals) assigned → Reaches (all_clauses input log) assigned (line_at log line).hints ↔ FollowsAt input log line
follows_by input log line assigned there literals known consistent f =
    let hints = (line_at log line).hints in
    let falses = negations (line_at log line).literals in
    let all = all_clauses input log in
    let before = known_before input log line in
    let size = length-known_before input log line (omega arith) in
    let agree : All (λ hint. block_at all hint ≡ block_at before hint) hints =
    All-weaker (λ hint. hint < length input.clauses + line) (λ hint. block_at all hint ≡ block_at before hint) (λ hint below. hinted_agree input log line hint (omega arith) below) hints known in
    let agree_back : All (λ hint. block_at before hint ≡ block_at all hint) hints =
    All-weaker (λ hint. block_at all hint ≡ block_at before hint) (λ hint. block_at before hint ≡ block_at all hint) (λ hint e. sym e) hints agree in (
      λ reaches. record {
        literals = literals;
        consistent = consistent;
        hints = All-weaker (λ hint. hint < length input.clauses + line) (λ hint. hint < length before) (λ hint below. omega (arith, size)) hints known;
        conflict = reaches_kept before assigned falses hints (same_set_back falses assigned f) (reaches_agree all before assigned hints agree reaches);
      },
      λ follows. reaches_kept all falses assigned hints f (reaches_agree before all falses hints agree_back follows.conflict),
    )
