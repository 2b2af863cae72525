-- Steps of the search for a decision.
use Rattle.std.proofs.Common.{◌≡◌, ℕ, ◌+◌, ◌<◌, true, List, Option, Some, None, is_some, length, get_or, take, All, inl, inr, sym, subst, arith}
use Rattle.std.proofs.lemmas.Bool.{cases_lt, false≢true}
use Rattle.std.proofs.lemmas.List.{take_more}
use Rattle.std.proofs.lemmas.List.Elements.{All-push, All-contains}
use Rattle.region_pool.specs.Blocks.{block_at}
use Rattle.region_pool.specs.Clauses.{IsLiteral, AreLiterals}
use Rattle.region_pool.specs.Refutation.{IsFalse}
use Rattle.sat_core.specs.Choice.{IsSatisfied, IsChance, ChanceIs, IsChoice, ChoiceIs}

-- the next literal is false
pub chance_false : (assigned clause : List ℕ) (i : ℕ) (found : Option ℕ) → i < length clause → ChanceIs assigned clause (take i clause) found → IsFalse assigned (get_or clause i 0) → ChanceIs assigned clause (take (i + 1) clause) found
chance_false assigned clause i None within h f =
    subst (λ (s : List ℕ). All (IsFalse assigned) s) (sym (take_more clause i 0 within)) (All-push (IsFalse assigned) (take i clause) (get_or clause i 0) h f)
chance_false assigned clause i (Some literal) within h f = h

pub chance_fits : (variables : ℕ) (assigned clause : List ℕ) (literal : ℕ) → AreLiterals variables clause → IsChance assigned clause literal → IsChoice variables assigned literal
chance_fits variables assigned clause literal fit chance = record {
  fits = All-contains (IsLiteral variables) clause literal fit chance.member;
  free = chance.free;
}

-- one more clause is satisfied
pub choice_satisfied : (variables : ℕ) (assigned : List ℕ) (clauses : List (List ℕ)) (i : ℕ) (choice : Option ℕ) → ChoiceIs variables assigned clauses i choice → IsSatisfied assigned (block_at clauses i) → ChoiceIs variables assigned clauses (i + 1) choice
choice_satisfied variables assigned clauses i None h here = λ number k. elim (cases_lt number i) [
  | inl l ↦ h number l
  | inr l ↦ let e : i ≡ number = omega arith in subst (λ (n : ℕ). IsSatisfied assigned (block_at clauses n)) e here
]
choice_satisfied variables assigned clauses i (Some literal) h here = h

-- a literal stays chosen
pub choice_kept : (variables : ℕ) (assigned : List ℕ) (clauses : List (List ℕ)) (i j : ℕ) (choice : Option ℕ) → is_some choice ≡ true → ChoiceIs variables assigned clauses i choice → ChoiceIs variables assigned clauses j choice
choice_kept variables assigned clauses i j None e h = absurd (false≢true e)
choice_kept variables assigned clauses i j (Some literal) e h = h
