-- What a decision may choose.
use Rattle.std.specs.Prelude.{ℕ, List, Option, Some, None, Contains, ◌<◌}
use Rattle.region_pool.specs.Blocks.{block_at}
use Rattle.region_pool.specs.Clauses.{IsLiteral}
use Rattle.region_pool.specs.Refutation.{IsOpen, IsFalsified}
use Rattle.sat_core.specs.declared.choice.Offer.{Offer}
use Rattle.sat_core.specs.declared.choice.Offer.TheVariants.{Satisfied, Chance}

-- a literal of the clause is true
abbrev pub IsSatisfied : List ℕ → List ℕ → Type 0
IsSatisfied assigned clause = (literal : ℕ) × Contains clause literal × Contains assigned literal

-- a literal of the clause that is open
pub record IsChance (assigned clause : List ℕ) (literal : ℕ) : Type 0 where
  pub member : Contains clause literal
  pub free : IsOpen assigned literal

-- a literal of the clause is true, or this one is open
abbrev pub OfferIs : List ℕ → List ℕ → Offer → Type 0
OfferIs assigned clause Satisfied = IsSatisfied assigned clause
OfferIs assigned clause (Chance literal latest) = IsChance assigned clause literal

-- the literals so far are false, or this literal of the clause is open
abbrev pub ChanceIs : List ℕ → List ℕ → List ℕ → Option ℕ → Type 0
ChanceIs assigned clause seen None = IsFalsified assigned seen
ChanceIs assigned clause seen (Some literal) = IsChance assigned clause literal

-- a literal that may be decided
pub record IsChoice (variables : ℕ) (assigned : List ℕ) (literal : ℕ) : Type 0 where
  pub fits : IsLiteral variables literal
  pub free : IsOpen assigned literal

-- the first so many clauses are satisfied, or this literal may be decided
abbrev pub ChoiceIs : ℕ → List ℕ → List (List ℕ) → ℕ → Option ℕ → Type 0
ChoiceIs variables assigned clauses count None = (number : ℕ) → number < count → IsSatisfied assigned (block_at clauses number)
ChoiceIs variables assigned clauses count (Some literal) = IsChoice variables assigned literal
