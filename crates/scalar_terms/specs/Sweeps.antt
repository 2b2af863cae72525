-- What is known by terms where the blocks with smaller numbers have been passed.
use Rattle.std.specs.Prelude.{◌≡◌, ◌≤◌, ◌<◌, ℕ, Bool, true, false, List, [], ◌∷◌, Option}
use Rattle.mir_ir.specs.declared.tree.Function.{Function}
use Rattle.mir_ir.specs.declared.tree.Operand.{Operand}
use Rattle.sym_terms.specs.declared.term.Term.{Term}
use Rattle.scalar_runs.specs.Look.{block_of}
use Rattle.scalar_form.specs.Typing.{is_there, is_truth}
use Rattle.value_terms.specs.Made.{IsFree}
use Rattle.scalar_terms.specs.declared.failures.Failure.{Failure}
use Rattle.scalar_terms.specs.declared.ways.Way.{Way}
use Rattle.scalar_terms.specs.Joins.{AreWays, WaysAre}
use Rattle.scalar_terms.specs.Places.{place}
use Rattle.scalar_terms.specs.Ways.{AreFailures, ToldAt}

-- each block has a number among the ways
abbrev pub HaveRoom : Function → ℕ → Type 0
HaveRoom f count = (n : ℕ) → is_there (block_of f n) ≡ true → n < count

-- the first argument is a truth value
abbrev pub has_condition : Function → List Operand → Bool
has_condition f [] = false
has_condition f (condition ∷ more) = is_truth f condition

-- under all inputs the ways are those of the run before the block with this number, and the failures are the fault in which
-- it has ended; the inputs of the blocks from this number on are still free
pub record AreSwept (f : Function) (terms : List Term) (ways : List (Option Way)) (noted : List Failure) (n : ℕ) : Type 0 where
  pub are : AreWays f terms ways
  pub failures : AreFailures terms noted
  pub free : (number : ℕ) → n ≤ number → IsFree terms number
  pub is : (inputs : ℕ → ℕ) → WaysAre terms inputs ways (place f inputs n) × ToldAt terms inputs noted (place f inputs n)
