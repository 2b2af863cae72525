-- The faults of a function by terms: under inputs a fault is told exactly where the run that takes its choices from these
-- inputs ends in it, and every fault in which a run ends is told under some inputs.
use Rattle.std.specs.Prelude.{◌≡◌, ◌≤◌, ◌↔◌, ℕ, zero, suc, List, [], ◌∷◌}
use Rattle.mir_ir.specs.declared.tree.Function.{Function}
use Rattle.sym_terms.specs.declared.term.Term.{Term}
use Rattle.scalar_runs.specs.declared.breach.Breach.{Breach}
use Rattle.scalar_runs.specs.declared.kinds.Choice.{Choice}
use Rattle.scalar_runs.specs.Run.{Configuration, Stepped, Goes, Chooses, Faulted, chosen, run, start, step}
use Rattle.scalar_form.specs.Size.{size_of}
use Rattle.scalar_terms.specs.declared.failures.Failure.{Failure}
use Rattle.scalar_terms.specs.Places.{chosen_word}
use Rattle.scalar_terms.specs.Ways.{AreFailures, Tells}

-- the choice of a step, where it makes one, and those of the steps behind it
abbrev pub choices_behind : (Configuration → List Choice) → (ℕ → ℕ) → Configuration → Stepped → List Choice
choices_behind on inputs s (Goes t) = on t
choices_behind on inputs s (Chooses k destination next) = record { kind = k; word = chosen_word inputs s.block k } ∷ on (chosen s destination next (chosen_word inputs s.block k))
choices_behind on inputs s _ = []

-- the choices of so many steps: in each block the input with the block's number, cut to the width of what is chosen
unfoldable pub choices_by : Function → (ℕ → ℕ) → ℕ → Configuration → List Choice
choices_by f inputs zero s = []
choices_by f inputs (suc n) s = choices_behind (choices_by f inputs n) inputs s (step f s)

-- the run that takes its choices from the inputs ends in this fault, in at most as many steps as the function's size
pub record FaultsWith (f : Function) (inputs : ℕ → ℕ) (b : Breach) : Type 0 where
  pub steps : ℕ
  pub few : steps ≤ size_of f
  pub there : run f steps (start f) (choices_by f inputs steps (start f)) ≡ Faulted b []

-- the fault is told under some inputs
pub record SomeTell (terms : List Term) (failures : List Failure) (b : Breach) : Type 0 where
  pub inputs : ℕ → ℕ
  pub tells : Tells terms inputs failures b

-- under the same inputs the terms tell just the fault in which the run ends, and no fault of any run is left out
pub record AreFaults (f : Function) (terms : List Term) (noted : List Failure) : Type 0 where
  pub failures : AreFailures terms noted
  pub told : (inputs : ℕ → ℕ) (b : Breach) → Tells terms inputs noted b ↔ FaultsWith f inputs b
  pub every : (n : ℕ) (choices unused : List Choice) (b : Breach) → run f n (start f) choices ≡ Faulted b unused → SomeTell terms noted b
