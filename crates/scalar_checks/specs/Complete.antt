-- The list of checks leaves out no fault in which a run can end.
use Rattle.std.specs.Prelude.{◌≡◌, ◌⊎◌, ℕ, List, [], ◌∷◌}
use Rattle.mir_ir.specs.declared.tree.Function.{Function}
use Rattle.scalar_runs.specs.declared.breach.Breach.{Breach}
use Rattle.scalar_checks.specs.declared.checks.Check.{Check}
use Rattle.scalar_runs.specs.declared.kinds.Choice.{Choice}
use Rattle.scalar_checks.specs.Checks.{checks_of}
use Rattle.scalar_runs.specs.Run.{Faulted, run, start}

-- some check of the list has this fault
abbrev pub HasCheck : List Check → Breach → Type 0
HasCheck [] b = ⊥
HasCheck (c ∷ cs) b = (c.breach ≡ b) ⊎ HasCheck cs b

-- every fault in which a run of any length can end is a check of the function
abbrev pub EachFaultIsListed : Function → Type 0
EachFaultIsListed f = (n : ℕ) (choices unused : List Choice) (b : Breach) → run f n (start f) choices ≡ Faulted b unused → HasCheck (checks_of f) b
