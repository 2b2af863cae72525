-- Runs that were found, each to a fault.
use Rattle.std.specs.Prelude.{◌≡◌, ◌⊎◌, ℕ, List, [], ◌∷◌}
use Rattle.mir_ir.specs.declared.tree.Function.{Function}
use Rattle.scalar_runs.specs.declared.breach.Breach.{Breach}
use Rattle.scalar_runs.specs.declared.kinds.Choice.{Choice}
use Rattle.scalar_runs.specs.Run.{Configuration, Faulted, run}
use Rattle.scalar_terms.specs.declared.replays.FaultRun.{FaultRun}
use Rattle.scalar_terms.specs.Faults.{FaultsWith}
use Rattle.scalar_terms.specs.Replays.{Reaches}

-- some run of the list ends in this fault
abbrev pub HasRun : List FaultRun → Breach → Type 0
HasRun [] b = ⊥
HasRun (r ∷ rs) b = (r.breach ≡ b) ⊎ HasRun rs b

-- the choices and the steps of each lead to its fault
abbrev pub EachReached : Function → List FaultRun → Type 0
EachReached f [] = Unit {0}
EachReached f (r ∷ rs) = Reaches f r.breach r.choices.items r.steps × EachReached f rs

-- where each of the runs was reached, this one was, and it ends in this fault
abbrev pub IsRunTo : List FaultRun → Breach → FaultRun → Type 0
IsRunTo runs b r = (f : Function) → EachReached f runs → Reaches f b r.choices.items r.steps

-- the runs that are left have a run to this fault, if all have; and they were reached, if all were
pub record IsPassed (runs : List FaultRun) (b : Breach) (left : List FaultRun) : Type 0 where
  pub there : HasRun runs b → HasRun left b
  pub back : HasRun left b → HasRun runs b
  pub reached : (f : Function) → EachReached f runs → EachReached f left

-- what was found stays, and now there is a run to the fault of this one
pub record IsNoted (old new : List FaultRun) (r : FaultRun) : Type 0 where
  pub sound : (f : Function) → Reaches f r.breach r.choices.items r.steps → EachReached f old → EachReached f new
  pub kept : (b : Breach) → HasRun old b → HasRun new b
  pub has : HasRun new r.breach

-- what was found stays, and what is new was reached
pub record Adds (f : Function) (old new : List FaultRun) : Type 0 where
  pub sound : EachReached f old → EachReached f new
  pub kept : (b : Breach) → HasRun old b → HasRun new b

-- now there is a run to the fault in which the run with these inputs ends
pub record IsReplayed (f : Function) (inputs : ℕ → ℕ) (old new : List FaultRun) : Type 0 where
  pub adds : Adds f old new
  pub has : (b : Breach) → FaultsWith f inputs b → HasRun new b

-- the run with these inputs ends in a fault
pub record FaultsSomehow (f : Function) (inputs : ℕ → ℕ) : Type 0 where
  pub breach : Breach
  pub faults : FaultsWith f inputs breach

-- each fault in which a run that goes on from here ends has a run in the list
unfoldable pub Covers : Function → Configuration → List FaultRun → Type 0
Covers f s runs = (n : ℕ) (choices unused : List Choice) (b : Breach) → run f n s choices ≡ Faulted b unused → HasRun runs b
