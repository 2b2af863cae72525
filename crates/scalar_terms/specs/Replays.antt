-- The run that takes its choices from inputs, up to a fault.
use Rattle.std.specs.Prelude.{◌≡◌, ◌-◌, ◌+◌, ◌<◌, ◌≤◌, ℕ, Bool, true, false, List, [], ◌∷◌, ◌++◌, Option, Some, None}
use Rattle.mir_ir.specs.declared.tree.Function.{Function}
use Rattle.scalar_runs.specs.declared.breach.Breach.{Breach}
use Rattle.scalar_runs.specs.declared.kinds.Choice.{Choice}
use Rattle.scalar_runs.specs.declared.kinds.ValueKind.{ValueKind}
use Rattle.scalar_runs.specs.Kinds.{is_value}
use Rattle.scalar_runs.specs.Run.{Configuration, Faulted, Running, chosen, run, start}
use Rattle.scalar_form.specs.Size.{size_of}
use Rattle.scalar_terms.specs.declared.replays.FaultRun.{FaultRun}
use Rattle.scalar_terms.specs.Faults.{FaultsWith}
use Rattle.scalar_terms.specs.Oracle.{oracle}
use Rattle.scalar_terms.specs.Places.{chosen_word}

-- the run of just these choices ends in the fault with just this step, which is at most the function's size
pub record Reaches (f : Function) (b : Breach) (choices : List Choice) (steps : ℕ) : Type 0 where
  pub some : 0 < steps
  pub few : steps ≤ size_of f
  pub before : run f (steps - 1) (start f) choices ≡ Running
  pub there : run f steps (start f) choices ≡ Faulted b []

-- the run ends in this fault and in no other one, and this is how it comes there
pub record IsFaultRun (f : Function) (inputs : ℕ → ℕ) (r : FaultRun) : Type 0 where
  pub faults : FaultsWith f inputs r.breach
  pub one : (b : Breach) → FaultsWith f inputs b → b ≡ r.breach
  pub reaches : Reaches f r.breach r.choices.items r.steps

-- the run that ends in a fault, or none where none does
abbrev pub IsReplay : Function → (ℕ → ℕ) → Option FaultRun → Type 0
IsReplay f inputs (Some r) = IsFaultRun f inputs r
IsReplay f inputs None = (b : Breach) → FaultsWith f inputs b → ⊥

-- the choice was made, or the input is no value of the kind
abbrev pub IsMadeChoice : (ℕ → ℕ) → (was now : Configuration) → (before behind : List Choice) → ValueKind → (destination next : ℕ) → Bool → Type 0
IsMadeChoice inputs was now before behind k destination next true =
    (is_value k (chosen_word inputs was.block k) ≡ true) × (now ≡ chosen was destination next (chosen_word inputs was.block k)) × (behind ≡ before ++ (record { kind = k; word = chosen_word inputs was.block k }) ∷ [])
IsMadeChoice inputs was now before behind k destination next false = is_value k (chosen_word inputs was.block k) ≡ false

-- the run has come here in so many steps, with these choices
pub record HasCome (f : Function) (inputs : ℕ → ℕ) (n : ℕ) (s : Configuration) (choices : List Choice) : Type 0 where
  pub ends : (m : ℕ) → oracle f inputs (n + m) (start f) ≡ oracle f inputs m s
  pub runs : (m : ℕ) (more : List Choice) → run f (n + m) (start f) (choices ++ more) ≡ run f m s more
  pub index : s.index ≤ n
