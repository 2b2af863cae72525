-- Runs that are tried, choice by choice.
use Rattle.std.specs.Prelude.{◌≡◌, ◌≤◌, ◌<◌, ◌+◌, ℕ, true, List, get_or}
use Rattle.word_bits.specs.declared.word.Word.{Word}
use Rattle.mir_ir.specs.declared.tree.Function.{Function}
use Rattle.scalar_runs.specs.declared.kinds.ValueKind.{ValueKind}
use Rattle.scalar_runs.specs.declared.step.Step.{Step}
use Rattle.scalar_runs.specs.declared.step.Step.TheVariants as step
use Rattle.scalar_runs.specs.Engine.{configuration}
use Rattle.scalar_runs.specs.Kinds.{is_value, width_of_kind}
use Rattle.scalar_runs.specs.Run.{Configuration, Stepped, Ends, Cuts, Faults, Chooses, Stuck, chosen, start}
use Rattle.scalar_terms.specs.declared.replays.FaultRun.{FaultRun}
use Rattle.scalar_terms.specs.Oracle.{oracle}
use Rattle.scalar_verdicts.specs.declared.walks.Walk.{Walk}
use Rattle.scalar_verdicts.specs.Runs.{Adds, Covers}

-- the inputs are these numbers, for the blocks with smaller numbers than this one
abbrev pub AgreeBelow : ℕ → List ℕ → (ℕ → ℕ) → Type 0
AgreeBelow b numbers inputs = (m : ℕ) → m < b → inputs m ≡ get_or numbers m 0

-- a run of inputs that are these numbers, as far as blocks were passed, comes in these steps to where the walk stands
unfoldable pub Leads : Function → Configuration → List ℕ → ℕ → Type 0
Leads f s numbers steps = (inputs : ℕ → ℕ) → AgreeBelow s.block numbers inputs → (m : ℕ) → oracle f inputs (steps + m) (start f) ≡ oracle f inputs m s

abbrev pub IsWalk : Function → Walk → Type 0
IsWalk f w = Leads f (configuration w.state) w.numbers.items w.steps

-- a step that does not go on
abbrev pub IsStop : Stepped → Step → Type 0
IsStop r step.Went = ⊥
IsStop r step.Ended = r ≡ Ends
IsStop r step.Cut = r ≡ Cuts
IsStop r (step.Faulted c) = r ≡ Faults c
IsStop r (step.Chooses k destination next) = r ≡ Chooses k destination.0 next.0
IsStop r step.Stuck = r ≡ Stuck

-- the walk has gone on: what covers the runs from there covers those from where it was
pub record HasGone (f : Function) (old new : Walk) : Type 0 where
  pub walk : IsWalk f new
  pub later : old.steps ≤ new.steps
  pub covers : (runs : List FaultRun) → Covers f (configuration new.state) runs → Covers f (configuration old.state) runs

-- the walk has gone on from another by one choice
pub record IsBranch (f : Function) (old new : Walk) (destination next : ℕ) (w : Word) : Type 0 where
  pub state : configuration new.state ≡ chosen (configuration old.state) destination next w
  pub walk : IsWalk f new
  pub steps : new.steps ≡ old.steps + 1

-- each fault of a run from here has a run in the list
pub record Explored (f : Function) (s : Configuration) (old new : List FaultRun) : Type 0 where
  pub adds : Adds f old new
  pub covers : Covers f s new

-- no value of the kind has a greater number
abbrev pub IsGreatest : ValueKind → ℕ → Type 0
IsGreatest k last = (w : Word) → is_value k w ≡ true → w.value ≤ last

-- the word with this number was tried, if it is a value of the kind
pub record TriedOne (f : Function) (s : Configuration) (k : ValueKind) (destination next number : ℕ) (old new : List FaultRun) : Type 0 where
  pub adds : Adds f old new
  pub covers : is_value k (record { width = width_of_kind k; value = number }) ≡ true → Covers f (chosen s destination next (record { width = width_of_kind k; value = number })) new

-- each word of the kind with a number below this one was tried
pub record Tried (f : Function) (s : Configuration) (k : ValueKind) (destination next below : ℕ) (old new : List FaultRun) : Type 0 where
  pub adds : Adds f old new
  pub covers : (number : ℕ) → number < below → is_value k (record { width = width_of_kind k; value = number }) ≡ true → Covers f (chosen s destination next (record { width = width_of_kind k; value = number })) new

-- the list with a number at a place, and zeros before it
abbrev pub IsPut : List ℕ → List ℕ → ℕ → ℕ → Type 0
IsPut old new place number = (get_or new place 0 ≡ number) × ((m : ℕ) → m < place → get_or new m 0 ≡ get_or old m 0)
