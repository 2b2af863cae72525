-- The runs whose choices are these inputs, step by step.
use Rattle.std.specs.Prelude.{◌≡◌, ◌≤◌, ℕ, zero, suc, if◌then◌else◌, Option, Some, None}
use Rattle.mir_ir.specs.declared.tree.Function.{Function}
use Rattle.scalar_runs.specs.declared.kinds.ValueKind.{ValueKind}
use Rattle.scalar_runs.specs.Kinds.{is_value}
use Rattle.scalar_runs.specs.Run.{Configuration, Stepped, Goes, Ends, Cuts, Faults, Chooses, Stuck, breach_at, chosen, entry_of, step}
use Rattle.scalar_terms.specs.Places.{End, Ended, Cut, Fault, Wanting, Lost, Place, Before, Done, chosen_word}

-- where a step leads: to a configuration, or to the end
pub data Advance : Type 0 where
  On : Configuration → Advance
  Stop : End → Advance

-- where a choice of the inputs leads
abbrev pub advanced : (ℕ → ℕ) → Configuration → ValueKind → ℕ → ℕ → Advance
advanced inputs s k destination next =
    if is_value k (chosen_word inputs s.block k) then On (chosen s destination next (chosen_word inputs s.block k)) else Stop Wanting

-- a step, with its choice made by the inputs
abbrev pub told_by : (ℕ → ℕ) → Configuration → Stepped → Advance
told_by inputs s (Goes t) = On t
told_by inputs s Ends = Stop Ended
told_by inputs s Cuts = Stop Cut
told_by inputs s (Faults c) = Stop (Fault (breach_at s c))
told_by inputs s (Chooses k destination next) = advanced inputs s k destination next
told_by inputs s Stuck = Stop Lost

-- how a run ends behind such a step
abbrev pub after_told : (Configuration → Option End) → Advance → Option End
after_told on (On t) = on t
after_told on (Stop e) = Some e

-- how the run has ended in so many steps, if it has
unfoldable pub oracle : Function → (ℕ → ℕ) → ℕ → Configuration → Option End
oracle f inputs zero s = None
oracle f inputs (suc n) s = after_told (oracle f inputs n) (told_by inputs s (step f s))

-- the run ends so, in at most so many steps
pub record EndsWithin (f : Function) (inputs : ℕ → ℕ) (s : Configuration) (e : End) (most : ℕ) : Type 0 where
  pub steps : ℕ
  pub few : steps ≤ most
  pub there : oracle f inputs steps s ≡ Some e

-- a run that stands at this place ends so, in at most so many steps more
abbrev pub PlaceEnds : Function → (ℕ → ℕ) → Place → End → ℕ → Type 0
PlaceEnds f inputs (Before target values) e most = EndsWithin f inputs (entry_of target values) e most
PlaceEnds f inputs (Done d) e most = d ≡ e
