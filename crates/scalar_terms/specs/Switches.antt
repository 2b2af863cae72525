-- What is known by terms behind a switch.
use Rattle.std.specs.Prelude.{◌≡◌, ◌<◌, ℕ, true, false, List, [], ◌∷◌, Option, length}
use Rattle.vk_core.specs.declared.ids.BlockId.{BlockId}
use Rattle.word_bits.specs.Words.{IsWord}
use Rattle.mir_ir.specs.declared.tree.Arm.{Arm}
use Rattle.mir_ir.specs.declared.tree.Function.{Function}
use Rattle.sym_terms.specs.declared.term.Term.{Term}
use Rattle.sym_terms.specs.Terms.{value}
use Rattle.scalar_runs.specs.Run.{target_of}
use Rattle.scalar_runs.specs.Values.{Values}
use Rattle.value_terms.specs.declared.slots.Slot.{Slot}
use Rattle.value_terms.specs.Made.{Grown, holds}
use Rattle.value_terms.specs.Slots.{AreHeld}
use Rattle.scalar_terms.specs.declared.ways.Way.{Way}
use Rattle.scalar_terms.specs.Joins.{AreQuiet, AreWays, WaysAre}
use Rattle.scalar_terms.specs.Places.{Place, Before}

-- the targets are among so many blocks, and the numbers are words of the width
abbrev pub AreArms : ℕ → ℕ → List Arm → Type 0
AreArms count width [] = Unit {0}
AreArms count width (arm ∷ arms) = (arm.target.0 < count) × IsWord (record { width = width; value = arm.number }) × AreArms count width arms

-- where `left` is 1 the run comes to the target of the word, and else the ways are as they were
pub record IsSwitched (f : Function) (old new : List Term) (ways joined : List (Option Way)) (word left : ℕ) (slots : List Slot) (arms : List Arm) (otherwise : BlockId) : Type 0 where
  pub grown : Grown old new
  pub one_each : length joined ≡ length ways
  pub are : AreWays f new joined
  pub comes : (inputs : ℕ → ℕ) (v : Values) → holds old inputs left ≡ true → AreQuiet old inputs ways → AreHeld old inputs slots v → WaysAre new inputs joined (Before (target_of arms otherwise (value old inputs word).value).0 v)
  pub stays : (inputs : ℕ → ℕ) (p : Place) → holds old inputs left ≡ false → WaysAre old inputs ways p → WaysAre new inputs joined p
