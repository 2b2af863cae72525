-- What is known by terms of a condition, and behind a terminator.
use Rattle.std.specs.Prelude.{◌≡◌, ◌≢◌, ℕ, Bool, true, false, List, Option, Result, Ok, Err, length}
use Rattle.word_bits.specs.declared.word.Word.{Word}
use Rattle.vk_core.specs.declared.check.CheckClass.{CheckClass}
use Rattle.vk_core.specs.declared.check.CheckClass.TheVariants as class
use Rattle.mir_ir.specs.declared.tree.Function.{Function}
use Rattle.mir_ir.specs.declared.tree.Operand.{Operand}
use Rattle.sym_terms.specs.declared.term.Term.{Term}
use Rattle.sym_terms.specs.Terms.{Keeps}
use Rattle.scalar_runs.specs.Run.{Configuration, Stepped, is_expected}
use Rattle.scalar_runs.specs.Values.{Values, operand_value}
use Rattle.value_terms.specs.declared.slots.Slot.{Slot}
use Rattle.value_terms.specs.Made.{Grown, IsBit, IsFree, holds}
use Rattle.value_terms.specs.Slots.{AreHeld}
use Rattle.scalar_terms.specs.declared.conditions.Condition.{Condition}
use Rattle.scalar_terms.specs.declared.failures.Failure.{Failure}
use Rattle.scalar_terms.specs.declared.ways.Way.{Way}
use Rattle.scalar_terms.specs.Joins.{AreWays, WaysAre, WaysIn}
use Rattle.scalar_terms.specs.Places.{Spot, stepped_place}
use Rattle.scalar_terms.specs.Ways.{AreFailures, PointIs, ToldAt, ToldIn}

-- what two terms say of a condition: whether it was stored to, and whether it is as expected
abbrev pub TestIs : List Term → (ℕ → ℕ) → Bool → (set as_expected : ℕ) → Result Word CheckClass → Type 0
TestIs terms inputs expected set as_expected (Ok w) = (holds terms inputs set ≡ true) × (holds terms inputs as_expected ≡ is_expected expected w)
TestIs terms inputs expected set as_expected (Err c) = (c ≡ class.Uninit) × (holds terms inputs set ≡ false)

-- a condition by terms
pub record IsCondition (f : Function) (old new : List Term) (slots : List Slot) (expected : Bool) (o : Operand) (t : Condition) : Type 0 where
  pub grown : Grown old new
  pub set : IsBit new t.set.0
  pub met : IsBit new t.met.0
  pub is : (inputs : ℕ → ℕ) (values : Values) → AreHeld old inputs slots values → TestIs new inputs expected t.set.0 t.met.0 (operand_value f values o)

-- the points and the failures behind a terminator that makes this step; at most the input of this block came
pub record IsLed (f : Function) (old new : List Term) (was : Way) (ways joined : List (Option Way)) (before behind : List Failure) (b i : ℕ) (does : Configuration → Stepped) : Type 0 where
  pub keeps : Keeps old new
  pub free : (number : ℕ) → number ≢ b → IsFree old number → IsFree new number
  pub one_each : length joined ≡ length ways
  pub are : AreWays f new joined
  pub failures : AreFailures new behind
  pub is : (inputs : ℕ → ℕ) (spot : Spot) → PointIs old inputs was spot → WaysIn old inputs ways spot → ToldIn old inputs before spot
      → WaysAre new inputs joined (stepped_place inputs b i does spot) × ToldAt new inputs behind (stepped_place inputs b i does spot)
