-- What is known by terms behind statements, and behind a block.
use Rattle.std.specs.Prelude.{◌≡◌, ◌≢◌, ℕ, List, Option, length}
use Rattle.mir_ir.specs.declared.tree.Block.{Block}
use Rattle.mir_ir.specs.declared.tree.Function.{Function}
use Rattle.mir_ir.specs.declared.tree.Statement.{Statement}
use Rattle.sym_terms.specs.declared.term.Term.{Term}
use Rattle.sym_terms.specs.Terms.{Keeps}
use Rattle.value_terms.specs.Made.{Grown, IsFree}
use Rattle.scalar_terms.specs.declared.failures.Failure.{Failure}
use Rattle.scalar_terms.specs.declared.ways.Way.{Way}
use Rattle.scalar_terms.specs.Joins.{AreWays, WaysAre, WaysIn}
use Rattle.scalar_terms.specs.Places.{Spot, all_stated, behind_block}
use Rattle.scalar_terms.specs.Ways.{AreFailures, IsWay, PointIs, ToldAt, ToldIn}

-- the point and the failures behind statements, the first of which has this index
pub record AreStated (f : Function) (old new : List Term) (was now : Way) (before behind : List Failure) (b i : ℕ) (statements : List Statement) : Type 0 where
  pub grown : Grown old new
  pub way : IsWay f new now
  pub failures : AreFailures new behind
  pub is : (inputs : ℕ → ℕ) (spot : Spot) → PointIs old inputs was spot → ToldIn old inputs before spot → PointIs new inputs now (all_stated f b i statements spot) × ToldIn new inputs behind (all_stated f b i statements spot)

-- the points and the failures behind a block that runs come to by this way, which was taken out of the others
pub record IsPassed (f : Function) (old new : List Term) (was : Way) (ways joined : List (Option Way)) (before behind : List Failure) (b : Block) : Type 0 where
  pub keeps : Keeps old new
  pub free : (number : ℕ) → number ≢ b.id.0 → IsFree old number → IsFree new number
  pub one_each : length joined ≡ length ways
  pub are : AreWays f new joined
  pub failures : AreFailures new behind
  pub is : (inputs : ℕ → ℕ) (spot : Spot) → PointIs old inputs was spot → WaysIn old inputs ways spot → ToldIn old inputs before spot
      → WaysAre new inputs joined (behind_block f inputs b spot) × ToldAt new inputs behind (behind_block f inputs b spot)
