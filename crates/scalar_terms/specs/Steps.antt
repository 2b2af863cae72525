-- What is known by terms behind a statement.
use Rattle.std.specs.Prelude.{◌≡◌, ◌⊎◌, ◌↔◌, ℕ, true, List}
use Rattle.vk_core.specs.declared.check.CheckClass.{CheckClass}
use Rattle.mir_ir.specs.declared.tree.Function.{Function}
use Rattle.mir_ir.specs.declared.tree.Statement.{Statement}
use Rattle.sym_terms.specs.declared.term.Term.{Term}
use Rattle.sym_terms.specs.declared.term.TermId.{TermId}
use Rattle.scalar_runs.specs.declared.breach.Breach.{Breach}
use Rattle.scalar_terms.specs.declared.failures.Failure.{Failure}
use Rattle.scalar_terms.specs.declared.ways.Way.{Way}
use Rattle.value_terms.specs.Made.{Grown, holds}
use Rattle.scalar_terms.specs.Places.{Spot, stated}
use Rattle.scalar_terms.specs.Ways.{AreFailures, IsWay, PointIs, Tells, ToldIn}

-- the fault of this class at a statement or terminator
abbrev pub breach_of : ℕ → ℕ → CheckClass → Breach
breach_of b i c = record { block = record { 0 = b }; index = i; class = c }

-- two failures more
pub record IsNotedTwice (terms : List Term) (old new : List Failure) (x : Breach) (a : TermId) (y : Breach) (b : TermId) : Type 0 where
  pub failures : AreFailures terms old → AreFailures terms new
  pub tells : (inputs : ℕ → ℕ) (z : Breach) → Tells terms inputs new z ↔ ((Tells terms inputs old z ⊎ ((x ≡ z) × (holds terms inputs a.0 ≡ true))) ⊎ ((y ≡ z) × (holds terms inputs b.0 ≡ true)))

-- the point and the failures behind the statement, by those before it
pub record IsStated (f : Function) (old new : List Term) (was now : Way) (before behind : List Failure) (b i : ℕ) (this : Statement) : Type 0 where
  pub grown : Grown old new
  pub way : IsWay f new now
  pub failures : AreFailures new behind
  pub is : (inputs : ℕ → ℕ) (spot : Spot) → PointIs old inputs was spot → ToldIn old inputs before spot → PointIs new inputs now (stated f b i this spot) × ToldIn new inputs behind (stated f b i this spot)
