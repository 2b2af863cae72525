-- What is known by terms of where a run stands.
use Rattle.std.specs.Prelude.{◌≡◌, ◌⊎◌, ◌↔◌, ◌&&◌, ℕ, not, true, false, List, [], ◌∷◌}
use Rattle.mir_ir.specs.declared.tree.Function.{Function}
use Rattle.sym_terms.specs.declared.term.Term.{Term}
use Rattle.sym_terms.specs.declared.term.TermId.{TermId}
use Rattle.scalar_runs.specs.declared.breach.Breach.{Breach}
use Rattle.scalar_terms.specs.declared.failures.Failure.{Failure}
use Rattle.scalar_terms.specs.declared.ways.Split.{Split}
use Rattle.scalar_terms.specs.declared.ways.Way.{Way}
use Rattle.value_terms.specs.Made.{Grown, IsBit, holds}
use Rattle.scalar_terms.specs.Places.{Fault, Place, Done, Spot, Here, There}
use Rattle.value_terms.specs.declared.slots.Slot.{Slot}
use Rattle.value_terms.specs.Slots.{AreHeld, AreSlots}

-- some failure of the list is this one, and its term is 1
abbrev pub Tells : List Term → (ℕ → ℕ) → List Failure → Breach → Type 0
Tells terms inputs [] b = ⊥
Tells terms inputs (x ∷ xs) b = ((x.breach ≡ b) × (holds terms inputs x.term.0 ≡ true)) ⊎ Tells terms inputs xs b

-- the terms are there, with one bit
abbrev pub AreFailures : List Term → List Failure → Type 0
AreFailures terms [] = Unit {0}
AreFailures terms (x ∷ xs) = IsBit terms x.term.0 × AreFailures terms xs

-- one failure more, unless its term is 0 under all inputs
pub record IsNoted (terms : List Term) (old new : List Failure) (breach : Breach) (term : TermId) : Type 0 where
  pub failures : AreFailures terms old → AreFailures terms new
  pub tells : (inputs : ℕ → ℕ) (b : Breach) → Tells terms inputs new b ↔ (Tells terms inputs old b ⊎ ((breach ≡ b) × (holds terms inputs term.0 ≡ true)))

-- the run has ended in this fault
abbrev pub IsFaultAt : Place → Breach → Type 0
IsFaultAt (Done (Fault x)) b = x ≡ b
IsFaultAt _ b = ⊥

-- the same within a block
abbrev pub IsFaultIn : Spot → Breach → Type 0
IsFaultIn (Here values) b = ⊥
IsFaultIn (There p) b = IsFaultAt p b

-- the failures that are told are those in which the run has ended
abbrev pub ToldIn : List Term → (ℕ → ℕ) → List Failure → Spot → Type 0
ToldIn terms inputs failures spot = (b : Breach) → Tells terms inputs failures b ↔ IsFaultIn spot b

-- the same between blocks
abbrev pub ToldAt : List Term → (ℕ → ℕ) → List Failure → Place → Type 0
ToldAt terms inputs failures p = (b : Breach) → Tells terms inputs failures b ↔ IsFaultAt p b

-- the run passes here, with these values, exactly where the guard is 1
abbrev pub PointOf : List Term → (ℕ → ℕ) → TermId → List Slot → Spot → Type 0
PointOf terms inputs guard slots (Here values) = (holds terms inputs guard.0 ≡ true) × AreHeld terms inputs slots values
PointOf terms inputs guard slots (There p) = holds terms inputs guard.0 ≡ false

-- the run passes here by this way
abbrev pub PointIs : List Term → (ℕ → ℕ) → Way → Spot → Type 0
PointIs terms inputs way spot = PointOf terms inputs way.guard way.slots.items spot

-- a way is made of terms that are there
pub record IsWay (f : Function) (terms : List Term) (way : Way) : Type 0 where
  pub guard : IsBit terms way.guard.0
  pub slots : AreSlots f terms way.slots.items

-- a guard is split by two tests: the first fails, the second alone fails, both hold; and what is always so
pub record IsSplit (old new : List Term) (guard first second : ℕ) (t : Split) : Type 0 where
  pub grown : Grown old new
  pub unset : IsBit new t.unset.0
  pub unlawful : IsBit new t.unlawful.0
  pub goes : IsBit new t.guard.0
  pub always : IsBit new t.always.0
  pub unset_is : (inputs : ℕ → ℕ) → holds new inputs t.unset.0 ≡ (holds old inputs guard && not (holds old inputs first))
  pub unlawful_is : (inputs : ℕ → ℕ) → holds new inputs t.unlawful.0 ≡ ((holds old inputs guard && holds old inputs first) && not (holds old inputs second))
  pub goes_is : (inputs : ℕ → ℕ) → holds new inputs t.guard.0 ≡ ((holds old inputs guard && holds old inputs first) && holds old inputs second)
  pub always_is : (inputs : ℕ → ℕ) → holds new inputs t.always.0 ≡ true
