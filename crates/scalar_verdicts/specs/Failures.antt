-- Failures that are put together, and some of them.
use Rattle.std.specs.Prelude.{◌≡◌, ◌⊎◌, ◌||◌, ℕ, Bool, false, List, [], ◌∷◌, ◌++◌}
use Rattle.sym_terms.specs.declared.term.Term.{Term}
use Rattle.value_terms.specs.Made.{Grown, IsBit, holds}
use Rattle.scalar_runs.specs.declared.breach.Breach.{Breach}
use Rattle.scalar_terms.specs.declared.failures.Failure.{Failure}
use Rattle.scalar_terms.specs.Ways.{AreFailures, Tells}

-- the term of one of the failures is 1
abbrev pub any_holds : List Term → (ℕ → ℕ) → List Failure → Bool
any_holds terms inputs [] = false
any_holds terms inputs (x ∷ xs) = holds terms inputs x.term.0 || any_holds terms inputs xs

-- the term says of the failures before those that are left whether one is 1
pub record IsSum (old now : List Term) (root : ℕ) (all left : List Failure) : Type 0 where
  pub grown : Grown old now
  pub bit : IsBit now root
  pub failures : AreFailures old left
  pub sum : (inputs : ℕ → ℕ) → (holds now inputs root || any_holds old inputs left) ≡ any_holds old inputs all

-- a failure more, unless it is of this fault
abbrev pub IsOtherPut : Breach → Failure → (old new : List Failure) → Type 0
IsOtherPut b x old new = ((x.breach ≡ b) × (new ≡ old)) ⊎ ((x.breach ≡ b → ⊥) × (new ≡ old ++ x ∷ []))

-- a failure more, if it is of this fault
abbrev pub IsOwnPut : Breach → Failure → (old new : List Failure) → Type 0
IsOwnPut b x old new = ((x.breach ≡ b) × (new ≡ old ++ x ∷ [])) ⊎ ((x.breach ≡ b → ⊥) × (new ≡ old))

-- the failures that are kept and those that are left are all but some of this fault; none that is kept is of this fault
pub record IsSifted (b : Breach) (all kept left : List Failure) : Type 0 where
  pub failures : (terms : List Term) → AreFailures terms all → AreFailures terms kept × AreFailures terms left
  pub there : (terms : List Term) (inputs : ℕ → ℕ) (x : Breach) → Tells terms inputs all x → (x ≡ b) ⊎ (Tells terms inputs kept x ⊎ Tells terms inputs left x)
  pub kept_back : (terms : List Term) (inputs : ℕ → ℕ) (x : Breach) → Tells terms inputs kept x → Tells terms inputs all x × (x ≡ b → ⊥)
  pub left_back : (terms : List Term) (inputs : ℕ → ℕ) (x : Breach) → Tells terms inputs left x → Tells terms inputs all x

-- the failures of other faults
pub record AreOthers (b : Breach) (all kept : List Failure) : Type 0 where
  pub failures : (terms : List Term) → AreFailures terms all → AreFailures terms kept
  pub there : (terms : List Term) (inputs : ℕ → ℕ) (x : Breach) → Tells terms inputs all x → (x ≡ b) ⊎ Tells terms inputs kept x
  pub back : (terms : List Term) (inputs : ℕ → ℕ) (x : Breach) → Tells terms inputs kept x → Tells terms inputs all x × (x ≡ b → ⊥)

-- the failures of this fault among those before the ones that are left
pub record IsPicked (b : Breach) (all kept left : List Failure) : Type 0 where
  pub failures : (terms : List Term) → AreFailures terms all → AreFailures terms kept × AreFailures terms left
  pub there : (terms : List Term) (inputs : ℕ → ℕ) → Tells terms inputs all b → Tells terms inputs kept b ⊎ Tells terms inputs left b
  pub kept_back : (terms : List Term) (inputs : ℕ → ℕ) (x : Breach) → Tells terms inputs kept x → (x ≡ b) × Tells terms inputs all b
  pub left_back : (terms : List Term) (inputs : ℕ → ℕ) (x : Breach) → Tells terms inputs left x → Tells terms inputs all x

-- the failures of this fault
pub record AreOwn (b : Breach) (all kept : List Failure) : Type 0 where
  pub failures : (terms : List Term) → AreFailures terms all → AreFailures terms kept
  pub there : (terms : List Term) (inputs : ℕ → ℕ) → Tells terms inputs all b → Tells terms inputs kept b
  pub back : (terms : List Term) (inputs : ℕ → ℕ) (x : Breach) → Tells terms inputs kept x → (x ≡ b) × Tells terms inputs all b
