-- Gates that have moved to other variables.
use Rattle.std.specs.Prelude.{◌≡◌, ◌≢◌, ◌⊎◌, ℕ, Bool, true, false, List, [], ◌∷◌, ◌++◌, ◌+◌, ◌-◌, ◌*◌, ◌/◌, ◌%◌, ◌<◌, ◌≤◌, ◌==◌, nat_lt, if◌then◌else◌, length, get_or}
use Rattle.std.specs.List.{list_any}
use Rattle.bit_gates.specs.declared.gate.Gate.{Gate}
use Rattle.bit_gates.specs.declared.gate.Gate.TheVariants.{True, And, Xor, Choose}
use Rattle.bit_gates.specs.Values.{signed, gate_value}
use Rattle.bit_gates.specs.Circuit.{Circuit, size, value}
use Rattle.bit_gates.specs.Made.{IsMade, AreIn}
use Rattle.gate_trim.specs.Reading.{reads}
use Rattle.gate_trim.specs.Trimmed.{IsCircuit}

-- the literal, where these literals now stand for the gates
abbrev pub moved : List ℕ → ℕ → ℕ → ℕ
moved places inputs literal =
    if nat_lt (literal / 2) inputs then literal else signed (get_or places (literal / 2 - inputs) 0) (literal % 2 == 1)

-- the gate that reads the moved literals
abbrev pub moved_gate : List ℕ → ℕ → Gate → Gate
moved_gate places inputs True = True
moved_gate places inputs (And a b) = And (moved places inputs a) (moved places inputs b)
moved_gate places inputs (Xor a b) = Xor (moved places inputs a) (moved places inputs b)
moved_gate places inputs (Choose test a b) = Choose (moved places inputs test) (moved places inputs a) (moved places inputs b)

-- the moved gate is a new one, and the literal stands for it
pub record IsPushed (old new : Circuit) (places : List ℕ) (gate : Gate) (literal : ℕ) : Type 0 where
  pub made : IsMade old new literal (λ v. gate_value v (moved_gate places old.inputs gate))
  pub gates : new.gates ≡ old.gates ++ moved_gate places old.inputs gate ∷ []
  pub literal_is : literal ≡ 2 * size old
  pub circuit : IsCircuit new

-- no gate is new, and the literal is true where the gate is wanted, which then is the constant
pub record IsPassed (old new : Circuit) (wanted : Bool) (gate : Gate) (literal : ℕ) : Type 0 where
  pub same : new ≡ old
  pub inside : literal < 2 * size old
  pub constant : wanted ≡ true → gate ≡ True
  pub truth : (bits : ℕ → Bool) → value old bits literal ≡ true

abbrev pub IsMovedGate : Circuit → Circuit → List ℕ → Bool → Gate → ℕ → Type 0
IsMovedGate old new places wanted gate literal =
    ((wanted ≡ true) × IsPushed old new places gate literal) ⊎ IsPassed old new wanted gate literal

-- so many gates stand before those that have not been looked at: the gate behind those that were there, if it is one that reads, and the rest as it was
pub record IsPutBehind (old new : List Gate) (kept next : ℕ) (gate : Gate) : Type 0 where
  pub count : (next ≡ kept) ⊎ ((gate ≢ True) × (next ≡ kept + 1))
  pub rest : (k : ℕ) → next ≤ k → get_or new k True ≡ get_or old k True

-- some marked gate below this number has moved to this variable
pub record HasOrigin (inputs : ℕ) (marks : List Bool) (count : ℕ) (places : List ℕ) (gate : ℕ) : Type 0 where
  pub origin : ℕ
  pub below : origin < count
  pub marked : get_or marks origin false ≡ true
  pub place : get_or places origin 0 ≡ 2 * (inputs + gate)

-- so many gates have moved: the marked ones have their values, each new gate is one of them, and what they read is read
pub record AreMoved (old : Circuit) (marks : List Bool) (count : ℕ) (new : Circuit) (places : List ℕ) : Type 0 where
  pub inputs : new.inputs ≡ old.inputs
  pub circuit : IsCircuit new
  pub one_each : length places ≡ count
  pub inside : AreIn new places
  pub values : (k : ℕ) → k < count → get_or marks k false ≡ true → (bits : ℕ → Bool) → value new bits (get_or places k 0) ≡ value old bits (2 * (old.inputs + k))
  pub origins : (k : ℕ) → 0 < k → k < length new.gates → HasOrigin old.inputs marks count places k
  pub readers : (k j : ℕ) → k < count → get_or marks k false ≡ true → reads (old.inputs + j) (get_or old.gates k True) ≡ true → get_or places j 0 % 2 ≡ 0
      → list_any (reads (get_or places j 0 / 2)) new.gates ≡ true
