-- What a list of gates computes.
use Rattle.std.specs.Prelude.{ℕ, Bool, true, false, not, ◌&&◌, List, [], ◌∷◌, ◌+◌, ◌*◌, ◌<◌, ◌==◌, if◌then◌else◌}
use Rattle.region_pool.specs.Literals.{literal_value, negation}
use Rattle.bit_gates.specs.declared.gate.Gate.{Gate}
use Rattle.bit_gates.specs.declared.gate.Gate.TheVariants.{True, And, Xor, Choose}

-- the literal or its negation
abbrev pub signed : ℕ → Bool → ℕ
signed literal true = negation literal
signed literal false = literal

-- one of the two alone
abbrev pub differ : Bool → Bool → Bool
differ true b = not b
differ false b = b

-- the value of a gate, by the values of the literals that it reads
abbrev pub gate_value : (ℕ → Bool) → Gate → Bool
gate_value v True = true
gate_value v (And a b) = v a && v b
gate_value v (Xor a b) = differ (v a) (v b)
gate_value v (Choose test a b) = if v test then v a else v b

-- the values with one more
abbrev pub with_value : (ℕ → Bool) → ℕ → Bool → ℕ → Bool
with_value values at b variable = if variable == at then b else values variable

-- the values of all variables, where the gates are the variables from this number on
unfoldable pub valued : (ℕ → Bool) → ℕ → List Gate → ℕ → Bool
valued values at [] = values
valued values at (gate ∷ gates) = valued (with_value values at (gate_value (literal_value values) gate)) (at + 1) gates

-- the literals that the gate reads are of variables below this number
abbrev pub IsGateOf : ℕ → Gate → Type 0
IsGateOf count True = Unit {0}
IsGateOf count (And a b) = (a < 2 * count) × (b < 2 * count)
IsGateOf count (Xor a b) = (a < 2 * count) × (b < 2 * count)
IsGateOf count (Choose test a b) = (test < 2 * count) × (a < 2 * count) × (b < 2 * count)

-- each gate reads literals of earlier variables alone, where the gates are the variables from this number on
unfoldable pub AreInOrder : ℕ → List Gate → Type 0
AreInOrder at [] = Unit {0}
AreInOrder at (gate ∷ gates) = IsGateOf at gate × AreInOrder (at + 1) gates
