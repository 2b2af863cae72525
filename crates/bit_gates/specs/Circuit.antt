-- A circuit: a count of input bits, and gates. Its variables are the input bits, and then the gates in order.
use Rattle.std.specs.Prelude.{ℕ, Bool, List, [], ◌∷◌, ◌+◌, length}
use Rattle.bit_gates.specs.declared.gate.Gate.{Gate}
use Rattle.bit_gates.specs.declared.gate.Gate.TheVariants.{True}
use Rattle.region_pool.specs.Literals.{literal_value}
use Rattle.bit_gates.specs.Values.{valued}

pub record Circuit : Type 0 where
  pub inputs : ℕ
  pub gates : List Gate

-- how many variables there are
abbrev pub size : Circuit → ℕ
size c = c.inputs + length c.gates

-- the value of a literal where the input bits have these values
unfoldable pub value : Circuit → (ℕ → Bool) → ℕ → Bool
value c bits = literal_value (valued bits c.inputs c.gates)

-- the circuit of the constant alone
abbrev pub constant_circuit : ℕ → Circuit
constant_circuit inputs = record { inputs = inputs; gates = True ∷ [] }
