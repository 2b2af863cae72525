-- How a circuit is kept.
use Rattle.std.specs.Prelude.{◌≡◌, ◌+◌, ◌<◌, ◌^◌, vec_len, slice_get, Some}
use Rattle.bit_gates.specs.declared.gate.Gate.TheVariants.{True}
use Rattle.bit_gates.specs.declared.net.Net.TheInside.{Inside}
use Rattle.bit_gates.specs.Circuit.{Circuit}
use Rattle.bit_gates.specs.Values.{AreInOrder}

abbrev pub circuit_of : Inside → Circuit
circuit_of n = record { inputs = n.inputs; gates = n.gates.items }

-- the first gate is the constant, each gate reads earlier variables alone, and a literal is a 64-bit word
pub record IsKept (n : Inside) : Type 0 where
  pub first : slice_get n.gates.items 0 ≡ Some True
  pub in_order : AreInOrder n.inputs n.gates.items
  pub few : n.inputs + vec_len n.gates < 2 ^ 60
