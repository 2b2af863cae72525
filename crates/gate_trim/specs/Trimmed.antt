-- A circuit for the same roots in which each gate is read.
use Rattle.std.specs.Prelude.{◌≡◌, ℕ, Bool, List, ◌^◌, ◌<◌, All, map, slice_get, Some}
use Rattle.bit_gates.specs.declared.gate.Gate.{Gate}
use Rattle.bit_gates.specs.declared.gate.Gate.TheVariants.{True}
use Rattle.bit_gates.specs.Values.{AreInOrder}
use Rattle.bit_gates.specs.Circuit.{Circuit, size, value}
use Rattle.bit_gates.specs.Made.{AreIn}
use Rattle.gate_trim.specs.Reading.{IsEachRead}

-- so many inputs, and these gates
abbrev pub circuit : ℕ → List Gate → Circuit
circuit inputs gates = record { inputs = inputs; gates = gates }

-- the first gate is the constant, each gate reads variables before it alone, and a literal is a 64-bit word
pub record IsCircuit (c : Circuit) : Type 0 where
  pub first : slice_get c.gates 0 ≡ Some True
  pub in_order : AreInOrder c.inputs c.gates
  pub few : size c < 2 ^ 60

-- the words of the new circuit have the values of those of the old one, bit by bit, and no gate is there for nobody
pub record IsTrimmed (old : Circuit) (roots : List (List ℕ)) (new : Circuit) (words : List (List ℕ)) : Type 0 where
  pub gates : IsCircuit new
  pub inside : All (AreIn new) words
  pub values : (bits : ℕ → Bool) → map (map (value new bits)) words ≡ map (map (value old bits)) roots
  pub read : IsEachRead new words
