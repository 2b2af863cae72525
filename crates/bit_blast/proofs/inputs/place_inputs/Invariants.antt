use Rattle.std.proofs.Common.{◌≡◌, ◌<◌, ℕ, get_or, length}
use Rattle.bit_blast.specs.Inputs.{all_bits}
use Rattle.bit_blast.proofs.inputs.place_inputs.Given as goal

abbrev pub invariant-loop-number : goal.invariant-loop-number
invariant-loop-number l = record { bits_are : l.bits.items ≡ all_bits l.widths l.number; one_each : length l.places.items ≡ l.number; places_are : (k : ℕ) → k < l.number → get_or l.places.items k 0 ≡ length (all_bits l.widths k) }
