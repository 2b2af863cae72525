use Rattle.std.proofs.Common.{◌≡◌, take}
use Rattle.std.specs.Prelude.{map}
use Rattle.gate_trim.specs.Moves.{moved}
use Rattle.gate_trim.proofs.moves.moved_word.Given as goal

abbrev pub invariant-loop-i : goal.invariant-loop-i
invariant-loop-i l = l.literals.items ≡ map (moved l.places l.inputs) (take l.i l.word)
