use Rattle.std.proofs.Common.{◌≡◌, take}
use Rattle.std.specs.Prelude.{map}
use Rattle.gate_trim.specs.Moves.{moved}
use Rattle.gate_trim.proofs.moves.moved_words.Given as goal

abbrev pub invariant-loop-i : goal.invariant-loop-i
invariant-loop-i l = map (λ word. word.items) l.all.items ≡ map (map (moved l.places l.inputs)) (take l.i (map (λ word. word.items) l.words))
