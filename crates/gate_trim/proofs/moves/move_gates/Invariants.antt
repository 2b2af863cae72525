use Rattle.gate_trim.proofs.FrontLaws.{AreInFront}
use Rattle.gate_trim.proofs.moves.move_gates.Given as goal

abbrev pub invariant-loop-k : goal.invariant-loop-k
invariant-loop-k l = AreInFront l.inputs l.fn.gates l.marks l.k l.gates l.kept l.places.items
