use Rattle.std.proofs.Common.{take}
use Rattle.gate_trim.specs.Marks.{AreMarked}
use Rattle.bit_blast.specs.Reached.{is_root}
use Rattle.bit_blast.proofs.reached.mark_roots.Given as goal

abbrev pub invariant-loop-i : goal.invariant-loop-i
invariant-loop-i l = AreMarked l.fn.marks l.marks (is_root (take l.i l.roots))
