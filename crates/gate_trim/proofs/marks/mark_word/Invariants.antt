use Rattle.std.proofs.Common.{◌+◌, take}
use Rattle.std.specs.List.{list_any}
use Rattle.gate_trim.specs.Reading.{is_of}
use Rattle.gate_trim.specs.Marks.{AreMarked}
use Rattle.gate_trim.proofs.marks.mark_word.Given as goal

abbrev pub invariant-loop-i : goal.invariant-loop-i
invariant-loop-i l = AreMarked l.fn.marks l.marks (λ k. list_any (is_of (l.inputs + k)) (take l.i l.word))
