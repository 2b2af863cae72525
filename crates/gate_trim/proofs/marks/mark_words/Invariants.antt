use Rattle.std.proofs.Common.{◌+◌, take}
use Rattle.std.specs.Prelude.{map}
use Rattle.gate_trim.specs.Reading.{stands_in}
use Rattle.gate_trim.specs.Marks.{AreMarked}
use Rattle.gate_trim.proofs.marks.mark_words.Given as goal

abbrev pub invariant-loop-i : goal.invariant-loop-i
invariant-loop-i l = AreMarked l.fn.marks l.marks (λ k. stands_in (l.inputs + k) (take l.i (map (λ word. word.items) l.words)))
