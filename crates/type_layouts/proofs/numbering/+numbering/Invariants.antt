use Rattle.std.proofs.Common.{◌+◌, ◌*◌, ◌≤◌}
use Rattle.type_layouts.specs.Marks.{unmarked}
use Rattle.type_layouts.proofs.numbering.+numbering.Given as goal

abbrev pub invariant-number_held-loop-h : goal.invariant-number_held-loop-h
invariant-number_held-loop-h l = unmarked l.marks ≤ unmarked l.initial.marks

abbrev pub decreases-number_held : goal.decreases-number_held
decreases-number_held l = 2 * unmarked l.marks.now + 1

abbrev pub decreases-number : goal.decreases-number
decreases-number l = 2 * unmarked l.marks.now
