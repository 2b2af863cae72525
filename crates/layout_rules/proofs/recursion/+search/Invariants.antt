use Rattle.std.proofs.Common.{◌+◌, ◌*◌}
use Rattle.type_layouts.specs.Marks.{unmarked}
use Rattle.layout_rules.specs.Search.{Walked}
use Rattle.layout_rules.proofs.recursion.+search.Given as goal

abbrev pub invariant-visit-loop-h : goal.invariant-visit-loop-h
invariant-visit-loop-h l = Walked l.outlines l.place l.initial.marks l.marks l.held l.h-index

abbrev pub decreases-visit : goal.decreases-visit
decreases-visit l = 2 * unmarked l.marks.now + 1

abbrev pub decreases-enter : goal.decreases-enter
decreases-enter l = 2 * unmarked l.marks.now
