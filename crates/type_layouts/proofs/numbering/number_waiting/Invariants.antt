use Rattle.type_layouts.proofs.numbering.number_waiting.Given as goal

abbrev pub decreases-loop-left : goal.decreases-loop-left
decreases-loop-left l = l.left
