use Rattle.std.proofs.Common.{◌≡◌, length}
use Rattle.layout_rules.specs.Placing.{some_share}
use Rattle.layout_rules.proofs.placing.some_share.Given as goal

abbrev pub invariant-loop-left : goal.invariant-loop-left
invariant-loop-left l = some_share l.left ≡ some_share l.spots

abbrev pub decreases-loop-left : goal.decreases-loop-left
decreases-loop-left l = length l.left
