use Rattle.std.proofs.Common.{◌≡◌, length}
use Rattle.decl_tree.specs.Labels.{with_labels}
use Rattle.decl_tree.proofs.labels.Seen.add_all.Given as goal

abbrev pub invariant-loop-left : goal.invariant-loop-left
invariant-loop-left l = with_labels l.self l.left ≡ with_labels l.fn.self l.labels

abbrev pub decreases-loop-left : goal.decreases-loop-left
decreases-loop-left l = length l.left
