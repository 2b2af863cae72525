use Rattle.std.proofs.Common.{◌≡◌, length}
use Rattle.decl_tree.specs.Keys.{texts_now, is_among}
use Rattle.decl_tree.proofs.keys.is_among.Given as goal

abbrev pub invariant-loop-left : goal.invariant-loop-left
invariant-loop-left l = is_among (texts_now l.left) l.key ≡ is_among (texts_now l.keys) l.key

abbrev pub decreases-loop-left : goal.decreases-loop-left
decreases-loop-left l = length l.left
