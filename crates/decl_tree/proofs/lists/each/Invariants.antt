use Rattle.std.proofs.Common.{◌≡◌, ◌+◌, length, []}
use Rattle.toml.specs.View.{items_view}
use Rattle.decl_tree.specs.Lists.{each, prefixed}
use Rattle.decl_tree.proofs.lists.each.Given as goal

abbrev pub invariant-loop-left : goal.invariant-loop-left
invariant-loop-left g l =
    (prefixed l.out.items (each (g.R.Element.meaning l.reader) l.at l.seen (items_view l.left)) ≡ each (g.R.Element.meaning l.reader) 0 [] (items_view l.items))
    × (l.at + length l.left ≡ length l.items)

abbrev pub decreases-loop-left : goal.decreases-loop-left
decreases-loop-left g l = length l.left
