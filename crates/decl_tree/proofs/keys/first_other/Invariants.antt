use Rattle.std.proofs.Common.{◌≡◌}
use Rattle.toml.specs.View.{members_view}
use Rattle.decl_tree.specs.Keys.{texts_now, first_other}
use Rattle.decl_tree.proofs.keys.first_other.Given as goal

abbrev pub invariant-members : goal.invariant-members
invariant-members l =
    goal.iterator-members.can_next l.key-iterator
    × goal.iterator-members.is_finite l.key-iterator
    × (first_other (texts_now l.keys) (members_view l.key-iterator) ≡ first_other (texts_now l.keys) (members_view l.table.entries))
