use Rattle.std.proofs.Common.{◌≡◌, ◌++◌, drop, map}
use Rattle.layout_rules.specs.Mentions.{named_row}
use Rattle.layout_rules.proofs.declared_rows.push_named.Given as goal

abbrev pub invariant-loop-item : goal.invariant-loop-item
invariant-loop-item l = l.out.items ++ map (named_row l.scope) (drop l.item-index l.items) ≡ l.initial.out.items ++ map (named_row l.scope) l.items
