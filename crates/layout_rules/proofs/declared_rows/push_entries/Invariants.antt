use Rattle.std.proofs.Common.{◌≡◌, ◌++◌, drop, flat_map}
use Rattle.layout_rules.specs.Mentions.{entry_rows}
use Rattle.layout_rules.proofs.declared_rows.push_entries.Given as goal

abbrev pub invariant-loop-item : goal.invariant-loop-item
invariant-loop-item l = l.out.items ++ flat_map (entry_rows l.scope) (drop l.item-index l.items) ≡ l.initial.out.items ++ flat_map (entry_rows l.scope) l.items
