use Rattle.std.proofs.Common.{◌≡◌, ◌-◌, drop, length}
use Rattle.type_rules.specs.Entries.{items_fit}
use Rattle.entry_types.specs.Paths.{list_path}
use Rattle.entry_types.proofs.types.items_fit.Given as goal

abbrev pub invariant-loop-at : goal.invariant-loop-at
invariant-loop-at l = items_fit l.declared l.items (list_path l.list) l.at (drop l.at l.fields) ≡ items_fit l.declared l.items (list_path l.list) 0 l.fields

abbrev pub decreases-loop-at : goal.decreases-loop-at
decreases-loop-at l = length l.fields - l.at
