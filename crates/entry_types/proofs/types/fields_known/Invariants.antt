use Rattle.std.proofs.Common.{◌≡◌, ◌-◌, drop, length}
use Rattle.type_rules.specs.Entries.{fields_known}
use Rattle.entry_types.specs.Paths.{list_path}
use Rattle.entry_types.proofs.types.fields_known.Given as goal

abbrev pub invariant-loop-at : goal.invariant-loop-at
invariant-loop-at l = fields_known l.declared (list_path l.list) l.at (drop l.at l.fields) ≡ fields_known l.declared (list_path l.list) 0 l.fields

abbrev pub decreases-loop-at : goal.decreases-loop-at
decreases-loop-at l = length l.fields - l.at
