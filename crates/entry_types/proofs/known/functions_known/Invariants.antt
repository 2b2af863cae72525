use Rattle.std.proofs.Common.{◌≡◌, ◌-◌, drop, length}
use Rattle.type_rules.specs.Entries.{functions_known}
use Rattle.entry_types.specs.Paths.{list_path}
use Rattle.entry_types.proofs.known.functions_known.Given as goal

abbrev pub invariant-loop-at : goal.invariant-loop-at
invariant-loop-at l = functions_known l.functions (list_path l.list) l.at (drop l.at l.names) ≡ functions_known l.functions (list_path l.list) 0 l.names

abbrev pub decreases-loop-at : goal.decreases-loop-at
decreases-loop-at l = length l.names - l.at
