use Rattle.std.proofs.Common.{◌≡◌, ◌-◌, drop, length}
use Rattle.type_rules.specs.Entries.{locals_known}
use Rattle.entry_types.specs.Paths.{list_path}
use Rattle.entry_types.proofs.rules.locals_known.Given as goal

abbrev pub invariant-loop-at : goal.invariant-loop-at
invariant-loop-at l = locals_known l.body (list_path l.list) l.at (drop l.at l.locals) ≡ locals_known l.body (list_path l.list) 0 l.locals

abbrev pub decreases-loop-at : goal.decreases-loop-at
decreases-loop-at l = length l.locals - l.at
