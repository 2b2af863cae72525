use Rattle.std.proofs.Common.{◌≡◌, ◌-◌, drop, length}
use Rattle.type_rules.specs.Entries.{places_fit}
use Rattle.entry_types.specs.Paths.{list_path}
use Rattle.entry_types.proofs.known.places_fit.Given as goal

abbrev pub invariant-loop-at : goal.invariant-loop-at
invariant-loop-at l = places_fit l.declared l.body (list_path l.list) l.at (drop l.at l.places) ≡ places_fit l.declared l.body (list_path l.list) 0 l.places

abbrev pub decreases-loop-at : goal.decreases-loop-at
decreases-loop-at l = length l.places - l.at
