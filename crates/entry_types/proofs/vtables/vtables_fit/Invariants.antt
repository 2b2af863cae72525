use Rattle.std.proofs.Common.{◌≡◌, ◌-◌, drop, length}
use Rattle.type_rules.specs.Entries.{vtables_fit}
use Rattle.entry_types.proofs.vtables.vtables_fit.Given as goal

abbrev pub invariant-loop-at : goal.invariant-loop-at
invariant-loop-at l = vtables_fit l.functions l.declared l.at (drop l.at l.vtables) ≡ vtables_fit l.functions l.declared 0 l.vtables

abbrev pub decreases-loop-at : goal.decreases-loop-at
decreases-loop-at l = length l.vtables - l.at
