use Rattle.std.proofs.Common.{◌≡◌, ◌-◌, drop, length}
use Rattle.type_rules.specs.Entries.{types_fit}
use Rattle.entry_types.proofs.types.types_fit.Given as goal

abbrev pub invariant-loop-at : goal.invariant-loop-at
invariant-loop-at l = types_fit l.functions l.declared l.at (drop l.at l.types) ≡ types_fit l.functions l.declared 0 l.types

abbrev pub decreases-loop-at : goal.decreases-loop-at
decreases-loop-at l = length l.types - l.at
