use Rattle.std.proofs.Common.{◌≡◌, ◌-◌, drop, length}
use Rattle.type_rules.specs.Entries.{aliases_fit}
use Rattle.entry_types.proofs.rules.aliases_fit.Given as goal

abbrev pub invariant-loop-at : goal.invariant-loop-at
invariant-loop-at l = aliases_fit l.functions l.at (drop l.at l.aliases) ≡ aliases_fit l.functions 0 l.aliases

abbrev pub decreases-loop-at : goal.decreases-loop-at
decreases-loop-at l = length l.aliases - l.at
