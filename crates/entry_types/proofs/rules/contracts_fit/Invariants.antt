use Rattle.std.proofs.Common.{◌≡◌, ◌-◌, drop, length}
use Rattle.type_rules.specs.Entries.{contracts_fit}
use Rattle.entry_types.proofs.rules.contracts_fit.Given as goal

abbrev pub invariant-loop-at : goal.invariant-loop-at
invariant-loop-at l = contracts_fit l.functions l.declared l.at (drop l.at l.contracts) ≡ contracts_fit l.functions l.declared 0 l.contracts

abbrev pub decreases-loop-at : goal.decreases-loop-at
decreases-loop-at l = length l.contracts - l.at
