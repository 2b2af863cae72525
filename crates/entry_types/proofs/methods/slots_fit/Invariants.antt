use Rattle.std.proofs.Common.{◌≡◌, ◌-◌, drop, length}
use Rattle.type_rules.specs.Entries.{slots_fit}
use Rattle.entry_types.specs.Paths.{list_path}
use Rattle.entry_types.proofs.methods.slots_fit.Given as goal

abbrev pub invariant-loop-at : goal.invariant-loop-at
invariant-loop-at l = slots_fit l.functions l.ty l.models (list_path l.list) l.at (drop l.at l.methods) ≡ slots_fit l.functions l.ty l.models (list_path l.list) 0 l.methods

abbrev pub decreases-loop-at : goal.decreases-loop-at
decreases-loop-at l = length l.methods - l.at
