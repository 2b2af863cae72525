use Rattle.std.proofs.Common.{◌≡◌, ◌++◌, drop, flat_map}
use Rattle.program_types.specs.Mentioned.{entry_types}
use Rattle.program_types.proofs.declared_types.push_entries.Given as goal

abbrev pub invariant-loop-item : goal.invariant-loop-item
invariant-loop-item l = l.out ++ flat_map entry_types (drop l.item-index l.items) ≡ l.initial.out ++ flat_map entry_types l.items
