use Rattle.std.proofs.Common.{◌≡◌, ◌++◌, drop, flat_map}
use Rattle.program_types.specs.Parts.{parts}
use Rattle.program_types.proofs.written.+parts.Given as goal

abbrev pub invariant-push_items-loop-item : goal.invariant-push_items-loop-item
invariant-push_items-loop-item l = l.out ++ flat_map parts (drop l.item-index l.items) ≡ l.initial.out ++ flat_map parts l.items
