use Rattle.std.proofs.Common.{◌≡◌, ◌+◌, false, drop, length, map}
use Rattle.mir_program.specs.Joined.{all_in, written}
use Rattle.decl_counts.proofs.taking.+types.Given as goal

abbrev pub invariant-take_items-loop-item : goal.invariant-take_items-loop-item
invariant-take_items-loop-item l = l.rest + length (all_in (map (written false) l.items)) ≡ l.initial.rest + length (all_in (map (written false) (drop l.item-index l.items)))
