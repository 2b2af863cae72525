use Rattle.std.proofs.Common.{◌≡◌, ◌+◌, drop, flat_map, length}
use Rattle.mir_program.specs.Joined.{written}
use Rattle.mir_program.specs.Mentions.{vtable_types}
use Rattle.decl_counts.proofs.taking.take_vtables.Given as goal

abbrev pub invariant-loop-vtable : goal.invariant-loop-vtable
invariant-loop-vtable l = l.rest + length (flat_map (vtable_types written) l.vtables) ≡ l.initial.rest + length (flat_map (vtable_types written) (drop l.vtable-index l.vtables))
