use Rattle.std.proofs.Common.{◌≡◌, ◌+◌, drop, flat_map, length}
use Rattle.mir_program.specs.Joined.{written_in_entry}
use Rattle.decl_counts.proofs.taking.take_entries.Given as goal

abbrev pub invariant-loop-own : goal.invariant-loop-own
invariant-loop-own l = l.rest + length (flat_map written_in_entry l.types) ≡ l.initial.rest + length (flat_map written_in_entry (drop l.own-index l.types))
