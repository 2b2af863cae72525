use Rattle.std.proofs.Common.{◌≡◌, ◌+◌, drop, flat_map, length}
use Rattle.mir_program.specs.Joined.{written}
use Rattle.mir_program.specs.Mentions.{field_types}
use Rattle.decl_counts.proofs.taking.take_fields.Given as goal

abbrev pub invariant-loop-field : goal.invariant-loop-field
invariant-loop-field l = l.rest + length (flat_map (field_types written) l.fields) ≡ l.initial.rest + length (flat_map (field_types written) (drop l.field-index l.fields))
