use Rattle.std.proofs.Common.{◌≡◌, ◌++◌, drop, map}
use Rattle.typed_program.specs.Places.{field_offset}
use Rattle.typed_program.proofs.places.offsets_of.Given as goal

abbrev pub invariant-loop-field : goal.invariant-loop-field
invariant-loop-field l = l.places ++ map field_offset (drop l.field-index l.fields) ≡ map field_offset l.fields
