use Rattle.std.proofs.Common.{◌≡◌, ◌++◌, drop}
use Rattle.canonical_text.specs.Rvalues.{more_fields}
use Rattle.canonical_text.proofs.rvalues.push_more_fields.Given as goal

abbrev pub invariant-loop-field : goal.invariant-loop-field
invariant-loop-field l = l.out.items ++ more_fields (drop l.field-index l.fields) ≡ l.initial.out.items ++ more_fields l.fields
