-- Paths in two and what they make, without references.
use Rattle.std.specs.Prelude.{Option, Some, None}
use Rattle.type_rules.specs.Aggregates as rules
use Rattle.code_types.specs.declared.aggregates.Halves.{Halves}
use Rattle.code_types.specs.declared.aggregates.Made.{Made}

abbrev pub halves_seen : Halves → rules.Halves
halves_seen h = record { front = h.front.now; word = h.word.now }

abbrev pub some_halves : Option Halves → Option rules.Halves
some_halves None = None
some_halves (Some h) = Some (halves_seen h)

abbrev pub made_seen : Made → rules.Made
made_seen m = record { ty = m.ty.now; fields = m.fields.now }

abbrev pub some_made : Option Made → Option rules.Made
some_made None = None
some_made (Some m) = Some (made_seen m)
