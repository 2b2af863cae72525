use Rattle.std.proofs.Common.{◌≡◌, ◌≤◌, ◌+◌, take}
use Rattle.mir_lex.specs.Places.{line_behind, column_behind}
use Rattle.raw_functions.proofs.places.place_on.Given as goal

abbrev pub invariant-loop-at : goal.invariant-loop-at
invariant-loop-at l = (l.line ≡ line_behind (take l.at l.text)) × (l.column ≡ column_behind (take l.at l.text)) × (l.line ≤ l.at + 1) × (l.column ≤ l.at + 1)
