use Rattle.std.proofs.Common.{◌≡◌, ◌≤◌, ◌+◌, take}
use Rattle.mir_lex.specs.Places.{line_behind, column_behind}
use Rattle.mir_lex.proofs.place_in_text.text_place.Given as goal

abbrev pub invariant-loop-byte : goal.invariant-loop-byte
invariant-loop-byte l = (l.line ≡ line_behind (take l.byte-index l.before)) × (l.column ≡ column_behind (take l.byte-index l.before)) × (l.line ≤ l.byte-index + 1) × (l.column ≤ l.byte-index + 1)
