use Rattle.std.proofs.Common.{◌≡◌, false, length}
use Rattle.mir_lex.specs.Lexing.{skipped}
use Rattle.mir_lex.proofs.lexer.past_separators.Given as goal

abbrev pub invariant-loop-bytes : goal.invariant-loop-bytes
invariant-loop-bytes l = skipped l.comment l.bytes ≡ skipped false l.text

abbrev pub decreases-loop-bytes : goal.decreases-loop-bytes
decreases-loop-bytes l = length l.bytes
