use Rattle.std.proofs.Common.{◌≡◌, ◌+◌, ◌-◌, length}
use Rattle.mir_lex.specs.Lexing.{lexed_from}
use Rattle.mir_lex.proofs.LexSteps.{with_before}
use Rattle.mir_lex.proofs.lexer.lexed.Given as goal

abbrev pub invariant-loop-turn : goal.invariant-loop-turn
invariant-loop-turn l = with_before l.tokens.items (lexed_from (length l.text + 1 - l._turn) (length l.text) l.bytes) ≡ lexed_from (length l.text + 1) (length l.text) l.text
