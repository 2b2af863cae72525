use Rattle.std.proofs.Common.{sym, subst}
use Rattle.mir_lex.specs.Tokens.{IsLexing}
use Rattle.mir_lex.proofs.Answering.{answer_right}
use Rattle.mir_lex.proofs.lexer.tokens.Goals as goal

pub returns-in-Ok : goal.returns-in-Ok
returns-in-Ok c = subst (IsLexing c.args.text.now) (sym c.answer.ensures) (answer_right _ _ c.in-Ok.ensures)
