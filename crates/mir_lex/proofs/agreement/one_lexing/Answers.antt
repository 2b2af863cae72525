use Rattle.mir_lex.proofs.Agreeing.{has_one_lexing}
use Rattle.mir_lex.proofs.agreement.one_lexing.Goals as goal

pub returns : goal.returns
returns c = has_one_lexing c.args.text.now
