use Rattle.mir_text.proofs.Answering.{has_one_meaning}
use Rattle.mir_text.proofs.laws.one_meaning.Goals as goal

pub returns : goal.returns
returns c = has_one_meaning c.args.text.now
