use Rattle.mir_grammar.proofs.OneReading.{has_one_reading}
use Rattle.mir_grammar.proofs.laws.one_reading.Goals as goal

pub returns : goal.returns
returns c = has_one_reading
