use Rattle.mir_grammar.proofs.FunctionReady
use Rattle.mir_grammar.proofs.laws.each_type_is_right.Goals as goal

pub returns : goal.returns
returns c = FunctionReady.each_type_is_right
