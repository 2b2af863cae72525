use Rattle.raw_functions.proofs.Noting.{labels_found}
use Rattle.raw_functions.proofs.doubles.second_label.Goals as goal

pub returns : goal.returns
returns c = labels_found c.loop-left.names c.loop-left.left.now c.args.blocks.now c.second.result c.loop-left.invariant c.in_default.len_below c.second.ensures
