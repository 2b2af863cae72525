use Rattle.raw_functions.specs.Steps.{is_number}
use Rattle.raw_functions.proofs.Meaning.{blocks_more}
use Rattle.raw_functions.proofs.blocks.blocks_among.Goals as goal

pub loop-block-preserved : goal.loop-block-preserved
loop-block-preserved c = blocks_more (is_number c.args.edges.now.keys) c.loop-block.yielded c.in-Some.block c.loop-block.made.items c.push_block.new.made.items c.loop-block.invariant c.in_ok-push_block.ensures
