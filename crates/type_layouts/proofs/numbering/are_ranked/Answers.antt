use Rattle.std.proofs.Common.{arith}
use Rattle.type_layouts.proofs.RankLaws.{all_ranked}
use Rattle.type_layouts.proofs.numbering.are_ranked.Goals as goal

pub returns : goal.returns
returns c = all_ranked c.args.outlines.now c.args.ranks.now c.loop-place.place (omega arith) c.loop-place.invariant
