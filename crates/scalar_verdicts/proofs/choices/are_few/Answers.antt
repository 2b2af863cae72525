use Rattle.scalar_verdicts.proofs.WayLaws.{ways_more}
use Rattle.scalar_verdicts.proofs.choices.are_few.Goals as goal

pub loop-number-preserved : goal.loop-number-preserved
loop-number-preserved c = ways_more c.args.function.now c.loop-number.number c.loop-number.marks c.visit.new.marks c.loop-number.ways c.visit.result c.times-ways.result c.loop-number.invariant.marks c.visit.ensures.marks c.loop-number.invariant.ways c.visit.ensures.ways c.times-ways.ensures
