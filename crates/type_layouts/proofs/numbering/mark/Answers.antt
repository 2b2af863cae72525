use Rattle.type_layouts.proofs.HeldLaws.{set_fewer}
use Rattle.type_layouts.proofs.numbering.mark.Goals as goal

pub returns : goal.returns
returns c = set_fewer c.args.marks.now c.args.place c.if-not-is_free.ensures.0 c.if-not-is_free.ensures.1
