use Rattle.std.proofs.Common.{refl}
use Rattle.value_terms.proofs.RvalueLaws.{use_made}
use Rattle.value_terms.proofs.rvalues.use_terms.Goals as goal

pub returns : goal.returns
returns c = use_made c.args.function.now c.args.terms.now c.read.new.terms c.bit.new.terms c.args.slots.now c.args.operand.now c.in_ok-slot.slot _ c.requires.kind refl refl c.in_ok-slot.ensures c.in_ok-lawful.ensures
