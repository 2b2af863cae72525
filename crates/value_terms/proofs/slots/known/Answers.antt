use Rattle.value_terms.proofs.SlotLaws.{known_slot}
use Rattle.value_terms.proofs.slots.known.Goals as goal

pub returns : goal.returns
returns c = known_slot c.args.terms.now c.bit.new.terms c.constant.new.terms c.args.word _ c.in_ok-set.ensures c.in_ok-word.ensures
