use Rattle.std.proofs.Common.{length}
use Rattle.scalar_terms.proofs.merge.+pick_slots.Given as goal

abbrev pub decreases-pick_slots : goal.decreases-pick_slots
decreases-pick_slots l = length l.first.now
