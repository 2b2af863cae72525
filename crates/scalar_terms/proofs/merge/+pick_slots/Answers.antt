use Rattle.std.proofs.Common.{arith}
use Rattle.value_terms.proofs.MadeLaws.{bit_kept}
use Rattle.value_terms.proofs.RvalueLaws.{inside_kept}
use Rattle.scalar_terms.proofs.MergeLaws.{pairs_kept, picked_on, rest_pairs, rest_shorter}
use Rattle.scalar_terms.proofs.merge.+pick_slots.Goals as goal

pub pick_slots-requires : goal.pick_slots-requires
pick_slots-requires t c = (
  omega (arith, rest_shorter c.args.first.now c.in-len1-up.len_at_least, c.decreases),
  (
    bit_kept c.args.terms.now c.pick.new.terms _ c.in_ok-slot-in-len1-up-second.ensures.grown.keeps c.requires.test,
    rest_pairs c.pick.new.terms c.args.first.now c.args.second.now c.in-len1-up.len_at_least c.in-len1-up-second.len_at_least (pairs_kept c.args.terms.now c.pick.new.terms c.args.first.now c.args.second.now c.in_ok-slot-in-len1-up-second.ensures.grown.keeps c.requires.pairs),
  ),
)

pub returns-in_ok-pick_slots-in-len1-up-second : goal.returns-in_ok-pick_slots-in-len1-up-second
returns-in_ok-pick_slots-in-len1-up-second t c = picked_on c.args.terms.now c.pick.new.terms c.pick_slots.new.terms c.args.test.0 c.args.first.now c.args.second.now _ c.in_ok-slot-in-len1-up-second.slot _ _ _ c.in-len1-up.len_at_least c.in-len1-up-second.len_at_least
    (inside_kept c.args.terms.now c.pick.new.terms _ c.in_ok-slot-in-len1-up-second.ensures.grown.keeps c.requires.test.inside) c.in_ok-slot-in-len1-up-second.ensures.grown c.requires.pairs c.in_ok-slot-in-len1-up-second.ensures.picked c.in_ok-push-in-len1-up-second.ensures.items c.in_ok-pick_slots-in-len1-up-second.ensures
