use Rattle.std.proofs.Common.{subst, sym, ◌<◌}
use Rattle.value_terms.proofs.MadeLaws.{bit_kept, grown_trans}
use Rattle.value_terms.proofs.RvalueLaws.{slots_kept}
use Rattle.scalar_terms.proofs.JoinLaws.{way_kept}
use Rattle.scalar_terms.proofs.MergeLaws.{rest_shorter}
use Rattle.scalar_terms.proofs.SwitchLaws.{all_on, arm_on, begun, first_arm}
use Rattle.scalar_terms.proofs.switches.switch_arms.Goals as goal

pub loop-ahead-init : goal.loop-ahead-init
loop-ahead-init c = begun c.args.function.now c.args.terms.now c.args.ways.now c.args.word.0 c.args.left.0 c.args.width c.args.slots.now c.args.arms.now c.args.otherwise c.requires.arms c.requires.word c.requires.width c.requires.left c.requires.slots c.requires.ways

pub equals-requires-clause-inside : goal.equals-requires-clause-inside
equals-requires-clause-inside c = c.loop-ahead.invariant.inside

pub equals-requires-clause-width_is : goal.equals-requires-clause-width_is
equals-requires-clause-width_is c = c.loop-ahead.invariant.width_is

pub equals-requires-clause-word : goal.equals-requires-clause-word
equals-requires-clause-word c = (first_arm _ c.args.width c.loop-ahead.ahead.now _ c.in-len1-up.len_at_least c.loop-ahead.invariant.arms).1

pub both-requires-clause-a_bit : goal.both-requires-clause-a_bit
both-requires-clause-a_bit c = bit_kept c.loop-ahead.terms c.equals.new.terms _ c.in_ok-is_equal.ensures.grown.keeps c.loop-ahead.invariant.bit

pub but_not-requires-clause-a_bit : goal.but_not-requires-clause-a_bit
but_not-requires-clause-a_bit c = bit_kept c.loop-ahead.terms c.both.new.terms _ (grown_trans c.loop-ahead.terms c.equals.new.terms c.both.new.terms c.in_ok-is_equal.ensures.grown c.in_ok-hit.ensures.grown).keeps c.loop-ahead.invariant.bit

pub but_not-requires-clause-b_bit : goal.but_not-requires-clause-b_bit
but_not-requires-clause-b_bit c = bit_kept c.equals.new.terms c.both.new.terms _ c.in_ok-hit.ensures.grown.keeps c.in_ok-is_equal.ensures.bit

pub join-requires-clause-inside : goal.join-requires-clause-inside
join-requires-clause-inside c = (first_arm _ c.args.width c.loop-ahead.ahead.now _ c.in-len1-up.len_at_least c.loop-ahead.invariant.arms).0

pub join-requires-clause-guard : goal.join-requires-clause-guard
join-requires-clause-guard c = bit_kept c.both.new.terms c.but_not.new.terms _ c.in_ok-others.ensures.grown.keeps c.in_ok-hit.ensures.bit

pub join-requires-clause-slots : goal.join-requires-clause-slots
join-requires-clause-slots c = slots_kept c.args.function.now c.loop-ahead.terms c.but_not.new.terms _
    (grown_trans c.loop-ahead.terms c.equals.new.terms c.but_not.new.terms c.in_ok-is_equal.ensures.grown (grown_trans c.equals.new.terms c.both.new.terms c.but_not.new.terms c.in_ok-hit.ensures.grown c.in_ok-others.ensures.grown)).keeps c.loop-ahead.invariant.slots_are

pub join-requires-clause-ways : goal.join-requires-clause-ways
join-requires-clause-ways c n way at = way_kept c.args.function.now c.loop-ahead.terms c.but_not.new.terms way
    (grown_trans c.loop-ahead.terms c.equals.new.terms c.but_not.new.terms c.in_ok-is_equal.ensures.grown (grown_trans c.equals.new.terms c.both.new.terms c.but_not.new.terms c.in_ok-hit.ensures.grown c.in_ok-others.ensures.grown)).keeps (c.loop-ahead.invariant.are n way at)

pub loop-ahead-preserved : goal.loop-ahead-preserved
loop-ahead-preserved c = arm_on c.args.function.now c.args.terms.now c.loop-ahead.terms c.equals.new.terms c.both.new.terms c.but_not.new.terms c.join.new.terms c.args.ways.now c.loop-ahead.ways c.join.new.ways c.args.word.0 c.args.left.0 c.args.width c.loop-ahead.unmatched.0 _ _ _ c.args.slots.now c.args.arms.now c.loop-ahead.ahead.now _ c.args.otherwise
    c.in-len1-up.len_at_least c.loop-ahead.invariant c.in_ok-is_equal.ensures c.in_ok-hit.ensures c.in_ok-others.ensures c.in_ok-join.ensures

pub loop-ahead-smaller : goal.loop-ahead-smaller
loop-ahead-smaller c = rest_shorter c.loop-ahead.ahead.now c.in-len1-up.len_at_least

pub join-requires-2-clause-inside : goal.join-requires-2-clause-inside
join-requires-2-clause-inside c = subst (λ n. c.args.otherwise.0 < n) (sym c.loop-ahead.invariant.one_each) c.requires.inside

pub join-requires-2-clause-guard : goal.join-requires-2-clause-guard
join-requires-2-clause-guard c = c.loop-ahead.invariant.bit

pub join-requires-2-clause-slots : goal.join-requires-2-clause-slots
join-requires-2-clause-slots c = c.loop-ahead.invariant.slots_are

pub join-requires-2-clause-ways : goal.join-requires-2-clause-ways
join-requires-2-clause-ways c = c.loop-ahead.invariant.are

pub returns : goal.returns
returns c = all_on c.args.function.now c.args.terms.now c.loop-ahead.terms c.join-2.new.terms c.args.ways.now c.loop-ahead.ways c.join-2.new.ways c.args.word.0 c.args.left.0 c.args.width c.loop-ahead.unmatched.0 c.args.slots.now c.args.arms.now c.loop-ahead.ahead.now c.args.otherwise c.in_default.len_below c.loop-ahead.invariant c.in_ok-join-2.ensures
