use Rattle.std.proofs.Common.{refl}
use Rattle.scalar_terms.proofs.StepLaws.{agree_first}
use Rattle.scalar_terms.proofs.TestLaws.{condition_bit, condition_met, condition_unmet}
use Rattle.scalar_terms.proofs.conditions.read_condition.Goals as goal

pub read-requires-clause-kind : goal.read-requires-clause-kind
read-requires-clause-kind c = agree_first _ _ c.requires.form

pub inverse-requires : goal.inverse-requires
inverse-requires c = condition_bit c.args.function.now c.args.terms.now c.read.new.terms c.args.slots.now c.args.operand.now c.in_ok-slot.slot c.requires.form c.in_ok-slot.ensures

pub returns-then-expected : goal.returns-then-expected
returns-then-expected c = condition_met c.args.function.now c.args.terms.now c.read.new.terms c.args.slots.now c.args.operand.now c.in_ok-slot.slot c.args.expected _ c.if-expected.true c.requires.form c.in_ok-slot.ensures c.term-known.ensures.values refl refl

pub returns-in_ok-met : goal.returns-in_ok-met
returns-in_ok-met c = condition_unmet c.args.function.now c.args.terms.now c.read.new.terms c.inverse.new.terms c.args.slots.now c.args.operand.now c.in_ok-slot.slot c.args.expected _ c.if-expected.false c.requires.form c.in_ok-slot.ensures c.term-known.ensures.values refl c.in_ok-met.ensures
