use Rattle.value_terms.proofs.RvalueLaws.{rvalue_of}
use Rattle.value_terms.proofs.rvalues.rvalue_terms.Goals as goal

pub returns-in_ok-t-in-Use : goal.returns-in_ok-t-in-Use
returns-in_ok-t-in-Use c = rvalue_of c.args.function.now c.args.terms.now c.use_terms.new.terms c.args.slots.now c.args.value.now _ _ c.in-Use.is c.in_ok-t-in-Use.ensures

pub returns-in_ok-t-in-Binary : goal.returns-in_ok-t-in-Binary
returns-in_ok-t-in-Binary c = rvalue_of c.args.function.now c.args.terms.now c.binary_terms.new.terms c.args.slots.now c.args.value.now _ _ c.in-Binary.is c.in_ok-t-in-Binary.ensures

pub returns-in_ok-t-in-Not : goal.returns-in_ok-t-in-Not
returns-in_ok-t-in-Not c = rvalue_of c.args.function.now c.args.terms.now c.not_terms.new.terms c.args.slots.now c.args.value.now _ _ c.in-Not.is c.in_ok-t-in-Not.ensures

pub returns-in_ok-t-in-Neg : goal.returns-in_ok-t-in-Neg
returns-in_ok-t-in-Neg c = rvalue_of c.args.function.now c.args.terms.now c.neg_terms.new.terms c.args.slots.now c.args.value.now _ _ c.in-Neg.is c.in_ok-t-in-Neg.ensures

pub returns-in_ok-t-in-Cast : goal.returns-in_ok-t-in-Cast
returns-in_ok-t-in-Cast c = rvalue_of c.args.function.now c.args.terms.now c.cast_to.new.terms c.args.slots.now c.args.value.now _ _ c.in-Cast.is (rw c.kind_of.ensures at c.in_ok-t-in-Cast.ensures)
