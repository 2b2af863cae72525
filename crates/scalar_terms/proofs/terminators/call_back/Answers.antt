use Rattle.std.proofs.Common.{Some}
use Rattle.scalar_runs.specs.declared.builtins.Builtin.TheVariants as builtin
use Rattle.scalar_form.specs.Typing.{is_any_call, is_assert_call, is_assume_call, is_target, place_kind}
use Rattle.scalar_runs.proofs.OperandLaws.{and_left, and_right}
use Rattle.scalar_terms.proofs.TurnLaws.{any_agrees, assert_condition, assume_condition, builtin_form, builtin_led, panic_returns, target_inside}
use Rattle.scalar_terms.proofs.terminators.call_back.Goals as goal

pub choose_value-requires-clause-inside : goal.choose_value-requires-clause-inside
choose_value-requires-clause-inside c = target_inside c.args.function.now _ c.args.block.0 c.args.next c.requires.room
    (and_right (is_any_call c.in-Any.kind (place_kind c.args.function.now c.args.destination.now) c.args.arguments.now) (is_target c.args.function.now c.args.block.0 c.args.next)
    (builtin_form c.args.function.now c.args.block.0 (place_kind c.args.function.now c.args.destination.now) c.args.called (builtin.Any c.in-Any.kind) c.args.arguments.now (Some c.args.next) c.in-Any.is c.requires.form))

pub choose_value-requires-clause-form : goal.choose_value-requires-clause-form
choose_value-requires-clause-form c = any_agrees c.in-Any.kind (place_kind c.args.function.now c.args.destination.now) c.args.arguments.now
    (and_left (is_any_call c.in-Any.kind (place_kind c.args.function.now c.args.destination.now) c.args.arguments.now) (is_target c.args.function.now c.args.block.0 c.args.next)
    (builtin_form c.args.function.now c.args.block.0 (place_kind c.args.function.now c.args.destination.now) c.args.called (builtin.Any c.in-Any.kind) c.args.arguments.now (Some c.args.next) c.in-Any.is c.requires.form))

pub assume_call-requires-clause-inside : goal.assume_call-requires-clause-inside
assume_call-requires-clause-inside c = target_inside c.args.function.now _ c.args.block.0 c.args.next c.requires.room
    (and_right (is_assume_call c.args.function.now (place_kind c.args.function.now c.args.destination.now) c.args.arguments.now) (is_target c.args.function.now c.args.block.0 c.args.next)
    (builtin_form c.args.function.now c.args.block.0 (place_kind c.args.function.now c.args.destination.now) c.args.called builtin.Assume c.args.arguments.now (Some c.args.next) c.in-Assume.is c.requires.form))

pub assume_call-requires-clause-form : goal.assume_call-requires-clause-form
assume_call-requires-clause-form c = assume_condition c.args.function.now (place_kind c.args.function.now c.args.destination.now) c.args.arguments.now
    (and_left (is_assume_call c.args.function.now (place_kind c.args.function.now c.args.destination.now) c.args.arguments.now) (is_target c.args.function.now c.args.block.0 c.args.next)
    (builtin_form c.args.function.now c.args.block.0 (place_kind c.args.function.now c.args.destination.now) c.args.called builtin.Assume c.args.arguments.now (Some c.args.next) c.in-Assume.is c.requires.form))

pub assert_call-requires-clause-inside : goal.assert_call-requires-clause-inside
assert_call-requires-clause-inside c = target_inside c.args.function.now _ c.args.block.0 c.args.next c.requires.room
    (and_right (is_assert_call c.args.function.now (place_kind c.args.function.now c.args.destination.now) c.args.arguments.now) (is_target c.args.function.now c.args.block.0 c.args.next)
    (builtin_form c.args.function.now c.args.block.0 (place_kind c.args.function.now c.args.destination.now) c.args.called builtin.Assert c.args.arguments.now (Some c.args.next) c.in-Assert.is c.requires.form))

pub assert_call-requires-clause-form : goal.assert_call-requires-clause-form
assert_call-requires-clause-form c = assert_condition c.args.function.now (place_kind c.args.function.now c.args.destination.now) c.args.arguments.now
    (and_left (is_assert_call c.args.function.now (place_kind c.args.function.now c.args.destination.now) c.args.arguments.now) (is_target c.args.function.now c.args.block.0 c.args.next)
    (builtin_form c.args.function.now c.args.block.0 (place_kind c.args.function.now c.args.destination.now) c.args.called builtin.Assert c.args.arguments.now (Some c.args.next) c.in-Assert.is c.requires.form))

pub unreachable-requires : goal.unreachable-requires
unreachable-requires c = panic_returns c.args.function.now c.args.block.0 (place_kind c.args.function.now c.args.destination.now) c.args.arguments.now c.args.next
    (builtin_form c.args.function.now c.args.block.0 (place_kind c.args.function.now c.args.destination.now) c.args.called builtin.Panic c.args.arguments.now (Some c.args.next) c.in-Panic.is c.requires.form)

pub returns-in_ok-choose_value-in-Any : goal.returns-in_ok-choose_value-in-Any
returns-in_ok-choose_value-in-Any c = builtin_led c.args.function.now c.args.terms.now c.choose_value.new.terms c.args.way.now c.args.ways.now c.choose_value.new.ways c.args.failures.now.items c.args.failures.now.items c.args.block.0 c.args.index c.args.destination.now.local.0 c.args.called (builtin.Any c.in-Any.kind) c.args.arguments.now (Some c.args.next)
    c.in-Any.is c.in_ok-choose_value-in-Any.ensures

pub returns-in_ok-assume_call-in-Assume : goal.returns-in_ok-assume_call-in-Assume
returns-in_ok-assume_call-in-Assume c = builtin_led c.args.function.now c.args.terms.now c.assume_call.new.terms c.args.way.now c.args.ways.now c.assume_call.new.ways c.args.failures.now.items _ c.args.block.0 c.args.index c.args.destination.now.local.0 c.args.called builtin.Assume c.args.arguments.now (Some c.args.next)
    c.in-Assume.is c.in_ok-assume_call-in-Assume.ensures

pub returns-in_ok-assert_call-in-Assert : goal.returns-in_ok-assert_call-in-Assert
returns-in_ok-assert_call-in-Assert c = builtin_led c.args.function.now c.args.terms.now c.assert_call.new.terms c.args.way.now c.args.ways.now c.assert_call.new.ways c.args.failures.now.items _ c.args.block.0 c.args.index c.args.destination.now.local.0 c.args.called builtin.Assert c.args.arguments.now (Some c.args.next)
    c.in-Assert.is c.in_ok-assert_call-in-Assert.ensures
