use Rattle.mir_ir.specs.declared.tree.Terminator.TheVariants as terminator
use Rattle.scalar_form.specs.Typing.{is_target}
use Rattle.scalar_runs.proofs.OperandLaws.{and_right}
use Rattle.scalar_terms.proofs.TurnLaws.{assert_truth, ended_made, form_of, led_of, target_inside}
use Rattle.scalar_terms.proofs.terminators.finish.Goals as goal

pub jump-requires-clause-inside : goal.jump-requires-clause-inside
jump-requires-clause-inside c = target_inside c.args.function.now _ c.args.block.0 c.in-Goto.target c.requires.room (form_of c.args.function.now c.args.block.0 c.args.last.now (terminator.Goto c.in-Goto.target) c.in-Goto.is c.requires.form)

pub switch-requires-clause-form : goal.switch-requires-clause-form
switch-requires-clause-form c = rw c.as_slice.ensures (form_of c.args.function.now c.args.block.0 c.args.last.now _ c.in-Switch.is c.requires.form)

pub go_if-requires-clause-inside : goal.go_if-requires-clause-inside
go_if-requires-clause-inside c = target_inside c.args.function.now _ c.args.block.0 c.in-Assert.next c.requires.room (and_right _ (is_target c.args.function.now c.args.block.0 c.in-Assert.next) (form_of c.args.function.now c.args.block.0 c.args.last.now _ c.in-Assert.is c.requires.form))

pub go_if-requires-clause-form : goal.go_if-requires-clause-form
go_if-requires-clause-form c = assert_truth c.args.function.now c.args.block.0 c.args.last.now _ _ _ _ _ c.in-Assert.is c.requires.form

pub returns-in-Return : goal.returns-in-Return
returns-in-Return c = led_of c.args.function.now c.args.terms.now c.args.terms.now c.args.way.now c.args.ways.now c.args.ways.now c.args.failures.now.items c.args.failures.now.items c.args.block.0 c.args.index c.args.last.now terminator.Return c.in-Return.is
    (ended_made c.args.function.now c.args.terms.now c.args.way.now c.args.ways.now c.args.failures.now.items c.args.block.0 c.args.index c.requires.ways c.requires.failures)

pub returns-in_ok-jump-in-Goto : goal.returns-in_ok-jump-in-Goto
returns-in_ok-jump-in-Goto c = led_of c.args.function.now c.args.terms.now c.jump.new.terms c.args.way.now c.args.ways.now c.jump.new.ways c.args.failures.now.items c.args.failures.now.items c.args.block.0 c.args.index c.args.last.now (terminator.Goto c.in-Goto.target) c.in-Goto.is c.in_ok-jump-in-Goto.ensures

pub returns-in_ok-switch-in-Switch : goal.returns-in_ok-switch-in-Switch
returns-in_ok-switch-in-Switch c = led_of c.args.function.now c.args.terms.now c.switch.new.terms c.args.way.now c.args.ways.now c.switch.new.ways c.args.failures.now.items _ c.args.block.0 c.args.index c.args.last.now _ c.in-Switch.is (rw c.as_slice.ensures at c.in_ok-switch-in-Switch.ensures)

pub returns-in_ok-go_if-in-Assert : goal.returns-in_ok-go_if-in-Assert
returns-in_ok-go_if-in-Assert c = led_of c.args.function.now c.args.terms.now c.go_if.new.terms c.args.way.now c.args.ways.now c.go_if.new.ways c.args.failures.now.items _ c.args.block.0 c.args.index c.args.last.now _ c.in-Assert.is c.in_ok-go_if-in-Assert.ensures

pub call-requires-clause-form : goal.call-requires-clause-form
call-requires-clause-form c = rw (c.builtin_of.ensures, c.as_slice-in-Call.ensures) (form_of c.args.function.now c.args.block.0 c.args.last.now _ c.in-Call.is c.requires.form)

pub returns-in_ok-call-in-Call : goal.returns-in_ok-call-in-Call
returns-in_ok-call-in-Call c = led_of c.args.function.now c.args.terms.now c.call.new.terms c.args.way.now c.args.ways.now c.call.new.ways c.args.failures.now.items _ c.args.block.0 c.args.index c.args.last.now _ c.in-Call.is (rw (c.builtin_of.ensures, c.as_slice-in-Call.ensures) at c.in_ok-call-in-Call.ensures)
