use Rattle.std.proofs.Common.{None, Some, refl}
use Rattle.std.proofs.lemmas.Bool.{false≢true}
use Rattle.scalar_runs.specs.declared.builtins.Builtin.TheVariants as builtin
use Rattle.scalar_form.specs.Typing.{place_kind}
use Rattle.scalar_terms.proofs.TurnLaws.{call_form, called_led, panic_called}
use Rattle.scalar_terms.proofs.terminators.call.Goals as goal

pub unreachable-requires : goal.unreachable-requires
unreachable-requires c = false≢true (call_form c.args.function.now c.args.block.0 (place_kind c.args.function.now c.args.destination.now) c.args.called None c.args.arguments.now c.args.next c.args.next c.in-None.is refl c.requires.form)

pub call_back-requires-clause-form : goal.call_back-requires-clause-form
call_back-requires-clause-form c = call_form c.args.function.now c.args.block.0 (place_kind c.args.function.now c.args.destination.now) c.args.called (Some c.in-Some.builtin) c.args.arguments.now c.args.next (Some c.in-Some-next.next) c.in-Some.is c.in-Some-next.is c.requires.form

pub returns-in_ok-fault_here-in-None-next : goal.returns-in_ok-fault_here-in-None-next
returns-in_ok-fault_here-in-None-next c = called_led c.args.function.now c.args.terms.now c.args.terms.now c.args.way.now c.args.ways.now c.args.ways.now c.args.failures.now.items _ c.args.block.0 c.args.index c.args.destination.now.local.0 c.args.called (Some builtin.Panic) c.args.arguments.now c.args.next None
    (panic_called c.args.function.now c.args.block.0 (place_kind c.args.function.now c.args.destination.now) c.args.called c.in-Some.builtin c.args.arguments.now c.args.next c.in-Some.is c.in-None-next.is c.requires.form) c.in-None-next.is c.in_ok-fault_here-in-None-next.ensures

pub returns-in_ok-call_back-in-Some-next : goal.returns-in_ok-call_back-in-Some-next
returns-in_ok-call_back-in-Some-next c = called_led c.args.function.now c.args.terms.now c.call_back.new.terms c.args.way.now c.args.ways.now c.call_back.new.ways c.args.failures.now.items _ c.args.block.0 c.args.index c.args.destination.now.local.0 c.args.called (Some c.in-Some.builtin) c.args.arguments.now c.args.next (Some c.in-Some-next.next)
    c.in-Some.is c.in-Some-next.is c.in_ok-call_back-in-Some-next.ensures
