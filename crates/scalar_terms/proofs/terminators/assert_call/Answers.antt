use Rattle.vk_core.specs.declared.check.CheckClass.TheVariants as class
use Rattle.scalar_runs.specs.Run.{Faults}
use Rattle.scalar_terms.proofs.TurnLaws.{first_condition, first_tested, led_as, no_condition}
use Rattle.scalar_terms.proofs.terminators.assert_call.Goals as goal

pub unreachable-requires : goal.unreachable-requires
unreachable-requires c = no_condition c.args.function.now c.args.arguments.now c.in-empty.len_below c.requires.form

pub go_if-requires-clause-form : goal.go_if-requires-clause-form
go_if-requires-clause-form c = first_condition c.args.function.now _ c.args.arguments.now c.in-len1-up.len_at_least c.condition-item.is c.requires.form

pub returns : goal.returns
returns c = led_as c.args.function.now c.args.terms.now c.go_if.new.terms c.args.way.now c.args.ways.now c.go_if.new.ways c.args.failures.now.items _ c.args.block.0 c.args.index _ _
    (first_tested c.args.function.now (Faults class.Assertion) _ c.args.arguments.now c.args.next.0 c.in-len1-up.len_at_least c.condition-item.is) c.in_ok-go_if-in-len1-up.ensures
