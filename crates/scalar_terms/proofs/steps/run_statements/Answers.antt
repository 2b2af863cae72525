use Rattle.std.proofs.Common.{arith, length, ◌<◌, ◌+◌}
use Rattle.scalar_terms.proofs.ListLaws.{all_on, begun, first_typed, one_on}
use Rattle.scalar_terms.proofs.MergeLaws.{rest_shorter}
use Rattle.scalar_terms.proofs.steps.run_statements.Goals as goal

pub loop-left-init : goal.loop-left-init
loop-left-init c = begun c.args.function.now c.args.terms.now c.args.way.now c.args.failures.now.items c.args.block.0 c.args.statements.now c.requires.count c.requires.way c.requires.failures c.requires.form

pub run_statement-requires-clause-form : goal.run_statement-requires-clause-form
run_statement-requires-clause-form c = first_typed c.args.function.now _ c.loop-left.left.now c.in-len1-up.len_at_least c.statement-item.is c.loop-left.invariant.typed

pub overflow_add-index : goal.overflow_add-index
overflow_add-index c = let short : c.loop-left.index + length c.loop-left.left.now < 4294967296 = c.loop-left.invariant.count in omega (arith, short, c.in-len1-up.len_at_least)

pub loop-left-preserved : goal.loop-left-preserved
loop-left-preserved c = one_on c.args.function.now c.args.terms.now c.loop-left.terms c.run_statement.new.terms c.args.way.now c.loop-left.way c.run_statement.new.way c.args.failures.now.items c.loop-left.failures.items _ c.args.block.0 c.loop-left.index c.args.statements.now c.loop-left.left.now _
    c.in-len1-up.len_at_least c.statement-item.is c.loop-left.invariant c.in_ok-run_statement.ensures

pub loop-left-smaller : goal.loop-left-smaller
loop-left-smaller c = rest_shorter c.loop-left.left.now c.in-len1-up.len_at_least

pub returns : goal.returns
returns c = all_on c.args.function.now c.args.terms.now c.loop-left.terms c.args.way.now c.loop-left.way c.args.failures.now.items c.loop-left.failures.items c.args.block.0 c.loop-left.index c.args.statements.now c.loop-left.left.now c.in_default.len_below c.loop-left.invariant
