use Rattle.std.proofs.Common.{arith, ◌<◌, length}
use Rattle.scalar_form.proofs.FormLaws.{block_parts}
use Rattle.scalar_terms.proofs.JoinLaws.{way_kept}
use Rattle.scalar_terms.proofs.SweepLaws.{passed_made}
use Rattle.scalar_terms.proofs.sweep.pass.Goals as goal

pub overflow_cast-count : goal.overflow_cast-count
overflow_cast-count c = let short : length c.args.block.now.statements < 4294967296 = (block_parts c.args.function.now c.args.block.now c.requires.form).short in omega (arith, short, c.len-count.ensures)

pub run_statements-requires-clause-count : goal.run_statements-requires-clause-count
run_statements-requires-clause-count c = rw c.as_slice.ensures (block_parts c.args.function.now c.args.block.now c.requires.form).short

pub run_statements-requires-clause-form : goal.run_statements-requires-clause-form
run_statements-requires-clause-form c = rw c.as_slice.ensures (block_parts c.args.function.now c.args.block.now c.requires.form).statements

pub finish-requires-clause-free : goal.finish-requires-clause-free
finish-requires-clause-free c = c.in_ok-run_statements.ensures.grown.free c.args.block.now.id.0 c.requires.free

pub finish-requires-clause-ways : goal.finish-requires-clause-ways
finish-requires-clause-ways c n way at = way_kept c.args.function.now c.args.terms.now c.run_statements.new.terms way c.in_ok-run_statements.ensures.grown.keeps (c.requires.ways n way at)

pub finish-requires-clause-form : goal.finish-requires-clause-form
finish-requires-clause-form c = (block_parts c.args.function.now c.args.block.now c.requires.form).terminator

pub returns : goal.returns
returns c = passed_made c.args.function.now c.args.terms.now c.run_statements.new.terms c.finish.new.terms c.args.way.now c.run_statements.new.way c.args.ways.now c.finish.new.ways c.args.failures.now.items _ _ c.args.block.now _ c.len-count.ensures c.requires.ways (rw c.as_slice.ensures at c.in_ok-run_statements.ensures) c.in_ok-finish.ensures
