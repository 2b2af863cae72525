use Rattle.std.proofs.Common.{sym, ap, subst, ◌∙◌, ◌==◌, arith, length}
use Rattle.std.proofs.lemmas.List.{length-set}
use Rattle.mir_ir.specs.declared.tree.Block.{Block}
use Rattle.value_terms.specs.Made.{IsFree}
use Rattle.scalar_form.proofs.FormLaws.{found_block, found_number, parts_of}
use Rattle.scalar_terms.specs.Sweeps.{HaveRoom}
use Rattle.scalar_terms.proofs.SweepLaws.{swept_block, swept_gap, swept_missed, taken_are, taken_some}
use Rattle.scalar_terms.proofs.sweep.pass_number.Goals as goal

pub returns-in-None-clause-swept : goal.returns-in-None-clause-swept
returns-in-None-clause-swept c = swept_gap c.args.function.now c.args.terms.now c.args.ways.now c.args.failures.now.items c.args.number c.requires.swept (sym c.in-None.ensures)

pub returns-in-None-take_way-clause-same : goal.returns-in-None-take_way-clause-same
returns-in-None-take_way-clause-same c = ap length c.take_way.ensures.left ∙ length-set c.args.ways.now c.args.number _

pub returns-in-None-take_way-clause-swept : goal.returns-in-None-take_way-clause-swept
returns-in-None-take_way-clause-swept c = swept_missed c.args.function.now c.args.terms.now c.args.ways.now c.take_way.new.ways c.args.failures.now.items c.args.number c.in-Some.block.now c.requires.swept (sym c.in-Some.ensures) (sym c.in-None-take_way.ensures.taken) c.take_way.ensures.left

pub pass-requires-clause-room : goal.pass-requires-clause-room
pass-requires-clause-room c = subst (HaveRoom c.args.function.now) (sym (taken_some c.args.ways.now c.take_way.new.ways c.args.number c.in-Some-take_way.way (sym c.in-Some-take_way.ensures.taken) c.take_way.ensures.left).one_each) c.requires.room

pub pass-requires-clause-free : goal.pass-requires-clause-free
pass-requires-clause-free c = subst (IsFree c.args.terms.now) (sym (found_number c.args.function.now.blocks c.args.number c.in-Some.block.now (sym c.in-Some.ensures))) (c.requires.swept.free c.args.number (omega arith))

pub pass-requires-clause-way : goal.pass-requires-clause-way
pass-requires-clause-way c = c.requires.swept.are c.args.number c.in-Some-take_way.way (sym c.in-Some-take_way.ensures.taken)

pub pass-requires-clause-ways : goal.pass-requires-clause-ways
pass-requires-clause-ways c = taken_are c.args.function.now c.args.terms.now c.args.ways.now c.take_way.new.ways c.args.number (taken_some c.args.ways.now c.take_way.new.ways c.args.number c.in-Some-take_way.way (sym c.in-Some-take_way.ensures.taken) c.take_way.ensures.left) c.requires.swept.are

pub pass-requires-clause-failures : goal.pass-requires-clause-failures
pass-requires-clause-failures c = c.requires.swept.failures

pub pass-requires-clause-form : goal.pass-requires-clause-form
pass-requires-clause-form c = found_block c.args.function.now (λ (b : Block). b.id.0 == c.args.number) c.args.function.now.blocks c.in-Some.block.now (parts_of c.args.function.now c.requires.form).blocks (sym c.in-Some.ensures)

pub returns-in_ok-pass-in-Some-take_way-clause-same : goal.returns-in_ok-pass-in-Some-take_way-clause-same
returns-in_ok-pass-in-Some-take_way-clause-same c = c.in_ok-pass-in-Some-take_way.ensures.one_each ∙ (taken_some c.args.ways.now c.take_way.new.ways c.args.number c.in-Some-take_way.way (sym c.in-Some-take_way.ensures.taken) c.take_way.ensures.left).one_each

pub returns-in_ok-pass-in-Some-take_way-clause-swept : goal.returns-in_ok-pass-in-Some-take_way-clause-swept
returns-in_ok-pass-in-Some-take_way-clause-swept c = swept_block c.args.function.now c.args.terms.now c.pass.new.terms c.args.ways.now c.take_way.new.ways c.pass.new.ways c.args.failures.now.items _ c.args.number c.in-Some.block.now c.in-Some-take_way.way
    c.requires.swept (sym c.in-Some.ensures) (sym c.in-Some-take_way.ensures.taken) (taken_some c.args.ways.now c.take_way.new.ways c.args.number c.in-Some-take_way.way (sym c.in-Some-take_way.ensures.taken) c.take_way.ensures.left) c.in_ok-pass-in-Some-take_way.ensures
