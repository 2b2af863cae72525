use Rattle.std.proofs.Common.{sym, ap, subst, ◌∙◌, ◌<◌, ◌≤◌, length, None}
use Rattle.std.proofs.lemmas.List.{length-replicate}
use Rattle.scalar_runs.specs.Look.{blocks_end}
use Rattle.scalar_form.proofs.FormLaws.{parts_of}
use Rattle.scalar_terms.specs.Sweeps.{AreSwept, HaveRoom}
use Rattle.scalar_terms.proofs.AheadLaws.{few_blocks, have_room}
use Rattle.scalar_terms.proofs.StartLaws.{faults_made, start_swept, ways_count}
use Rattle.scalar_terms.proofs.faults.sweep.Goals as goal

pub put_way-requires : goal.put_way-requires
put_way-requires c = subst (λ n. 0 < n) (sym (ap length c.requires.ways ∙ length-replicate (blocks_end c.args.function.now.blocks) None)) (have_room c.args.function.now 0 (parts_of c.args.function.now c.requires.form).begins)

pub pass_all-requires-clause-room : goal.pass_all-requires-clause-room
pass_all-requires-clause-room c = subst (HaveRoom c.args.function.now) (sym (ways_count (blocks_end c.args.function.now.blocks) c.args.ways.now c.put_way.new.ways c.args.start c.requires.ways c.put_way.ensures)) (have_room c.args.function.now)

pub pass_all-requires-clause-few : goal.pass_all-requires-clause-few
pass_all-requires-clause-few c = subst (λ n. n ≤ 4294967296) (sym (ways_count (blocks_end c.args.function.now.blocks) c.args.ways.now c.put_way.new.ways c.args.start c.requires.ways c.put_way.ensures)) (few_blocks c.args.function.now c.requires.form)

pub pass_all-requires-clause-swept : goal.pass_all-requires-clause-swept
pass_all-requires-clause-swept c = subst (λ l. AreSwept c.args.function.now c.args.terms.now c.put_way.new.ways l 0) (sym c.requires.failures)
    (start_swept c.args.function.now c.args.terms.now c.args.start c.args.ways.now c.put_way.new.ways (blocks_end c.args.function.now.blocks) (have_room c.args.function.now 0 (parts_of c.args.function.now c.requires.form).begins) c.requires.ways c.put_way.ensures c.requires.start)

pub returns : goal.returns
returns c = faults_made c.args.function.now c.pass_all.new.terms c.pass_all.new.ways _ _ c.requires.form (ways_count (blocks_end c.args.function.now.blocks) c.args.ways.now c.put_way.new.ways c.args.start c.requires.ways c.put_way.ensures) c.in_ok-pass_all.ensures
