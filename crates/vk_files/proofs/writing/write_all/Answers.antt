use Rattle.std.proofs.Common.{rules, arith}
use Rattle.std.proofs.lemmas.Grind.{common_steps}
use Rattle.vk_files.proofs.Taking.{taken_more}
use Rattle.vk_files.proofs.writing.write_all.Goals as goal

pub loop-taken-preserved : goal.loop-taken-preserved
loop-taken-preserved g c = record {
  within = search rules;
  told = taken_more (g.K.Sink.written c.args.sink.now) (g.K.Sink.written c.loop-taken.sink) _ c.args.bytes.now _ c.loop-taken.taken c.in-Ok.count (grind (arith, common_steps)) c.loop-taken.invariant.told c.in-Ok.ensures.taken;
  later = search rules;
}
