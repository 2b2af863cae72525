use Rattle.std.proofs.Common.{subst, sym, ◌∙◌}
use Rattle.scalar_terms.specs.Sweeps.{HaveRoom}
use Rattle.scalar_terms.proofs.sweep.pass_all.Goals as goal

pub pass_number-requires-clause-room : goal.pass_number-requires-clause-room
pass_number-requires-clause-room c = subst (HaveRoom c.args.function.now) (sym c.loop-number.invariant.same) c.requires.room

pub loop-number-preserved : goal.loop-number-preserved
loop-number-preserved c = record { same = c.in_ok-pass_number.ensures.same ∙ c.loop-number.invariant.same; swept = c.in_ok-pass_number.ensures.swept }
