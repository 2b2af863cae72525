use Rattle.std.proofs.Common.{◌∙◌}
use Rattle.front_end.proofs.NameSteps.{names_on}
use Rattle.front_end.proofs.front.names_of.Goals as goal

pub loop-left-preserved : goal.loop-left-preserved
loop-left-preserved c = names_on _ c.function-item.result c.loop-left.names _ _ c.in_ok-from_bytes.field-0 c.loop-left.invariant c.in-len1-up.len_at_least c.function-item.is (c.in_ok-from_bytes.ensures ∙ c.as_bytes.ensures) c.in_ok-push.ensures.ok
