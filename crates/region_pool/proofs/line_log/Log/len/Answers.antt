use Rattle.std.proofs.Common.{◌∙◌, sym, ap, length}
use Rattle.region_pool.proofs.LogLines.{length-lines_of}
use Rattle.region_pool.proofs.line_log.Log.len.Goals as goal

pub returns-clause-len : goal.returns-clause-len
returns-clause-len c = c.len.ensures.len ∙ (sym (length-lines_of _ _ c.self.invariant) ∙ ap length c.self.view_is)
