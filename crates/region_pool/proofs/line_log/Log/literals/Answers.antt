use Rattle.std.proofs.Common.{◌∙◌, sym, ap, length, arith}
use Rattle.region_pool.specs.Log.{line_at}
use Rattle.region_pool.proofs.LogLines.{length-lines_of, literals_at}
use Rattle.region_pool.proofs.line_log.Log.literals.Goals as goal

pub get-requires : goal.get-requires
get-requires c = omega (arith, length-lines_of c.self.inside.literals.blocks c.self.inside.hints.blocks c.self.invariant, ap length c.self.view_is, c.requires)

pub returns : goal.returns
returns c = c.get.ensures ∙ (sym (literals_at _ _ c.args.at c.self.invariant) ∙ ap (λ lines. (line_at lines c.args.at).literals) c.self.view_is)
