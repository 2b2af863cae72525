use Rattle.std.proofs.Common.{ap, ◌++◌, ◌∷◌, []}
use Rattle.region_pool.proofs.LogLines.{lines_of-append}
use Rattle.region_pool.proofs.line_log.Log.add.Goals as goal

pub returns-clause-ok : goal.returns-clause-ok
returns-clause-ok c =
    rw (c.in_ok-put-2.ensures.ok, c.in_ok-put.ensures.ok, c.in_ok-reserve_ahead.ensures.blocks, lines_of-append c.self.inside.literals.blocks c.self.inside.hints.blocks c.args.literals.now c.args.hints.now c.self.invariant)
    (ap (λ lines. lines ++ (record { literals = c.args.literals.now; hints = c.args.hints.now }) ∷ []) c.self.view_is)
