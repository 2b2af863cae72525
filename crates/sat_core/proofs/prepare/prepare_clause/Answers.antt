use Rattle.std.proofs.Common.{ℕ, List, Option, subst}
use Rattle.region_pool.specs.Blocks.{block_at}
use Rattle.sat_core.specs.Preparing.{IsFirstPair, Settles, SettlesIs}
use Rattle.sat_core.proofs.PrepareLemmas.{prepared_more}
use Rattle.sat_core.proofs.prepare.prepare_clause.Goals as goal

pub returns-in_ok-add-in-None : goal.returns-in_ok-add-in-None
returns-in_ok-add-in-None c =
    let input = c.args.clauses.now in
    let watching = c.args.watching.now in
    let pair = c.in-Some.pair in
    let is : IsFirstPair (block_at input.clauses c.args.number) pair = subst (λ (s : List ℕ). IsFirstPair s pair) c.clause.ensures.clause c.in-Some.ensures in
    let settles : Settles input c.args.log.now c.args.trail.now c.settle.new.trail c.args.number pair = subst (λ (o : Option ℕ). SettlesIs input c.args.log.now c.args.trail.now c.settle.new.trail c.args.number pair o) c.in-None.is c.in_ok-conflict.ensures in
    prepared_more input c.args.log.now c.args.trail.now c.settle.new.trail watching.pairs.items c.add.new.self.pairs.items watching.lists c.add.new.self.lists pair c.args.number c.requires.prepared c.requires.number is settles c.in_ok-add-in-None.ensures.pairs c.in_ok-add-in-None.ensures.lists
