use Rattle.std.proofs.Common.{◌-◌, arith, refl}
use Rattle.code_types.proofs.Colons.{colons_end, colons_found, colons_none, colons_start}
use Rattle.code_types.proofs.aggregates.last_colons.Goals as goal

pub loop-end-init : goal.loop-end-init
loop-end-init c = (omega arith, colons_start c.args.path.now _ refl)

pub returns-then-are_colons-clause-place : goal.returns-then-are_colons-clause-place
returns-then-are_colons-clause-place c =
    colons_found c.args.path.now c.loop-end.end (c.loop-end.end - 1) _ _ c.are_colons.result c.loop-end-test.true refl c.loop-end.invariant.0
    refl refl c.are_colons.ensures c.if-are_colons.true c.loop-end.invariant.1

pub loop-end-preserved : goal.loop-end-preserved
loop-end-preserved c = (
  omega arith,
  colons_none c.args.path.now c.loop-end.end (c.loop-end.end - 1) _ _ c.are_colons.result c.loop-end-test.true refl c.loop-end.invariant.0
      refl refl c.are_colons.ensures c.if-are_colons.false c.loop-end.invariant.1,
)

pub returns-clause-place : goal.returns-clause-place
returns-clause-place c = colons_end c.args.path.now c.loop-end.end c.loop-end-test.false c.loop-end.invariant.1
