use Rattle.std.proofs.Common.{◌∙◌, sym, refl}
use Rattle.entry_types.proofs.ParameterTypes.{counts_differ, same_no_more, same_on, same_to_end}
use Rattle.entry_types.proofs.methods.have_same_types.Goals as goal

pub returns-then-own-model : goal.returns-then-own-model
returns-then-own-model c = sym (counts_differ c.args.own.now c.args.model.now c.if-own-model.true)

pub loop-at-init : goal.loop-at-init
loop-at-init c = (c.if-own-model.false, refl)

pub returns-then-not-same_type : goal.returns-then-not-same_type
returns-then-not-same_type c =
    same_no_more c.args.own.now c.args.model.now c.loop-at.at c.index-own-at.result c.index-model-at.result _ c.loop-at-test.true c.loop-at.invariant.0
    c.index-own-at.is c.index-model-at.is c.loop-at.invariant.1 (sym c.same_type.ensures ∙ c.if-not-same_type.true)

pub loop-at-preserved : goal.loop-at-preserved
loop-at-preserved c = (
  c.loop-at.invariant.0,
  same_on c.args.own.now c.args.model.now c.loop-at.at c.index-own-at.result c.index-model-at.result _ c.loop-at-test.true c.loop-at.invariant.0
      c.index-own-at.is c.index-model-at.is c.loop-at.invariant.1 (sym c.same_type.ensures ∙ c.if-not-same_type.false),
)

pub returns : goal.returns
returns c = same_to_end c.args.own.now c.args.model.now c.loop-at.at _ c.loop-at-test.false c.loop-at.invariant.0 c.loop-at.invariant.1
