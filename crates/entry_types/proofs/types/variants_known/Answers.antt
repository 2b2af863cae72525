use Rattle.std.proofs.Common.{◌∙◌, Err, ap}
use Rattle.std.specs.Prelude.{codes}
use Rattle.type_rules.specs.Entries.{key}
use Rattle.std.proofs.lemmas.Result.{err_from_is_err_and}
use Rattle.entry_types.specs.Paths.{entry_path, told}
use Rattle.entry_types.proofs.Lists.{variants_walk}
use Rattle.entry_types.proofs.Walks.{walked_off, walked_on, walked_through}
use Rattle.entry_types.proofs.types.variants_known.Goals as goal

pub returns-in_err-variant_known : goal.returns-in_err-variant_known
returns-in_err-variant_known c =
    let p = err_from_is_err_and c.from_residual.result c.from_residual.ensures.1 in
    ap told (p.1 ∙ ap (λ y. Err y) p.2)
    ∙ walked_off (variants_walk c.args.declared.now (key (entry_path c.args.entry) (codes "variants"))) c.args.variants.now c.loop-at.at c.index-variants-at.result _ _
    c.loop-at-test.true c.index-variants-at.is c.loop-at.invariant c.in_err-variant_known.ensures

pub loop-at-preserved : goal.loop-at-preserved
loop-at-preserved c =
    walked_on (variants_walk c.args.declared.now (key (entry_path c.args.entry) (codes "variants"))) c.args.variants.now c.loop-at.at c.index-variants-at.result _
    c.loop-at-test.true c.index-variants-at.is c.loop-at.invariant c.in_ok-variant_known.ensures

pub returns : goal.returns
returns c = walked_through (variants_walk c.args.declared.now (key (entry_path c.args.entry) (codes "variants"))) c.args.variants.now c.loop-at.at _ c.loop-at-test.false c.loop-at.invariant
