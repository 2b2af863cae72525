use Rattle.std.proofs.Common.{refl}
use Rattle.scalar_terms.proofs.ChoiceLaws.{below_made, less_fits}
use Rattle.scalar_terms.proofs.choices.is_below.Goals as goal

pub insert-requires-2 : goal.insert-requires-2
insert-requires-2 c = less_fits c.args.terms.now c.insert.new.self c.args.number c.in_ok-limit.limit _ c.requires.inside c.requires.width refl c.in_ok-limit.ensures.ok

pub returns : goal.returns
returns c = below_made c.args.terms.now c.insert.new.self c.insert-2.new.self c.args.number c.in_ok-limit.limit _ _ c.requires.inside c.in_ok-limit.ensures.ok c.in_ok-id.ensures.ok
