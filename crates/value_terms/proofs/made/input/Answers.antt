use Rattle.value_terms.proofs.MadeLaws.{input_made}
use Rattle.value_terms.proofs.made.input.Goals as goal

pub returns : goal.returns
returns c = input_made c.args.terms.now c.insert.new.self _ _ _ c.in_ok-id.ensures.ok

pub insert-requires : goal.insert-requires
insert-requires c = record { fitting = c.requires.width_is; input = c.requires.free c.args.width }
