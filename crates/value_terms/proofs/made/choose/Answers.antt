use Rattle.value_terms.proofs.MadeLaws.{made_of}
use Rattle.value_terms.proofs.made.choose.Goals as goal

pub returns : goal.returns
returns c = made_of c.args.terms.now c.insert.new.self _ _ (λ number width. tt) c.in_ok-id.ensures.ok
