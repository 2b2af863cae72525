use Rattle.std.proofs.Common.{refl}
use Rattle.sym_terms.specs.declared.term.TermOp.TheVariants.{Add}
use Rattle.sym_terms.proofs.AgainLaws.{IsKnown-swapped}
use Rattle.sym_terms.proofs.terms.Terms.add_again.Goals as goal

pub returns-in_ok-id-in-None : goal.returns-in_ok-id-in-None
returns-in_ok-id-in-None c = IsKnown-swapped c.args.self.now c.add_part.ensures.fitting Add c.args.a c.args.b refl c.requires c.in_ok-id-in-None.id.0 c.in_ok-id-in-None.ensures.found
