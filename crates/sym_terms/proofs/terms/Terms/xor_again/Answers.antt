use Rattle.std.proofs.Common.{refl}
use Rattle.sym_terms.specs.declared.term.TermOp.TheVariants.{Xor}
use Rattle.sym_terms.proofs.AgainLaws.{IsKnown-swapped}
use Rattle.sym_terms.proofs.terms.Terms.xor_again.Goals as goal

pub returns-in_ok-id-in-None : goal.returns-in_ok-id-in-None
returns-in_ok-id-in-None c = IsKnown-swapped c.args.self.now c.xor_part.ensures.fitting Xor c.args.a c.args.b refl c.requires c.in_ok-id-in-None.id.0 c.in_ok-id-in-None.ensures.found
