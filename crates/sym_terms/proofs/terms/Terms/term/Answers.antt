use Rattle.std.proofs.Common.{subst}
use Rattle.sym_terms.specs.Terms.{AreFitting}
use Rattle.sym_terms.proofs.ValueWords.{IsValue-value}
use Rattle.sym_terms.proofs.terms.Terms.term.Goals as goal

pub returns-clause-values : goal.returns-clause-values
returns-clause-values c = IsValue-value c.args.self.now (subst AreFitting c.self.view_is c.self.invariant.fitting) c.args.id.0 c.requires
