use Rattle.sym_terms.proofs.TermLaws.{IsSimpler-same_value}
use Rattle.sym_terms.proofs.terms.Terms.simplest.Goals as goal

pub returns-in-Other : goal.returns-in-Other
returns-in-Other c = IsSimpler-same_value c.args.self.now c.in-Other.other c.args.term c.in-Other.ensures.value_is c.in-Other.ensures.width_is c.in-Other.ensures.agrees c.simpler-in-Other.result c.simpler-in-Other.ensures
