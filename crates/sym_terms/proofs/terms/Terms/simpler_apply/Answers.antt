use Rattle.std.proofs.Common.{◌≡◌, rules}
use Rattle.sym_terms.proofs.ValueWords.{IsWidth-width_of}
use Rattle.sym_terms.proofs.Simplified.{IsSimpler-same}
use Rattle.sym_terms.proofs.terms.Terms.simpler_apply.Goals as goal

pub law_of_same-requires : goal.law_of_same-requires
law_of_same-requires c = rw c.width.ensures (IsWidth-width_of c.args.self.now c.constant.ensures.fitting c.args.a.0 c.requires.fitting.0)

pub returns-then-eq : goal.returns-then-eq
returns-then-eq c =
    let e : c.args.a ≡ c.args.b = search rules in
    rw c.simpler_of.ensures (IsSimpler-same c.args.self.now c.constant.ensures.fitting c.args.op c.args.a c.args.b c.requires c.in_ok-law.law e (rw c.width.ensures at c.in_ok-law.ensures))
