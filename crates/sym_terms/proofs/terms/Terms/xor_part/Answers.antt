use Rattle.std.proofs.Common.{◌≡◌, rules}
use Rattle.sym_terms.proofs.AgainLaws.{xor_first, xor_second}
use Rattle.sym_terms.proofs.terms.Terms.xor_part.Goals as goal

pub returns-then-eq-clause-found : goal.returns-then-eq-clause-found
returns-then-eq-clause-found c =
    let e : c.in_ok-p.q ≡ c.args.b = search rules in
    xor_second c.args.self.now c.in_ok-p.ensures.fitting c.args.a c.args.b c.in_ok-p.p c.in_ok-p.q c.requires c.in_ok-p.ensures.found e

pub returns-then-eq-2-clause-found : goal.returns-then-eq-2-clause-found
returns-then-eq-2-clause-found c =
    let e : c.in_ok-p.p ≡ c.args.b = search rules in
    xor_first c.args.self.now c.in_ok-p.ensures.fitting c.args.a c.args.b c.in_ok-p.p c.in_ok-p.q c.requires c.in_ok-p.ensures.found e
