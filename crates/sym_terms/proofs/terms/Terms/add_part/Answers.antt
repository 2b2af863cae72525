use Rattle.std.proofs.Common.{◌≡◌, rules}
use Rattle.sym_terms.proofs.AgainLaws.{add_sub_second}
use Rattle.sym_terms.proofs.terms.Terms.add_part.Goals as goal

pub returns-then-eq-clause-found : goal.returns-then-eq-clause-found
returns-then-eq-clause-found c =
    let e : c.in_ok-p.q ≡ c.args.b = search rules in
    add_sub_second c.args.self.now c.in_ok-p.ensures.fitting c.args.a c.args.b c.in_ok-p.p c.in_ok-p.q c.requires c.in_ok-p.ensures.found e
