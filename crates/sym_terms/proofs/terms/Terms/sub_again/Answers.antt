use Rattle.std.proofs.Common.{◌≡◌, rules}
use Rattle.sym_terms.proofs.AgainLaws.{sub_add_second, sub_add_first, sub_sub_first}
use Rattle.sym_terms.proofs.terms.Terms.sub_again.Goals as goal

pub returns-then-eq : goal.returns-then-eq
returns-then-eq c =
    let e : c.in-Some.q ≡ c.args.b = search rules in
    sub_add_second c.args.self.now c.in-Some.ensures.fitting c.args.a c.args.b c.in-Some.p c.in-Some.q c.requires c.in-Some.ensures.found e

pub returns-then-eq-2 : goal.returns-then-eq-2
returns-then-eq-2 c =
    let e : c.in-Some.p ≡ c.args.b = search rules in
    sub_add_first c.args.self.now c.in-Some.ensures.fitting c.args.a c.args.b c.in-Some.p c.in-Some.q c.requires c.in-Some.ensures.found e

pub returns-then-eq-3 : goal.returns-then-eq-3
returns-then-eq-3 c =
    let e : c.in_ok-p-in-None.p ≡ c.args.a = search rules in
    sub_sub_first c.args.self.now c.in_ok-p-in-None.ensures.fitting c.args.a c.args.b c.in_ok-p-in-None.p c.in_ok-p-in-None.q c.requires c.in_ok-p-in-None.ensures.found e
