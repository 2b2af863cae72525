use Rattle.std.proofs.Common.{◌≡◌, true, rules}
use Rattle.sym_terms.specs.Ops.{is_commutative}
use Rattle.sym_terms.proofs.AgainLaws.{equal_second, equal_first, equal_first_second, equal_second_first}
use Rattle.sym_terms.proofs.terms.Terms.equal_parts.Goals as goal

pub returns-then-eq : goal.returns-then-eq
returns-then-eq c =
    let e : c.in_ok-p.q ≡ c.in_ok-r.s = search rules in
    rw c.equation.ensures (equal_second c.args.self.now c.in_ok-p.ensures.fitting c.args.op c.requires.cancelling c.args.a c.args.b c.in_ok-p.p c.in_ok-p.q c.in_ok-r.r c.in_ok-r.s c.requires.fits c.in_ok-p.ensures.found c.in_ok-r.ensures.found e)

pub returns-then-eq-2 : goal.returns-then-eq-2
returns-then-eq-2 c =
    let e : c.in_ok-p.p ≡ c.in_ok-r.r = search rules in
    let g : is_commutative c.args.op ≡ true = search rules in
    rw c.equation-then-eq-2.ensures (equal_first c.args.self.now c.in_ok-p.ensures.fitting c.args.op c.requires.cancelling c.args.a c.args.b c.in_ok-p.p c.in_ok-p.q c.in_ok-r.r c.in_ok-r.s c.requires.fits c.in_ok-p.ensures.found c.in_ok-r.ensures.found g e)

pub returns-then-eq-3 : goal.returns-then-eq-3
returns-then-eq-3 c =
    let e : c.in_ok-p.p ≡ c.in_ok-r.s = search rules in
    let g : is_commutative c.args.op ≡ true = search rules in
    rw c.equation-then-eq-3.ensures (equal_first_second c.args.self.now c.in_ok-p.ensures.fitting c.args.op c.requires.cancelling c.args.a c.args.b c.in_ok-p.p c.in_ok-p.q c.in_ok-r.r c.in_ok-r.s c.requires.fits c.in_ok-p.ensures.found c.in_ok-r.ensures.found g e)

pub returns-then-eq-4 : goal.returns-then-eq-4
returns-then-eq-4 c =
    let e : c.in_ok-p.q ≡ c.in_ok-r.r = search rules in
    let g : is_commutative c.args.op ≡ true = search rules in
    rw c.equation-then-eq-4.ensures (equal_second_first c.args.self.now c.in_ok-p.ensures.fitting c.args.op c.requires.cancelling c.args.a c.args.b c.in_ok-p.p c.in_ok-p.q c.in_ok-r.r c.in_ok-r.s c.requires.fits c.in_ok-p.ensures.found c.in_ok-r.ensures.found g e)
