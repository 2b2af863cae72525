use Rattle.std.proofs.Common.{◌≡◌, true, rules}
use Rattle.sym_terms.specs.Ops.{is_associative}
use Rattle.sym_terms.proofs.AgainLaws.{associative_binary, parts_of, AreFolded-both, IsWithConstant-both}
use Rattle.sym_terms.proofs.terms.Terms.with_both_constants.Goals as goal

pub constant-requires : goal.constant-requires
constant-requires c =
    let h : is_associative c.args.op ≡ true = search rules in
    let kind = associative_binary c.args.op h in
    let has = parts_of c.args.self.now c.in_ok-inner.ensures.fitting c.args.op c.in_ok-inner.inner c.in_ok-inner.outer c.args.a.0 c.requires.fits.fitting.0 kind.0 kind.1 c.in_ok-inner.ensures.found in
    has.second

pub fold-requires : goal.fold-requires
fold-requires c =
    let h : is_associative c.args.op ≡ true = search rules in
    AreFolded-both c.args.self.now c.in_ok-inner.ensures.fitting c.args.op h c.args.a c.args.b c.in_ok-inner.inner c.in_ok-inner.outer c.in_ok-first.first c.args.second c.requires.fits c.in_ok-inner.ensures.found c.in_ok-first.ensures.found c.requires.constant

pub returns : goal.returns
returns c =
    let h : is_associative c.args.op ≡ true = search rules in
    rw c.fold.ensures (IsWithConstant-both c.args.self.now c.in_ok-inner.ensures.fitting c.args.op h c.args.a c.args.b c.in_ok-inner.inner c.in_ok-inner.outer c.in_ok-first.first c.args.second c.requires.fits c.in_ok-inner.ensures.found c.in_ok-first.ensures.found c.requires.constant)
