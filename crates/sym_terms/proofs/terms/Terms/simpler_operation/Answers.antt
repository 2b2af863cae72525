use Rattle.std.proofs.Common.{◌≡◌, true, rules}
use Rattle.sym_terms.specs.Ops.{is_commutative}
use Rattle.sym_terms.proofs.AgainLaws.{IsSimpler-swapped}
use Rattle.sym_terms.proofs.terms.Terms.simpler_operation.Goals as goal

pub returns-then-goes_second : goal.returns-then-goes_second
returns-then-goes_second c =
    let h : is_commutative c.args.op ≡ true = search rules in
    IsSimpler-swapped c.args.self.now c.goes_second.ensures c.args.op c.args.a c.args.b h c.requires c.simpler_in_order.result c.simpler_in_order.ensures
