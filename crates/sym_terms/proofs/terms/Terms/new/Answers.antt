use Rattle.std.proofs.Common.{sym, ap, ◌∙◌, subst, length, arith, ◌≡◌, []}
use Rattle.sym_terms.specs.Terms.{AreFitting}
use Rattle.sym_terms.proofs.Grown.{AreFitting-empty}
use Rattle.sym_terms.proofs.terms.Terms.new.Goals as goal

pub invariant_of-result : goal.invariant_of-result
invariant_of-result c =
    let none : c.new.result.keys ≡ [] = c.new.ensures.empty in
    record {
      fitting = subst AreFitting (sym none) AreFitting-empty;
      one_each = ap length c.new-2.ensures.items ∙ sym (ap length none);
      widths = λ n h. absurd (omega (arith, ap length none));
    }
