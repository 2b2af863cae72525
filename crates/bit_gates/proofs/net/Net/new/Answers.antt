use Rattle.std.proofs.Common.{◌≡◌, ◌∷◌, ◌++◌, [], List, ap, ◌∙◌, arith}
use Rattle.bit_gates.specs.declared.gate.Gate.{Gate}
use Rattle.bit_gates.specs.declared.gate.Gate.TheVariants.{True}
use Rattle.bit_gates.proofs.InputLaws.{constant_in_order, constant_first}
use Rattle.bit_gates.proofs.net.Net.new.Goals as goal

pub invariant_of-result : goal.invariant_of-result
invariant_of-result c =
    let e : c.push.new.self.items ≡ True ∷ [] = c.in_ok-push.ensures.items ∙ ap (λ (k : List Gate). k ++ True ∷ []) c.new-gates.ensures.items in
    record {
      first = constant_first c.push.new.self.items e;
      in_order = constant_in_order c.args.inputs c.push.new.self.items e;
      few = omega (arith, c.in_ok-push.ensures.len);
    }
