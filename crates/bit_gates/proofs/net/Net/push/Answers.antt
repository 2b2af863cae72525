use Rattle.std.proofs.Common.{arith, ◌+◌, length, subst, sym}
use Rattle.bit_gates.specs.declared.gate.Gate.TheVariants.{True}
use Rattle.bit_gates.specs.Values.{IsGateOf}
use Rattle.bit_gates.specs.Circuit.{Circuit, size}
use Rattle.bit_gates.proofs.MadeLaws.{AreInOrder-push, first-push, made-pushed}
use Rattle.bit_gates.proofs.net.Net.push.Goals as goal

pub invariant_of-self-2 : goal.invariant_of-self-2
invariant_of-self-2 c =
    let n = c.self.inside in
    let inside : IsGateOf (n.inputs + length n.gates.items) c.args.gate = subst (λ (k : Circuit). IsGateOf (size k) c.args.gate) (sym c.self.view_is) c.requires in
    record {
      first = rw c.in_ok-push.ensures.items (first-push n.gates.items True c.args.gate c.self.invariant.first);
      in_order = rw c.in_ok-push.ensures.items (AreInOrder-push n.inputs n.gates.items c.args.gate c.self.invariant.in_order inside);
      few = omega arith;
    }

pub returns : goal.returns
returns c = made-pushed _ _ _ _ _ _ c.self.view_is c.in_ok-push.ensures.items (omega (arith, c.self.inside.gates.ok.0))
