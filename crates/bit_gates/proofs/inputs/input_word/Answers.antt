use Rattle.std.proofs.Common.{◌≡◌, ℕ, subst, arith}
use Rattle.bit_gates.specs.Made.{IsInputWord}
use Rattle.bit_gates.proofs.InputLaws.{input_none, input_more}
use Rattle.bit_gates.proofs.inputs.input_word.Goals as goal

pub loop-k-init : goal.loop-k-init
loop-k-init c = rw c.in_ok-literals.ensures.items (input_none c.args.net.now c.args.first)

pub loop-k-preserved : goal.loop-k-preserved
loop-k-preserved c = rw c.in_ok-push.ensures.items (input_more c.args.net.now c.loop-k.literals.items c.args.first c.loop-k.k _ c.loop-k.invariant c.input.ensures)

pub returns : goal.returns
returns c =
    let e : c.loop-k.k ≡ c.args.width = omega arith in
    subst (λ (k : ℕ). IsInputWord c.args.net.now c.loop-k.literals.items c.args.first k) e c.loop-k.invariant
