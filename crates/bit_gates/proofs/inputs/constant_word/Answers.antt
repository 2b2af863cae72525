use Rattle.bit_gates.proofs.InputLaws.{constant_none, constant_more}
use Rattle.bit_gates.proofs.inputs.constant_word.Goals as goal

pub loop-k-init : goal.loop-k-init
loop-k-init c = rw c.in_ok-literals.ensures.items (constant_none c.args.net.now c.args.value)

pub loop-k-preserved : goal.loop-k-preserved
loop-k-preserved c = rw c.in_ok-push.ensures.items (constant_more c.args.net.now c.loop-k.literals.items c.loop-k.k _ c.args.value c.loop-k.invariant c.constant.ensures)
