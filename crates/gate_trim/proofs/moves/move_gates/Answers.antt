use Rattle.std.proofs.Common.{◌+◌, ℕ, false, List, length, take, get_or, sym, ap, subst, refl}
use Rattle.bit_gates.specs.declared.gate.Gate.TheVariants.{True}
use Rattle.gate_trim.specs.Trimmed.{circuit}
use Rattle.gate_trim.specs.Moves.{IsMovedGate}
use Rattle.gate_trim.proofs.FrontLaws.{AreInFront, front_start, front_reads, front_more}
use Rattle.gate_trim.proofs.moves.move_gates.Goals as goal

pub loop-k-init : goal.loop-k-init
loop-k-init c = front_start c.args.inputs c.args.gates.now c.args.marks.now c.in_ok-places.places.items c.requires.old_gates c.in_ok-places.ensures.items

pub move_gate-requires-clause-reads_inside : goal.move_gate-requires-clause-reads_inside
move_gate-requires-clause-reads_inside c =
    front_reads c.args.inputs c.args.gates.now c.loop-k.gates c.args.marks.now c.loop-k.k c.loop-k.kept (length c.as_slice.result.now) c.loop-k.places.items (get_or c.loop-k.gates c.loop-k.k True) c.requires.old_gates c.loop-k.invariant c.loop-k-test.true refl (ap length c.as_slice.ensures.value)

pub loop-k-preserved : goal.loop-k-preserved
loop-k-preserved c =
    let gate = get_or c.loop-k.gates c.loop-k.k True in
    subst (λ (ls : List ℕ). AreInFront c.args.inputs c.args.gates.now c.args.marks.now (c.loop-k.k + 1) c.move_gate.new.gates c.in_ok-literal.count ls) (sym c.in_ok-push.ensures.items)
    (front_more c.args.inputs c.args.gates.now c.loop-k.gates c.move_gate.new.gates c.args.marks.now (get_or c.args.marks.now c.loop-k.k false) c.loop-k.k c.loop-k.kept c.in_ok-literal.count c.loop-k.places.items gate c.in_ok-literal.literal c.requires.old_gates c.loop-k-test.true refl refl c.requires.one_each c.requires.closed c.loop-k.invariant
    (subst (λ (ls : List ℕ). IsMovedGate (circuit c.args.inputs (take c.loop-k.kept c.loop-k.gates)) (circuit c.args.inputs (take c.in_ok-literal.count c.move_gate.new.gates)) ls (get_or c.args.marks.now c.loop-k.k false) gate c.in_ok-literal.literal) c.as_slice.ensures.value c.in_ok-literal.ensures.moved)
    c.in_ok-literal.ensures.rest c.move_gate.ensures.long)
