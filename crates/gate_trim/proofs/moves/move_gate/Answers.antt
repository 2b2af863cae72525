use Rattle.std.proofs.Common.{◌≡◌, ◌+◌, ◌<◌, length, take, slice_set, inl, inr, sym, arith, rules}
use Rattle.std.proofs.lemmas.Bool.{both_ways}
use Rattle.std.proofs.lemmas.List.{take_more_set, length-take-le}
use Rattle.bit_gates.specs.declared.gate.Gate.TheVariants.{True}
use Rattle.gate_trim.proofs.MoveLaws.{pushed_gate, passed_gate}
use Rattle.gate_trim.proofs.moves.move_gate.Goals as goal

pub returns-then-not-wanted-clause-moved : goal.returns-then-not-wanted-clause-moved
returns-then-not-wanted-clause-moved c = inr (passed_gate c.args.inputs (take c.args.kept c.args.gates.now) c.args.wanted c.args.gate c.requires.kept_gates (λ h. absurd (both_ways c.args.wanted c.if-not-wanted.true h)))

pub returns-then-eq-clause-moved : goal.returns-then-eq-clause-moved
returns-then-eq-clause-moved c =
    let same : c.args.gate ≡ True = search rules in
    inr (passed_gate c.args.inputs (take c.args.kept c.args.gates.now) c.args.wanted c.args.gate c.requires.kept_gates (λ h. same))

pub returns-clause-moved : goal.returns-clause-moved
returns-clause-moved c =
    let room : c.args.kept < length c.args.gates.now = search rules in
    inl (
      c.if-not-wanted.false,
      pushed_gate c.args.inputs c.args.kept (take c.args.kept c.args.gates.now) (take (c.args.kept + 1) (slice_set c.args.gates.now c.args.kept c.moved_gate.result)) c.args.places.now c.args.gate c.moved_gate.result c.requires.kept_gates c.requires.reads_inside c.requires.places_inside c.moved_gate.ensures
          (take_more_set c.args.gates.now c.args.kept c.moved_gate.result room) (sym (length-take-le c.args.kept c.args.gates.now c.requires.behind)) (omega arith),
    )
