use Rattle.std.proofs.Common.{ℕ, Vec, Global, arith}
use Rattle.std.specs.Prelude.{map}
use Rattle.std.proofs.lemmas.List.Elements.{All-map}
use Rattle.bit_gates.specs.Made.{AreIn}
use Rattle.gate_trim.specs.Trimmed.{circuit}
use Rattle.gate_trim.proofs.FrontLaws.{trimmed_front}
use Rattle.gate_trim.proofs.trimming.trim.Goals as goal

pub returns : goal.returns
returns c =
    trimmed_front c.args.inputs c.args.gates.len c.in_ok-kept.field-0.kept c.args.gates.items c.as_slice.result.now c.as_mut_slice.result.now c.move_gates.new.gates c.truncate.new.self.items (map (λ (w : Vec ℕ Global). w.items) c.args.roots.now) (map (λ (w : Vec ℕ Global). w.items) c.in_ok-words.words.items) c.in_ok-marks.marks.items c.as_slice-2.result.now c.in_ok-kept.field-0.places.items c.as_slice-3.result.now
    c.as_slice.ensures.value c.as_mut_slice.ensures.value (omega (arith, c.args.gates.ok.0)) c.move_gates.ensures.long c.truncate.ensures.items c.as_slice-2.ensures.value c.as_slice-3.ensures.value c.in_ok-marks.ensures.one_each c.in_ok-marks.ensures.wanted c.in_ok-kept.ensures.moved
    (All-map (AreIn (circuit c.args.inputs c.args.gates.items)) (λ (w : Vec ℕ Global). w.items) c.args.roots.now c.requires.roots) c.in_ok-words.ensures
