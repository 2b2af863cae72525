use Rattle.bit_blast.specs.Inputs.{AreFew, HaveWidths}
use Rattle.bit_blast.proofs.inputs.input_widths.Given as goal

abbrev pub invariant-loop-n : goal.invariant-loop-n
invariant-loop-n l = record { have : HaveWidths l.terms l.n l.widths.items; few : AreFew l.widths.items }
