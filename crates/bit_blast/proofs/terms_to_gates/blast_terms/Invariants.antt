use Rattle.std.proofs.Common.{◌≡◌}
use Rattle.bit_blast.specs.Blasted.{IsTable}
use Rattle.bit_blast.proofs.terms_to_gates.blast_terms.Given as goal

abbrev pub invariant-loop-n : goal.invariant-loop-n
invariant-loop-n l = (l.net.inputs ≡ l.fn.net.inputs) × IsTable l.net l.terms l.places l.marks l.n l.table.blocks
