use Rattle.std.proofs.Common.{◌≡◌, ◌+◌, ◌≤◌, length}
use Rattle.std.specs.Prelude.{map}
use Rattle.gate_trim.specs.Reading.{stands_in, gate_reads}
use Rattle.gate_trim.specs.Marks.{AreWanted}
use Rattle.gate_trim.proofs.marks.wanted_gates.Given as goal

abbrev pub invariant-loop-k : goal.invariant-loop-k
invariant-loop-k l = record {
  low : l.k ≤ length l.gates;
  one_each : length l.marks.items ≡ length l.gates;
  wanted : AreWanted (λ k. stands_in (l.inputs + k) (map (λ word. word.items) l.roots)) (gate_reads l.inputs l.gates) l.k l.marks.items;
}

abbrev pub decreases-loop-k : goal.decreases-loop-k
decreases-loop-k l = l.k
