use Rattle.std.proofs.Common.{◌≡◌, ◌≤◌, length}
use Rattle.gate_trim.specs.Marks.{AreWanted}
use Rattle.bit_blast.specs.Reached.{is_part, is_root}
use Rattle.bit_blast.proofs.reached.reached_terms.Given as goal

abbrev pub invariant-loop-n : goal.invariant-loop-n
invariant-loop-n l = record {
  low : l.n ≤ length l.terms;
  one_each : length l.marks.items ≡ length l.terms;
  wanted : AreWanted (is_root l.roots) (is_part l.terms) l.n l.marks.items;
}

abbrev pub decreases-loop-n : goal.decreases-loop-n
decreases-loop-n l = l.n
