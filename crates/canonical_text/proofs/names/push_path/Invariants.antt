use Rattle.std.proofs.Common.{◌≡◌, ◌++◌, ◌-◌, ◌≤◌, [], length, take, drop}
use Rattle.canonical_text.specs.Names.{rest_written}
use Rattle.canonical_text.proofs.names.push_path.Given as goal

abbrev pub invariant-loop-at : goal.invariant-loop-at
invariant-loop-at l = (l.at ≤ length l.name) × (l.start ≤ l.at) × (l.depth ≤ l.at) × (l.out.items ++ rest_written l.here (take (l.at - l.start) (drop l.start l.name)) l.depth (drop l.at l.name) ≡ l.initial.out.items ++ rest_written l.initial.here [] 0 l.name)

abbrev pub decreases-loop-at : goal.decreases-loop-at
decreases-loop-at l = length l.name - l.at
