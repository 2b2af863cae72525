use Rattle.std.proofs.Common.{◌≡◌, ◌-◌, drop, length}
use Rattle.type_rules.specs.Entries.{loops_fit}
use Rattle.entry_types.proofs.rules.loops_fit.Given as goal

abbrev pub invariant-loop-at : goal.invariant-loop-at
invariant-loop-at l = loops_fit l.functions l.declared l.at (drop l.at l.loops) ≡ loops_fit l.functions l.declared 0 l.loops

abbrev pub decreases-loop-at : goal.decreases-loop-at
decreases-loop-at l = length l.loops - l.at
