use Rattle.std.proofs.Common.{◌≡◌, ◌-◌, ℕ, get_or, vec_len}
use Rattle.bit_blast.proofs.inputs.grow.Given as goal

abbrev pub invariant-loop-widths : goal.invariant-loop-widths
invariant-loop-widths l = (k : ℕ) → get_or l.widths.items k 0 ≡ get_or l.fn.widths.items k 0

abbrev pub decreases-loop-widths : goal.decreases-loop-widths
decreases-loop-widths l = l.count - vec_len l.widths
