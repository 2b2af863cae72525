use Rattle.std.proofs.Common.{◌≡◌, ℕ, ◌||◌, length}
use Rattle.raw_functions.specs.Steps.{is_number}
use Rattle.raw_functions.specs.Meant.{is_cleanup}
use Rattle.raw_functions.proofs.blocks.cleanup_numbers.Given as goal

abbrev pub invariant-loop-left : goal.invariant-loop-left
invariant-loop-left l = (n : ℕ) → (is_number l.numbers.keys n || is_cleanup l.left n) ≡ is_cleanup l.blocks n

abbrev pub decreases-loop-left : goal.decreases-loop-left
decreases-loop-left l = length l.left
