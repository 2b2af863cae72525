use Rattle.std.proofs.Common.{◌≡◌, ◌++◌, length, map}
use Rattle.front_end.specs.Front.{function_name}
use Rattle.front_end.proofs.front.names_of.Given as goal

-- behind the names that are there stand those of the functions that are left
abbrev pub invariant-loop-left : goal.invariant-loop-left
invariant-loop-left l = l.names ++ map function_name l.left ≡ map function_name l.functions

abbrev pub decreases-loop-left : goal.decreases-loop-left
decreases-loop-left l = length l.left
