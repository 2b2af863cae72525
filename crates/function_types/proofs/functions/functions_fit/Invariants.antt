use Rattle.std.proofs.Common.{◌≡◌, ◌-◌, drop, length}
use Rattle.type_rules.specs.Code.{functions_fit}
use Rattle.function_types.proofs.functions.functions_fit.Given as goal

abbrev pub invariant-loop-number : goal.invariant-loop-number
invariant-loop-number l = functions_fit l.functions l.declared l.number (drop l.number l.all) ≡ functions_fit l.functions l.declared 0 l.functions

abbrev pub decreases-loop-number : goal.decreases-loop-number
decreases-loop-number l = length l.all - l.number
