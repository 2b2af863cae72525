use Rattle.std.proofs.Common.{◌≡◌, ◌≤◌, ◌-◌, Ok}
use Rattle.type_rules.specs.Code.{blocks_fit}
use Rattle.function_types.proofs.steps.blocks_fit.Given as goal

abbrev pub invariant-loop-label : goal.invariant-loop-label
invariant-loop-label l = (l.label ≤ l.end) × (blocks_fit l.functions l.declared l.number l.body l.label ≡ Ok tt)

abbrev pub decreases-loop-label : goal.decreases-loop-label
decreases-loop-label l = l.end - l.label
