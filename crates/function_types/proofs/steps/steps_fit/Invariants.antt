use Rattle.std.proofs.Common.{◌≡◌, ◌-◌, drop, length}
use Rattle.type_rules.specs.Code.{steps_fit}
use Rattle.function_types.proofs.steps.steps_fit.Given as goal

abbrev pub invariant-loop-index : goal.invariant-loop-index
invariant-loop-index l =
    steps_fit l.functions l.declared l.number l.body l.block.id l.index (drop l.index l.statements) l.block.terminator
    ≡ steps_fit l.functions l.declared l.number l.body l.block.id 0 l.block.statements l.block.terminator

abbrev pub decreases-loop-index : goal.decreases-loop-index
decreases-loop-index l = length l.statements - l.index
