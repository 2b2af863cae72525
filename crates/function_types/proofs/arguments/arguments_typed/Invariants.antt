use Rattle.std.proofs.Common.{◌≡◌, ◌-◌, drop, length}
use Rattle.function_types.specs.Steps.{arguments_typed}
use Rattle.function_types.proofs.arguments.arguments_typed.Given as goal

abbrev pub invariant-loop-place : goal.invariant-loop-place
invariant-loop-place l = arguments_typed l.declared l.body (l.text_place - l.place) (drop l.place l.arguments) ≡ arguments_typed l.declared l.body l.text_place l.arguments

abbrev pub decreases-loop-place : goal.decreases-loop-place
decreases-loop-place l = length l.arguments - l.place
