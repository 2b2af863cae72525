use Rattle.std.proofs.Common.{◌≡◌, ◌&&◌, ◌-◌, drop, length}
use Rattle.type_rules.specs.Calls.{fit_arguments}
use Rattle.function_types.specs.Steps.{arguments_taken}
use Rattle.function_types.specs.Views.{signature_seen}
use Rattle.function_types.proofs.Taking.{tested}
use Rattle.function_types.proofs.arguments.arguments_taken.Given as goal

abbrev pub invariant-loop-place : goal.invariant-loop-place
invariant-loop-place l =
    tested l.declared l.body (l.text_place - l.place) (λ given. l.taken && fit_arguments given (drop l.place (signature_seen l.signature).parameters)) (drop l.place l.arguments)
    ≡ arguments_taken l.declared l.body l.text_place l.arguments (signature_seen l.signature).parameters

abbrev pub decreases-loop-place : goal.decreases-loop-place
decreases-loop-place l = length l.arguments - l.place
