use Rattle.std.proofs.Common.{◌≡◌, ◌-◌, drop, length}
use Rattle.code_types.specs.Lists.{named_typed}
use Rattle.code_types.proofs.fields.named_typed.Given as goal

abbrev pub invariant-loop-place : goal.invariant-loop-place
invariant-loop-place l = named_typed l.declared l.body (drop l.place l.given) ≡ named_typed l.declared l.body l.given

abbrev pub decreases-loop-place : goal.decreases-loop-place
decreases-loop-place l = length l.given - l.place
