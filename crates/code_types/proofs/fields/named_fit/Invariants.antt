use Rattle.std.proofs.Common.{◌≡◌, ◌-◌, drop, length}
use Rattle.type_rules.specs.Aggregates.{fields_fit}
use Rattle.type_rules.specs.Refusals.{◌>>◌}
use Rattle.type_rules.specs.Rvalues.{given_type}
use Rattle.code_types.specs.Lists.{named_fit}
use Rattle.code_types.proofs.ListLaws.{tested}
use Rattle.code_types.proofs.fields.named_fit.Given as goal

abbrev pub invariant-loop-place : goal.invariant-loop-place
invariant-loop-place l =
    tested (given_type l.declared l.body) (λ gs. l.fits >> fields_fit l.fields (drop l.place l.fields) gs) (drop l.place l.given) ≡ named_fit l.declared l.body l.fields l.given

abbrev pub decreases-loop-place : goal.decreases-loop-place
decreases-loop-place l = length l.given - l.place
