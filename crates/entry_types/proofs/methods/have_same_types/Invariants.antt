use Rattle.std.proofs.Common.{◌≡◌, ◌-◌, drop, length}
use Rattle.type_rules.specs.Calls.{types_of}
use Rattle.type_rules.specs.Types.{same_types}
use Rattle.entry_types.proofs.methods.have_same_types.Given as goal

-- what is left of both lists tells whether they are the same
abbrev pub invariant-loop-at : goal.invariant-loop-at
invariant-loop-at l =
    (length l.fn.own ≡ length l.fn.model)
    × (same_types (types_of (drop l.at l.fn.own)) (types_of (drop l.at l.fn.model)) ≡ same_types (types_of l.fn.own) (types_of l.fn.model))

abbrev pub decreases-loop-at : goal.decreases-loop-at
decreases-loop-at l = length l.own - l.at
