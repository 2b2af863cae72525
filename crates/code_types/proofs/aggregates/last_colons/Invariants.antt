use Rattle.std.proofs.Common.{◌≡◌, ◌≤◌, ◌-◌, None, drop, length}
use Rattle.type_rules.specs.Aggregates.{last_colons}
use Rattle.code_types.proofs.aggregates.last_colons.Given as goal

abbrev pub invariant-loop-end : goal.invariant-loop-end
invariant-loop-end l = (l.end ≤ length l.path) × (last_colons (drop (l.end - 1) l.path) ≡ None)

abbrev pub decreases-loop-end : goal.decreases-loop-end
decreases-loop-end l = l.end
