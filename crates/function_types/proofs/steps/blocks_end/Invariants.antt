use Rattle.std.proofs.Common.{◌≡◌, ◌≤◌, ◌-◌, ◌^◌, drop, length, max}
use Rattle.type_rules.specs.Code.{blocks_end}
use Rattle.function_types.proofs.steps.blocks_end.Given as goal

abbrev pub invariant-loop-place : goal.invariant-loop-place
invariant-loop-place l = (l.end ≤ 2 ^ 32) × (max l.end (blocks_end (drop l.place l.blocks)) ≡ blocks_end l.blocks)

abbrev pub decreases-loop-place : goal.decreases-loop-place
decreases-loop-place l = length l.blocks - l.place
