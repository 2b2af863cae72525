use Rattle.std.proofs.Common.{◌≡◌, drop}
use Rattle.std.specs.List.{list_any}
use Rattle.layout_rules.specs.Placing.{is_spot_misaligned}
use Rattle.layout_rules.proofs.placing.some_group_misaligned.Given as goal

abbrev pub invariant-loop-group : goal.invariant-loop-group
invariant-loop-group l = list_any (list_any (is_spot_misaligned l.align)) (drop l.group-index l.groups) ≡ list_any (list_any (is_spot_misaligned l.align)) l.groups
