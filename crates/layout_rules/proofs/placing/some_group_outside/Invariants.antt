use Rattle.std.proofs.Common.{◌≡◌, drop}
use Rattle.std.specs.List.{list_any}
use Rattle.layout_rules.specs.Placing.{is_spot_outside}
use Rattle.layout_rules.proofs.placing.some_group_outside.Given as goal

abbrev pub invariant-loop-group : goal.invariant-loop-group
invariant-loop-group l = list_any (list_any (is_spot_outside l.size)) (drop l.group-index l.groups) ≡ list_any (list_any (is_spot_outside l.size)) l.groups
