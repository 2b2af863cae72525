use Rattle.std.proofs.Common.{◌≡◌, drop}
use Rattle.std.specs.List.{list_any}
use Rattle.layout_rules.specs.Placing.{some_share, with_tag}
use Rattle.layout_rules.proofs.placing.some_group_shares.Given as goal

abbrev pub invariant-loop-group : goal.invariant-loop-group
invariant-loop-group l = list_any (λ spots. some_share (with_tag l.tag spots)) (drop l.group-index l.groups) ≡ list_any (λ spots. some_share (with_tag l.tag spots)) l.groups
