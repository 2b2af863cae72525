use Rattle.std.proofs.Common.{◌≡◌, drop}
use Rattle.std.specs.List.{list_any}
use Rattle.layout_rules.specs.Placing.{share_a_byte}
use Rattle.layout_rules.proofs.placing.shares_with.Given as goal

abbrev pub invariant-loop-other : goal.invariant-loop-other
invariant-loop-other l = list_any (share_a_byte l.spot) (drop l.other-index l.others) ≡ list_any (share_a_byte l.spot) l.others
