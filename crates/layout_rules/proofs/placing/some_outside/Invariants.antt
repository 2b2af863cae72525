use Rattle.std.proofs.Common.{◌≡◌, drop}
use Rattle.std.specs.List.{list_any}
use Rattle.layout_rules.specs.Placing.{is_spot_outside}
use Rattle.layout_rules.proofs.placing.some_outside.Given as goal

abbrev pub invariant-loop-spot : goal.invariant-loop-spot
invariant-loop-spot l = list_any (is_spot_outside l.size) (drop l.spot-index l.spots) ≡ list_any (is_spot_outside l.size) l.spots
