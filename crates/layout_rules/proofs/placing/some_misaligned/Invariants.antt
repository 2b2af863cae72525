use Rattle.std.proofs.Common.{◌≡◌, drop}
use Rattle.std.specs.List.{list_any}
use Rattle.layout_rules.specs.Placing.{is_spot_misaligned}
use Rattle.layout_rules.proofs.placing.some_misaligned.Given as goal

abbrev pub invariant-loop-spot : goal.invariant-loop-spot
invariant-loop-spot l = list_any (is_spot_misaligned l.align) (drop l.spot-index l.spots) ≡ list_any (is_spot_misaligned l.align) l.spots
