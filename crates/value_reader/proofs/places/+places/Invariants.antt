use Rattle.std.proofs.Common.{◌*◌, ◌+◌}
use Rattle.value_reader.proofs.places.+places.Given as goal

abbrev pub decreases-place_with_indexes : goal.decreases-place_with_indexes
decreases-place_with_indexes l = 8 * l.level + 5

abbrev pub decreases-base : goal.decreases-base
decreases-base l = 8 * l.level + 4

abbrev pub decreases-enclosed_place : goal.decreases-enclosed_place
decreases-enclosed_place l = 8 * l.level + 3

abbrev pub decreases-in_parentheses : goal.decreases-in_parentheses
decreases-in_parentheses l = 8 * l.level + 2

abbrev pub decreases-deref_place : goal.decreases-deref_place
decreases-deref_place l = 8 * l.level + 1

abbrev pub decreases-stepped_place : goal.decreases-stepped_place
decreases-stepped_place l = 8 * l.level + 1

abbrev pub decreases-place_in : goal.decreases-place_in
decreases-place_in l = 8 * l.level
