use Rattle.std.proofs.Common.{◌≡◌, ◌++◌, drop, map}
use Rattle.type_layouts.specs.Extents.{empty}
use Rattle.type_layouts.specs.Rows.{extent_of}
use Rattle.typed_program.specs.Places.{places_behind}
use Rattle.typed_program.proofs.places.item_places.Given as goal

abbrev pub invariant-loop-item : goal.invariant-loop-item
invariant-loop-item l = l.places ++ places_behind l.done (map (extent_of l.scope) (drop l.item-index l.items)) ≡ places_behind empty (map (extent_of l.scope) l.items)
