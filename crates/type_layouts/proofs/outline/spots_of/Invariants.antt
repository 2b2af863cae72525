use Rattle.std.proofs.Common.{◌≡◌, ◌++◌, drop, map}
use Rattle.type_layouts.specs.Extents.{in_order}
use Rattle.type_layouts.specs.Outlines.{field_extent, field_spot}
use Rattle.type_layouts.proofs.outline.spots_of.Given as goal

abbrev pub invariant-loop-field : goal.invariant-loop-field
invariant-loop-field l = record {
  spots : l.spots ++ map (field_spot l.scope) (drop l.field-index l.fields) ≡ map (field_spot l.scope) l.fields;
  done : in_order l.done (map (field_extent l.scope) (drop l.field-index l.fields)) ≡ in_order l.initial.done (map (field_extent l.scope) l.fields);
}
