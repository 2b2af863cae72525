use Rattle.std.proofs.Common.{◌≡◌, ◌++◌, map, drop}
use Rattle.type_layouts.specs.Extents.{empty, in_order}
use Rattle.type_layouts.specs.Rows.{all_values, extent_in, seen}
use Rattle.type_layouts.proofs.row.+rows.Given as goal

abbrev pub invariant-push_items-loop-item : goal.invariant-push_items-loop-item
invariant-push_items-loop-item l = record {
  extents : in_order l.done (map extent_in (map (seen l.scope) (drop l.item-index l.items))) ≡ in_order empty (map extent_in (map (seen l.scope) l.items));
  rows : l.out.items ++ all_values (map (seen l.scope) (drop l.item-index l.items)) ≡ l.initial.out.items ++ all_values (map (seen l.scope) l.items);
}
