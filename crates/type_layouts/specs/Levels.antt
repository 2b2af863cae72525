-- One level of a type, for the code that takes types apart.
use Rattle.std.specs.Prelude.{ℕ, List}
use Rattle.mir_ir.specs.declared.declarations.TypeDecl.{TypeDecl}
use Rattle.mir_ir.specs.declared.types.Ty.{Ty, out-Ty, map-Ty}
use Rattle.type_layouts.specs.declared.extent.Extent.{Extent}
use Rattle.type_layouts.specs.declared.row.Row.{Row}
use Rattle.type_layouts.specs.Rows.{Seen, extent_in, form_extent, form_inner, seen}

abbrev pub level_extent : List TypeDecl → List ℕ → Ty → Extent
level_extent types text t = form_extent types text (map-Ty Seen Extent extent_in (map-Ty Ty Seen (seen types) (out-Ty t)))

abbrev pub level_inner : List TypeDecl → Ty → List Row
level_inner types t = form_inner (map-Ty Ty Seen (seen types) (out-Ty t))
