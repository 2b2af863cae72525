-- What is kept of a type: its layout, if it has a size, the places of its fields, and the tags of its variants.
use Rattle.std.specs.Prelude.{List, Option, Some, None, map}
use Rattle.mir_ir.specs.declared.declarations.TypeDecl.{TypeDecl}
use Rattle.mir_ir.specs.declared.types.Ty.{Ty}
use Rattle.mir_program.specs.Joined.{Joined}
use Rattle.type_layouts.specs.declared.extent.Extent.{Extent}
use Rattle.type_layouts.specs.declared.extent.Form.{Form}
use Rattle.type_layouts.specs.declared.extent.Form.TheVariants as form
use Rattle.type_layouts.specs.Extents.{alignment}
use Rattle.type_layouts.specs.Rows.{extent_of}
use Rattle.typed_program.specs.declared.rows.Layout.{Layout}
use Rattle.typed_program.specs.declared.rows.TypeRow.{TypeRow}
use Rattle.typed_program.specs.Numbers.{types_of}
use Rattle.typed_program.specs.Places.{places_of, tags_of}

abbrev pub extent_layout : Extent → Layout
extent_layout e = record { size = e.size; align = alignment e.align }

-- a slice, a `dyn` value and a `str` have no layout of their own
abbrev pub layout_in : Form → Extent → Option Layout
layout_in form.Sized e = Some (extent_layout e)
layout_in form.Slice e = None
layout_in form.Dyn e = None

abbrev pub sized_layout : Extent → Option Layout
sized_layout e = layout_in e.form e

abbrev pub row_of : List TypeDecl → Ty → TypeRow
row_of types t = record { layout = sized_layout (extent_of types t); places = places_of types t; tags = tags_of types t }

unfoldable pub rows_of : Joined → List TypeRow
rows_of p = map (row_of p.declarations.types) (types_of p)
