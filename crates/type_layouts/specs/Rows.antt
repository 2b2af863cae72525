-- A type and the types that it names, a part before the whole.
use Rattle.std.specs.Prelude.{ℕ, ◌/◌, Bool, true, false, List, [], ◌∷◌, ◌++◌}
use Rattle.mir_ir.specs.declared.declarations.TypeDecl.{TypeDecl}
use Rattle.mir_ir.specs.declared.types.Ty.{Ty, map-Ty}
use Rattle.mir_ir.specs.declared.types.Ty.TheOpen.{Ty-F}
use Rattle.mir_ir.specs.declared.types.Ty.TheFolds.{fold-Ty}
use Rattle.mir_ir.specs.Integers.{width_of}
use Rattle.canonical_text.specs.Types.{form_text}
use Rattle.type_layouts.specs.declared.extent.Extent.{Extent}
use Rattle.type_layouts.specs.declared.extent.Form.{Form}
use Rattle.type_layouts.specs.declared.extent.Form.TheVariants as form
use Rattle.type_layouts.specs.declared.row.Row.{Row}
use Rattle.type_layouts.specs.Entries.{extent_named}
use Rattle.type_layouts.specs.Extents.{empty, number_extent, pointer_extent, repeated, tuple_extent}

-- what the values of a type are, from what those of its parts are: integers, bool and char are numbers, a `str` and a `Box`
-- of a slice are not known, and neither is a named type without a declaration. A declared type is as it is declared.
abbrev pub is_slice : Form → Bool
is_slice form.Slice = true
is_slice _ = false

abbrev pub form_extent : List TypeDecl → List ℕ → Ty-F Extent → Extent
form_extent types text Ty-F.Bool = number_extent 1
form_extent types text Ty-F.Char = number_extent 4
form_extent types text (Ty-F.Int i) = number_extent (width_of i / 8)
form_extent types text Ty-F.Never = empty
form_extent types text Ty-F.Str = record empty { form = form.Slice; is_unknown = true }
form_extent types text (Ty-F.Tuple items) = extent_named types text (tuple_extent items)
form_extent types text (Ty-F.Array item count) = repeated count item
form_extent types text (Ty-F.Slice item) = record empty { form = form.Slice; is_unknown = false }
form_extent types text (Ty-F.Ref mutable target) = pointer_extent target.form false
form_extent types text (Ty-F.Raw mutable target) = pointer_extent target.form false
form_extent types text (Ty-F.BoxOf target) = pointer_extent target.form (is_slice target.form)
form_extent types text (Ty-F.Dyn path) = record empty { form = form.Dyn; is_unknown = false }
form_extent types text (Ty-F.Named path) = extent_named types text (record empty { form = form.Sized; is_unknown = true })

-- a type, and what it names
pub record Seen : Type 0 where
  pub own : Row
  pub inner : List Row

-- the type as that of a value: of a local, a parameter, a result, a field or an element; or behind a pointer, or named
abbrev pub placed : Bool → Row → Row
placed is_value row = record row { is_value = is_value }

abbrev pub whole : Bool → Seen → List Row
whole is_value s = s.inner ++ placed is_value s.own ∷ []

abbrev pub all_values : List Seen → List Row
all_values [] = []
all_values (s ∷ more) = whole true s ++ all_values more

-- what a type of this form names: its parts in order, those of tuples, arrays and slices as values
abbrev pub form_inner : Ty-F Seen → List Row
form_inner (Ty-F.Tuple items) = all_values items
form_inner (Ty-F.Array item count) = whole true item
form_inner (Ty-F.Slice item) = whole true item
form_inner (Ty-F.Ref mutable target) = whole false target
form_inner (Ty-F.Raw mutable target) = whole false target
form_inner (Ty-F.BoxOf target) = whole false target
form_inner _ = []

abbrev pub text_in : Seen → List ℕ
text_in s = s.own.text

abbrev pub extent_in : Seen → Extent
extent_in s = s.own.extent

abbrev pub form_seen : List TypeDecl → Ty-F Seen → Seen
form_seen types x =
    let text = form_text (map-Ty Seen (List ℕ) text_in x) in
    record {
      own = record { text = text; is_value = false; extent = form_extent types text (map-Ty Seen Extent extent_in x) };
      inner = form_inner x;
    }

unfoldable pub seen : List TypeDecl → Ty → Seen
seen types = fold-Ty Seen (form_seen types)

-- the types that a type names, and it
abbrev pub rows_of : List TypeDecl → Bool → Ty → List Row
rows_of types is_value t = whole is_value (seen types t)

abbrev pub extent_of : List TypeDecl → Ty → Extent
extent_of types t = extent_in (seen types t)
