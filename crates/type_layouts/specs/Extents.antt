-- What values of types take, after the type layout of Rust's reference: bytes, alignments, and counts of parts.
use Rattle.std.specs.Prelude.{ℕ, ◌+◌, ◌-◌, ◌*◌, ◌/◌, Bool, false, min, max, List, [], ◌∷◌, ◌++◌, map}
use Rattle.type_layouts.specs.declared.extent.Extent.{Extent}
use Rattle.type_layouts.specs.declared.extent.Held.{Held}
use Rattle.type_layouts.specs.declared.extent.Form.{Form}
use Rattle.type_layouts.specs.declared.extent.Form.TheVariants.{Sized, Slice, Dyn}

-- a size above the limit of 4,096 bytes counts as 4,097
abbrev pub within_bytes : ℕ → ℕ
within_bytes n = min n 4097

-- a count of parts above the limit of 16,384 counts as 16,385
abbrev pub within_parts : ℕ → ℕ
within_parts n = min n 16385

-- an alignment is at least 1
abbrev pub alignment : ℕ → ℕ
alignment n = max n 1

-- the next multiple of an alignment
abbrev pub rounded_up : ℕ → ℕ → ℕ
rounded_up n align = (n + (alignment align - 1)) / alignment align * alignment align

-- a type without bytes, which counts as one part
abbrev pub empty : Extent
empty = record { form = Sized; is_unknown = false; size = 0; align = 1; parts = 1; held = [] }

-- a number is aligned to its size
abbrev pub number_extent : ℕ → Extent
number_extent n = record empty { size = n; align = n }

-- a pointer to a slice or to a dyn value takes 16 bytes, and any other 8
abbrev pub pointer_size : Form → ℕ
pointer_size Sized = 8
pointer_size Slice = 16
pointer_size Dyn = 16

abbrev pub pointer_extent : Form → Bool → Extent
pointer_extent target unknown = record empty { is_unknown = unknown; size = pointer_size target; align = 8 }

-- an item behind what stands before it, at the next multiple of its alignment
abbrev pub behind : Extent → Extent → Extent
behind done item = record done {
  size = within_bytes (rounded_up done.size item.align + item.size);
  align = max done.align item.align;
  parts = within_parts (done.parts + item.parts);
  held = done.held ++ item.held;
}

-- items in order, behind what stands before them
abbrev pub in_order : Extent → List Extent → Extent
in_order done [] = done
in_order done (item ∷ items) = in_order (behind done item) items

-- with the size as the next multiple of the alignment
abbrev pub rounded : Extent → Extent
rounded e = record e { size = within_bytes (rounded_up e.size e.align) }

-- a tuple without a declaration has its items in order; it counts as one part beside theirs
abbrev pub tuple_extent : List Extent → Extent
tuple_extent items = rounded (in_order empty items)

abbrev pub repeated_held : ℕ → Held → Held
repeated_held count h = record { entry = h.entry; times = within_parts (count * h.times) }

-- an array has its item so often, and counts as one part beside theirs
abbrev pub repeated : ℕ → Extent → Extent
repeated count item = record empty {
  size = within_bytes (count * item.size);
  align = item.align;
  parts = within_parts (1 + within_parts (count * item.parts));
  held = map (repeated_held count) item.held;
}
