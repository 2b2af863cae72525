-- What is looked up of the types of a program, by their numbers.
use Rattle.std.specs.Prelude.{◌≡◌, ℕ, List, Option, Some, None, option_and_then, slice_get}
use Rattle.vk_core.specs.declared.ids.TyId.{TyId}
use Rattle.word_bits.specs.declared.word.Word.{Word}
use Rattle.mir_ir.specs.declared.types.Ty.{Ty}
use Rattle.mir_program.specs.Joined.{Joined}
use Rattle.typed_program.specs.declared.rows.Layout.{Layout}
use Rattle.typed_program.specs.declared.rows.TypeRow.{TypeRow}
use Rattle.typed_program.specs.Numbers.{types_of}
use Rattle.typed_program.specs.Rows.{rows_of}

abbrev pub type_at : Joined → ℕ → Option Ty
type_at p n = slice_get (types_of p) n

-- the program has the type under this number, or has it not
abbrev pub IsNumberOf : Joined → Ty → Option TyId → Type 0
IsNumberOf p t None = (k : ℕ) → type_at p k ≡ Some t → ⊥
IsNumberOf p t (Some id) = type_at p id.0 ≡ Some t

abbrev pub row_layout : TypeRow → Option Layout
row_layout row = row.layout

-- the layout of a type, if it has a size
abbrev pub layout_of : Joined → ℕ → Option Layout
layout_of p n = option_and_then row_layout (slice_get (rows_of p) n)

abbrev pub place_in : ℕ → List ℕ → Option ℕ
place_in field places = slice_get places field

abbrev pub row_place : ℕ → ℕ → TypeRow → Option ℕ
row_place variant field row = option_and_then (place_in field) (slice_get row.places variant)

-- where a field of a variant stands, if there is one; a struct and a tuple have one variant
abbrev pub field_place : Joined → ℕ → ℕ → ℕ → Option ℕ
field_place p n variant field = option_and_then (row_place variant field) (slice_get (rows_of p) n)

abbrev pub some_tag : Option Word → Option Word
some_tag tag = tag

abbrev pub row_tag : ℕ → TypeRow → Option Word
row_tag variant row = option_and_then some_tag (slice_get row.tags variant)

-- the tag of a variant, if it has one
abbrev pub tag_of : Joined → ℕ → ℕ → Option Word
tag_of p n variant = option_and_then (row_tag variant) (slice_get (rows_of p) n)
