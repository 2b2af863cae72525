-- The layout rules of a program in their order, and which type breaks one first. Types are in the order of `program_rows`.
use Rattle.std.specs.Prelude.{◌≡◌, ℕ, ◌<◌, Bool, true, false, ◌&&◌, ◌||◌, List, [], ◌∷◌, Option, Some, None, Result, Ok, Err, find, option_map, bytes_eq, slice_get}
use Rattle.std.specs.List.{list_any}
use Rattle.mir_program.specs.Joined.{Joined}
use Rattle.mir_ir.specs.declared.declarations.TypeDecl.{TypeDecl}
use Rattle.type_layouts.specs.declared.extent.Form.{Form}
use Rattle.type_layouts.specs.declared.extent.Form.TheVariants as form
use Rattle.type_layouts.specs.declared.outline.Outline.{Outline}
use Rattle.type_layouts.specs.declared.row.Row.{Row}
use Rattle.layout_rules.specs.declared.fault.LayoutFault.{LayoutFault}
use Rattle.layout_rules.specs.declared.fault.LayoutFault.TheVariants as fault
use Rattle.layout_rules.specs.declared.fault.LayoutKind.{LayoutKind}
use Rattle.layout_rules.specs.declared.fault.LayoutKind.TheVariants as kind
use Rattle.layout_rules.specs.Mentions.{program_rows}
use Rattle.type_layouts.specs.Outlines.{outlines}
use Rattle.layout_rules.specs.Placing.{is_misaligned, is_outside, is_overlapping}
use Rattle.type_layouts.specs.Parts.{is_too_big, parts_table}
use Rattle.type_layouts.specs.Recursion.{IsRecursive, NoneRecursive}

abbrev pub is_unsized : Form → Bool
is_unsized form.Sized = false
is_unsized form.Slice = true
is_unsized form.Dyn = true

-- a slice or a dyn type of this text, of which a value stands there
abbrev pub is_value_of : List ℕ → Row → Bool
is_value_of text row = row.is_value && is_unsized row.extent.form && bytes_eq text row.text

-- A type without a declaration, a `str`, a `Box` of a slice; or a slice or dyn type that is the type of a local, a parameter, a
-- result, a field or an element, there or anywhere else in the program.
unfoldable pub is_unknown : List Row → Row → Bool
is_unknown rows row = row.extent.is_unknown || (is_unsized row.extent.form && list_any (is_value_of row.text) rows)

abbrev pub row_text : Row → List ℕ
row_text row = row.text

abbrev pub outline_text : Outline → List ℕ
outline_text o = o.text

abbrev pub types_in : Joined → List TypeDecl
types_in p = p.declarations.types

abbrev pub outlines_in : Joined → List Outline
outlines_in p = outlines (types_in p)

-- the first type for which a test is true, by its text
abbrev pub first_row : (Row → Bool) → List Row → Option (List ℕ)
first_row test rows = option_map row_text (find test rows)

abbrev pub first_outline : (Outline → Bool) → List Outline → Option (List ℕ)
first_outline test all = option_map outline_text (find test all)

abbrev pub first_unknown : List Row → Option (List ℕ)
first_unknown rows = first_row (is_unknown rows) rows

abbrev pub first_too_big : List Outline → List Row → Option (List ℕ)
first_too_big all rows = first_row (λ row. is_too_big (parts_table all) row.extent) rows

-- none of the first n declared types holds itself
pub record NoneBefore (all : List Outline) (n : ℕ) : Type 0 where
  pub none : (i : ℕ) → i < n → IsRecursive all i → ⊥

-- the first declared type that holds itself
pub record IsFirstRecursive (all : List Outline) (text : List ℕ) : Type 0 where
  pub place : ℕ
  pub recursive : IsRecursive all place
  pub first : NoneBefore all place
  pub named : option_map outline_text (slice_get all place) ≡ Some text

-- no type breaks the rule
abbrev pub IsKept : List Outline → List Row → LayoutKind → Type 0
IsKept all rows kind.Unknown = first_unknown rows ≡ None
IsKept all rows kind.Recursive = NoneRecursive all
IsKept all rows kind.TooBig = first_too_big all rows ≡ None
IsKept all rows kind.Misaligned = first_outline is_misaligned all ≡ None
IsKept all rows kind.Outside = first_outline is_outside all ≡ None
IsKept all rows kind.Overlap = first_outline is_overlapping all ≡ None

-- The first type that breaks the rule has this text. Only declared types can break the last three: what is written out is laid
-- out by the rules.
abbrev pub IsFirst : List Outline → List Row → LayoutKind → List ℕ → Type 0
IsFirst all rows kind.Unknown text = first_unknown rows ≡ Some text
IsFirst all rows kind.Recursive text = IsFirstRecursive all text
IsFirst all rows kind.TooBig text = first_too_big all rows ≡ Some text
IsFirst all rows kind.Misaligned text = first_outline is_misaligned all ≡ Some text
IsFirst all rows kind.Outside text = first_outline is_outside all ≡ Some text
IsFirst all rows kind.Overlap text = first_outline is_overlapping all ≡ Some text

-- the rules in their order
abbrev pub rules : List LayoutKind
rules = kind.Unknown ∷ kind.Recursive ∷ kind.TooBig ∷ kind.Misaligned ∷ kind.Outside ∷ kind.Overlap ∷ []

-- the rules before one
abbrev pub rules_before : LayoutKind → List LayoutKind
rules_before kind.Unknown = []
rules_before kind.Recursive = kind.Unknown ∷ []
rules_before kind.TooBig = kind.Unknown ∷ kind.Recursive ∷ []
rules_before kind.Misaligned = kind.Unknown ∷ kind.Recursive ∷ kind.TooBig ∷ []
rules_before kind.Outside = kind.Unknown ∷ kind.Recursive ∷ kind.TooBig ∷ kind.Misaligned ∷ []
rules_before kind.Overlap = kind.Unknown ∷ kind.Recursive ∷ kind.TooBig ∷ kind.Misaligned ∷ kind.Outside ∷ []

abbrev pub AreKept : List Outline → List Row → List LayoutKind → Type 0
AreKept all rows [] = Unit {0}
AreKept all rows (rule ∷ more) = IsKept all rows rule × AreKept all rows more

-- no type breaks a rule; or of the rules in their order this is the first that is broken, and its first type has this text; or
-- memory was not found
abbrev pub IsAnswer : List Outline → List Row → Result (Unit {0}) LayoutFault → Type 0
IsAnswer all rows (Ok _) = AreKept all rows rules
IsAnswer all rows (Err (fault.Rule kind text)) = AreKept all rows (rules_before kind) × IsFirst all rows kind text
IsAnswer all rows (Err fault.Memory) = Unit {0}

-- the types of a program keep the layout rules, or the answer is the first refusal
abbrev pub IsLayoutAnswer : Joined → Result (Unit {0}) LayoutFault → Type 0
IsLayoutAnswer p answer = IsAnswer (outlines_in p) (program_rows p) answer
