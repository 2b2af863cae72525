-- What the texts of a declaration file write: types, paths, places, locals and words.
use Rattle.std.specs.Prelude.{ℕ, Bool, ◌&&◌, ◌||◌, not, nat_le, List, [], ◌∷◌, length, if◌then◌else◌, Option, Some, None, Result, option_map}
use Rattle.std.specs.List.{list_all}
use Rattle.toml.specs.Data.{Data, string}
use Rattle.vk_core.specs.declared.ids.LocalId.{LocalId}
use Rattle.mir_ir.specs.declared.types.Ty.{Ty}
use Rattle.mir_ir.specs.declared.types.IntTy.{IntTy}
use Rattle.mir_ir.specs.declared.places.PlaceExpr.{PlaceExpr}
use Rattle.mir_ir.specs.declared.places.Projection.{Projection}
use Rattle.mir_lex.specs.Bytes.{first_is, is_word_start, is_word_byte}
use Rattle.mir_lex.specs.Views.{is_local, is_label}
use Rattle.part_texts.specs.Parts.{type_in_text, path_in_text, place_in_text}
use Rattle.decl_tree.specs.declared.fault.DeclKind.TheVariants as kind
use Rattle.decl_tree.specs.declared.fault.KeyFault.{KeyFault}
use Rattle.decl_tree.specs.Faults.{here, there, and_then}
use Rattle.decl_texts.specs.declared.forms.Scalar.{Scalar}
use Rattle.decl_texts.specs.Forms.{form_of, scalar_in, int_in}
use Rattle.decl_texts.specs.Decimals.{is_decimal}

-- a letter or `_`, then letters, digits and `_`, at most 256 bytes, and no local and no label
unfoldable pub is_word : List ℕ → Bool
is_word text = (first_is is_word_start text && list_all is_word_byte text) && (nat_le (length text) 256 && not (is_local text || is_label text))

abbrev pub where_it_is : (List ℕ → Bool) → List ℕ → Option (List ℕ)
where_it_is test text = if test text then Some text else None

-- a place without steps is a local
abbrev pub local_without : List Projection → LocalId → Option LocalId
local_without [] local = Some local
local_without (s ∷ steps) local = None

abbrev pub local_alone : Option PlaceExpr → Option LocalId
local_alone None = None
local_alone (Some p) = local_without p.steps p.local

module _ {A : Type 0} where
  -- a text read as what it is to be; any other text, and what is no text, is of a wrong kind
  abbrev pub read_as : (List ℕ → Option A) → Data → Result A KeyFault
  read_as read (string text) = there kind.WrongKind (read text)
  read_as read _ = here kind.WrongKind

abbrev pub path_in : Data → Result (List ℕ) KeyFault
path_in = read_as path_in_text

abbrev pub type_in : Data → Result Ty KeyFault
type_in = read_as type_in_text

abbrev pub place_in : Data → Result PlaceExpr KeyFault
place_in = read_as place_in_text

abbrev pub local_in : Data → Result LocalId KeyFault
local_in = read_as (λ text. local_alone (place_in_text text))

abbrev pub word_in : Data → Result (List ℕ) KeyFault
word_in = read_as (where_it_is is_word)

abbrev pub decimal_in : Data → Result (List ℕ) KeyFault
decimal_in = read_as (where_it_is is_decimal)

-- an integer type, bool or char, beside the type as it is
abbrev pub scalar_type_in : Data → Result (Ty × Scalar) KeyFault
scalar_type_in d = and_then (type_in d) (λ t. there kind.WrongKind (option_map (λ s. (t, s)) (scalar_in (form_of t))))

abbrev pub int_type_in : Data → Result IntTy KeyFault
int_type_in d = and_then (type_in d) (λ t. there kind.WrongKind (int_in (form_of t)))
