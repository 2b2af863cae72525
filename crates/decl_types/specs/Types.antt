-- A type: `name`, `kind` (`struct`, `tuple` or `enum`), `size` (0 to 4,096), `align` (a power of two up to 4,096); then
-- `fields` and `drop` (a function, perhaps) of a struct, `fields` of a tuple, `drop` and the keys of an enum.
use Rattle.std.specs.Prelude.{ℕ, ◌&&◌, ◌==◌, nat_le, Bool, true, false, List, [], ◌∷◌, length, codes, if◌then◌else◌, Option, Some, None, Result, Ok, Err, ⊤}
use Rattle.std.specs.List.{list_any}
use Rattle.std.specs.Str.{bytes_eq}
use Rattle.toml.specs.Data.{Data}
use Rattle.mir_ir.specs.declared.types.Ty.{Ty}
use Rattle.mir_ir.specs.declared.declarations.FieldDecl.{FieldDecl}
use Rattle.mir_ir.specs.declared.declarations.TypeDecl.{TypeDecl}
use Rattle.mir_ir.specs.declared.declarations.TypeShape.{TypeShape}
use Rattle.mir_ir.specs.declared.declarations.TypeShape.TheVariants as shape
use Rattle.canonical_text.specs.Types.{type_text}
use Rattle.decl_tree.specs.declared.fault.DeclKind.TheVariants as kind
use Rattle.decl_tree.specs.declared.fault.KeyFault.{KeyFault}
use Rattle.decl_tree.specs.declared.labels.Label.{Label}
use Rattle.decl_tree.specs.Faults.{here, under, key_step, and_then}
use Rattle.decl_tree.specs.Labels.{one_label}
use Rattle.decl_tree.specs.Keys.{only_keys, needed, perhaps}
use Rattle.decl_tree.specs.Values.{number_in}
use Rattle.decl_texts.specs.declared.forms.Form.{Form}
use Rattle.decl_texts.specs.declared.forms.Form.TheVariants as form
use Rattle.decl_texts.specs.Forms.{form_of}
use Rattle.decl_texts.specs.Texts.{path_in, type_in, read_as}
use Rattle.decl_types.specs.declared.types.TypeKind.{TypeKind}
use Rattle.decl_types.specs.declared.types.TypeKind.TheVariants as sort
use Rattle.decl_types.specs.Fields.{fields_at}
use Rattle.decl_types.specs.Enums.{enum_at}
use Rattle.decl_types.specs.Labelled.{labelled}

abbrev pub kind_word : List ℕ → Option TypeKind
kind_word text = if bytes_eq text (codes "struct") then Some sort.Struct
    else (if bytes_eq text (codes "tuple") then Some sort.Tuple else (if bytes_eq text (codes "enum") then Some sort.Enum else None))

abbrev pub kind_at : Data → Result TypeKind KeyFault
kind_at d = needed (codes "kind") (read_as kind_word) d

-- the keys of each kind, and those of any kind
abbrev pub keys_of : TypeKind → List (List ℕ)
keys_of sort.Struct = codes "name" ∷ codes "kind" ∷ codes "size" ∷ codes "align" ∷ codes "fields" ∷ codes "drop" ∷ []
keys_of sort.Tuple = codes "name" ∷ codes "kind" ∷ codes "size" ∷ codes "align" ∷ codes "fields" ∷ []
keys_of sort.Enum = codes "name" ∷ codes "kind" ∷ codes "size" ∷ codes "align" ∷ codes "drop" ∷ codes "variants" ∷ codes "tag" ∷ codes "discriminant" ∷ []

abbrev pub type_keys : List (List ℕ)
type_keys = codes "name" ∷ codes "kind" ∷ codes "size" ∷ codes "align" ∷ codes "fields" ∷ codes "drop" ∷ codes "variants" ∷ codes "tag" ∷ codes "discriminant" ∷ []

-- the form of a name: a path that is no Box type; of a tuple, as many items as it has fields, and at least one
abbrev pub is_named : Form → Bool
is_named form.Named = true
is_named _ = false

abbrev pub is_tuple_of : ℕ → Form → Bool
is_tuple_of n (form.Tuple items) = nat_le 1 items && (items == n)
is_tuple_of n _ = false

-- the name fits what is known: nothing is where the fields have a fault
abbrev pub fits : TypeKind → Result (List FieldDecl) KeyFault → Form → Bool
fits sort.Enum fields f = is_named f
fits sort.Struct (Ok fields) f = is_named f
fits sort.Tuple (Ok fields) f = is_tuple_of (length fields) f
fits _ (Err fault) f = true

abbrev pub fitting : Bool → Ty → Result Ty KeyFault
fitting true ty = Ok ty
fitting false ty = under (key_step (codes "name")) (here kind.WrongKind)

abbrev pub name_of : TypeKind → Result (List FieldDecl) KeyFault → Result Ty KeyFault → Result Ty KeyFault
name_of k fields name = and_then name (λ t. fitting (fits k fields (form_of t)) t)

abbrev pub powers : List ℕ
powers = 1 ∷ 2 ∷ 4 ∷ 8 ∷ 16 ∷ 32 ∷ 64 ∷ 128 ∷ 256 ∷ 512 ∷ 1024 ∷ 2048 ∷ 4096 ∷ []

abbrev pub power : ℕ → Result ℕ KeyFault
power n = if list_any (λ p. n == p) powers then Ok n else here kind.OutOfRange

abbrev pub align_in : Data → Result ℕ KeyFault
align_in d = and_then (number_in 1 4096 d) power

abbrev pub drop_at : Data → Result (Option (List ℕ)) KeyFault
drop_at d = perhaps (codes "drop") path_in d

-- what is behind the alignment: the shape, and the drop function
abbrev pub Body : Type 0
Body = TypeShape × Option (List ℕ)

abbrev pub struct_of : Result (List FieldDecl) KeyFault → Result (Option (List ℕ)) KeyFault → Result Body KeyFault
struct_of fields drop = and_then fields (λ fs. and_then drop (λ f. Ok (shape.Struct fs, f)))

abbrev pub tuple_of : Result (List FieldDecl) KeyFault → Result Body KeyFault
tuple_of fields = and_then fields (λ fs. Ok (shape.Tuple fs, None))

abbrev pub enum_body : Result (Option (List ℕ)) KeyFault → Result TypeShape KeyFault → Result Body KeyFault
enum_body drop read = and_then drop (λ f. and_then read (λ s. Ok (s, f)))

abbrev pub body_of : TypeKind → Result (List FieldDecl) KeyFault → Data → Result Body KeyFault
body_of sort.Struct fields d = struct_of fields (drop_at d)
body_of sort.Tuple fields d = tuple_of fields
body_of sort.Enum fields d = enum_body (drop_at d) (enum_at d)

abbrev pub type_of : Result ⊤ KeyFault → Result Ty KeyFault → Result ℕ KeyFault → Result ℕ KeyFault → Result Body KeyFault → Result TypeDecl KeyFault
type_of known name size align body =
    and_then known (λ _. and_then name (λ t. and_then size (λ s. and_then align (λ a. and_then body (λ b. Ok (record { name = t; shape = b.0; size = s; align = a; drop = b.1 }))))))

-- an entry whose kind has no fault
abbrev pub type_of_kind : TypeKind → Data → Result TypeDecl KeyFault
type_of_kind k d =
    type_of (only_keys (keys_of k) d) (name_of k (fields_at d) (needed (codes "name") type_in d)) (needed (codes "size") (number_in 0 4096) d)
    (needed (codes "align") align_in d) (body_of k (fields_at d) d)

-- the fault of the kind, behind those of unknown keys and of the name
abbrev pub kind_fault : Result ⊤ KeyFault → Result Ty KeyFault → KeyFault → Result TypeDecl KeyFault
kind_fault known name f = and_then known (λ _. and_then name (λ _. Err f))

abbrev pub type_by : Result TypeKind KeyFault → Data → Result TypeDecl KeyFault
type_by (Ok k) d = type_of_kind k d
type_by (Err f) d = kind_fault (only_keys type_keys d) (needed (codes "name") type_in d) f

-- no two types have one name
abbrev pub type_labels : TypeDecl → List Label
type_labels t = one_label (type_text t.name) []

abbrev pub type_entry : ℕ → Data → Result (TypeDecl × List Label) KeyFault
type_entry at d = labelled type_labels (type_by (kind_at d) d)
