-- The keys of an enum: `variants` (at least one), `tag` (a table of `type`, an integer type, bool or char, and `offset`;
-- it may be absent with one variant), `discriminant` (an integer type, by default isize).
use Rattle.std.specs.Prelude.{ℕ, ◌==◌, List, [], ◌∷◌, length, codes, if◌then◌else◌, Option, Some, None, Result, Ok, Err, ⊤}
use Rattle.toml.specs.Data.{Data, get}
use Rattle.mir_ir.specs.declared.types.IntTy.{IntTy}
use Rattle.mir_ir.specs.declared.types.IntTy.TheVariants as int
use Rattle.mir_ir.specs.declared.types.Ty.{Ty}
use Rattle.mir_ir.specs.declared.declarations.TagDecl.{TagDecl}
use Rattle.mir_ir.specs.declared.declarations.VariantDecl.{VariantDecl}
use Rattle.mir_ir.specs.declared.declarations.TypeShape.{TypeShape}
use Rattle.mir_ir.specs.declared.declarations.TypeShape.TheVariants as shape
use Rattle.decl_tree.specs.declared.fault.DeclKind.TheVariants as kind
use Rattle.decl_tree.specs.declared.fault.KeyFault.{KeyFault}
use Rattle.decl_tree.specs.Faults.{here, under, key_step, and_then}
use Rattle.decl_tree.specs.Keys.{only_keys, needed, perhaps, defaulted}
use Rattle.decl_tree.specs.Values.{number_in}
use Rattle.decl_tree.specs.Lists.{list_at}
use Rattle.decl_texts.specs.declared.forms.Scalar.{Scalar}
use Rattle.decl_texts.specs.declared.forms.Scalar.TheVariants as scalar
use Rattle.decl_texts.specs.Texts.{scalar_type_in, int_type_in}
use Rattle.decl_types.specs.Variants.{variant_entry}

abbrev pub tag_keys : List (List ℕ)
tag_keys = codes "type" ∷ codes "offset" ∷ []

abbrev pub tag_of : Result ⊤ KeyFault → Result (Ty × Scalar) KeyFault → Result ℕ KeyFault → Result TagDecl KeyFault
tag_of known ty offset = and_then known (λ _. and_then ty (λ t. and_then offset (λ o. Ok (record { ty = t.0; offset = o }))))

abbrev pub tag_in : Data → Result TagDecl KeyFault
tag_in d = tag_of (only_keys tag_keys d) (needed (codes "type") scalar_type_in d) (needed (codes "offset") (number_in 0 4096) d)

-- the type of the tag, where its key has no fault
abbrev pub known_scalar : Result (Ty × Scalar) KeyFault → Option Scalar
known_scalar (Ok t) = Some t.1
known_scalar (Err f) = None

abbrev pub tag_type_in : Option Data → Option Scalar
tag_type_in None = None
tag_type_in (Some d) = known_scalar (needed (codes "type") scalar_type_in d)

-- the type of the values, where its key has no fault
abbrev pub known_int : Result IntTy KeyFault → Option Scalar
known_int (Ok i) = Some (scalar.Int i)
known_int (Err f) = None

abbrev pub discriminant_at : Data → Result IntTy KeyFault
discriminant_at d = defaulted int.Isize (codes "discriminant") int_type_in d

abbrev pub variants_at : Data → Result (List VariantDecl) KeyFault
variants_at d = list_at (variant_entry (known_int (discriminant_at d)) (tag_type_in (get (codes "tag") d))) (codes "variants") d

-- an enum has at least one variant
abbrev pub some_variants : List VariantDecl → Result (List VariantDecl) KeyFault
some_variants [] = under (key_step (codes "variants")) (here kind.OutOfRange)
some_variants (v ∷ vs) = Ok (v ∷ vs)

-- and a tag, where it has more than one
abbrev pub tag_for : ℕ → Option TagDecl → Result (Option TagDecl) KeyFault
tag_for count (Some t) = Ok (Some t)
tag_for count None = if count == 1 then Ok None else under (key_step (codes "tag")) (here kind.MissingKey)

abbrev pub enum_with : List VariantDecl → Result (Option TagDecl) KeyFault → Result IntTy KeyFault → Result TypeShape KeyFault
enum_with vs tag discriminant = and_then tag (λ t. and_then (tag_for (length vs) t) (λ given. and_then discriminant (λ i. Ok (shape.Enum vs given i))))

abbrev pub enum_of : Result (List VariantDecl) KeyFault → Result (Option TagDecl) KeyFault → Result IntTy KeyFault → Result TypeShape KeyFault
enum_of variants tag discriminant = and_then variants (λ read. and_then (some_variants read) (λ vs. enum_with vs tag discriminant))

abbrev pub enum_at : Data → Result TypeShape KeyFault
enum_at d = enum_of (variants_at d) (perhaps (codes "tag") tag_in d) (discriminant_at d)
