-- Well-made declarations: what everything that a declaration file says is to keep.
use Rattle.std.specs.Prelude.{◌≡◌, ℕ, ◌≤◌, ◌^◌, Bool, true, false, ◌&&◌, ◌||◌, ◌==◌, bytes_eq, List, Option, Some, None, All, length}
use Rattle.word_bits.specs.declared.word.Word.{Word}
use Rattle.mir_ir.specs.declared.types.IntTy.{IntTy}
use Rattle.mir_ir.specs.declared.types.Ty.{Ty, out-Ty}
use Rattle.mir_ir.specs.declared.types.Ty.TheOpen.{Ty-F}
use Rattle.mir_ir.specs.declared.declarations.AliasDecl.{AliasDecl}
use Rattle.mir_ir.specs.declared.declarations.ConstantDecl.{ConstantDecl}
use Rattle.mir_ir.specs.declared.declarations.Contract.{Contract}
use Rattle.mir_ir.specs.declared.declarations.Declarations.{Declarations}
use Rattle.mir_ir.specs.declared.declarations.FieldDecl.{FieldDecl}
use Rattle.mir_ir.specs.declared.declarations.LoopRule.{LoopRule}
use Rattle.mir_ir.specs.declared.declarations.TagDecl.{TagDecl}
use Rattle.mir_ir.specs.declared.declarations.TraitDecl.{TraitDecl}
use Rattle.mir_ir.specs.declared.declarations.TypeDecl.{TypeDecl}
use Rattle.mir_ir.specs.declared.declarations.TypeShape.{TypeShape}
use Rattle.mir_ir.specs.declared.declarations.TypeShape.TheVariants as shape
use Rattle.mir_ir.specs.declared.declarations.Unit.{Unit as UnitDecl}
use Rattle.mir_ir.specs.declared.declarations.UnitKind.{UnitKind}
use Rattle.mir_ir.specs.declared.declarations.UnitKind.TheVariants as unit
use Rattle.mir_ir.specs.declared.declarations.VariantDecl.{VariantDecl}
use Rattle.mir_ir.specs.declared.declarations.VtableDecl.{VtableDecl}
use Rattle.mir_ir.specs.Integers.{width_of}
use Rattle.canonical_text.specs.Types.{type_text}
use Rattle.mir_program.specs.Apart.{AreApart, IsCountable}
use Rattle.mir_program.specs.Numbers.{HasBits, HasNumbers, IsNumberOf}

-- Types.

abbrev pub IsField : FieldDecl → Type 0
IsField f = f.offset ≤ 4096

pub record AreFields (fields : List FieldDecl) : Type 0 where
  pub offsets : All IsField fields
  pub count : IsCountable fields

-- each variant has a tag of the tag's type, where there is one
abbrev pub IsTag : Option TagDecl → Option Word → Type 0
IsTag None None = Unit {0}
IsTag None (Some w) = ⊥
IsTag (Some tag) None = ⊥
IsTag (Some tag) (Some w) = IsNumberOf tag.ty w

pub record IsVariant (discriminant : IntTy) (tag : Option TagDecl) (v : VariantDecl) : Type 0 where
  pub value : HasBits (width_of discriminant) v.value
  pub tagged : IsTag tag v.tag
  pub fields : AreFields v.fields

abbrev pub same_tag : Option Word → Option Word → Bool
same_tag (Some a) (Some b) = a.value == b.value
same_tag (Some a) None = false
same_tag None b = false

-- of one name, value or tag
abbrev pub alike_variants : VariantDecl → VariantDecl → Bool
alike_variants a b = bytes_eq a.name b.name || (a.value.value == b.value.value || same_tag a.tag b.tag)

-- the tag may be absent with one variant
abbrev pub IsTagged : Option TagDecl → List VariantDecl → Type 0
IsTagged None variants = length variants ≡ 1
IsTagged (Some tag) variants = (tag.offset ≤ 4096) × HasNumbers tag.ty

pub record IsEnum (variants : List VariantDecl) (tag : Option TagDecl) (discriminant : IntTy) : Type 0 where
  pub some : 1 ≤ length variants
  pub count : IsCountable variants
  pub tagged : IsTagged tag variants
  pub each : All (IsVariant discriminant tag) variants
  pub apart : AreApart alike_variants variants

abbrev pub IsShape : TypeShape → Type 0
IsShape (shape.Struct fields) = AreFields fields
IsShape (shape.Tuple fields) = AreFields fields
IsShape (shape.Enum variants tag discriminant) = IsEnum variants tag discriminant

-- a path that is no Box type
abbrev pub IsPath : Ty-F Ty → Type 0
IsPath (Ty-F.Named path) = Unit {0}
IsPath _ = ⊥

-- a tuple type of so many items, at least one
abbrev pub IsTupleOf : ℕ → Ty-F Ty → Type 0
IsTupleOf n (Ty-F.Tuple items) = (1 ≤ n) × (length items ≡ n)
IsTupleOf n _ = ⊥

abbrev pub IsNameFor : TypeShape → Ty-F Ty → Type 0
IsNameFor (shape.Struct fields) name = IsPath name
IsNameFor (shape.Tuple fields) name = IsTupleOf (length fields) name
IsNameFor (shape.Enum variants tag discriminant) name = IsPath name

-- a power of two up to 4,096
pub record IsAlignment (n : ℕ) : Type 0 where
  pub exponent : ℕ
  pub within : exponent ≤ 12
  pub power : n ≡ 2 ^ exponent

pub record IsTypeEntry (own : TypeDecl) : Type 0 where
  pub name : IsNameFor own.shape (out-Ty own.name)
  pub size : own.size ≤ 4096
  pub align : IsAlignment own.align
  pub formed : IsShape own.shape

abbrev pub same_type : TypeDecl → TypeDecl → Bool
same_type a b = bytes_eq (type_text a.name) (type_text b.name)

-- The other tables.

pub record IsTrait (t : TraitDecl) : Type 0 where
  pub apart : AreApart bytes_eq t.methods
  pub count : IsCountable t.methods

abbrev pub same_trait : TraitDecl → TraitDecl → Bool
same_trait a b = bytes_eq a.name b.name

abbrev pub same_vtable : VtableDecl → VtableDecl → Bool
same_vtable a b = bytes_eq (type_text a.ty) (type_text b.ty) && bytes_eq a.trait_name b.trait_name

abbrev pub IsVtable : VtableDecl → Type 0
IsVtable v = IsCountable v.methods

abbrev pub IsConstantEntry : ConstantDecl → Type 0
IsConstantEntry c = IsNumberOf c.ty c.value

abbrev pub same_constant : ConstantDecl → ConstantDecl → Bool
same_constant a b = bytes_eq a.name b.name

abbrev pub same_alias : AliasDecl → AliasDecl → Bool
same_alias a b = bytes_eq a.call b.call

abbrev pub same_contract : Contract → Contract → Bool
same_contract a b = bytes_eq a.function b.function

abbrev pub IsLoopRule : LoopRule → Type 0
IsLoopRule l = l.header.0 ≤ 4095

abbrev pub same_loop : LoopRule → LoopRule → Bool
same_loop a b = bytes_eq a.function b.function && (a.header.0 == b.header.0)

abbrev pub same_unit_kind : UnitKind → UnitKind → Bool
same_unit_kind unit.Proof unit.Proof = true
same_unit_kind unit.Proof unit.Contract = false
same_unit_kind unit.Contract unit.Proof = false
same_unit_kind unit.Contract unit.Contract = true

abbrev pub same_unit : UnitDecl → UnitDecl → Bool
same_unit a b = same_unit_kind a.kind b.kind && bytes_eq a.name b.name

-- unwound 1 to 1,000 times
abbrev pub IsUnitEntry : UnitDecl → Type 0
IsUnitEntry u = (1 ≤ u.unwind) × (u.unwind ≤ 1000)

-- no key is missing, out of range or there twice
pub record AreDeclarations (d : Declarations) : Type 0 where
  pub types : All IsTypeEntry d.types
  pub type_count : length d.types ≤ 4096
  pub types_apart : AreApart same_type d.types
  pub traits : All IsTrait d.traits
  pub trait_count : IsCountable d.traits
  pub traits_apart : AreApart same_trait d.traits
  pub vtables : All IsVtable d.vtables
  pub vtable_count : IsCountable d.vtables
  pub vtables_apart : AreApart same_vtable d.vtables
  pub constants : All IsConstantEntry d.constants
  pub constants_apart : AreApart same_constant d.constants
  pub aliases_apart : AreApart same_alias d.aliases
  pub contracts_apart : AreApart same_contract d.contracts
  pub loops : All IsLoopRule d.loops
  pub loops_apart : AreApart same_loop d.loops
  pub units : All IsUnitEntry d.units
  pub unit_count : length d.units ≤ 1024
  pub units_apart : AreApart same_unit d.units
