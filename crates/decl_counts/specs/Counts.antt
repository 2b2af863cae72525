-- Declarations with lists so short that a place in each is a number of 32 bits.
use Rattle.std.specs.Prelude.{All}
use Rattle.mir_ir.specs.declared.declarations.Declarations.{Declarations}
use Rattle.mir_ir.specs.declared.declarations.TraitDecl.{TraitDecl}
use Rattle.mir_ir.specs.declared.declarations.TypeDecl.{TypeDecl}
use Rattle.mir_ir.specs.declared.declarations.TypeShape.{TypeShape}
use Rattle.mir_ir.specs.declared.declarations.TypeShape.TheVariants as shape
use Rattle.mir_ir.specs.declared.declarations.VariantDecl.{VariantDecl}
use Rattle.mir_ir.specs.declared.declarations.VtableDecl.{VtableDecl}
use Rattle.mir_program.specs.Apart.{IsCountable}

abbrev pub HasCountableFields : VariantDecl → Type 0
HasCountableFields v = IsCountable v.fields

-- the fields of a struct or a tuple; the variants of an enum, and the fields of each
abbrev pub HasCountableParts : TypeShape → Type 0
HasCountableParts (shape.Struct fields) = IsCountable fields
HasCountableParts (shape.Tuple fields) = IsCountable fields
HasCountableParts (shape.Enum variants tag discriminant) = IsCountable variants × All HasCountableFields variants

abbrev pub IsCountableType : TypeDecl → Type 0
IsCountableType t = HasCountableParts t.shape

abbrev pub HasCountableMethods : TraitDecl → Type 0
HasCountableMethods t = IsCountable t.methods

abbrev pub HasCountableFunctions : VtableDecl → Type 0
HasCountableFunctions v = IsCountable v.methods

-- fewer than 2^32 traits and vtables, methods and functions of each, fields and variants
pub record AreCountable (d : Declarations) : Type 0 where
  pub types : All IsCountableType d.types
  pub traits : All HasCountableMethods d.traits
  pub trait_count : IsCountable d.traits
  pub vtables : All HasCountableFunctions d.vtables
  pub vtable_count : IsCountable d.vtables
