-- What the tables of a declaration file hold.
use Rattle.std.specs.Prelude.{◌≡◌, Bool, List}
use Rattle.mir_ir.specs.declared.declarations.AliasDecl.{AliasDecl}
use Rattle.mir_ir.specs.declared.declarations.ConstantDecl.{ConstantDecl}
use Rattle.mir_ir.specs.declared.declarations.Declarations.{Declarations}
use Rattle.mir_ir.specs.declared.declarations.TraitDecl.{TraitDecl}
use Rattle.mir_ir.specs.declared.declarations.TypeDecl.{TypeDecl}
use Rattle.mir_ir.specs.declared.declarations.VtableDecl.{VtableDecl}
use Rattle.name_tables.specs.Plain.{plain_marks}

-- the lists of these declarations, and a mark for each plain type
pub record AreTables (d : Declarations) (types : List TypeDecl) (traits : List TraitDecl) (vtables : List VtableDecl) (constants : List ConstantDecl) (aliases : List AliasDecl) (plain : List Bool) : Type 0 where
  pub types_are : types ≡ d.types
  pub traits_are : traits ≡ d.traits
  pub vtables_are : vtables ≡ d.vtables
  pub constants_are : constants ≡ d.constants
  pub aliases_are : aliases ≡ d.aliases
  pub plain_are : plain ≡ plain_marks d.types
