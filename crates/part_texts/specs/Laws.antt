-- What the functions of Parts.antt have to do with the grammar.
use Rattle.std.specs.Prelude.{◌≡◌, ◌↔◌, ℕ, List, Some}
use Rattle.mir_ir.specs.declared.types.Ty.{Ty}
use Rattle.mir_ir.specs.declared.places.PlaceExpr.{PlaceExpr}
use Rattle.mir_text.specs.Parts.{IsType, IsPath, IsPlace}
use Rattle.part_texts.specs.Parts.{type_in_text, path_in_text, place_in_text}

-- a type, a path or a place is read exactly where the text is one by the grammar
pub record IsReadAsWritten (text : List ℕ) : Type 0 where
  pub types : (ty : Ty) → (type_in_text text ≡ Some ty) ↔ IsType text ty
  pub paths : (path : List ℕ) → (path_in_text text ≡ Some path) ↔ IsPath text path
  pub places : (place : PlaceExpr) → (place_in_text text ≡ Some place) ↔ IsPlace text place
