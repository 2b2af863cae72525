-- Texts as types, paths and places, by computation.
use Rattle.std.proofs.Common.{◌≡◌, [], ◌∷◌, codes, Some, None, refl}
use Rattle.mir_ir.specs.declared.types.IntTy.TheVariants as int
use Rattle.mir_ir.specs.declared.types.Ty.TheVariants as ty
use Rattle.mir_ir.specs.declared.places.Projection.TheVariants as step
use Rattle.part_texts.specs.Parts.{type_in_text, path_in_text, place_in_text}
use Rattle.part_texts.proofs.OnLiterals.{texts_on_literals}

integer_type : type_in_text (codes "u8") ≡ Some (ty.Int int.U8)
unfolding texts_on_literals
integer_type = refl

no_type : type_in_text (codes "u8;") ≡ None
unfolding texts_on_literals
no_type = refl

path : path_in_text (codes "a::<u8>") ≡ Some (codes "a<u8>")
unfolding texts_on_literals
path = refl

no_path : path_in_text (codes "1") ≡ None
unfolding texts_on_literals
no_path = refl

local_place : place_in_text (codes "_1") ≡ Some (record { local = record { 0 = 1 }; steps = [] })
unfolding texts_on_literals
local_place = refl

target : place_in_text (codes "(*_1)") ≡ Some (record { local = record { 0 = 1 }; steps = step.Deref ∷ [] })
unfolding texts_on_literals
target = refl

past_the_limit : place_in_text (codes "_4096") ≡ None
unfolding texts_on_literals
past_the_limit = refl
