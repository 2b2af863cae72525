-- What the code's answers mean: types and places behind references, and refusals as they are.
use Rattle.std.specs.Prelude.{Option, Some, None, Ok, Err, option_copied}
use Rattle.std.specs.Borrow.{Bor}
use Rattle.mir_ir.specs.declared.types.Ty.{Ty}
use Rattle.type_rules.specs.Refusals.{OrRefused}
use Rattle.type_rules.specs.Places.{PlaceType}
use Rattle.code_types.specs.declared.forms.ArrayTy.{ArrayTy}
use Rattle.code_types.specs.declared.places.PlaceTy.{PlaceTy}
use Rattle.code_types.specs.Forms.{ArrayType}

abbrev pub ok_now : OrRefused (Bor Ty) → OrRefused Ty
ok_now (Ok t) = Ok t.now
ok_now (Err kind) = Err kind

abbrev pub place_seen : PlaceTy → PlaceType
place_seen p = record { ty = p.ty.now; variant = option_copied p.variant }

abbrev pub ok_place : OrRefused PlaceTy → OrRefused PlaceType
ok_place (Ok p) = Ok (place_seen p)
ok_place (Err kind) = Err kind

abbrev pub array_seen : ArrayTy → ArrayType
array_seen a = record { item = a.item.now; count = a.count }

abbrev pub some_array : Option ArrayTy → Option ArrayType
some_array None = None
some_array (Some a) = Some (array_seen a)
