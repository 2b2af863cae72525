-- Worked sizes, alignments and counts of parts.
use Rattle.std.proofs.Common.{◌≡◌, true, false, List, [], ◌∷◌, None, refl}
use Rattle.mir_ir.specs.declared.types.IntTy.TheVariants as int
use Rattle.mir_ir.specs.declared.types.Ty.TheOpen.{Ty-F}
use Rattle.type_layouts.specs.declared.extent.Extent.{Extent}
use Rattle.type_layouts.specs.declared.outline.Outline.{Outline}
use Rattle.type_layouts.specs.Entries.{entry_of}
use Rattle.type_layouts.specs.Extents.{empty, repeated, tuple_extent}
use Rattle.type_layouts.specs.Parts.{is_too_big, parts_table}
use Rattle.type_layouts.specs.Rows.{form_extent}

abbrev u8 : Extent
u8 = form_extent [] [] (Ty-F.Int int.U8)

abbrev u16 : Extent
u16 = form_extent [] [] (Ty-F.Int int.U16)

abbrev u32 : Extent
u32 = form_extent [] [] (Ty-F.Int int.U32)

abbrev u128 : Extent
u128 = form_extent [] [] (Ty-F.Int int.U128)

-- `(u8, u32, u16)`: the items stand at 0, 4 and 8, and the size is rounded up to 12
three_items : tuple_extent (u8 ∷ u32 ∷ u16 ∷ []) ≡ record empty { size = 12; align = 4; parts = 4 }
three_items = refl

-- `(u8, u128)`
wide_item : tuple_extent (u8 ∷ u128 ∷ []) ≡ record empty { size = 32; align = 16; parts = 3 }
wide_item = refl

-- `[u16; 3]`
array : form_extent [] [] (Ty-F.Array u16 3) ≡ record empty { size = 6; align = 2; parts = 4 }
array = refl

-- `()`, `[(); 5]`
nothing : form_extent [] [] (Ty-F.Tuple []) ≡ empty
unfolding entry_of
nothing = refl

nothings : form_extent [] [] (Ty-F.Array empty 5) ≡ record empty { size = 0; align = 1; parts = 6 }
nothings = refl

-- `&u8`, `&[u8]`, `Box<[u8]>`
thin : form_extent [] [] (Ty-F.Ref false u8) ≡ record empty { size = 8; align = 8 }
thin = refl

wide : form_extent [] [] (Ty-F.Ref false (form_extent [] [] (Ty-F.Slice u8))) ≡ record empty { size = 16; align = 8 }
wide = refl

box_of_slice : form_extent [] [] (Ty-F.BoxOf (form_extent [] [] (Ty-F.Slice u8))) ≡ record empty { is_unknown = true; size = 16; align = 8 }
box_of_slice = refl

-- `[u8; 4096]` has 4,096 bytes and 4,097 parts, `[u8; 4097]` is too big
largest : is_too_big [] (repeated 4096 u8) ≡ false
unfolding is_too_big
largest = refl

larger : is_too_big [] (repeated 4097 u8) ≡ true
unfolding is_too_big
larger = refl

-- `[(); 16383]` has 16,384 parts, `[(); 16384]` one more
most_parts : is_too_big [] (repeated 16383 empty) ≡ false
unfolding is_too_big
most_parts = refl

more_parts : is_too_big [] (repeated 16384 empty) ≡ true
unfolding is_too_big
more_parts = refl

-- a struct of two fields of the second type, which has two numbers
abbrev pair_of_pairs : List Outline
pair_of_pairs =
    record { text = []; size = 4; align = 1; tag = None; groups = []; parts = 1; held = record { entry = 1; times = 1 } ∷ record { entry = 1; times = 1 } ∷ [] }
    ∷ record { text = []; size = 2; align = 1; tag = None; groups = []; parts = 3; held = [] } ∷ []

seven_parts : parts_table pair_of_pairs ≡ 7 ∷ 3 ∷ []
unfolding parts_table
seven_parts = refl
