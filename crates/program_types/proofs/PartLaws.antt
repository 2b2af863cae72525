-- The types that are written in a type, level by level.
use Rattle.std.proofs.Common.{◌≡◌, List, [], ◌∷◌, ◌++◌, flat_map, map, refl, ◌∙◌, ap, sym, subst, append_assoc}
use Rattle.mir_ir.specs.declared.types.Ty.{Ty, out-Ty, map-Ty, fold_out-Ty}
use Rattle.mir_ir.specs.declared.types.Ty.TheOpen.{Ty-F}
use Rattle.mir_ir.specs.declared.types.Ty.TheViews.{roll-Ty}
use Rattle.mir_ir.specs.declared.types.Ty.TheFolds.{fold-roll-Ty, ind-Ty}
use Rattle.program_types.specs.Parts.{Taken, form_parts, form_taken, level_parts, own_in, parts, taken, whole}

taken_out : (t : Ty) → taken t ≡ form_taken (map-Ty Ty Taken taken (out-Ty t))
unfolding taken
taken_out = fold_out-Ty Taken form_taken

taken_roll : (x : Ty-F Ty) → taken (roll-Ty x) ≡ form_taken (map-Ty Ty Taken taken x)
unfolding taken
taken_roll = fold-roll-Ty Taken form_taken

-- what is taken of a type has it as its own
abbrev IsOwn : Ty → Type 0
IsOwn t = own_in (taken t) ≡ t

abbrev Owned : Type 0
Owned = (t : Ty) × IsOwn t

abbrev bare : Owned → Ty
bare e = e.0

owns_of : (es : List Owned) → map own_in (map taken (map bare es)) ≡ map bare es
owns_of [] = refl
owns_of (e ∷ es) = λ i. e.1 i ∷ owns_of es i

owns_agree : (y : Ty-F Owned) → map-Ty Taken Ty own_in (map-Ty Ty Taken taken (map-Ty Owned Ty bare y)) ≡ map-Ty Owned Ty bare y
owns_agree Ty-F.Bool = refl
owns_agree Ty-F.Char = refl
owns_agree (Ty-F.Int i) = refl
owns_agree Ty-F.Never = refl
owns_agree Ty-F.Str = refl
owns_agree (Ty-F.Tuple items) = ap (λ l. Ty-F.Tuple l) (owns_of items)
owns_agree (Ty-F.Array item count) = ap (λ l. Ty-F.Array l count) item.1
owns_agree (Ty-F.Slice item) = ap (λ l. Ty-F.Slice l) item.1
owns_agree (Ty-F.Ref mutable target) = ap (λ l. Ty-F.Ref mutable l) target.1
owns_agree (Ty-F.Raw mutable target) = ap (λ l. Ty-F.Raw mutable l) target.1
owns_agree (Ty-F.BoxOf target) = ap (λ l. Ty-F.BoxOf l) target.1
owns_agree (Ty-F.Dyn path) = refl
owns_agree (Ty-F.Named path) = refl

own_is : (t : Ty) → IsOwn t
own_is = ind-Ty IsOwn (λ x y is.
    let P : Ty-F Ty → Type 0 = λ z. map-Ty Taken Ty own_in (map-Ty Ty Taken taken z) ≡ z in
    ap own_in (taken_roll x) ∙ ap roll-Ty (subst P is (owns_agree y)))

items_whole : (ts : List Ty) → flat_map whole (map taken ts) ≡ flat_map parts ts
unfolding parts
items_whole [] = refl
items_whole (t ∷ ts) = ap (λ l. whole (taken t) ++ l) (items_whole ts)

level_whole : (x : Ty-F Ty) → form_parts whole (map-Ty Ty Taken taken x) ≡ form_parts parts x
unfolding parts
level_whole Ty-F.Bool = refl
level_whole Ty-F.Char = refl
level_whole (Ty-F.Int i) = refl
level_whole Ty-F.Never = refl
level_whole Ty-F.Str = refl
level_whole (Ty-F.Tuple items) = items_whole items
level_whole (Ty-F.Array item count) = refl
level_whole (Ty-F.Slice item) = refl
level_whole (Ty-F.Ref mutable target) = refl
level_whole (Ty-F.Raw mutable target) = refl
level_whole (Ty-F.BoxOf target) = refl
level_whole (Ty-F.Dyn path) = refl
level_whole (Ty-F.Named path) = refl

-- at a type that is made of this form
pub parts_roll : (x : Ty-F Ty) → parts (roll-Ty x) ≡ form_parts parts x ++ roll-Ty x ∷ []
unfolding parts
parts_roll x =
    let inner : (taken (roll-Ty x)).inner ≡ form_parts parts x = ap (λ s. s.inner) (taken_roll x) ∙ level_whole x in
    λ i. inner i ++ own_is (roll-Ty x) i ∷ []

-- those that are written in a type, and then it
pub parts_are : (t : Ty) → parts t ≡ level_parts t ++ t ∷ []
unfolding parts
parts_are t =
    let inner : (taken t).inner ≡ level_parts t = ap (λ s. s.inner) (taken_out t) ∙ level_whole (out-Ty t) in
    λ i. inner i ++ own_is t i ∷ []

pub parts_made : (t : Ty) (old mid new : List Ty) → mid ≡ old ++ level_parts t → new ≡ mid ++ t ∷ [] → new ≡ old ++ parts t
parts_made t old mid new p q = q ∙ ap (λ l. l ++ t ∷ []) p ∙ append_assoc old (level_parts t) (t ∷ []) ∙ ap (λ l. old ++ l) (sym (parts_are t))
