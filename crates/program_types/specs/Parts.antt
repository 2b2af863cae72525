-- The types that are written in a type, a part before the whole.
use Rattle.std.specs.Prelude.{List, [], ◌∷◌, ◌++◌, flat_map}
use Rattle.mir_ir.specs.declared.types.Ty.{Ty, out-Ty, map-Ty}
use Rattle.mir_ir.specs.declared.types.Ty.TheOpen.{Ty-F}
use Rattle.mir_ir.specs.declared.types.Ty.TheViews.{roll-Ty}
use Rattle.mir_ir.specs.declared.types.Ty.TheFolds.{fold-Ty}

-- a type, and those that are written in it
pub record Taken : Type 0 where
  pub own : Ty
  pub inner : List Ty

abbrev pub own_in : Taken → Ty
own_in s = s.own

abbrev pub whole : Taken → List Ty
whole s = s.inner ++ s.own ∷ []

-- what is written in a type of this form: its parts in order
abbrev pub form_parts : {X : Type 0} → (X → List Ty) → Ty-F X → List Ty
form_parts at (Ty-F.Tuple items) = flat_map at items
form_parts at (Ty-F.Array item count) = at item
form_parts at (Ty-F.Slice item) = at item
form_parts at (Ty-F.Ref mutable target) = at target
form_parts at (Ty-F.Raw mutable target) = at target
form_parts at (Ty-F.BoxOf target) = at target
form_parts at _ = []

abbrev pub form_taken : Ty-F Taken → Taken
form_taken x = record { own = roll-Ty (map-Ty Taken Ty own_in x); inner = form_parts whole x }

unfoldable pub taken : Ty → Taken
taken = fold-Ty Taken form_taken

-- the types that are written in a type, and it
unfoldable pub parts : Ty → List Ty
parts t = whole (taken t)

-- those that are written in it, its parts being taken whole
abbrev pub level_parts : Ty → List Ty
level_parts t = form_parts parts (out-Ty t)
