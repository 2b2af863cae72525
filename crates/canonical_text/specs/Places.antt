-- The canonical text of a place: `_1`, `(*_1)`, `(_1.0: u8)`, `_1[_2]`, `_1[0 of 2]`, `_1[-1 of 2]`, `(_1 as Some)`.
use Rattle.std.specs.Prelude.{ℕ, List, [], ◌∷◌, ◌++◌, codes}
use Rattle.std.specs.Fmt.{decimal}
use Rattle.mir_ir.specs.declared.places.Projection.{Projection}
use Rattle.mir_ir.specs.declared.places.Projection.TheVariants as step
use Rattle.mir_ir.specs.declared.places.PlaceExpr.{PlaceExpr}
use Rattle.canonical_text.specs.Types.{type_text}

unfoldable pub local_text : ℕ → List ℕ
local_text n = codes "_" ++ decimal n

unfoldable pub label_text : ℕ → List ℕ
label_text n = codes "bb" ++ decimal n

-- what a step writes before the place that it is taken from
abbrev pub opening : Projection → List ℕ
opening (step.Field index ty) = codes "("
opening step.Deref = codes "(*"
opening (step.Index local) = []
opening (step.FromFront at least) = []
opening (step.FromBack at least) = []
opening (step.Downcast variant) = codes "("

unfoldable pub from_front_text : ℕ → ℕ → List ℕ
from_front_text at least = codes "[" ++ decimal at ++ codes " of " ++ decimal least ++ codes "]"

unfoldable pub from_back_text : ℕ → ℕ → List ℕ
from_back_text at least = codes "[-" ++ decimal at ++ codes " of " ++ decimal least ++ codes "]"

-- what a step writes behind it
abbrev pub closing : Projection → List ℕ
closing (step.Field index ty) = codes "." ++ decimal index ++ codes ": " ++ type_text ty ++ codes ")"
closing step.Deref = codes ")"
closing (step.Index local) = codes "[" ++ local_text local.0 ++ codes "]"
closing (step.FromFront at least) = from_front_text at least
closing (step.FromBack at least) = from_back_text at least
closing (step.Downcast variant) = codes " as " ++ variant ++ codes ")"

-- the step that is taken last writes first
abbrev pub openings : List Projection → List ℕ
openings [] = []
openings (s ∷ ss) = openings ss ++ opening s

abbrev pub closings : List Projection → List ℕ
closings [] = []
closings (s ∷ ss) = closing s ++ closings ss

unfoldable pub place_text : PlaceExpr → List ℕ
place_text p = openings p.steps ++ local_text p.local.0 ++ closings p.steps
