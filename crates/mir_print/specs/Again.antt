-- What it means that a printed text reads again.
use Rattle.std.specs.Prelude.{◌≡◌, ℕ, true, List, None}
use Rattle.vk_core.specs.declared.text_place.TextPlace.{TextPlace}
use Rattle.mir_ir.specs.declared.tree.Function.{Function}
use Rattle.mir_grammar.specs.declared.trees.RawFunction.{RawFunction}
use Rattle.raw_functions.specs.Limits.{limit_of}
use Rattle.print_laws.specs.Laws.{all_placed}
use Rattle.print_laws.specs.Printed.{are_printable}
use Rattle.mir_text.specs.Answers.{IsWritten, Means}

-- no limit is passed by the functions that a text is, as they are written
abbrev pub IsWithin : List ℕ → Type 0
IsWithin text = (written : List RawFunction) → IsWritten text written → limit_of written ≡ None

-- a text means these functions, but for the place at which each of them stands
abbrev pub MeansButForPlaces : List ℕ → List Function → Type 0
MeansButForPlaces text fs = (gs : List Function) × Means text gs × ((here : TextPlace) → all_placed here gs ≡ all_placed here fs)

-- Where some text means these functions, and no token of it is one that cannot be written again, the printed text, within
-- the limits, means the same functions.
pub record ReadsAgain (fs : List Function) (printed : List ℕ) : Type 0 where
  pub reads : (text : List ℕ) (means : Means text fs) → are_printable means.is.tokens ≡ true → IsWithin printed → MeansButForPlaces printed fs
