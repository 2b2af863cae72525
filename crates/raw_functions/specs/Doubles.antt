-- Names that stand twice: those of two functions, of two blocks of one function, cleanup blocks among them, or of two
-- locals of one function. The names are compared as they are written, those of functions by their canonical texts.
use Rattle.std.specs.Prelude.{ℕ, Bool, if◌then◌else◌, min, List, [], ◌∷◌, ◌++◌, Option, Some, None}
use Rattle.std.specs.List.{list_any}
use Rattle.std.specs.Str.{bytes_eq}
use Rattle.mir_grammar.specs.declared.trees.Declared.{Declared}
use Rattle.mir_grammar.specs.declared.trees.RawBlock.{RawBlock}
use Rattle.mir_grammar.specs.declared.trees.RawFunction.{RawFunction}

-- a name, and where its first token starts in the text
abbrev pub Spot : Type 0
Spot = List ℕ × ℕ

abbrev pub function_spots : List RawFunction → List Spot
function_spots [] = []
function_spots (f ∷ fs) = (f.name.text, f.name.start) ∷ function_spots fs

abbrev pub label_spots : List RawBlock → List Spot
label_spots [] = []
label_spots (b ∷ bs) = (b.word, b.start) ∷ label_spots bs

abbrev pub local_spots : List Declared → List Spot
local_spots [] = []
local_spots (d ∷ ds) = (d.word, d.start) ∷ local_spots ds

-- the name is one of these
abbrev pub is_among : List (List ℕ) → List ℕ → Bool
is_among names name = list_any (bytes_eq name) names

-- where those names start that stand before, these having been seen
abbrev pub seconds : List (List ℕ) → List Spot → List ℕ
seconds seen [] = []
seconds seen (s ∷ spots) = if is_among seen s.0 then s.1 ∷ seconds seen spots else seconds (seen ++ s.0 ∷ []) spots

-- the lesser of two numbers, where there are two
abbrev pub earlier : Option ℕ → Option ℕ → Option ℕ
earlier None b = b
earlier (Some m) None = Some m
earlier (Some m) (Some n) = Some (min m n)

abbrev pub earliest : List ℕ → Option ℕ
earliest [] = None
earliest (n ∷ ns) = earlier (Some n) (earliest ns)

-- where the earliest name starts that stands before
unfoldable pub second_of : List Spot → Option ℕ
second_of spots = earliest (seconds [] spots)

-- of the blocks of a function, and of its parameters and locals
unfoldable pub second_in : RawFunction → Option ℕ
second_in f = earlier (second_of (label_spots f.blocks)) (second_of (local_spots f.parameters ++ local_spots f.items))

abbrev pub second_inside : List RawFunction → Option ℕ
second_inside [] = None
second_inside (f ∷ fs) = earlier (second_in f) (second_inside fs)

-- where the earliest name of a text starts that stands before
unfoldable pub duplicate_of : List RawFunction → Option ℕ
duplicate_of fs = earlier (second_of (function_spots fs)) (second_inside fs)
