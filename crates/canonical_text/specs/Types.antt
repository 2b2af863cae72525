-- The canonical text of a type: names of types are equal where these texts are.
use Rattle.std.specs.Prelude.{ℕ, Bool, true, false, List, [], ◌∷◌, ◌++◌, codes}
use Rattle.std.specs.Fmt.{decimal}
use Rattle.mir_ir.specs.declared.types.Ty.{Ty}
use Rattle.mir_ir.specs.declared.types.Ty.TheOpen.{Ty-F}
use Rattle.mir_ir.specs.declared.types.Ty.TheFolds.{fold-Ty}
use Rattle.mir_ir.specs.Names.{name_of_int}
use Rattle.canonical_text.specs.declared.positions.Position.TheVariants.{Alone, AsType}
use Rattle.canonical_text.specs.Names.{path_written}

-- texts with a comma and a blank before each
abbrev pub behind_commas : List (List ℕ) → List ℕ
behind_commas [] = []
behind_commas (x ∷ xs) = codes ", " ++ x ++ behind_commas xs

-- texts with a comma and a blank between two
abbrev pub with_commas : List (List ℕ) → List ℕ
with_commas [] = []
with_commas (x ∷ xs) = x ++ behind_commas xs

-- a tuple of one item has a comma behind it
abbrev pub comma_of_one : List (List ℕ) → List ℕ
comma_of_one [] = []
comma_of_one (x ∷ []) = codes ","
comma_of_one (x ∷ y ∷ more) = []

abbrev pub reference_word : Bool → List ℕ
reference_word true = codes "&mut "
reference_word false = codes "&"

abbrev pub pointer_word : Bool → List ℕ
pointer_word true = codes "*mut "
pointer_word false = codes "*const "

-- one form of a type, with the texts of its parts in their places
abbrev pub form_text : Ty-F (List ℕ) → List ℕ
form_text Ty-F.Bool = codes "bool"
form_text Ty-F.Char = codes "char"
form_text (Ty-F.Int i) = name_of_int i
form_text Ty-F.Never = codes "!"
form_text Ty-F.Str = codes "str"
form_text (Ty-F.Tuple items) = codes "(" ++ with_commas items ++ comma_of_one items ++ codes ")"
form_text (Ty-F.Array item count) = codes "[" ++ item ++ codes "; " ++ decimal count ++ codes "]"
form_text (Ty-F.Slice item) = codes "[" ++ item ++ codes "]"
form_text (Ty-F.Ref mutable target) = reference_word mutable ++ target
form_text (Ty-F.Raw mutable target) = pointer_word mutable ++ target
form_text (Ty-F.BoxOf target) = codes "Box<" ++ target ++ codes ">"
form_text (Ty-F.Dyn path) = codes "dyn " ++ path_written Alone path
form_text (Ty-F.Named path) = path_written AsType path

unfoldable pub type_text : Ty → List ℕ
type_text = fold-Ty (List ℕ) form_text
