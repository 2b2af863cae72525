-- The canonical text of functions: lines that each end in a line feed, with an empty line before each block and between two functions.
use Rattle.std.specs.Prelude.{ℕ, List, [], ◌∷◌, ◌++◌, take, drop, codes}
use Rattle.mir_ir.specs.declared.tree.Block.{Block}
use Rattle.mir_ir.specs.declared.tree.Local.{Local}
use Rattle.mir_ir.specs.declared.tree.Statement.{Statement}
use Rattle.mir_ir.specs.declared.tree.Function.{Function}
use Rattle.canonical_text.specs.declared.positions.Position.TheVariants.{Alone}
use Rattle.canonical_text.specs.Names.{path_written}
use Rattle.canonical_text.specs.Types.{type_text}
use Rattle.canonical_text.specs.Places.{label_text, local_text}
use Rattle.canonical_text.specs.Lines.{statement_text, terminator_text}

-- `_1: u8`
unfoldable pub declared_text : Local → List ℕ
declared_text l = local_text l.id.0 ++ codes ": " ++ type_text l.ty

abbrev pub more_parameters : List Local → List ℕ
more_parameters [] = []
more_parameters (l ∷ ls) = codes ", " ++ declared_text l ++ more_parameters ls

abbrev pub parameters_text : List Local → List ℕ
parameters_text [] = []
parameters_text (l ∷ ls) = declared_text l ++ more_parameters ls

-- `    let mut _1: u8;` for each local
abbrev pub lets_text : List Local → List ℕ
lets_text [] = []
lets_text (l ∷ ls) = codes "    let mut " ++ declared_text l ++ codes ";\n" ++ lets_text ls

abbrev pub statements_text : List Statement → List ℕ
statements_text [] = []
statements_text (s ∷ ss) = codes "        " ++ statement_text s ++ codes "\n" ++ statements_text ss

unfoldable pub block_text : Block → List ℕ
block_text b = codes "\n    " ++ label_text b.id.0 ++ codes ": {\n" ++ statements_text b.statements ++ codes "        " ++ terminator_text b.terminator ++ codes "\n    }\n"

abbrev pub blocks_text : List Block → List ℕ
blocks_text [] = []
blocks_text (b ∷ bs) = block_text b ++ blocks_text bs

-- `fn f(_1: u8) -> u8 {`; the first locals are the parameters
unfoldable pub head_text : Function → List ℕ
head_text f = codes "fn " ++ path_written Alone f.name ++ codes "(" ++ parameters_text (take f.parameters f.locals) ++ codes ") -> " ++ type_text f.result ++ codes " {\n"

unfoldable pub function_text : Function → List ℕ
function_text f = head_text f ++ lets_text (drop f.parameters f.locals) ++ blocks_text f.blocks ++ codes "}\n"

abbrev pub more_functions : List Function → List ℕ
more_functions [] = []
more_functions (f ∷ fs) = codes "\n" ++ function_text f ++ more_functions fs

abbrev pub functions_text : List Function → List ℕ
functions_text [] = []
functions_text (f ∷ fs) = function_text f ++ more_functions fs
