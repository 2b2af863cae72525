-- Which limits a text passes: 4,096 functions, 4,095 as the number of a block or a local, 256 bytes of a name. Every
-- label and local counts that a production reads, those of cleanup blocks too, and every path.
use Rattle.std.specs.Prelude.{nat_lt, if◌then◌else◌, List, [], ◌∷◌, length, Option, Some, None}
use Rattle.mir_grammar.specs.declared.trees.Declared.{Declared}
use Rattle.mir_grammar.specs.declared.trees.RawBlock.{RawBlock}
use Rattle.mir_grammar.specs.declared.trees.RawFunction.{RawFunction}
use Rattle.mir_grammar.specs.declared.limits.Passed.{Passed}
use Rattle.mir_grammar.specs.Places.{none_passed, both_passed, local_passed, block_passed, long_name}
use Rattle.mir_grammar.specs.Values.{all_passed}
use Rattle.raw_functions.specs.declared.limits.Limit.{Limit}
use Rattle.raw_functions.specs.declared.limits.Limit.TheVariants as limit

abbrev pub declared_passed : List Declared → Passed
declared_passed [] = none_passed
declared_passed (d ∷ ds) = both_passed (both_passed (local_passed d.id.0) (long_name d.ty.is_long)) (declared_passed ds)

abbrev pub block_all_passed : RawBlock → Passed
block_all_passed b = both_passed (block_passed b.id.0) (both_passed (all_passed b.statements) b.ending.passed)

abbrev pub blocks_passed : List RawBlock → Passed
blocks_passed [] = none_passed
blocks_passed (b ∷ bs) = both_passed (block_all_passed b) (blocks_passed bs)

abbrev pub function_passed : RawFunction → Passed
function_passed f = both_passed (both_passed (long_name f.name.is_long) (long_name f.result.is_long))
    (both_passed (both_passed (declared_passed f.parameters) (declared_passed f.items)) (blocks_passed f.blocks))

unfoldable pub functions_passed : List RawFunction → Passed
functions_passed [] = none_passed
functions_passed (f ∷ fs) = both_passed (function_passed f) (functions_passed fs)

-- the first in this order that is passed
abbrev pub limit_in : Passed → Option Limit
limit_in p = if p.blocks then Some limit.Blocks else (if p.locals then Some limit.Locals else (if p.names then Some limit.NameBytes else None))

unfoldable pub limit_of : List RawFunction → Option Limit
limit_of fs = if nat_lt 4096 (length fs) then Some limit.Functions else limit_in (functions_passed fs)
