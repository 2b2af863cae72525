-- The functions that functions as they are written mean.
use Rattle.std.specs.Prelude.{ℕ, Bool, ◌&&◌, ◌==◌, nat_le, if◌then◌else◌, List, [], ◌∷◌, ◌++◌, length, Option, Some, None}
use Rattle.std.specs.List.{list_any}
use Rattle.vk_core.specs.declared.ids.BlockId.{BlockId}
use Rattle.vk_core.specs.declared.text_place.TextPlace.{TextPlace}
use Rattle.mir_ir.specs.declared.types.Ty.{Ty}
use Rattle.mir_ir.specs.declared.tree.Statement.{Statement}
use Rattle.mir_ir.specs.declared.tree.Terminator.{Terminator}
use Rattle.mir_ir.specs.declared.tree.Terminator.TheVariants as terminator
use Rattle.mir_ir.specs.declared.tree.Block.{Block}
use Rattle.mir_ir.specs.declared.tree.Local.{Local}
use Rattle.mir_ir.specs.declared.tree.Function.{Function}
use Rattle.mir_lex.specs.Places.{text_place}
use Rattle.mir_grammar.specs.declared.trees.Declared.{Declared}
use Rattle.mir_grammar.specs.declared.trees.RawBlock.{RawBlock}
use Rattle.mir_grammar.specs.declared.trees.RawFunction.{RawFunction}
use Rattle.mir_grammar.specs.Places.{to_local_id}
use Rattle.mir_grammar.specs.declared.trees.Target.{Target}
use Rattle.mir_grammar.specs.declared.trees.Target.TheVariants.{ToBlock, ToLabel, ToNone}
use Rattle.mir_grammar.specs.declared.trees.Ending.{Ending}
use Rattle.mir_grammar.specs.declared.trees.Ending.TheVariants.{Settled, Calling}
use Rattle.mir_grammar.specs.Blocks.{Kept}

-- Blocks.

-- a cleanup block has this number
abbrev pub is_cleanup : List RawBlock → ℕ → Bool
is_cleanup blocks n = list_any (λ b. b.is_cleanup && n == b.id.0) blocks

-- the next block of a call: a label without brackets is an unwind edge where it is that of a cleanup block
abbrev pub next_of : (ℕ → Bool) → Target → Option BlockId
next_of is_edge (ToBlock b) = Some b
next_of is_edge (ToLabel b) = if is_edge b.0 then None else Some b
next_of is_edge ToNone = None

abbrev pub terminator_of : (ℕ → Bool) → Ending → Terminator
terminator_of is_edge (Settled t) = t
terminator_of is_edge (Calling place callee arguments target) = terminator.Call place callee arguments (next_of is_edge target)

abbrev pub kept_before : Option Statement → List Statement → List Statement
kept_before None statements = statements
kept_before (Some s) statements = s ∷ statements

-- some statements are read and not kept
abbrev pub kept_of : List Kept → List Statement
kept_of [] = []
kept_of (s ∷ ss) = kept_before s.value (kept_of ss)

abbrev pub block_of : (ℕ → Bool) → RawBlock → Block
block_of is_edge b = record { id = b.id; statements = kept_of b.statements; terminator = terminator_of is_edge b.ending.value }

-- in the order of the text; cleanup blocks are not kept
abbrev pub blocks_among : (ℕ → Bool) → List RawBlock → List Block
blocks_among is_edge [] = []
blocks_among is_edge (b ∷ bs) = if b.is_cleanup then blocks_among is_edge bs else block_of is_edge b ∷ blocks_among is_edge bs

unfoldable pub blocks_of : List RawBlock → List Block
blocks_of blocks = blocks_among (is_cleanup blocks) blocks

-- Locals: the parameters in the order of the text, then _0, then the others by number.

abbrev pub local_of : Declared → Local
local_of d = record { id = d.id; ty = d.ty.ty }

abbrev pub locals_of : List Declared → List Local
locals_of [] = []
locals_of (d ∷ ds) = local_of d ∷ locals_of ds

-- the type of _0: the declared one, or that of the result
abbrev pub result_type : Ty → List Declared → Ty
result_type result [] = result
result_type result (d ∷ ds) = if d.id.0 == 0 then d.ty.ty else result_type result ds

abbrev pub result_local : Ty → List Declared → Local
result_local result items = record { id = to_local_id 0; ty = result_type result items }

-- without _0
abbrev pub others_of : List Declared → List Local
others_of [] = []
others_of (d ∷ ds) = if d.id.0 == 0 then others_of ds else local_of d ∷ others_of ds

abbrev pub put_by_number : Local → List Local → List Local
put_by_number l [] = l ∷ []
put_by_number l (m ∷ ms) = if nat_le l.id.0 m.id.0 then l ∷ m ∷ ms else m ∷ put_by_number l ms

abbrev pub by_number : List Local → List Local
by_number [] = []
by_number (l ∷ ls) = put_by_number l (by_number ls)

unfoldable pub all_locals : List Declared → Ty → List Declared → List Local
all_locals parameters result items = locals_of parameters ++ (result_local result items ∷ by_number (others_of items))

-- Functions.

abbrev pub function_at : TextPlace → RawFunction → Function
function_at place f = record {
  name = f.name.text;
  place = place;
  parameters = length f.parameters;
  result = f.result.ty;
  locals = all_locals f.parameters f.result.ty f.items;
  blocks = blocks_of f.blocks;
}

-- at the place of its name in this text
abbrev pub function_of : List ℕ → RawFunction → Function
function_of text f = function_at (text_place text f.name.start) f

abbrev pub functions_of : List ℕ → List RawFunction → List Function
functions_of text [] = []
functions_of text (f ∷ fs) = function_of text f ∷ functions_of text fs
