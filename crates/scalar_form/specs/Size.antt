-- How many statements and terminators the blocks have that bb0 reaches.
use Rattle.std.specs.Prelude.{ℕ, zero, suc, ◌+◌, Bool, true, false, if◌then◌else◌, List, [], ◌∷◌, Option, Some, None, length, replicate, slice_set, get_or}
use Rattle.vk_core.specs.declared.ids.BlockId.{BlockId}
use Rattle.mir_ir.specs.declared.tree.Arm.{Arm}
use Rattle.mir_ir.specs.declared.tree.Terminator.{Terminator}
use Rattle.mir_ir.specs.declared.tree.Terminator.TheVariants as terminator
use Rattle.mir_ir.specs.declared.tree.Block.{Block}
use Rattle.mir_ir.specs.declared.tree.Function.{Function}
use Rattle.scalar_runs.specs.Look.{block_of, blocks_end}

abbrev pub marked : List Bool → BlockId → List Bool
marked marks target = slice_set marks target.0 true

abbrev pub marked_arms : List Bool → List Arm → List Bool
marked_arms marks [] = marks
marked_arms marks (arm ∷ arms) = marked_arms (marked marks arm.target) arms

abbrev pub marked_next : List Bool → Option BlockId → List Bool
marked_next marks None = marks
marked_next marks (Some next) = marked marks next

-- the marks, and those of the blocks that a terminator goes to
abbrev pub marked_by : List Bool → Terminator → List Bool
marked_by marks (terminator.Goto target) = marked marks target
marked_by marks (terminator.Switch o arms otherwise) = marked (marked_arms marks arms) otherwise
marked_by marks terminator.Return = marks
marked_by marks terminator.Unreachable = marks
marked_by marks (terminator.Drop place next) = marked marks next
marked_by marks (terminator.Assert o expected text shown next) = marked marks next
marked_by marks (terminator.Call destination callee arguments next) = marked_next marks next

abbrev pub marked_block : List Bool → ℕ → Option Block → List Bool
marked_block marks n None = marks
marked_block marks n (Some b) = if get_or marks n false then marked_by marks b.terminator else marks

-- a block, where it is reached
abbrev pub reached_block : Bool → Option Block → Option Block
reached_block true b = b
reached_block false b = None

-- bb0 alone, among the blocks that there can be
unfoldable pub first_reached : List Bool
first_reached = slice_set (replicate 4096 false) 0 true

-- the blocks that bb0, or a block with a smaller number than this one that is reached, goes to; jumps go to greater numbers
abbrev pub reached_before : Function → ℕ → List Bool
reached_before f zero = first_reached
reached_before f (suc n) = marked_block (reached_before f n) n (block_of f n)

-- the statements and the terminator of a block
abbrev pub size_of_block : Bool → Option Block → ℕ
size_of_block true (Some b) = length b.statements + 1
size_of_block true None = 0
size_of_block false b = 0

-- the size of the blocks with numbers below this one
abbrev pub size_below : Function → ℕ → ℕ
size_below f zero = 0
size_below f (suc n) = size_below f n + size_of_block (get_or (reached_before f n) n false) (block_of f n)

-- each statement and terminator that is reached counts 1
unfoldable pub size_of : Function → ℕ
size_of f = size_below f (blocks_end f.blocks)
