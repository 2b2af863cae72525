-- The locals and blocks of a function, by their numbers.
use Rattle.std.specs.Prelude.{ℕ, ◌+◌, max, ◌==◌, List, [], ◌∷◌, Option, option_and_then, find}
use Rattle.mir_ir.specs.declared.tree.Local.{Local}
use Rattle.mir_ir.specs.declared.tree.Block.{Block}
use Rattle.mir_ir.specs.declared.tree.Function.{Function}
use Rattle.scalar_runs.specs.declared.kinds.ValueKind.{ValueKind}
use Rattle.scalar_runs.specs.Kinds.{kind_of}

-- the kind of the local with this number, where there is one of a scalar type
abbrev pub local_kind : Function → ℕ → Option ValueKind
local_kind f n = option_and_then (λ l. kind_of l.ty) (find (λ l. l.id.0 == n) f.locals)

-- the block with this number, where there is one
abbrev pub block_of : Function → ℕ → Option Block
block_of f n = find (λ b. b.id.0 == n) f.blocks

-- one more than the greatest number of a local
abbrev pub locals_end : List Local → ℕ
locals_end [] = 0
locals_end (l ∷ ls) = max (l.id.0 + 1) (locals_end ls)

-- one more than the greatest number of a block
abbrev pub blocks_end : List Block → ℕ
blocks_end [] = 0
blocks_end (b ∷ bs) = max (b.id.0 + 1) (blocks_end bs)
