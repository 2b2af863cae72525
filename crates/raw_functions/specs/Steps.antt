-- What the code does step by step.
use Rattle.std.specs.Prelude.{◌≡◌, ℕ, Bool, ◌==◌, if◌then◌else◌, List, [], ◌∷◌}
use Rattle.std.specs.List.{list_any}
use Rattle.mir_ir.specs.declared.types.Ty.{Ty}
use Rattle.mir_ir.specs.declared.tree.Block.{Block}
use Rattle.mir_ir.specs.declared.tree.Local.{Local}
use Rattle.mir_grammar.specs.declared.trees.RawBlock.{RawBlock}
use Rattle.mir_grammar.specs.Places.{to_local_id}
use Rattle.raw_functions.specs.Meant.{is_cleanup, block_of}

abbrev pub is_number : List ℕ → ℕ → Bool
is_number numbers n = list_any (λ m. n == m) numbers

-- these are the numbers of the cleanup blocks among these
pub record HasNumbers (numbers : List ℕ) (blocks : List RawBlock) : Type 0 where
  pub each : (n : ℕ) → is_number numbers n ≡ is_cleanup blocks n

-- a block that is kept, or none
abbrev pub kept_block : (ℕ → Bool) → RawBlock → List Block
kept_block is_edge b = if b.is_cleanup then [] else block_of is_edge b ∷ []

-- a local, unless it is _0
abbrev pub other_of : Local → List Local
other_of l = if l.id.0 == 0 then [] else l ∷ []

-- `_0` with this type
abbrev pub local_zero : Ty → Local
local_zero ty = record { id = to_local_id 0; ty = ty }
