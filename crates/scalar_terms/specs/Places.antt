-- Where the run stands whose choices are these inputs, block by block: before a block with values, or at its end. A run
-- passes each block at most once, since jumps go to greater numbers, so that the input with a block's number is the choice
-- that is made there.
use Rattle.std.specs.Prelude.{ℕ, zero, suc, ◌+◌, ◌==◌, if◌then◌else◌, List, [], ◌∷◌, Option, Some, None, length, replicate}
use Rattle.word_bits.specs.declared.word.Word.{Word}
use Rattle.word_bits.specs.Words.{word}
use Rattle.mir_ir.specs.declared.tree.Block.{Block}
use Rattle.mir_ir.specs.declared.tree.Function.{Function}
use Rattle.mir_ir.specs.declared.tree.Statement.{Statement}
use Rattle.mir_ir.specs.declared.tree.Terminator.{Terminator}
use Rattle.scalar_runs.specs.declared.breach.Breach.{Breach}
use Rattle.scalar_runs.specs.declared.kinds.ValueKind.{ValueKind}
use Rattle.scalar_runs.specs.Kinds.{is_value, width_of_kind}
use Rattle.scalar_runs.specs.Look.{block_of, locals_end}
use Rattle.scalar_runs.specs.Run.{Configuration, Stepped, Goes, Ends, Cuts, Faults, Chooses, Stuck, breach_at, statement_step, stored, terminator_step}
use Rattle.scalar_runs.specs.Values.{Values}

-- how a run ends
pub data End : Type 0 where
  Ended : End
  Cut : End
  Fault : Breach → End
  -- the choice is no value of its kind
  Wanting : End
  Lost : End

-- between blocks: the run comes to a block with these values, or it has ended
pub data Place : Type 0 where
  Before : (target : ℕ) → Values → Place
  Done : End → Place

-- within a block: the run passes here, or it is elsewhere
pub data Spot : Type 0 where
  Here : Values → Spot
  There : Place → Spot

-- a run at this statement or terminator of a block
abbrev pub standing : ℕ → ℕ → Values → Configuration
standing b i values = record { block = b; index = i; values = values }

-- behind the step of a statement, which makes no choice and leaves no block
abbrev pub spot_of : Configuration → Stepped → Spot
spot_of s (Goes t) = Here t.values
spot_of s (Faults c) = There (Done (Fault (breach_at s c)))
spot_of s _ = There (Done Lost)

-- the choice of a value of this kind in a block
abbrev pub chosen_word : (ℕ → ℕ) → ℕ → ValueKind → Word
chosen_word inputs b k = word (width_of_kind k) (inputs b)

-- behind a choice by the inputs: the next block, or the end where that is no value
abbrev pub chosen_place : (ℕ → ℕ) → Configuration → ValueKind → ℕ → ℕ → Place
chosen_place inputs s k destination next =
    if is_value k (chosen_word inputs s.block k) then Before next (stored s.values destination (chosen_word inputs s.block k)) else Done Wanting

-- behind the step of a terminator
abbrev pub place_of : (ℕ → ℕ) → Configuration → Stepped → Place
place_of inputs s (Goes t) = Before t.block t.values
place_of inputs s Ends = Done Ended
place_of inputs s Cuts = Done Cut
place_of inputs s (Faults c) = Done (Fault (breach_at s c))
place_of inputs s (Chooses k destination next) = chosen_place inputs s k destination next
place_of inputs s Stuck = Done Lost

-- behind a statement
abbrev pub stated : Function → ℕ → ℕ → Statement → Spot → Spot
stated f b i this (Here values) = spot_of (standing b i values) (statement_step f (standing b i values) this)
stated f b i this (There p) = There p

-- behind statements, the first of which has this index
abbrev pub all_stated : Function → ℕ → ℕ → List Statement → Spot → Spot
all_stated f b i [] spot = spot
all_stated f b i (this ∷ more) spot = all_stated f b (i + 1) more (stated f b i this spot)

-- behind a step of a run that stands here
abbrev pub stepped_place : (ℕ → ℕ) → ℕ → ℕ → (Configuration → Stepped) → Spot → Place
stepped_place inputs b i does (Here values) = place_of inputs (standing b i values) (does (standing b i values))
stepped_place inputs b i does (There p) = p

-- behind the terminator
abbrev pub finished : Function → (ℕ → ℕ) → ℕ → ℕ → Terminator → Spot → Place
finished f inputs b i last spot = stepped_place inputs b i (λ s. terminator_step f s last) spot

-- behind a block
abbrev pub behind_block : Function → (ℕ → ℕ) → Block → Spot → Place
behind_block f inputs b spot = finished f inputs b.id.0 (length b.statements) b.terminator (all_stated f b.id.0 0 b.statements spot)

-- at the head of a block: a run that comes to it is in it now
abbrev pub entered : ℕ → Place → Spot
entered b (Before target values) = if target == b then Here values else There (Before target values)
entered b (Done e) = There (Done e)

-- behind a block, for a run that stands before it or elsewhere
abbrev pub passed : Function → (ℕ → ℕ) → Block → Place → Place
passed f inputs b p = behind_block f inputs b (entered b.id.0 p)

-- the same where there may be no block
abbrev pub passed_at : Function → (ℕ → ℕ) → Option Block → Place → Place
passed_at f inputs (Some b) p = passed f inputs b p
passed_at f inputs None p = p

-- where the run stands when it has passed the blocks with smaller numbers than this one
abbrev pub place : Function → (ℕ → ℕ) → ℕ → Place
place f inputs zero = Before 0 (replicate (locals_end f.locals) None)
place f inputs (suc n) = passed_at f inputs (block_of f n) (place f inputs n)
