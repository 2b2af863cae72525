-- What the runs of a function are, step by step.
use Rattle.std.specs.Prelude.{ℕ, zero, suc, ◌+◌, Bool, true, not, ◌==◌, if◌then◌else◌, List, [], ◌∷◌, Option, Some, None, Result, Ok, Err, find, slice_get, slice_set, replicate, length, option_map, unwrap_or}
use Rattle.word_bits.specs.declared.word.Word.{Word}
use Rattle.vk_core.specs.declared.ids.BlockId.{BlockId}
use Rattle.vk_core.specs.declared.check.CheckClass.{CheckClass}
use Rattle.vk_core.specs.declared.check.CheckClass.TheVariants as class
use Rattle.mir_ir.specs.declared.tree.Operand.{Operand}
use Rattle.mir_ir.specs.declared.tree.Arm.{Arm}
use Rattle.mir_ir.specs.declared.tree.Statement.{Statement}
use Rattle.mir_ir.specs.declared.tree.Statement.TheVariants as statement
use Rattle.mir_ir.specs.declared.tree.Terminator.{Terminator}
use Rattle.mir_ir.specs.declared.tree.Terminator.TheVariants as terminator
use Rattle.mir_ir.specs.declared.tree.Block.{Block}
use Rattle.mir_ir.specs.declared.tree.Function.{Function}
use Rattle.scalar_runs.specs.declared.kinds.Choice.{Choice}
use Rattle.scalar_runs.specs.declared.kinds.ValueKind.{ValueKind}
use Rattle.scalar_runs.specs.declared.builtins.Builtin.{Builtin}
use Rattle.scalar_runs.specs.declared.builtins.Builtin.TheVariants as builtin
use Rattle.scalar_runs.specs.declared.breach.Breach.{Breach}
use Rattle.scalar_runs.specs.Builtins.{builtin_of}
use Rattle.scalar_runs.specs.Kinds.{is_choice_of}
use Rattle.scalar_runs.specs.Look.{block_of, locals_end}
use Rattle.scalar_runs.specs.Values.{Values, operand_value, rvalue_value}

-- where a run stands, and what each local holds
pub record Configuration : Type 0 where
  pub block : ℕ
  pub index : ℕ
  pub values : Values

-- what one step does
pub data Stepped : Type 0 where
  Goes : Configuration → Stepped
  Ends : Stepped
  -- an assumption is false
  Cuts : Stepped
  Faults : CheckClass → Stepped
  -- any value of the kind is stored in the local, and the run goes on at the block
  Chooses : ValueKind → (destination next : ℕ) → Stepped
  -- no step of a function of the form
  Stuck : Stepped

-- what a number of steps gives; a fault comes with the choices that are left
pub data Outcome : Type 0 where
  Running : Outcome
  Ended : Outcome
  Cut : Outcome
  Faulted : Breach → List Choice → Outcome
  -- a choice is wanted, and there is none, or none that is a value of the kind
  Wanting : Outcome
  Lost : Outcome

abbrev pub stored : Values → ℕ → Word → Values
stored values place w = slice_set values place (Some w)

-- the entry of a block
abbrev pub entry_of : ℕ → Values → Configuration
entry_of block values = record { block = block; index = 0; values = values }

-- a local is given a value, or the reading or the operation was a fault
abbrev pub assigned : Configuration → ℕ → Result Word CheckClass → Stepped
assigned s place (Err c) = Faults c
assigned s place (Ok w) = Goes (record { block = s.block; index = s.index + 1; values = stored s.values place w })

-- the target of the first arm with the bit pattern, else the other one
abbrev pub target_of : List Arm → BlockId → ℕ → BlockId
target_of arms otherwise n = unwrap_or (option_map (λ arm. arm.target) (find (λ arm. arm.number == n) arms)) otherwise

abbrev pub switched : Configuration → List Arm → BlockId → Result Word CheckClass → Stepped
switched s arms otherwise (Err c) = Faults c
switched s arms otherwise (Ok w) = Goes (entry_of (target_of arms otherwise w.value).0 s.values)

-- the truth value is the one that is expected
abbrev pub is_expected : Bool → Word → Bool
is_expected expected w = if expected then not (w.value == 0) else w.value == 0

-- the run goes on where the condition is as expected, else this happens; what a call stores is (), which has no bytes
abbrev pub tested : Stepped → Bool → Configuration → ℕ → Result Word CheckClass → Stepped
tested failed expected s next (Err c) = Faults c
tested failed expected s next (Ok w) = if is_expected expected w then Goes (entry_of next s.values) else failed

-- the first argument of an assertion or an assumption is its condition
abbrev pub condition_step : Function → Stepped → Configuration → List Operand → ℕ → Stepped
condition_step f failed s [] next = Stuck
condition_step f failed s (condition ∷ more) next = tested failed true s next (operand_value f s.values condition)

abbrev pub builtin_step : Function → Configuration → ℕ → Builtin → List Operand → Option BlockId → Stepped
builtin_step f s destination builtin.Panic arguments next = Faults class.Panic
builtin_step f s destination (builtin.Any k) arguments (Some next) = Chooses k destination next.0
builtin_step f s destination builtin.Assume arguments (Some next) = condition_step f Cuts s arguments next.0
builtin_step f s destination builtin.Assert arguments (Some next) = condition_step f (Faults class.Assertion) s arguments next.0
builtin_step f s destination (builtin.Any k) arguments None = Stuck
builtin_step f s destination builtin.Assume arguments None = Stuck
builtin_step f s destination builtin.Assert arguments None = Stuck

abbrev pub call_step : Function → Configuration → ℕ → Option Builtin → List Operand → Option BlockId → Stepped
call_step f s destination None arguments next = Stuck
call_step f s destination (Some called) arguments next = builtin_step f s destination called arguments next

abbrev pub terminator_step : Function → Configuration → Terminator → Stepped
terminator_step f s (terminator.Goto target) = Goes (entry_of target.0 s.values)
terminator_step f s (terminator.Switch o arms otherwise) = switched s arms otherwise (operand_value f s.values o)
terminator_step f s terminator.Return = Ends
terminator_step f s (terminator.Assert o expected text shown next) = tested (Faults class.Panic) expected s next.0 (operand_value f s.values o)
terminator_step f s (terminator.Call destination callee arguments next) = call_step f s destination.local.0 (builtin_of callee) arguments next
terminator_step f s _ = Stuck

abbrev pub statement_step : Function → Configuration → Statement → Stepped
statement_step f s (statement.Assign place value) = assigned s place.local.0 (rvalue_value f s.values value)
statement_step f s _ = Stuck

-- behind the last statement stands the terminator
abbrev pub step_at : Function → Configuration → Terminator → ℕ → Option Statement → Stepped
step_at f s last count (Some this) = statement_step f s this
step_at f s last count None = if s.index == count then terminator_step f s last else Stuck

abbrev pub block_step : Function → Configuration → Option Block → Stepped
block_step f s (Some block) = step_at f s block.terminator (length block.statements) (slice_get block.statements s.index)
block_step f s None = Stuck

-- one step
unfoldable pub step : Function → Configuration → Stepped
step f s = block_step f s (block_of f s.block)

-- where a run stands once a choice was made
abbrev pub chosen : Configuration → ℕ → ℕ → Word → Configuration
chosen s destination next w = entry_of next (stored s.values destination w)

-- the fault of this class, where a run stands
abbrev pub breach_at : Configuration → CheckClass → Breach
breach_at s c = record { block = record { 0 = s.block }; index = s.index; class = c }

-- how a run goes on behind a choice, on being the rest of it
abbrev pub after_choice : (Configuration → List Choice → Outcome) → Configuration → ValueKind → ℕ → ℕ → List Choice → Outcome
after_choice on s k destination next [] = Wanting
after_choice on s k destination next (c ∷ cs) = if is_choice_of k c then on (chosen s destination next c.word) cs else Wanting

-- how a run goes on behind a step, on being the rest of it
abbrev pub after : (Configuration → List Choice → Outcome) → Configuration → List Choice → Stepped → Outcome
after on s choices (Goes t) = on t choices
after on s choices Ends = Ended
after on s choices Cuts = Cut
after on s choices (Faults c) = Faulted (breach_at s c) choices
after on s choices (Chooses k destination next) = after_choice on s k destination next choices
after on s choices Stuck = Lost

-- what n steps give when the choices are taken in order
unfoldable pub run : Function → ℕ → Configuration → List Choice → Outcome
run f zero s choices = Running
run f (suc n) s choices = after (run f n) s choices (step f s)

-- where a run begins: at bb0, with nothing in the locals
unfoldable pub start : Function → Configuration
start f = entry_of 0 (replicate (locals_end f.locals) None)
