-- Which checks a function has: each is a site and a class of fault, with the words that a report gives to it.
use Rattle.std.specs.Prelude.{ℕ, zero, suc, ◌+◌, Bool, true, false, ◌||◌, if◌then◌else◌, List, [], ◌∷◌, ◌++◌, Option, Some, None, codes}
use Rattle.vk_core.specs.declared.ids.BlockId.{BlockId}
use Rattle.vk_core.specs.declared.check.CheckClass.{CheckClass}
use Rattle.vk_core.specs.declared.check.CheckClass.TheVariants as class
use Rattle.mir_ir.specs.declared.tree.BinaryOp.TheVariants as op
use Rattle.mir_ir.specs.declared.tree.Constant.TheVariants as constant
use Rattle.mir_ir.specs.declared.tree.Operand.{Operand}
use Rattle.mir_ir.specs.declared.tree.Operand.TheVariants as operand
use Rattle.mir_ir.specs.declared.tree.Rvalue.{Rvalue}
use Rattle.mir_ir.specs.declared.tree.Rvalue.TheVariants as rvalue
use Rattle.mir_ir.specs.declared.tree.Statement.{Statement}
use Rattle.mir_ir.specs.declared.tree.Statement.TheVariants as statement
use Rattle.mir_ir.specs.declared.tree.Terminator.{Terminator}
use Rattle.mir_ir.specs.declared.tree.Terminator.TheVariants as terminator
use Rattle.mir_ir.specs.declared.tree.Block.{Block}
use Rattle.mir_ir.specs.declared.tree.Function.{Function}
use Rattle.scalar_runs.specs.declared.builtins.Builtin.{Builtin}
use Rattle.scalar_runs.specs.declared.builtins.Builtin.TheVariants as builtin
use Rattle.scalar_runs.specs.Builtins.{builtin_of}
use Rattle.scalar_runs.specs.Look.{block_of, blocks_end}
use Rattle.scalar_checks.specs.declared.checks.Check.{Check}

abbrev pub check_at : BlockId → ℕ → CheckClass → List ℕ → Check
check_at b i c description = record { breach = record { block = b; index = i; class = c }; description = description }

-- what a step that names a place, or returns, is checked for
abbrev pub memory_checks : BlockId → ℕ → List Check
memory_checks b i =
    check_at b i class.Pointer (codes "memory access")
    ∷ check_at b i class.Uninit (codes "uninitialised byte")
    ∷ check_at b i class.Invalid (codes "invalid value") ∷ []

-- a quotient and a remainder
abbrev pub divides : Rvalue → Bool
divides (rvalue.Binary op.Div a b) = true
divides (rvalue.Binary op.Rem a b) = true
divides _ = false

abbrev pub division_checks : BlockId → ℕ → Bool → List Check
division_checks b i true = check_at b i class.Division (codes "division") ∷ []
division_checks b i false = []

abbrev pub assign_checks : BlockId → ℕ → Rvalue → List Check
assign_checks b i value = memory_checks b i ++ division_checks b i (divides value)

abbrev pub statement_checks : BlockId → ℕ → Statement → List Check
statement_checks b i (statement.Assign place value) = assign_checks b i value
statement_checks b i (statement.SetVariant place variant) = memory_checks b i
statement_checks b i _ = []

-- a call without a next block must not return
abbrev pub return_checks : BlockId → ℕ → Option BlockId → List Check
return_checks b i (Some next) = []
return_checks b i None = check_at b i class.Unreachable (codes "unreachable code") ∷ []

-- a call could be one activation too many
abbrev pub unwind_checks : BlockId → ℕ → List Check
unwind_checks b i = check_at b i class.Unwind (codes "unwinding assertion") ∷ []

abbrev pub call_checks : BlockId → ℕ → Option BlockId → List Check
call_checks b i next = memory_checks b i ++ return_checks b i next ++ unwind_checks b i

abbrev pub names_place : Operand → Bool
names_place (operand.Copy p) = true
names_place (operand.Move p) = true
names_place (operand.Const c) = false

abbrev pub some_names_place : List Operand → Bool
some_names_place [] = false
some_names_place (o ∷ os) = names_place o || some_names_place os

abbrev pub place_checks : BlockId → ℕ → Bool → List Check
place_checks b i names = if names then memory_checks b i else []

abbrev pub text_of_operand : Operand → List ℕ
text_of_operand (operand.Const (constant.Text t)) = t
text_of_operand _ = []

-- the text of an assertion is its second argument, that of a panic its first
abbrev pub first_text : List Operand → List ℕ
first_text [] = []
first_text (text ∷ more) = text_of_operand text

abbrev pub second_text : List Operand → List ℕ
second_text [] = []
second_text (condition ∷ more) = first_text more

abbrev pub text_checks : BlockId → ℕ → Option Builtin → List Operand → List Check
text_checks b i (Some builtin.Assert) arguments = check_at b i class.Assertion (second_text arguments) ∷ []
text_checks b i (Some builtin.Panic) arguments = check_at b i class.Panic (first_text arguments) ∷ []
text_checks b i _ arguments = []

abbrev pub terminator_checks : BlockId → ℕ → Terminator → List Check
terminator_checks b i (terminator.Goto target) = []
terminator_checks b i (terminator.Switch o arms otherwise) = place_checks b i (names_place o)
terminator_checks b i terminator.Return = memory_checks b i
terminator_checks b i terminator.Unreachable = check_at b i class.Unreachable (codes "unreachable code") ∷ []
terminator_checks b i (terminator.Drop place next) = memory_checks b i ++ unwind_checks b i
terminator_checks b i (terminator.Assert o expected text shown next) = check_at b i class.Panic text ∷ place_checks b i (names_place o || some_names_place shown)
terminator_checks b i (terminator.Call destination callee arguments next) = text_checks b i (builtin_of callee) arguments ++ call_checks b i next

-- the checks of statements, the first of which has this index, and of the terminator behind them
abbrev pub checks_behind : BlockId → ℕ → List Statement → Terminator → List Check
checks_behind b i [] last = terminator_checks b i last
checks_behind b i (s ∷ ss) last = statement_checks b i s ++ checks_behind b (i + 1) ss last

abbrev pub block_checks : Block → List Check
block_checks b = checks_behind b.id 0 b.statements b.terminator

abbrev pub found_checks : Option Block → List Check
found_checks None = []
found_checks (Some b) = block_checks b

-- the checks of the block with this number
abbrev pub checks_in : Function → ℕ → List Check
checks_in f n = found_checks (block_of f n)

-- the checks of the blocks with the numbers below this one, in the order of the numbers
abbrev pub checks_below : Function → ℕ → List Check
checks_below f zero = []
checks_below f (suc n) = checks_below f n ++ checks_in f n

unfoldable pub checks_of : Function → List Check
checks_of f = checks_below f (blocks_end f.blocks)
