-- How many ways there are to give each choice of a function a value of its kind: a choice counts where its block is reached.
use Rattle.std.specs.Prelude.{ℕ, zero, suc, ◌*◌, ◌^◌, Bool, true, false, Option, Some, get_or}
use Rattle.mir_ir.specs.declared.tree.Block.{Block}
use Rattle.mir_ir.specs.declared.tree.Function.{Function}
use Rattle.mir_ir.specs.declared.tree.Terminator.{Terminator}
use Rattle.mir_ir.specs.declared.tree.Terminator.TheVariants as terminator
use Rattle.scalar_runs.specs.declared.builtins.Builtin.{Builtin}
use Rattle.scalar_runs.specs.declared.builtins.Builtin.TheVariants as builtin
use Rattle.scalar_runs.specs.declared.kinds.ValueKind.{ValueKind}
use Rattle.scalar_runs.specs.declared.kinds.ValueKind.TheVariants as kind
use Rattle.scalar_runs.specs.Builtins.{builtin_of}
use Rattle.scalar_runs.specs.Kinds.{width_of_kind}
use Rattle.scalar_runs.specs.Look.{block_of, blocks_end}
use Rattle.scalar_form.specs.Size.{reached_before}

-- the values of a kind: 1,114,112 numbers below the end of the characters, but for 2,048 surrogates
abbrev pub values_of : ValueKind → ℕ
values_of kind.Char = 1112064
values_of k = 2 ^ width_of_kind k

abbrev pub called_choices : Option Builtin → ℕ
called_choices (Some (builtin.Any k)) = values_of k
called_choices _ = 1

abbrev pub terminator_choices : Terminator → ℕ
terminator_choices (terminator.Call destination callee arguments next) = called_choices (builtin_of callee)
terminator_choices _ = 1

abbrev pub block_choices : Bool → Option Block → ℕ
block_choices true (Some b) = terminator_choices b.terminator
block_choices _ _ = 1

abbrev pub choices_below : Function → ℕ → ℕ
choices_below f zero = 1
choices_below f (suc n) = choices_below f n * block_choices (get_or (reached_before f n) n false) (block_of f n)

unfoldable pub choices_of : Function → ℕ
choices_of f = choices_below f (blocks_end f.blocks)
