-- What operands and rvalues give, where the locals hold these words or nothing.
use Rattle.std.specs.Prelude.{ℕ, Bool, false, List, Option, Some, None, Result, Ok, Err, slice_index_or}
use Rattle.word_bits.specs.declared.word.Word.{Word}
use Rattle.vk_core.specs.declared.check.CheckClass.{CheckClass}
use Rattle.vk_core.specs.declared.check.CheckClass.TheVariants as class
use Rattle.mir_ir.specs.declared.tree.Constant.{Constant}
use Rattle.mir_ir.specs.declared.tree.Constant.TheVariants as constant
use Rattle.mir_ir.specs.declared.tree.Operand.{Operand}
use Rattle.mir_ir.specs.declared.tree.Operand.TheVariants as operand
use Rattle.mir_ir.specs.declared.tree.Rvalue.{Rvalue}
use Rattle.mir_ir.specs.declared.tree.Rvalue.TheVariants as rvalue
use Rattle.mir_ir.specs.declared.tree.Function.{Function}
use Rattle.scalar_runs.specs.declared.kinds.ValueKind.{ValueKind}
use Rattle.scalar_runs.specs.declared.kinds.ValueKind.TheVariants as kind
use Rattle.scalar_runs.specs.Kinds.{kind_of, is_signed_kind}
use Rattle.scalar_runs.specs.Look.{local_kind}
use Rattle.scalar_runs.specs.Operators.{truth, binary_value, not_value, neg_value, cast_value}

-- what each local holds, by its number
abbrev pub Values : Type 0
Values = List (Option Word)

-- what a read of () or ! gives
abbrev pub no_bits : Word
no_bits = record { width = 1; value = 0 }

-- a local that was never stored to has no byte that is initialised
abbrev pub held_value : Option Word → Result Word CheckClass
held_value (Some w) = Ok w
held_value None = Err class.Uninit

-- what reading a local of this kind gives, where it holds this: a local of type () or ! has no bytes
abbrev pub read_as : Option ValueKind → Option Word → Result Word CheckClass
read_as (Some kind.Unit) held = Ok no_bits
read_as (Some kind.Never) held = Ok no_bits
read_as (Some kind.Bool) held = held_value held
read_as (Some kind.Char) held = held_value held
read_as (Some (kind.Int i)) held = held_value held
read_as None held = Err class.Invalid

abbrev pub read_local : Function → Values → ℕ → Result Word CheckClass
read_local f values n = read_as (local_kind f n) (slice_index_or values n None)

-- the word that a constant writes; the other constants are none of a scalar
abbrev pub word_of_constant : Constant → Result Word CheckClass
word_of_constant (constant.Integer t w) = Ok w
word_of_constant (constant.Bool b) = Ok (truth b)
word_of_constant (constant.Char c) = Ok (record { width = 32; value = c })
word_of_constant _ = Err class.Invalid

abbrev pub operand_value : Function → Values → Operand → Result Word CheckClass
operand_value f values (operand.Copy p) = read_local f values p.local.0
operand_value f values (operand.Move p) = read_local f values p.local.0
operand_value f values (operand.Const c) = word_of_constant c

-- the kind of a constant's type, where it is a scalar
abbrev pub kind_of_constant : Constant → Option ValueKind
kind_of_constant (constant.Integer t w) = Some (kind.Int t)
kind_of_constant (constant.Bool b) = Some kind.Bool
kind_of_constant (constant.Char c) = Some kind.Char
kind_of_constant _ = None

abbrev pub kind_of_operand : Function → Operand → Option ValueKind
kind_of_operand f (operand.Copy p) = local_kind f p.local.0
kind_of_operand f (operand.Move p) = local_kind f p.local.0
kind_of_operand f (operand.Const c) = kind_of_constant c

abbrev pub signed_of : Option ValueKind → Bool
signed_of (Some k) = is_signed_kind k
signed_of None = false

abbrev pub is_signed_operand : Function → Operand → Bool
is_signed_operand f o = signed_of (kind_of_operand f o)

abbrev pub rvalue_value : Function → Values → Rvalue → Result Word CheckClass
rvalue_value f values (rvalue.Use o) = operand_value f values o
rvalue_value f values (rvalue.Cast o ty how) = cast_value how (is_signed_operand f o) (kind_of ty) (operand_value f values o)
rvalue_value f values (rvalue.Binary o a b) = binary_value o (is_signed_operand f a) (operand_value f values a) (operand_value f values b)
rvalue_value f values (rvalue.Not o) = not_value (operand_value f values o)
rvalue_value f values (rvalue.Neg o) = neg_value (operand_value f values o)
rvalue_value f values _ = Err class.Invalid
