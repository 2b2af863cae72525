-- The operators and casts of MIR on words: sums, differences and products wrap, the amount of a shift is taken modulo
-- the width, and a quotient that there is none of is the fault `division`. An operand that is no word, or two of different
-- widths where they must be equal, would be the fault `invalid`; typing leaves none of these.
use Rattle.std.specs.Prelude.{Bool, true, false, not, ◌&&◌, ◌==◌, if◌then◌else◌, Option, Some, None, Result, Ok, Err}
use Rattle.word_bits.specs.declared.word.Word.{Word}
use Rattle.word_bits.specs.Words.{added, subtracted, multiplied, negated, complement, both_bits, either_bit, different_bits, is_lawful, quotient, remainder, shifted_left, shifted_right, is_less, recast}
use Rattle.vk_core.specs.declared.check.CheckClass.{CheckClass}
use Rattle.vk_core.specs.declared.check.CheckClass.TheVariants as class
use Rattle.mir_ir.specs.declared.tree.BinaryOp.{BinaryOp}
use Rattle.mir_ir.specs.declared.tree.BinaryOp.TheVariants as op
use Rattle.mir_ir.specs.declared.tree.CastKind.{CastKind}
use Rattle.mir_ir.specs.declared.tree.CastKind.TheVariants as cast
use Rattle.scalar_runs.specs.declared.kinds.ValueKind.{ValueKind}
use Rattle.scalar_runs.specs.Kinds.{is_word, width_of_kind}

-- a truth value as a word of one bit
abbrev pub truth : Bool → Word
truth b = record { width = 1; value = if b then 1 else 0 }

-- the operands of a shift may have different widths
abbrev pub is_shift : BinaryOp → Bool
is_shift op.Shl = true
is_shift op.Shr = true
is_shift _ = false

abbrev pub are_operands : BinaryOp → Word → Word → Bool
are_operands o a b = is_word a && is_word b && (if is_shift o then true else b.width == a.width)

abbrev pub lawful : Word → Word → Bool → Word → Result Word CheckClass
lawful a b signed w = if is_lawful a b signed then Ok w else Err class.Division

-- the value of an operator, by the sign of its operands (of the left one in a shift)
abbrev pub operated : BinaryOp → Bool → Word → Word → Result Word CheckClass
operated op.Add signed a b = Ok (added a b)
operated op.Sub signed a b = Ok (subtracted a b)
operated op.Mul signed a b = Ok (multiplied a b)
operated op.Div signed a b = lawful a b signed (quotient a b signed)
operated op.Rem signed a b = lawful a b signed (remainder a b signed)
operated op.BitXor signed a b = Ok (different_bits a b)
operated op.BitAnd signed a b = Ok (both_bits a b)
operated op.BitOr signed a b = Ok (either_bit a b)
operated op.Shl signed a b = Ok (shifted_left a b)
operated op.Shr signed a b = Ok (shifted_right a b signed)
operated op.Eq signed a b = Ok (truth (a.value == b.value))
operated op.Lt signed a b = Ok (truth (is_less a b signed))
operated op.Le signed a b = Ok (truth (not (is_less b a signed)))
operated op.Ne signed a b = Ok (truth (not (a.value == b.value)))
operated op.Ge signed a b = Ok (truth (not (is_less a b signed)))
operated op.Gt signed a b = Ok (truth (is_less b a signed))
operated _ signed a b = Err class.Invalid

abbrev pub operator_value : BinaryOp → Bool → Word → Word → Result Word CheckClass
operator_value o signed a b = if are_operands o a b then operated o signed a b else Err class.Invalid

-- the operands are read from left to right, and the first that has no value decides
abbrev pub binary_value : BinaryOp → Bool → Result Word CheckClass → Result Word CheckClass → Result Word CheckClass
binary_value o signed (Ok a) (Ok b) = operator_value o signed a b
binary_value o signed (Ok a) (Err c) = Err c
binary_value o signed (Err c) b = Err c

abbrev pub unary_value : (Word → Word) → Result Word CheckClass → Result Word CheckClass
unary_value f (Ok a) = if is_word a then Ok (f a) else Err class.Invalid
unary_value f (Err c) = Err c

abbrev pub not_value : Result Word CheckClass → Result Word CheckClass
not_value v = unary_value complement v

abbrev pub neg_value : Result Word CheckClass → Result Word CheckClass
neg_value v = unary_value negated v

-- `IntToInt` extends by the sign of the source, and then cuts to the target
abbrev pub recast_value : Bool → Option ValueKind → Result Word CheckClass → Result Word CheckClass
recast_value signed (Some k) v = unary_value (λ w. recast w signed (width_of_kind k)) v
recast_value signed None v = Err class.Invalid

abbrev pub cast_value : CastKind → Bool → Option ValueKind → Result Word CheckClass → Result Word CheckClass
cast_value cast.IntToInt signed target v = recast_value signed target v
cast_value _ signed target v = Err class.Invalid
