-- The text of a choice: a truth value, a number in decimal, or ().
use Rattle.std.specs.Prelude.{ℕ, ◌-◌, ◌^◌, ◌&&◌, ◌==◌, nat_le, if◌then◌else◌, List, [], ◌∷◌, ◌++◌, codes}
use Rattle.std.specs.Fmt.{decimal}
use Rattle.mir_ir.specs.declared.types.IntTy.{IntTy}
use Rattle.mir_ir.specs.Integers.{is_signed, width_of}
use Rattle.scalar_runs.specs.declared.kinds.Choice.{Choice}
use Rattle.scalar_runs.specs.declared.kinds.ValueKind.{ValueKind}
use Rattle.scalar_runs.specs.declared.kinds.ValueKind.TheVariants as kind

-- the number that a bit pattern of the type is in two's complement
unfoldable pub integer_text : IntTy → ℕ → List ℕ
integer_text ty n = if is_signed ty && nat_le (2 ^ (width_of ty - 1)) n then codes "-" ++ decimal (2 ^ width_of ty - n) else decimal n

-- a character is written as its number
abbrev pub value_text : ValueKind → ℕ → List ℕ
value_text kind.Bool n = if n == 0 then codes "false" else codes "true"
value_text kind.Char n = decimal n
value_text (kind.Int ty) n = integer_text ty n
value_text kind.Unit n = codes "()"
value_text kind.Never n = codes "()"

abbrev pub choice_text : Choice → List ℕ
choice_text c = value_text c.kind c.word.value

-- each with a blank before it
abbrev pub more_choices : List Choice → List ℕ
more_choices [] = []
more_choices (c ∷ cs) = codes " " ++ choice_text c ++ more_choices cs

abbrev pub choices_text : List Choice → List ℕ
choices_text [] = codes "none"
choices_text (c ∷ cs) = choice_text c ++ more_choices cs
