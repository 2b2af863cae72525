-- The canonical text of constants and operands.
use Rattle.std.specs.Prelude.{ℕ, ◌-◌, ◌^◌, Bool, true, false, ◌&&◌, nat_le, if◌then◌else◌, List, [], ◌∷◌, ◌++◌, codes}
use Rattle.std.specs.Fmt.{decimal, digits}
use Rattle.word_bits.specs.declared.word.Word.{Word}
use Rattle.mir_ir.specs.declared.types.IntTy.{IntTy}
use Rattle.mir_ir.specs.declared.tree.Constant.{Constant}
use Rattle.mir_ir.specs.declared.tree.Constant.TheVariants as constant
use Rattle.mir_ir.specs.declared.tree.Operand.{Operand}
use Rattle.mir_ir.specs.declared.tree.Operand.TheVariants as operand
use Rattle.mir_ir.specs.Integers.{is_signed, width_of}
use Rattle.mir_ir.specs.Names.{name_of_int}
use Rattle.canonical_text.specs.declared.positions.Position.TheVariants.{AsConstant}
use Rattle.canonical_text.specs.Names.{path_written}
use Rattle.canonical_text.specs.Places.{place_text}

-- the number that a bit pattern is in two's complement, in decimal
abbrev pub number_text : IntTy → ℕ → List ℕ
number_text ty n = if is_signed ty && nat_le (2 ^ (width_of ty - 1)) n then codes "-" ++ decimal (2 ^ width_of ty - n) else decimal n

unfoldable pub integer_text : IntTy → Word → List ℕ
integer_text ty word = number_text ty word.value ++ codes "_" ++ name_of_int ty

-- `'\u{41}'`
unfoldable pub char_text : ℕ → List ℕ
char_text n = codes "'\\u{" ++ digits 16 false n ++ codes "}'"

abbrev pub bool_text : Bool → List ℕ
bool_text true = codes "true"
bool_text false = codes "false"

-- a text stands between quotes as it was written
unfoldable pub quoted : List ℕ → List ℕ
quoted bytes = codes "\"" ++ bytes ++ codes "\""

abbrev pub constant_text : Constant → List ℕ
constant_text (constant.Integer ty word) = integer_text ty word
constant_text (constant.Bool b) = bool_text b
constant_text (constant.Char n) = char_text n
constant_text (constant.Text bytes) = quoted bytes
constant_text constant.Unit = codes "()"
constant_text (constant.Named path) = path_written AsConstant path

abbrev pub operand_text : Operand → List ℕ
operand_text (operand.Copy p) = codes "copy " ++ place_text p
operand_text (operand.Move p) = codes "move " ++ place_text p
operand_text (operand.Const c) = codes "const " ++ constant_text c

-- each with a comma and a blank before it
abbrev pub more_operands : List Operand → List ℕ
more_operands [] = []
more_operands (o ∷ os) = codes ", " ++ operand_text o ++ more_operands os

-- with a comma and a blank between two
abbrev pub operands_text : List Operand → List ℕ
operands_text [] = []
operands_text (o ∷ os) = operand_text o ++ more_operands os
