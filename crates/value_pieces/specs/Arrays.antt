-- Arrays by all their operands.
use Rattle.std.specs.Prelude.{List}
use Rattle.mir_ir.specs.declared.tree.Operand.{Operand}
use Rattle.mir_ir.specs.declared.tree.Rvalue.TheVariants as rvalue
use Rattle.mir_grammar.specs.Values.{Value, values_of, all_passed}
use Rattle.mir_grammar.specs.declared.limits.Limited.{Limited}

abbrev pub array_of : List (Limited Operand) → Value
array_of operands = record { value = rvalue.Array (values_of operands); passed = all_passed operands }
