-- The types of operands.
use Rattle.std.specs.Prelude.{[], option_map, Ok, Err}
use Rattle.mir_ir.specs.declared.types.Ty.{Ty}
use Rattle.mir_ir.specs.declared.types.Ty.TheVariants as ty
use Rattle.mir_ir.specs.declared.tree.Constant.{Constant}
use Rattle.mir_ir.specs.declared.tree.Constant.TheVariants as constant
use Rattle.mir_ir.specs.declared.tree.Function.{Function}
use Rattle.mir_ir.specs.declared.tree.Operand.{Operand}
use Rattle.mir_ir.specs.declared.tree.Operand.TheVariants as operand
use Rattle.mir_ir.specs.declared.declarations.Declarations.{Declarations}
use Rattle.type_rules.specs.declared.refusal.TypeKind.TheVariants as kind
use Rattle.type_rules.specs.Refusals.{OrRefused, required}
use Rattle.type_rules.specs.Lookup.{constant_named}
use Rattle.type_rules.specs.Places.{value_type}

-- the type of a constant; a text has none, and stands only where a built-in callee takes one
abbrev pub constant_type : Declarations → Constant → OrRefused Ty
constant_type d (constant.Integer i word) = Ok (ty.Int i)
constant_type d (constant.Bool b) = Ok ty.Bool
constant_type d (constant.Char c) = Ok ty.Char
constant_type d (constant.Text text) = Err kind.BadCall
constant_type d constant.Unit = Ok (ty.Tuple [])
constant_type d (constant.Named name) = required (option_map (λ c. c.ty) (constant_named d name)) kind.UnknownName

abbrev pub operand_type : Declarations → Function → Operand → OrRefused Ty
operand_type d f (operand.Copy place) = value_type d f place
operand_type d f (operand.Move place) = value_type d f place
operand_type d f (operand.Const c) = constant_type d c
