-- The types that a program names: where they stand, and in which order. `at` says what is told of a type, and whether it is that of
-- a value there: of a field, a parameter, a result or a local.
use Rattle.std.specs.Prelude.{Bool, true, false, List, [], ◌++◌, Option, Some, None, take, drop, flat_map}
use Rattle.mir_ir.specs.declared.declarations.Contract.{Contract}
use Rattle.mir_ir.specs.declared.declarations.ConstantDecl.{ConstantDecl}
use Rattle.mir_ir.specs.declared.declarations.FieldDecl.{FieldDecl}
use Rattle.mir_ir.specs.declared.declarations.LoopRule.{LoopRule}
use Rattle.mir_ir.specs.declared.declarations.TagDecl.{TagDecl}
use Rattle.mir_ir.specs.declared.declarations.TypeShape.{TypeShape}
use Rattle.mir_ir.specs.declared.declarations.TypeShape.TheVariants as shape
use Rattle.mir_ir.specs.declared.declarations.VariantDecl.{VariantDecl}
use Rattle.mir_ir.specs.declared.declarations.VtableDecl.{VtableDecl}
use Rattle.mir_ir.specs.declared.places.PlaceExpr.{PlaceExpr}
use Rattle.mir_ir.specs.declared.places.Projection.{Projection}
use Rattle.mir_ir.specs.declared.places.Projection.TheVariants as projection
use Rattle.mir_ir.specs.declared.tree.Block.{Block}
use Rattle.mir_ir.specs.declared.tree.Function.{Function}
use Rattle.mir_ir.specs.declared.tree.Local.{Local}
use Rattle.mir_ir.specs.declared.tree.NamedOperand.{NamedOperand}
use Rattle.mir_ir.specs.declared.tree.Operand.{Operand}
use Rattle.mir_ir.specs.declared.tree.Operand.TheVariants as operand
use Rattle.mir_ir.specs.declared.tree.Rvalue.{Rvalue}
use Rattle.mir_ir.specs.declared.tree.Rvalue.TheVariants as rvalue
use Rattle.mir_ir.specs.declared.tree.Statement.{Statement}
use Rattle.mir_ir.specs.declared.tree.Statement.TheVariants as statement
use Rattle.mir_ir.specs.declared.tree.Terminator.{Terminator}
use Rattle.mir_ir.specs.declared.tree.Terminator.TheVariants as terminator
use Rattle.mir_ir.specs.declared.types.Ty.{Ty}

module _ {X : Type 0} (at : Bool → Ty → List X) where
  -- Declarations.

  abbrev pub field_types : FieldDecl → List X
  field_types f = at true f.ty

  abbrev pub variant_types : VariantDecl → List X
  variant_types v = flat_map field_types v.fields

  abbrev pub tag_types : Option TagDecl → List X
  tag_types None = []
  tag_types (Some tag) = at false tag.ty

  abbrev pub shape_types : TypeShape → List X
  shape_types (shape.Struct fields) = flat_map field_types fields
  shape_types (shape.Tuple fields) = flat_map field_types fields
  shape_types (shape.Enum variants tag discriminant) = flat_map variant_types variants ++ tag_types tag

  abbrev pub step_types : Projection → List X
  step_types (projection.Field index t) = at false t
  step_types _ = []

  abbrev pub place_types : PlaceExpr → List X
  place_types p = flat_map step_types p.steps

  abbrev pub vtable_types : VtableDecl → List X
  vtable_types v = at false v.ty

  abbrev pub constant_types : ConstantDecl → List X
  constant_types c = at false c.ty

  abbrev pub contract_types : Contract → List X
  contract_types c = flat_map place_types c.modifies

  abbrev pub loop_types : LoopRule → List X
  loop_types l = flat_map place_types l.modifies

  -- Functions.

  abbrev pub operand_types : Operand → List X
  operand_types (operand.Copy p) = place_types p
  operand_types (operand.Move p) = place_types p
  operand_types (operand.Const c) = []

  abbrev pub named_operand_types : NamedOperand → List X
  named_operand_types f = operand_types f.operand

  -- operands from left to right, then the type that is written
  abbrev pub rvalue_types : Rvalue → List X
  rvalue_types (rvalue.Use o) = operand_types o
  rvalue_types (rvalue.Cast o t kind) = operand_types o ++ at false t
  rvalue_types (rvalue.Binary op a b) = operand_types a ++ operand_types b
  rvalue_types (rvalue.Not o) = operand_types o
  rvalue_types (rvalue.Neg o) = operand_types o
  rvalue_types (rvalue.PtrMetadata o) = operand_types o
  rvalue_types (rvalue.RefOf mutable p) = place_types p
  rvalue_types (rvalue.RawOf mutable p) = place_types p
  rvalue_types (rvalue.Discriminant p) = place_types p
  rvalue_types (rvalue.Len p) = place_types p
  rvalue_types (rvalue.SizeOf t) = at false t
  rvalue_types (rvalue.AlignOf t) = at false t
  rvalue_types (rvalue.Array operands) = flat_map operand_types operands
  rvalue_types (rvalue.Repeat o count) = operand_types o
  rvalue_types (rvalue.Tuple operands) = flat_map operand_types operands
  rvalue_types (rvalue.PathUnit path) = []
  rvalue_types (rvalue.PathTuple path operands) = flat_map operand_types operands
  rvalue_types (rvalue.PathFields path fields) = flat_map named_operand_types fields

  -- the destination comes first
  abbrev pub statement_types : Statement → List X
  statement_types (statement.Assign p value) = place_types p ++ rvalue_types value
  statement_types (statement.StorageLive l) = []
  statement_types (statement.StorageDead l) = []
  statement_types (statement.SetVariant p variant) = place_types p

  abbrev pub argument_types : Option Ty → List X
  argument_types None = []
  argument_types (Some t) = at false t

  abbrev pub terminator_types : Terminator → List X
  terminator_types (terminator.Goto target) = []
  terminator_types (terminator.Switch o arms otherwise) = operand_types o
  terminator_types terminator.Return = []
  terminator_types terminator.Unreachable = []
  terminator_types (terminator.Drop p next) = place_types p
  terminator_types (terminator.Assert o expected text shown next) = operand_types o ++ flat_map operand_types shown
  terminator_types (terminator.Call p callee arguments next) = place_types p ++ flat_map operand_types arguments ++ argument_types callee.argument

  abbrev pub block_types : Block → List X
  block_types b = flat_map statement_types b.statements ++ terminator_types b.terminator

  abbrev pub local_types : Local → List X
  local_types l = at true l.ty

  -- parameters, the result, the other locals, then the blocks
  abbrev pub function_types : Function → List X
  function_types f =
      flat_map local_types (take f.parameters f.locals) ++ at true f.result ++ flat_map local_types (drop f.parameters f.locals)
      ++ flat_map block_types f.blocks
