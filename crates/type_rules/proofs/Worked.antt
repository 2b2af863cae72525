-- A small program for worked examples: declarations, and functions of one statement or one terminator.
use Rattle.std.proofs.Common.{ℕ, true, false, List, [], ◌∷◌, Some, None}
use Rattle.std.specs.Prelude.{codes}
use Rattle.vk_core.specs.declared.ids.BlockId.{BlockId}
use Rattle.vk_core.specs.declared.ids.LocalId.{LocalId}
use Rattle.word_bits.specs.declared.word.Word.{Word}
use Rattle.mir_ir.specs.declared.types.IntTy.TheVariants as int
use Rattle.mir_ir.specs.declared.types.Ty.{Ty}
use Rattle.mir_ir.specs.declared.types.Ty.TheVariants as ty
use Rattle.mir_ir.specs.declared.places.PlaceExpr.{PlaceExpr}
use Rattle.mir_ir.specs.declared.places.Projection.{Projection}
use Rattle.mir_ir.specs.declared.tree.Block.{Block}
use Rattle.mir_ir.specs.declared.tree.Constant.TheVariants as constant
use Rattle.mir_ir.specs.declared.tree.Function.{Function}
use Rattle.mir_ir.specs.declared.tree.Local.{Local}
use Rattle.mir_ir.specs.declared.tree.Operand.{Operand}
use Rattle.mir_ir.specs.declared.tree.Operand.TheVariants as operand
use Rattle.mir_ir.specs.declared.tree.Rvalue.{Rvalue}
use Rattle.mir_ir.specs.declared.tree.Rvalue.TheVariants as rvalue
use Rattle.mir_ir.specs.declared.tree.Statement.{Statement}
use Rattle.mir_ir.specs.declared.tree.Statement.TheVariants as statement
use Rattle.mir_ir.specs.declared.tree.Terminator.{Terminator}
use Rattle.mir_ir.specs.declared.tree.Terminator.TheVariants as terminator
use Rattle.mir_ir.specs.declared.declarations.Declarations.{Declarations}
use Rattle.mir_ir.specs.declared.declarations.FieldDecl.{FieldDecl}
use Rattle.mir_ir.specs.declared.declarations.TypeDecl.{TypeDecl}
use Rattle.mir_ir.specs.declared.declarations.TypeShape.TheVariants as shape

abbrev pub u8 : Ty
u8 = ty.Int int.U8

abbrev pub u16 : Ty
u16 = ty.Int int.U16

abbrev pub usize : Ty
usize = ty.Int int.Usize

abbrev pub unit : Ty
unit = ty.Tuple []

abbrev pub word : ℕ → ℕ → Word
word width value = record { width = width; value = value }

abbrev pub field : List ℕ → Ty → ℕ → FieldDecl
field name t offset = record { name = name; ty = t; offset = offset }

-- struct Pair { a: u8, b: bool }
abbrev pub pair_type : TypeDecl
pair_type = record {
  name = ty.Named (codes "Pair");
  shape = shape.Struct (field (codes "a") u8 0 ∷ field (codes "b") ty.Bool 1 ∷ []);
  size = 2;
  align = 1;
  drop = None;
}

-- enum Shape { Dot, Line(u8) }, without a tag in its bytes
abbrev pub shape_type : TypeDecl
shape_type = record {
  name = ty.Named (codes "Shape");
  shape = shape.Enum
      (record { name = codes "Dot"; value = word 64 0; tag = None; fields = [] }
      ∷ record { name = codes "Line"; value = word 64 1; tag = None; fields = field (codes "0") u8 1 ∷ [] } ∷ [])
      None int.Isize;
  size = 2;
  align = 1;
  drop = None;
}

-- struct Loud { v: u8 }, which has a drop function
abbrev pub loud_type : TypeDecl
loud_type = record {
  name = ty.Named (codes "Loud");
  shape = shape.Struct (field (codes "v") u8 0 ∷ []);
  size = 1;
  align = 1;
  drop = Some (codes "drop_loud");
}

abbrev pub loud : Ty
loud = ty.Named (codes "Loud")

-- trait Noise with one method, which Loud has, and trait Quiet, which no type has
abbrev pub worked : Declarations
worked = record {
  types = pair_type ∷ shape_type ∷ loud_type ∷ [];
  traits = record { name = codes "Noise"; methods = codes "get" ∷ [] } ∷ record { name = codes "Quiet"; methods = codes "rest" ∷ [] } ∷ [];
  vtables = record { ty = loud; trait_name = codes "Noise"; methods = codes "get_loud" ∷ [] } ∷ [];
  constants = record { name = codes "LIMIT"; ty = u8; value = word 8 7 } ∷ [];
  aliases = [];
  contracts = [];
  loops = [];
  units = [];
}

abbrev pub local : ℕ → LocalId
local n = record { 0 = n }

abbrev pub label : ℕ → BlockId
label n = record { 0 = n }

abbrev pub of_type : ℕ → Ty → Local
of_type n t = record { id = local n; ty = t }

-- a place: a local, and steps from it
abbrev pub place : ℕ → List Projection → PlaceExpr
place n steps = record { local = local n; steps = steps }

abbrev pub copy : ℕ → Operand
copy n = operand.Copy (place n [])

abbrev pub number : ℕ → Operand
number n = operand.Const (constant.Integer int.U8 (word 8 n))

abbrev pub text : List ℕ → Operand
text t = operand.Const (constant.Text t)

abbrev pub function : List ℕ → ℕ → Ty → List Local → List Block → Function
function name parameters result locals blocks =
    record { name = name; place = record { line = 1; column = 4 }; parameters = parameters; result = result; locals = locals; blocks = blocks }

abbrev pub block : ℕ → List Statement → Terminator → Block
block n statements last = record { id = label n; statements = statements; terminator = last }

abbrev pub leave : List Block
leave = block 0 [] terminator.Return ∷ []

-- fn drop_loud(_1: &mut Loud) -> ()
abbrev pub drop_loud : Function
drop_loud = function (codes "drop_loud") 1 unit (of_type 1 (ty.Ref true loud) ∷ []) leave

-- fn drop_shared(_1: &Loud) -> ()
abbrev pub drop_shared : Function
drop_shared = function (codes "drop_shared") 1 unit (of_type 1 (ty.Ref false loud) ∷ []) leave

-- fn get_loud(_1: &Loud) -> u8
abbrev pub get_loud : Function
get_loud = function (codes "get_loud") 1 u8 (of_type 1 (ty.Ref false loud) ∷ []) leave

-- the locals of the examples' function
abbrev pub locals : List Local
locals =
    of_type 1 u8 ∷ of_type 2 ty.Bool ∷ of_type 3 (ty.Array u8 4) ∷ of_type 4 usize ∷ of_type 5 (ty.Named (codes "Pair"))
    ∷ of_type 6 (ty.Named (codes "Shape")) ∷ of_type 7 (ty.Ref false (ty.Slice u8)) ∷ of_type 8 (ty.Raw true u8) ∷ of_type 9 u16
    ∷ of_type 10 (ty.BoxOf loud) ∷ of_type 11 (ty.BoxOf (ty.Dyn (codes "Noise"))) ∷ of_type 12 unit ∷ of_type 13 (ty.Ref false loud)
    ∷ of_type 14 (ty.Ref false (ty.Dyn (codes "Noise"))) ∷ of_type 15 (ty.Ref false (ty.Dyn (codes "Quiet"))) ∷ of_type 16 loud ∷ []

abbrev pub check : List Statement → Terminator → Function
check statements last = function (codes "check") 0 unit locals (block 0 statements last ∷ [])

abbrev pub text_of : List Function
text_of = drop_loud ∷ get_loud ∷ []

-- a function, where the statement or the terminator alone counts
abbrev pub own : Function
own = check [] terminator.Return

abbrev pub assign : ℕ → Rvalue → Statement
assign n value = statement.Assign (place n []) value

-- `_n = path(arguments) -> bb0`
abbrev pub call : ℕ → List ℕ → List Operand → Terminator
call n path arguments = terminator.Call (place n []) (record { path = path; argument = None }) arguments (Some (label 0))

-- the same with a type argument
abbrev pub call_with : ℕ → List ℕ → Ty → List Operand → Terminator
call_with n path t arguments = terminator.Call (place n []) (record { path = path; argument = Some t }) arguments (Some (label 0))

-- declarations without entries, and of Loud alone
abbrev pub nothing : Declarations
nothing = record { types = []; traits = []; vtables = []; constants = []; aliases = []; contracts = []; loops = []; units = [] }

abbrev pub loud_alone : Declarations
loud_alone = record { types = loud_type ∷ []; traits = []; vtables = []; constants = []; aliases = []; contracts = []; loops = []; units = [] }

-- fn reads_unknown() -> () { let mut _1: u8; bb0: { _1 = copy _99; return; } }
abbrev pub reads_unknown : Function
reads_unknown = function (codes "reads_unknown") 0 unit (of_type 1 u8 ∷ []) (block 0 (assign 1 (rvalue.Use (copy 99)) ∷ []) terminator.Return ∷ [])
