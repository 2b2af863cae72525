-- What the code does step by step: parts of the rules of calls, statements, terminators and heads.
use Rattle.std.specs.Prelude.{ℕ, ◌+◌, ◌^◌, Bool, false, ◌&&◌, nat_lt, if◌then◌else◌, List, [], ◌∷◌, Option, Some, None, Ok, bytes_eq, codes, drop, is_some, length, option_and_then, take}
use Rattle.vk_core.specs.declared.ids.BlockId.{BlockId}
use Rattle.vk_core.specs.declared.ids.LocalId.{LocalId}
use Rattle.mir_ir.specs.declared.types.Ty.{Ty}
use Rattle.mir_ir.specs.declared.places.PlaceExpr.{PlaceExpr}
use Rattle.mir_ir.specs.declared.tree.Arm.{Arm}
use Rattle.mir_ir.specs.declared.tree.Callee.{Callee}
use Rattle.mir_ir.specs.declared.tree.Function.{Function}
use Rattle.mir_ir.specs.declared.tree.Local.{Local}
use Rattle.mir_ir.specs.declared.tree.Operand.{Operand}
use Rattle.mir_ir.specs.declared.tree.Rvalue.{Rvalue}
use Rattle.mir_ir.specs.declared.declarations.Declarations.{Declarations}
use Rattle.type_rules.specs.declared.refusal.TypeKind.TheVariants as kind
use Rattle.type_rules.specs.declared.types.PointerKind.{PointerKind}
use Rattle.type_rules.specs.declared.types.PointerKind.TheVariants as pointer
use Rattle.type_rules.specs.declared.types.Scalar.{Scalar}
use Rattle.type_rules.specs.Refusals.{OrRefused, ◌>>=◌, ◌>>◌, check, each_holds, required}
use Rattle.type_rules.specs.Types.{PointerType, same_bool, same_type, scalar_of}
use Rattle.type_rules.specs.Lookup.{knows_traits, local_type, variants_of}
use Rattle.type_rules.specs.Places.{place_type, value_type}
use Rattle.type_rules.specs.Operands.{operand_type}
use Rattle.type_rules.specs.Rvalues.{written}
use Rattle.type_rules.specs.Calls.{Argument, arguments_from, call_fits, fit_arguments, fits_argument}
use Rattle.type_rules.specs.Code.{arms_fit, is_bool, label_fits, local_fits, next_fits, operands_fit, parameter_fits, scalar_width, variant_set}

-- ---- callees

-- what stands behind a front, where the text begins with it
abbrev pub behind : List ℕ → List ℕ → Option (List ℕ)
behind front text = if bytes_eq (take (length front) text) front then Some (drop (length front) text) else None

-- what stands behind `<dyn NAME as NAME`
abbrev pub behind_names : List ℕ → List ℕ → Option (List ℕ)
behind_names name head =
    option_and_then (behind name) (option_and_then (behind (codes " as ")) (option_and_then (behind name) (behind (codes "<dyn ") head)))

-- ---- receivers

abbrev pub is_reference_kind : Bool → PointerKind → Bool
is_reference_kind mutable (pointer.Ref own) = same_bool own mutable
is_reference_kind mutable _ = false

-- a reference of this kind to this type
abbrev pub is_reference : Bool → Ty → Option PointerType → Bool
is_reference mutable target None = false
is_reference mutable target (Some p) = is_reference_kind mutable p.kind && same_type p.target target

-- ---- arguments

-- each argument has a type, or is a text at the place where one may stand
abbrev pub arguments_typed : Declarations → Function → ℕ → List Operand → OrRefused (Unit {0})
arguments_typed d f text os = arguments_from d f text os >>= λ given. Ok tt

-- the arguments are these, where each has a type
abbrev pub arguments_taken : Declarations → Function → ℕ → List Operand → List Argument → OrRefused Bool
arguments_taken d f text os parameters = arguments_from d f text os >>= λ given. Ok (fit_arguments given parameters)

-- the parameter that is wanted, where there is one
abbrev pub is_taken : Argument → Option Argument → Bool
is_taken a None = false
is_taken a (Some p) = fits_argument a p

-- ---- terminators

-- an arm whose number is a pattern that no arm before has
abbrev pub arm_fits : Function → ℕ → Bool → Arm → OrRefused (Unit {0})
arm_fits f width is_new arm = check (nat_lt arm.number (2 ^ width) && is_new) kind.Mismatch >> label_fits f arm.target

-- a label behind what was tested first
abbrev pub then_label : Function → OrRefused (Unit {0}) → BlockId → OrRefused (Unit {0})
then_label f fits label = fits >> label_fits f label

abbrev pub switch_by : Function → Option Scalar → List Arm → BlockId → OrRefused (Unit {0})
switch_by f scalar arms otherwise = required scalar kind.Mismatch >>= λ s. then_label f (arms_fit f (scalar_width s) [] arms) otherwise

abbrev pub switched : Declarations → Function → Operand → List Arm → BlockId → OrRefused (Unit {0})
switched d f o arms otherwise = operand_type d f o >>= λ t. switch_by f (scalar_of t) arms otherwise

abbrev pub drop_fits : Declarations → Function → PlaceExpr → BlockId → OrRefused (Unit {0})
drop_fits d f place next = value_type d f place >>= λ t. label_fits f next

abbrev pub assertion_fits : Declarations → Function → Operand → List Operand → BlockId → OrRefused (Unit {0})
assertion_fits d f o shown next =
    operand_type d f o >>= λ t. (operands_fit d f shown >> (check (is_bool (scalar_of t)) kind.Mismatch >> label_fits f next))

abbrev pub call_written : List Function → Declarations → Function → PlaceExpr → Callee → List Operand → Option BlockId → OrRefused (Unit {0})
call_written functions d f destination callee arguments next =
    value_type d f destination >>= λ to. (call_fits functions d f to callee arguments >> next_fits f next)

-- ---- statements

abbrev pub assigned : Declarations → Function → PlaceExpr → Rvalue → OrRefused (Unit {0})
assigned d f place value = value_type d f place >>= λ to. written d f to value

abbrev pub local_known : Function → LocalId → OrRefused (Unit {0})
local_known f local = check (is_some (local_type f local)) kind.UnknownName

abbrev pub variant_chosen : Declarations → Function → PlaceExpr → ℕ → OrRefused (Unit {0})
variant_chosen d f place n = place_type d f place >>= λ t. variant_set n (variants_of d t)

-- ---- heads

-- these are parameters, the first of which has this number
abbrev pub parameters_fit : Declarations → ℕ → List Local → OrRefused (Unit {0})
parameters_fit d n [] = Ok tt
parameters_fit d n (l ∷ ls) = parameter_fits d n l >> parameters_fit d (n + 1) ls

-- the locals that are no parameters
abbrev pub others_fit : Declarations → Ty → List Local → OrRefused (Unit {0})
others_fit d result locals = each_holds (local_fits d result) locals

-- the parameters, the result, and the other locals
abbrev pub in_two : Declarations → Ty → List Local → List Local → OrRefused (Unit {0})
in_two d result parameters others = parameters_fit d 1 parameters >> (check (knows_traits d result) kind.UnknownName >> others_fit d result others)
