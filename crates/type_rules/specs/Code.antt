-- Typing of functions: which statement or terminator is refused first, and how.
use Rattle.std.specs.Prelude.{ℕ, zero, suc, ◌+◌, ◌^◌, max, Bool, true, false, ◌&&◌, ◌==◌, not, nat_lt, if◌then◌else◌, List, [], ◌∷◌, Option, Some, None, Result, Ok, Err, length, is_some}
use Rattle.std.specs.List.{list_any}
use Rattle.vk_core.specs.declared.check.At.{At}
use Rattle.vk_core.specs.declared.check.At.TheVariants as at_
use Rattle.vk_core.specs.declared.ids.BlockId.{BlockId}
use Rattle.mir_ir.specs.Integers.{width_of}
use Rattle.mir_ir.specs.declared.types.Ty.{Ty}
use Rattle.mir_ir.specs.declared.tree.Arm.{Arm}
use Rattle.mir_ir.specs.declared.tree.Block.{Block}
use Rattle.mir_ir.specs.declared.tree.Function.{Function}
use Rattle.mir_ir.specs.declared.tree.Local.{Local}
use Rattle.mir_ir.specs.declared.tree.Operand.{Operand}
use Rattle.mir_ir.specs.declared.tree.Statement.{Statement}
use Rattle.mir_ir.specs.declared.tree.Statement.TheVariants as statement
use Rattle.mir_ir.specs.declared.tree.Terminator.{Terminator}
use Rattle.mir_ir.specs.declared.tree.Terminator.TheVariants as terminator
use Rattle.mir_ir.specs.declared.declarations.Declarations.{Declarations}
use Rattle.mir_ir.specs.declared.declarations.VariantDecl.{VariantDecl}
use Rattle.type_rules.specs.declared.refusal.Refusal.{Refusal}
use Rattle.type_rules.specs.declared.refusal.TypeKind.TheVariants as kind
use Rattle.type_rules.specs.declared.types.Scalar.{Scalar}
use Rattle.type_rules.specs.declared.types.Scalar.TheVariants as scalar
use Rattle.type_rules.specs.Refusals.{OrRefused, ◌>>=◌, ◌>>◌, check, each_holds, required}
use Rattle.type_rules.specs.Types.{same_type, scalar_of}
use Rattle.type_rules.specs.Lookup.{block_at, knows_traits, local_type, variants_of}
use Rattle.type_rules.specs.Places.{place_type, value_type}
use Rattle.type_rules.specs.Operands.{operand_type}
use Rattle.type_rules.specs.Rvalues.{written}
use Rattle.type_rules.specs.Calls.{call_fits}

-- ---- statements

-- `discriminant(place) = n`: the place is of an enum, and n is the position of one of its variants
abbrev pub variant_set : ℕ → Option (List VariantDecl) → OrRefused (Unit {0})
variant_set n variants = required variants kind.Mismatch >>= λ vs. check (nat_lt n (length vs)) kind.UnknownName

abbrev pub statement_fits : Declarations → Function → Statement → OrRefused (Unit {0})
statement_fits d f (statement.Assign place value) = value_type d f place >>= λ to. written d f to value
statement_fits d f (statement.StorageLive local) = check (is_some (local_type f local)) kind.UnknownName
statement_fits d f (statement.StorageDead local) = check (is_some (local_type f local)) kind.UnknownName
statement_fits d f (statement.SetVariant place n) = place_type d f place >>= λ t. variant_set n (variants_of d t)

-- ---- terminators

abbrev pub label_fits : Function → BlockId → OrRefused (Unit {0})
label_fits f label = check (is_some (block_at f label)) kind.UnknownName

abbrev pub next_fits : Function → Option BlockId → OrRefused (Unit {0})
next_fits f None = Ok tt
next_fits f (Some label) = label_fits f label

-- how many bits the patterns of a `switchInt` have
abbrev pub scalar_width : Scalar → ℕ
scalar_width scalar.Bool = 1
scalar_width scalar.Char = 32
scalar_width (scalar.Int i) = width_of i

-- the number is a pattern of so many bits that no arm before has
abbrev pub is_new_pattern : ℕ → List ℕ → ℕ → Bool
is_new_pattern width before n = nat_lt n (2 ^ width) && not (list_any (λ m. n == m) before)

-- the arms in order, each with its number and then its label
abbrev pub arms_fit : Function → ℕ → List ℕ → List Arm → OrRefused (Unit {0})
arms_fit f width before [] = Ok tt
arms_fit f width before (arm ∷ arms) =
    check (is_new_pattern width before arm.number) kind.Mismatch >> (label_fits f arm.target >> arms_fit f width (arm.number ∷ before) arms)

abbrev pub switch_fits : Function → Ty → List Arm → BlockId → OrRefused (Unit {0})
switch_fits f t arms otherwise = required (scalar_of t) kind.Mismatch >>= λ s. (arms_fit f (scalar_width s) [] arms >> label_fits f otherwise)

abbrev pub is_bool : Option Scalar → Bool
is_bool (Some scalar.Bool) = true
is_bool _ = false

abbrev pub operand_fits : Declarations → Function → Operand → OrRefused (Unit {0})
operand_fits d f o = operand_type d f o >>= λ t. Ok tt

abbrev pub operands_fit : Declarations → Function → List Operand → OrRefused (Unit {0})
operands_fit d f os = each_holds (operand_fits d f) os

abbrev pub terminator_fits : List Function → Declarations → Function → Terminator → OrRefused (Unit {0})
terminator_fits functions d f (terminator.Goto target) = label_fits f target
terminator_fits functions d f (terminator.Switch o arms otherwise) = operand_type d f o >>= λ t. switch_fits f t arms otherwise
terminator_fits functions d f terminator.Return = Ok tt
terminator_fits functions d f terminator.Unreachable = Ok tt
terminator_fits functions d f (terminator.Drop place next) = value_type d f place >>= λ t. label_fits f next
terminator_fits functions d f (terminator.Assert o expected text shown next) =
    operand_type d f o >>= λ t. (operands_fit d f shown >> (check (is_bool (scalar_of t)) kind.Mismatch >> label_fits f next))
terminator_fits functions d f (terminator.Call destination callee arguments next) =
    value_type d f destination >>= λ to. (call_fits functions d f to callee arguments >> next_fits f next)

-- ---- functions

-- the parameters are `_1`, `_2` and so on, and the traits in their types are declared
abbrev pub parameter_fits : Declarations → ℕ → Local → OrRefused (Unit {0})
parameter_fits d n l = check (l.id.0 == n) kind.Mismatch >> check (knows_traits d l.ty) kind.UnknownName

-- `_0`, where it is declared, has the type of the result
abbrev pub local_fits : Declarations → Ty → Local → OrRefused (Unit {0})
local_fits d result l =
    check (knows_traits d l.ty) kind.UnknownName >> (if l.id.0 == 0 then check (same_type l.ty result) kind.Mismatch else Ok tt)

-- so many parameters, the first of which has this number, then the result, and then the other locals
abbrev pub locals_fit : Declarations → Ty → ℕ → ℕ → List Local → OrRefused (Unit {0})
locals_fit d result n zero locals = check (knows_traits d result) kind.UnknownName >> each_holds (local_fits d result) locals
locals_fit d result n (suc left) [] = check (knows_traits d result) kind.UnknownName
locals_fit d result n (suc left) (l ∷ ls) = parameter_fits d n l >> locals_fit d result (n + 1) left ls

abbrev pub first_label : BlockId
first_label = record { 0 = 0 }

abbrev pub head_fits : Declarations → Function → OrRefused (Unit {0})
head_fits d f = locals_fit d f.result 1 f.parameters f.locals >> label_fits f first_label

-- ---- sites

abbrev pub Refused : Type 0
Refused = Result (Unit {0}) Refusal

-- goes on where nothing is refused
infixl 20 ◌>>>◌
abbrev pub ◌>>>◌ : Refused → Refused → Refused
◌>>>◌ (Ok _) r = r
◌>>>◌ (Err refusal) r = Err refusal

abbrev pub refused_at : At → OrRefused (Unit {0}) → Refused
refused_at at (Ok _) = Ok tt
refused_at at (Err kind) = Err (record { kind = kind; at = at })

abbrev pub site : ℕ → BlockId → ℕ → At
site function block index = at_.Code (record { function = record { 0 = function }; block = block; index = index })

-- statements, the first of which has this index, and the terminator behind them
abbrev pub steps_fit : List Function → Declarations → ℕ → Function → BlockId → ℕ → List Statement → Terminator → Refused
steps_fit functions d number f block index [] last = refused_at (site number block index) (terminator_fits functions d f last)
steps_fit functions d number f block index (s ∷ ss) last =
    refused_at (site number block index) (statement_fits d f s) >>> steps_fit functions d number f block (index + 1) ss last

abbrev pub block_fits : List Function → Declarations → ℕ → Function → Option Block → Refused
block_fits functions d number f None = Ok tt
block_fits functions d number f (Some b) = steps_fit functions d number f b.id 0 b.statements b.terminator

-- one more than the greatest number of a block
abbrev pub blocks_end : List Block → ℕ
blocks_end [] = 0
blocks_end (b ∷ bs) = max (b.id.0 + 1) (blocks_end bs)

-- the blocks with a number below this one, by number
abbrev pub blocks_fit : List Function → Declarations → ℕ → Function → ℕ → Refused
blocks_fit functions d number f zero = Ok tt
blocks_fit functions d number f (suc n) =
    blocks_fit functions d number f n >>> block_fits functions d number f (block_at f (record { 0 = n }))

-- a function of the text, with its place there: its head at the site bb0[0], and then its blocks
abbrev pub function_fits : List Function → Declarations → ℕ → Function → Refused
function_fits functions d number f =
    refused_at (site number first_label 0) (head_fits d f) >>> blocks_fit functions d number f (blocks_end f.blocks)

abbrev pub functions_fit : List Function → Declarations → ℕ → List Function → Refused
functions_fit functions d number [] = Ok tt
functions_fit functions d number (f ∷ fs) = function_fits functions d number f >>> functions_fit functions d (number + 1) fs
