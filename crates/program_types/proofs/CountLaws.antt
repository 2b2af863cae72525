-- As many types are written in a program as its count of them says.
use Rattle.std.proofs.Common.{◌≡◌, ◌+◌, Bool, true, false, List, [], ◌∷◌, ◌++◌, Option, Some, None, drop, take, flat_map, length, map, refl, ◌∙◌, ap, sym, subst, arith, length-append}
use Rattle.mir_ir.specs.declared.declarations.ConstantDecl.{ConstantDecl}
use Rattle.mir_ir.specs.declared.declarations.Contract.{Contract}
use Rattle.mir_ir.specs.declared.declarations.Declarations.{Declarations}
use Rattle.mir_ir.specs.declared.declarations.FieldDecl.{FieldDecl}
use Rattle.mir_ir.specs.declared.declarations.LoopRule.{LoopRule}
use Rattle.mir_ir.specs.declared.declarations.TagDecl.{TagDecl}
use Rattle.mir_ir.specs.declared.declarations.TypeDecl.{TypeDecl}
use Rattle.mir_ir.specs.declared.declarations.TypeShape.{TypeShape}
use Rattle.mir_ir.specs.declared.declarations.TypeShape.TheVariants as shape
use Rattle.mir_ir.specs.declared.declarations.VariantDecl.{VariantDecl}
use Rattle.mir_ir.specs.declared.declarations.VtableDecl.{VtableDecl}
use Rattle.mir_ir.specs.declared.places.PlaceExpr.{PlaceExpr}
use Rattle.mir_ir.specs.declared.places.Projection.{Projection}
use Rattle.mir_ir.specs.declared.places.Projection.TheVariants as projection
use Rattle.mir_ir.specs.declared.tree.Block.{Block}
use Rattle.mir_ir.specs.declared.tree.Function.{Function}
use Rattle.mir_ir.specs.declared.tree.Local.{Local}
use Rattle.mir_ir.specs.declared.tree.NamedOperand.{NamedOperand}
use Rattle.mir_ir.specs.declared.tree.Operand.{Operand}
use Rattle.mir_ir.specs.declared.tree.Operand.TheVariants as operand
use Rattle.mir_ir.specs.declared.tree.Rvalue.{Rvalue}
use Rattle.mir_ir.specs.declared.tree.Rvalue.TheVariants as rvalue
use Rattle.mir_ir.specs.declared.tree.Statement.{Statement}
use Rattle.mir_ir.specs.declared.tree.Statement.TheVariants as statement
use Rattle.mir_ir.specs.declared.tree.Terminator.{Terminator}
use Rattle.mir_ir.specs.declared.tree.Terminator.TheVariants as terminator
use Rattle.mir_ir.specs.declared.types.Ty.{Ty, map-Ty}
use Rattle.mir_ir.specs.declared.types.Ty.TheOpen.{Ty-F}
use Rattle.mir_ir.specs.declared.types.Ty.TheViews.{roll-Ty}
use Rattle.mir_ir.specs.declared.types.Ty.TheFolds.{fold-roll-Ty, ind-Ty}
use Rattle.mir_program.specs.Joined.{Joined, all_in, all_written, written, written_in, written_in_declarations, written_in_entry}
use Rattle.mir_program.specs.Mentions.{argument_types, block_types, constant_types, contract_types, field_types, function_types, local_types, loop_types, named_operand_types, operand_types, place_types, rvalue_types, shape_types, statement_types, step_types, tag_types, terminator_types, variant_types, vtable_types}
use Rattle.program_types.specs.Mentioned.{declaration_types, entry_types, types_written, written_at}
use Rattle.program_types.specs.Parts.{form_parts, parts}
use Rattle.program_types.proofs.PartLaws.{parts_roll}

both : {X Y : Type 0} (a b : List X) (c d : List Y) → length a ≡ length c → length b ≡ length d → length (a ++ b) ≡ length (c ++ d)
both a b c d p q = length-append a b ∙ (λ i. p i + q i) ∙ sym (length-append c d)

flat : {A X Y : Type 0} (f : A → List X) (g : A → List Y) → ((a : A) → length (f a) ≡ length (g a)) → (xs : List A) → length (flat_map f xs) ≡ length (flat_map g xs)
flat f g e [] = refl
flat f g e (x ∷ xs) = both (f x) (flat_map f xs) (g x) (flat_map g xs) (e x) (flat f g e xs)

-- ---- one type

written_roll : (x : Ty-F Ty) → written false (roll-Ty x) ≡ written_in (map-Ty Ty (List (Unit {0})) (written false) x)
unfolding written
written_roll = fold-roll-Ty (List (Unit {0})) written_in

abbrev IsCounted : Ty → Type 0
IsCounted t = length (parts t) ≡ length (written false t)

abbrev Counted : Type 0
Counted = (t : Ty) × IsCounted t

abbrev bare : Counted → Ty
bare e = e.0

counts_of : (es : List Counted) → length (flat_map parts (map bare es)) ≡ length (all_in (map (written false) (map bare es)))
counts_of [] = refl
counts_of (e ∷ es) = both (parts e.0) (flat_map parts (map bare es)) (written false e.0) (all_in (map (written false) (map bare es))) e.1 (counts_of es)

abbrev level_counts : Ty-F Ty → Type 0
level_counts x = length (form_parts parts x) + 1 ≡ length (written_in (map-Ty Ty (List (Unit {0})) (written false) x))

counts_agree : (y : Ty-F Counted) → level_counts (map-Ty Counted Ty bare y)
counts_agree Ty-F.Bool = refl
counts_agree Ty-F.Char = refl
counts_agree (Ty-F.Int i) = refl
counts_agree Ty-F.Never = refl
counts_agree Ty-F.Str = refl
counts_agree (Ty-F.Tuple items) = omega (arith, counts_of items)
counts_agree (Ty-F.Array item count) = omega (arith, item.1)
counts_agree (Ty-F.Slice item) = omega (arith, item.1)
counts_agree (Ty-F.Ref mutable target) = omega (arith, target.1)
counts_agree (Ty-F.Raw mutable target) = omega (arith, target.1)
counts_agree (Ty-F.BoxOf target) = omega (arith, target.1)
counts_agree (Ty-F.Dyn path) = refl
counts_agree (Ty-F.Named path) = refl

counted : (t : Ty) → IsCounted t
counted = ind-Ty IsCounted (λ x y is.
    ap length (parts_roll x) ∙ length-append (form_parts parts x) (roll-Ty x ∷ []) ∙ subst level_counts is (counts_agree y) ∙ sym (ap length (written_roll x)))

-- ---- where types stand

same_count : (v : Bool) (t : Ty) → length (written_at v t) ≡ length (written v t)
unfolding written
same_count true t = counted t
same_count false t = counted t

field_counts : (f : FieldDecl) → length (field_types written_at f) ≡ length (field_types written f)
field_counts f = same_count true f.ty

variant_counts : (v : VariantDecl) → length (variant_types written_at v) ≡ length (variant_types written v)
variant_counts v = flat (field_types written_at) (field_types written) field_counts v.fields

tag_counts : (tag : Option TagDecl) → length (tag_types written_at tag) ≡ length (tag_types written tag)
tag_counts None = refl
tag_counts (Some tag) = same_count false tag.ty

shape_counts : (s : TypeShape) → length (shape_types written_at s) ≡ length (shape_types written s)
shape_counts (shape.Struct fields) = flat (field_types written_at) (field_types written) field_counts fields
shape_counts (shape.Tuple fields) = flat (field_types written_at) (field_types written) field_counts fields
shape_counts (shape.Enum variants tag discriminant) =
    both (flat_map (variant_types written_at) variants) (tag_types written_at tag) (flat_map (variant_types written) variants) (tag_types written tag)
    (flat (variant_types written_at) (variant_types written) variant_counts variants) (tag_counts tag)

entry_counts : (own : TypeDecl) → length (entry_types own) ≡ length (written_in_entry own)
entry_counts own = both (parts own.name) (shape_types written_at own.shape) (written false own.name) (shape_types written own.shape) (same_count false own.name) (shape_counts own.shape)

step_counts : (s : Projection) → length (step_types written_at s) ≡ length (step_types written s)
step_counts (projection.Field index t) = same_count false t
step_counts projection.Deref = refl
step_counts (projection.Index local) = refl
step_counts (projection.FromFront at least) = refl
step_counts (projection.FromBack at least) = refl
step_counts (projection.Downcast variant) = refl

place_counts : (p : PlaceExpr) → length (place_types written_at p) ≡ length (place_types written p)
place_counts p = flat (step_types written_at) (step_types written) step_counts p.steps

vtable_counts : (v : VtableDecl) → length (vtable_types written_at v) ≡ length (vtable_types written v)
vtable_counts v = same_count false v.ty

constant_counts : (c : ConstantDecl) → length (constant_types written_at c) ≡ length (constant_types written c)
constant_counts c = same_count false c.ty

contract_counts : (c : Contract) → length (contract_types written_at c) ≡ length (contract_types written c)
contract_counts c = flat (place_types written_at) (place_types written) place_counts c.modifies

loop_counts : (l : LoopRule) → length (loop_types written_at l) ≡ length (loop_types written l)
loop_counts l = flat (place_types written_at) (place_types written) place_counts l.modifies

operand_counts : (o : Operand) → length (operand_types written_at o) ≡ length (operand_types written o)
operand_counts (operand.Copy p) = place_counts p
operand_counts (operand.Move p) = place_counts p
operand_counts (operand.Const c) = refl

operands_count : (os : List Operand) → length (flat_map (operand_types written_at) os) ≡ length (flat_map (operand_types written) os)
operands_count os = flat (operand_types written_at) (operand_types written) operand_counts os

named_operand_counts : (f : NamedOperand) → length (named_operand_types written_at f) ≡ length (named_operand_types written f)
named_operand_counts f = operand_counts f.operand

rvalue_counts : (r : Rvalue) → length (rvalue_types written_at r) ≡ length (rvalue_types written r)
rvalue_counts (rvalue.Use o) = operand_counts o
rvalue_counts (rvalue.Cast o t kind) = both (operand_types written_at o) (written_at false t) (operand_types written o) (written false t) (operand_counts o) (same_count false t)
rvalue_counts (rvalue.Binary op a b) = both (operand_types written_at a) (operand_types written_at b) (operand_types written a) (operand_types written b) (operand_counts a) (operand_counts b)
rvalue_counts (rvalue.Not o) = operand_counts o
rvalue_counts (rvalue.Neg o) = operand_counts o
rvalue_counts (rvalue.PtrMetadata o) = operand_counts o
rvalue_counts (rvalue.RefOf mutable p) = place_counts p
rvalue_counts (rvalue.RawOf mutable p) = place_counts p
rvalue_counts (rvalue.Discriminant p) = place_counts p
rvalue_counts (rvalue.Len p) = place_counts p
rvalue_counts (rvalue.SizeOf t) = same_count false t
rvalue_counts (rvalue.AlignOf t) = same_count false t
rvalue_counts (rvalue.Array operands) = operands_count operands
rvalue_counts (rvalue.Repeat o count) = operand_counts o
rvalue_counts (rvalue.Tuple operands) = operands_count operands
rvalue_counts (rvalue.PathUnit path) = refl
rvalue_counts (rvalue.PathTuple path operands) = operands_count operands
rvalue_counts (rvalue.PathFields path fields) = flat (named_operand_types written_at) (named_operand_types written) named_operand_counts fields

statement_counts : (s : Statement) → length (statement_types written_at s) ≡ length (statement_types written s)
statement_counts (statement.Assign p value) = both (place_types written_at p) (rvalue_types written_at value) (place_types written p) (rvalue_types written value) (place_counts p) (rvalue_counts value)
statement_counts (statement.StorageLive l) = refl
statement_counts (statement.StorageDead l) = refl
statement_counts (statement.SetVariant p variant) = place_counts p

argument_counts : (argument : Option Ty) → length (argument_types written_at argument) ≡ length (argument_types written argument)
argument_counts None = refl
argument_counts (Some t) = same_count false t

terminator_counts : (t : Terminator) → length (terminator_types written_at t) ≡ length (terminator_types written t)
terminator_counts (terminator.Goto target) = refl
terminator_counts (terminator.Switch o arms otherwise) = operand_counts o
terminator_counts terminator.Return = refl
terminator_counts terminator.Unreachable = refl
terminator_counts (terminator.Drop p next) = place_counts p
terminator_counts (terminator.Assert o expected text shown next) =
    both (operand_types written_at o) (flat_map (operand_types written_at) shown) (operand_types written o) (flat_map (operand_types written) shown) (operand_counts o) (operands_count shown)
terminator_counts (terminator.Call p callee arguments next) =
    both (place_types written_at p ++ flat_map (operand_types written_at) arguments) (argument_types written_at callee.argument) (place_types written p ++ flat_map (operand_types written) arguments) (argument_types written callee.argument)
    (both (place_types written_at p) (flat_map (operand_types written_at) arguments) (place_types written p) (flat_map (operand_types written) arguments) (place_counts p) (operands_count arguments))
    (argument_counts callee.argument)

block_counts : (b : Block) → length (block_types written_at b) ≡ length (block_types written b)
block_counts b =
    both (flat_map (statement_types written_at) b.statements) (terminator_types written_at b.terminator) (flat_map (statement_types written) b.statements) (terminator_types written b.terminator)
    (flat (statement_types written_at) (statement_types written) statement_counts b.statements) (terminator_counts b.terminator)

local_counts : (l : Local) → length (local_types written_at l) ≡ length (local_types written l)
local_counts l = same_count true l.ty

locals_count : (ls : List Local) → length (flat_map (local_types written_at) ls) ≡ length (flat_map (local_types written) ls)
locals_count ls = flat (local_types written_at) (local_types written) local_counts ls

function_counts : (f : Function) → length (function_types written_at f) ≡ length (function_types written f)
function_counts f =
    let first = both (flat_map (local_types written_at) (take f.parameters f.locals)) (written_at true f.result) (flat_map (local_types written) (take f.parameters f.locals)) (written true f.result)
    (locals_count (take f.parameters f.locals)) (same_count true f.result) in
    let others = both (flat_map (local_types written_at) (take f.parameters f.locals) ++ written_at true f.result) (flat_map (local_types written_at) (drop f.parameters f.locals))
    (flat_map (local_types written) (take f.parameters f.locals) ++ written true f.result) (flat_map (local_types written) (drop f.parameters f.locals)) first (locals_count (drop f.parameters f.locals)) in
    both (flat_map (local_types written_at) (take f.parameters f.locals) ++ written_at true f.result ++ flat_map (local_types written_at) (drop f.parameters f.locals)) (flat_map (block_types written_at) f.blocks)
    (flat_map (local_types written) (take f.parameters f.locals) ++ written true f.result ++ flat_map (local_types written) (drop f.parameters f.locals)) (flat_map (block_types written) f.blocks)
    others (flat (block_types written_at) (block_types written) block_counts f.blocks)

declarations_count : (d : Declarations) → length (declaration_types d) ≡ length (written_in_declarations d)
declarations_count d =
    let types = flat entry_types written_in_entry entry_counts d.types in
    let vtables = flat (vtable_types written_at) (vtable_types written) vtable_counts d.vtables in
    let constants = flat (constant_types written_at) (constant_types written) constant_counts d.constants in
    let contracts = flat (contract_types written_at) (contract_types written) contract_counts d.contracts in
    let loops = flat (loop_types written_at) (loop_types written) loop_counts d.loops in
    both (flat_map entry_types d.types ++ flat_map (vtable_types written_at) d.vtables ++ flat_map (constant_types written_at) d.constants ++ flat_map (contract_types written_at) d.contracts) (flat_map (loop_types written_at) d.loops)
    (flat_map written_in_entry d.types ++ flat_map (vtable_types written) d.vtables ++ flat_map (constant_types written) d.constants ++ flat_map (contract_types written) d.contracts) (flat_map (loop_types written) d.loops)
    (both (flat_map entry_types d.types ++ flat_map (vtable_types written_at) d.vtables ++ flat_map (constant_types written_at) d.constants) (flat_map (contract_types written_at) d.contracts)
    (flat_map written_in_entry d.types ++ flat_map (vtable_types written) d.vtables ++ flat_map (constant_types written) d.constants) (flat_map (contract_types written) d.contracts)
    (both (flat_map entry_types d.types ++ flat_map (vtable_types written_at) d.vtables) (flat_map (constant_types written_at) d.constants)
    (flat_map written_in_entry d.types ++ flat_map (vtable_types written) d.vtables) (flat_map (constant_types written) d.constants)
    (both (flat_map entry_types d.types) (flat_map (vtable_types written_at) d.vtables) (flat_map written_in_entry d.types) (flat_map (vtable_types written) d.vtables) types vtables)
    constants)
    contracts)
    loops

-- beside the 16 that need no mention
pub written_counted : (p : Joined) → 16 + length (types_written p) ≡ length (all_written p)
unfolding types_written all_written
written_counted p =
    let all = both (declaration_types p.declarations) (flat_map (function_types written_at) p.functions) (written_in_declarations p.declarations) (flat_map (function_types written) p.functions)
    (declarations_count p.declarations) (flat (function_types written_at) (function_types written) function_counts p.functions) in
    omega (arith, all, length-append (written_in_declarations p.declarations) (flat_map (function_types written) p.functions))
