-- Lists of operands against lists of types. All operands are typed first, from left to right, and then compared.
use Rattle.std.specs.Prelude.{ℕ, Bool, List, Option, Some, None, Ok, false, if◌then◌else◌}
use Rattle.mir_ir.specs.declared.types.Ty.{Ty}
use Rattle.mir_ir.specs.declared.tree.Function.{Function}
use Rattle.mir_ir.specs.declared.tree.NamedOperand.{NamedOperand}
use Rattle.mir_ir.specs.declared.tree.Operand.{Operand}
use Rattle.mir_ir.specs.declared.declarations.Declarations.{Declarations}
use Rattle.mir_ir.specs.declared.declarations.FieldDecl.{FieldDecl}
use Rattle.type_rules.specs.declared.refusal.TypeKind.TheVariants as kind
use Rattle.type_rules.specs.Refusals.{OrRefused, ◌>>=◌, ◌>>◌, check, each}
use Rattle.type_rules.specs.Types.{same_type, same_types}
use Rattle.type_rules.specs.Lookup.{field_types}
use Rattle.type_rules.specs.Operands.{operand_type}
use Rattle.type_rules.specs.Aggregates.{field_fits, fields_fit, first_field, not_next}
use Rattle.type_rules.specs.Rvalues.{all_of, array_given, given_type}

-- each operand has a type
abbrev pub operands_typed : Declarations → Function → List Operand → OrRefused (Unit {0})
operands_typed d f os = each (operand_type d f) os >>= λ ts. Ok tt

-- the type that is wanted at a place, where there is one
abbrev pub has_type : Ty → Option Ty → Bool
has_type t None = false
has_type t (Some wanted) = same_type t wanted

-- the operands have these types, one each
abbrev pub operands_same : Declarations → Function → List Operand → List Ty → OrRefused Bool
operands_same d f os items = each (operand_type d f) os >>= λ ts. Ok (same_types ts items)

-- the operands have the types of these fields, one each
abbrev pub operands_are_fields : Declarations → Function → List Operand → List FieldDecl → OrRefused Bool
operands_are_fields d f os fields = operands_same d f os (field_types fields)

-- the operands all have this type
abbrev pub operands_all : Declarations → Function → List Operand → Ty → OrRefused Bool
operands_all d f os item = each (operand_type d f) os >>= λ ts. Ok (all_of item ts)

-- operands in brackets against the items of an array
abbrev pub array_written : Declarations → Function → Ty → List Operand → OrRefused (Unit {0})
array_written d f to os = array_given d f to os >>= λ t. Ok tt

-- each operand of a field has a type
abbrev pub named_typed : Declarations → Function → List NamedOperand → OrRefused (Unit {0})
named_typed d f given = each (given_type d f) given >>= λ gs. Ok tt

-- whether the fields fit those of the declaration, where the operands have types
abbrev pub named_fit : Declarations → Function → List FieldDecl → List NamedOperand → OrRefused (OrRefused (Unit {0}))
named_fit d f fields given = each (given_type d f) given >>= λ gs. Ok (fields_fit fields fields gs)

-- the next field has this name and this type
abbrev pub is_next : List FieldDecl → List ℕ → Ty → Bool
is_next left name t = field_fits (first_field left) (record { name = name; ty = t })

-- what is wrong so far, or with this field
abbrev pub next_fits : OrRefused (Unit {0}) → List FieldDecl → List FieldDecl → List ℕ → Ty → OrRefused (Unit {0})
next_fits fits fields left name t = fits >> (if is_next left name t then Ok tt else not_next fields name)

-- what is wrong so far, or that a field is left out
abbrev pub all_given : OrRefused (Unit {0}) → Bool → OrRefused (Unit {0})
all_given fits all = fits >> check all kind.Mismatch
