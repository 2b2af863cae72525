-- The types that the code keeps for operands and rvalues, as types.
use Rattle.std.specs.Prelude.{[], Option, Some, None, Ok, Err}
use Rattle.mir_ir.specs.declared.types.Ty.{Ty}
use Rattle.mir_ir.specs.declared.types.Ty.TheVariants as ty
use Rattle.type_rules.specs.declared.types.PointerTy.{PointerTy}
use Rattle.type_rules.specs.declared.values.ValueTy.{ValueTy}
use Rattle.type_rules.specs.declared.values.ValueTy.TheVariants as value
use Rattle.type_rules.specs.Refusals.{OrRefused}
use Rattle.type_rules.specs.Types.{PointerType}
use Rattle.type_rules.specs.Operators.{overflow_type}

abbrev pub pointer_seen : PointerTy → PointerType
pointer_seen p = record { kind = p.kind; target = p.target.now }

abbrev pub some_pointer : Option PointerTy → Option PointerType
some_pointer None = None
some_pointer (Some p) = Some (pointer_seen p)

-- the type that is meant
abbrev pub type_of : ValueTy → Ty
type_of (value.Of t) = t.now
type_of value.Bool = ty.Bool
type_of value.Char = ty.Char
type_of (value.Int i) = ty.Int i
type_of value.Unit = ty.Tuple []
type_of (value.WithFlag i) = overflow_type i
type_of (value.Ref mutable target) = ty.Ref mutable target.now
type_of (value.Raw mutable target) = ty.Raw mutable target.now

abbrev pub some_type : Option ValueTy → Option Ty
some_type None = None
some_type (Some v) = Some (type_of v)

abbrev pub ok_type : OrRefused ValueTy → OrRefused Ty
ok_type (Ok v) = Ok (type_of v)
ok_type (Err kind) = Err kind
