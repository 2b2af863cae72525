-- What a call takes and gives: built-in callees, methods behind a `dyn` type, and functions of the text.
use Rattle.std.specs.Prelude.{ℕ, ◌-◌, ◌/◌, Bool, true, false, ◌&&◌, ◌||◌, ◌==◌, nat_eq, if◌then◌else◌, List, [], ◌∷◌, ◌++◌, Option, Some, None, Ok, Err, length, take, drop, map, option_and_then, slice_get, bytes_eq, codes}
use Rattle.std.specs.List.{starts_with, ends_with, position_from}
use Rattle.mir_ir.specs.declared.types.Ty.{Ty}
use Rattle.mir_ir.specs.declared.types.Ty.TheVariants as ty
use Rattle.mir_ir.specs.declared.tree.Callee.{Callee}
use Rattle.mir_ir.specs.declared.tree.Constant.TheVariants as constant
use Rattle.mir_ir.specs.declared.tree.Function.{Function}
use Rattle.mir_ir.specs.declared.tree.Local.{Local}
use Rattle.mir_ir.specs.declared.tree.Operand.{Operand}
use Rattle.mir_ir.specs.declared.tree.Operand.TheVariants as operand
use Rattle.mir_ir.specs.declared.declarations.Declarations.{Declarations}
use Rattle.mir_ir.specs.declared.declarations.TraitDecl.{TraitDecl}
use Rattle.type_rules.specs.declared.refusal.TypeKind.TheVariants as kind
use Rattle.type_rules.specs.declared.types.PointerKind.{PointerKind}
use Rattle.type_rules.specs.declared.types.PointerKind.TheVariants as pointer
use Rattle.type_rules.specs.Refusals.{OrRefused, ◌>>=◌, ◌>>◌, check, required}
use Rattle.type_rules.specs.Types.{PointerType, is_sized, pointer_of, same_type}
use Rattle.type_rules.specs.Lookup.{first_vtable, function_called, function_named, knows_traits, trait_named}
use Rattle.type_rules.specs.Plain.{is_plain}
use Rattle.type_rules.specs.Operands.{operand_type}
use Rattle.type_rules.specs.Aggregates.{Halves, halves}

-- a method of a trait that is called on a `dyn` value
pub record Method : Type 0 where
  pub trait_name : List ℕ
  pub method : List ℕ

-- what a path calls
pub data Called : Type 0 where
  AnyOf : (t : Ty) → Called
  Assume : Called
  Assert : Called
  NewBox : (t : Ty) → Called
  NullOf : (mutable : Bool) (t : Ty) → Called
  Panic : Called
  Dynamic : (m : Method) → Called
  Named : (path : List ℕ) → Called

-- `Box<T>::new` and `std::boxed::Box<T>::new`
abbrev pub is_box_new : List ℕ → Bool
is_box_new path =
    (starts_with nat_eq path (codes "Box<") || starts_with nat_eq path (codes "std::boxed::Box<")) && ends_with nat_eq path (codes ">::new")

-- the built-in callees with a type argument, by their canonical paths
abbrev pub called_with : List ℕ → Ty → Called
called_with path t =
    if starts_with nat_eq path (codes "kani::any<") then AnyOf t
    else (if starts_with nat_eq path (codes "std::ptr::null<") then NullOf false t
    else (if starts_with nat_eq path (codes "std::ptr::null_mut<") then NullOf true t
    else (if is_box_new path then NewBox t else Named path)))

-- `<dyn Trait as Trait>`
abbrev pub dyn_head : List ℕ → List ℕ → Bool
dyn_head name head = bytes_eq head (codes "<dyn " ++ name ++ codes " as " ++ name ++ codes ">")

-- the trait of such a head: what stands between ends of 5 and 1 bytes, twice, around 4 bytes
abbrev pub head_name : List ℕ → List ℕ
head_name head = take ((length head - 10) / 2) (drop 5 head)

abbrev pub method_of : Option Halves → Option Method
method_of None = None
method_of (Some h) = if dyn_head (head_name h.front) h.front then Some (record { trait_name = head_name h.front; method = h.word }) else None

-- the method that a path `<dyn Trait as Trait>::method` calls
abbrev pub dynamic_method : List ℕ → Option Method
dynamic_method path = method_of (halves path)

abbrev pub is_panic : List ℕ → Bool
is_panic path = bytes_eq path (codes "core::panicking::panic") || bytes_eq path (codes "std::panicking::panic")

abbrev pub dynamic_or_named : List ℕ → Option Method → Called
dynamic_or_named path (Some m) = Dynamic m
dynamic_or_named path None = Named path

abbrev pub called_alone : List ℕ → Called
called_alone path =
    if bytes_eq path (codes "kani::assume") then Assume
    else (if bytes_eq path (codes "kani::assert") then Assert
    else (if is_panic path then Panic else dynamic_or_named path (dynamic_method path)))

-- what a callee is: built-in names come before functions of the text
abbrev pub called : Callee → Called
called c = elim c.argument [ Some t ↦ called_with c.path t | None ↦ called_alone c.path ]

-- an argument: a value of a type, or the text of an assertion or a panic
pub data Argument : Type 0 where
  Typed : (t : Ty) → Argument
  Words : Argument

abbrev pub fits_argument : Argument → Argument → Bool
fits_argument (Typed t) (Typed p) = same_type t p
fits_argument Words Words = true
fits_argument _ _ = false

abbrev pub fit_arguments : List Argument → List Argument → Bool
fit_arguments [] [] = true
fit_arguments [] (p ∷ ps) = false
fit_arguments (a ∷ more) [] = false
fit_arguments (a ∷ more) (p ∷ ps) = fits_argument a p && fit_arguments more ps

-- an operand, where a text may stand
abbrev pub text_or_type : Declarations → Function → Operand → OrRefused Argument
text_or_type d f (operand.Const (constant.Text text)) = Ok Words
text_or_type d f o = operand_type d f o >>= λ t. Ok (Typed t)

abbrev pub argument_type : Declarations → Function → Bool → Operand → OrRefused Argument
argument_type d f true o = text_or_type d f o
argument_type d f false o = operand_type d f o >>= λ t. Ok (Typed t)

-- the arguments, where a text may stand at one place: `suc n` is the place n, and `zero` none
abbrev pub arguments_from : Declarations → Function → ℕ → List Operand → OrRefused (List Argument)
arguments_from d f place [] = Ok []
arguments_from d f place (o ∷ os) =
    argument_type d f (place == 1) o >>= λ a. (arguments_from d f (place - 1) os >>= λ rest. Ok (a ∷ rest))

-- the second argument of `kani::assert` and that of a panic are texts
abbrev pub text_place : Called → ℕ
text_place Assert = 2
text_place Panic = 1
text_place _ = 0

-- what a call takes and gives
pub record Signature : Type 0 where
  pub parameters : List Argument
  pub result : Ty

abbrev pub unit : Ty
unit = ty.Tuple []

abbrev pub types_of : List Local → List Ty
types_of [] = []
types_of (l ∷ ls) = l.ty ∷ types_of ls

-- the types of the parameters, which are the first locals
abbrev pub parameter_types : Function → List Ty
parameter_types f = take f.parameters (types_of f.locals)

abbrev pub function_signature : Function → Signature
function_signature f = record { parameters = map (λ t. Typed t) (parameter_types f); result = f.result }

abbrev pub reference_to : List ℕ → PointerKind → OrRefused Ty
reference_to name (pointer.Ref mutable) = Ok (ty.Ref mutable (ty.Dyn name))
reference_to name _ = Err kind.BadCall

-- `&self` or `&mut self`, as a reference to the `dyn` value
abbrev pub dyn_reference : List ℕ → Option PointerType → OrRefused Ty
dyn_reference name None = Err kind.BadCall
dyn_reference name (Some p) = reference_to name p.kind

abbrev pub method_signature : List ℕ → Ty → List Ty → OrRefused Signature
method_signature name result [] = Err kind.BadCall
method_signature name result (receiver ∷ others) =
    dyn_reference name (pointer_of receiver) >>= λ first. Ok (record { parameters = map (λ t. Typed t) (first ∷ others); result = result })

abbrev pub slot_of : TraitDecl → List ℕ → Option ℕ
slot_of t method = position_from (λ own. bytes_eq method own) 0 t.methods

-- a method is typed by the function in its slot of the trait's first vtable, with the `dyn` type behind its first parameter
abbrev pub dynamic_signature : List Function → Declarations → Method → OrRefused Signature
dynamic_signature functions d m =
    required (trait_named d m.trait_name) kind.UnknownName >>= λ t.
    (required (slot_of t m.method) kind.UnknownName >>= λ slot.
    (required (first_vtable d m.trait_name) kind.BadCall >>= λ v.
    (required (option_and_then (function_named functions) (slice_get v.methods slot)) kind.UnknownName >>= λ g.
    method_signature m.trait_name g.result (parameter_types g))))

-- what `kani::any` chooses is of a plain type
abbrev pub chosen_type : Declarations → Ty → OrRefused (Unit {0})
chosen_type d t = check (knows_traits d t) kind.UnknownName >> check (is_plain d t) kind.NotPlain

-- what a box holds or a null pointer points to has a size
abbrev pub made_type : Declarations → Ty → OrRefused (Unit {0})
made_type d t = check (knows_traits d t) kind.UnknownName >> check (is_sized t) kind.BadCall

abbrev pub signature_of : List Function → Declarations → Called → OrRefused Signature
signature_of functions d (AnyOf t) =
    chosen_type d t >> Ok (record { parameters = []; result = t })
signature_of functions d Assume = Ok (record { parameters = Typed ty.Bool ∷ []; result = unit })
signature_of functions d Assert = Ok (record { parameters = Typed ty.Bool ∷ Words ∷ []; result = unit })
signature_of functions d (NewBox t) =
    made_type d t >> Ok (record { parameters = Typed t ∷ []; result = ty.BoxOf t })
signature_of functions d (NullOf mutable t) =
    made_type d t >> Ok (record { parameters = []; result = ty.Raw mutable t })
signature_of functions d Panic = Ok (record { parameters = Words ∷ []; result = ty.Never })
signature_of functions d (Dynamic m) = dynamic_signature functions d m
signature_of functions d (Named path) = required (function_called functions d path) kind.UnknownName >>= λ g. Ok (function_signature g)

-- the arguments and the result of a call are those of its callee
abbrev pub call_fits : List Function → Declarations → Function → Ty → Callee → List Operand → OrRefused (Unit {0})
call_fits functions d f to callee arguments =
    arguments_from d f (text_place (called callee)) arguments >>= λ given.
    (signature_of functions d (called callee) >>= λ s.
    check (fit_arguments given s.parameters && same_type s.result to) kind.BadCall)
