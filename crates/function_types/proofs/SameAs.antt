-- Tests of types by their forms, where the second type is known.
use Rattle.std.proofs.Common.{◌≡◌, ℕ, zero, suc, Bool, List, [], ◌∷◌, map, slice_get, take, refl, ap, ◌∙◌}
use Rattle.std.specs.Prelude.{option_map}
use Rattle.mir_ir.specs.declared.types.Ty.{Ty, out-Ty}
use Rattle.mir_ir.specs.declared.types.Ty.TheOpen.{Ty-F}
use Rattle.mir_ir.specs.declared.types.Ty.TheVariants as ty
use Rattle.mir_ir.specs.declared.tree.Local.{Local}
use Rattle.type_rules.specs.Types.{pointer_form, pointer_of, same_level, same_type, scalar_form, scalar_of}
use Rattle.type_rules.specs.Calls.{Typed, types_of}
use Rattle.type_rules.specs.Code.{is_bool}
use Rattle.type_rules.proofs.SameTypes.{same_type_out, tests_of}
use Rattle.function_types.specs.Steps.{is_reference}

against : (t u : Ty) (y : Ty-F Ty) → out-Ty u ≡ y → same_type t u ≡ same_level (tests_of (out-Ty t)) y
against t u y is = same_type_out t u ∙ ap (same_level (tests_of (out-Ty t))) is

pub same_as_bool : (t : Ty) → same_type t ty.Bool ≡ is_bool (scalar_of t)
same_as_bool t = against t ty.Bool Ty-F.Bool ty.outs-Bool ∙ by (out-Ty t)
  where
    by : (x : Ty-F Ty) → same_level (tests_of x) Ty-F.Bool ≡ is_bool (scalar_form x)
    by Ty-F.Bool = refl
    by Ty-F.Char = refl
    by (Ty-F.Int i) = refl
    by Ty-F.Never = refl
    by Ty-F.Str = refl
    by (Ty-F.Tuple items) = refl
    by (Ty-F.Array item n) = refl
    by (Ty-F.Slice item) = refl
    by (Ty-F.Ref m target) = refl
    by (Ty-F.Raw m target) = refl
    by (Ty-F.BoxOf target) = refl
    by (Ty-F.Dyn path) = refl
    by (Ty-F.Named path) = refl

pub same_as_dyn : (t : Ty) (path : List ℕ) → same_type t (ty.Dyn path) ≡ same_level (tests_of (out-Ty t)) (Ty-F.Dyn path)
same_as_dyn t path = against t (ty.Dyn path) (Ty-F.Dyn path) (ty.outs-Dyn path)

pub same_as_reference : (t : Ty) (m : Bool) (target : Ty) → same_type t (ty.Ref m target) ≡ is_reference m target (pointer_of t)
same_as_reference t m target = against t (ty.Ref m target) (Ty-F.Ref m target) (ty.outs-Ref m target) ∙ by (out-Ty t)
  where
    by : (x : Ty-F Ty) → same_level (tests_of x) (Ty-F.Ref m target) ≡ is_reference m target (pointer_form x)
    by Ty-F.Bool = refl
    by Ty-F.Char = refl
    by (Ty-F.Int i) = refl
    by Ty-F.Never = refl
    by Ty-F.Str = refl
    by (Ty-F.Tuple items) = refl
    by (Ty-F.Array item n) = refl
    by (Ty-F.Slice item) = refl
    by (Ty-F.Ref k own) = refl
    by (Ty-F.Raw k own) = refl
    by (Ty-F.BoxOf own) = refl
    by (Ty-F.Dyn path) = refl
    by (Ty-F.Named path) = refl

-- the types of locals at a place
pub type_at : (locals : List Local) (n : ℕ) → slice_get (map (λ t. Typed t) (types_of locals)) n ≡ option_map (λ l. Typed l.ty) (slice_get locals n)
type_at [] zero = refl
type_at [] (suc n) = refl
type_at (l ∷ ls) zero = refl
type_at (l ∷ ls) (suc n) = type_at ls n

-- the types of the first locals are the first types
pub types_taken : (n : ℕ) (locals : List Local) → types_of (take n locals) ≡ take n (types_of locals)
types_taken zero ls = refl
types_taken (suc n) [] = refl
types_taken (suc n) (l ∷ ls) = ap (λ ts. l.ty ∷ ts) (types_taken n ls)
