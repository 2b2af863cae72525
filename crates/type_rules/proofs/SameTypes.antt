-- The equations of the test whether two types are one.
use Rattle.std.proofs.Common.{◌≡◌, ℕ, Bool, List, [], ◌∷◌, ◌&&◌, map, refl, ap, ◌∙◌}
use Rattle.mir_ir.specs.declared.types.IntTy.{IntTy}
use Rattle.mir_ir.specs.declared.types.Ty.{Ty, out-Ty, map-Ty, fold_out-Ty}
use Rattle.mir_ir.specs.declared.types.Ty.TheOpen.{Ty-F}
use Rattle.mir_ir.specs.declared.types.Ty.TheVariants as ty
use Rattle.type_rules.specs.Types.{all_hold, same_level, same_step, same_type, same_types}

-- one level of a type, each part being the test of being that part
abbrev pub tests_of : Ty-F Ty → Ty-F (Ty → Bool)
tests_of x = map-Ty Ty (Ty → Bool) same_type x

pub same_type_out : (a b : Ty) → same_type a b ≡ same_level (tests_of (out-Ty a)) (out-Ty b)
unfolding same_type
same_type_out a b = ap (λ (test : Ty → Bool). test b) (fold_out-Ty (Ty → Bool) same_step a)

-- the tests of the items of a list
pub all_hold_of : (a b : List Ty) → all_hold (map same_type a) b ≡ same_types a b
all_hold_of [] [] = refl
all_hold_of [] (t ∷ ts) = refl
all_hold_of (x ∷ xs) [] = refl
all_hold_of (x ∷ xs) (y ∷ ys) = ap (λ r. same_type x y && r) (all_hold_of xs ys)

-- a type of a known form
at_form : (a t : Ty) (x : Ty-F Ty) → out-Ty a ≡ x → same_type a t ≡ same_level (tests_of x) (out-Ty t)
at_form a t x is = same_type_out a t ∙ ap (λ y. same_level (tests_of y) (out-Ty t)) is

pub same_bool_type : (t : Ty) → same_type ty.Bool t ≡ same_level Ty-F.Bool (out-Ty t)
same_bool_type t = at_form ty.Bool t Ty-F.Bool ty.outs-Bool

pub same_char_type : (t : Ty) → same_type ty.Char t ≡ same_level Ty-F.Char (out-Ty t)
same_char_type t = at_form ty.Char t Ty-F.Char ty.outs-Char

pub same_never_type : (t : Ty) → same_type ty.Never t ≡ same_level Ty-F.Never (out-Ty t)
same_never_type t = at_form ty.Never t Ty-F.Never ty.outs-Never

pub same_int_type : (i : IntTy) (t : Ty) → same_type (ty.Int i) t ≡ same_level (Ty-F.Int i) (out-Ty t)
same_int_type i t = at_form (ty.Int i) t (Ty-F.Int i) (ty.outs-Int i)

pub same_tuple_type : (items : List Ty) (t : Ty) → same_type (ty.Tuple items) t ≡ same_level (Ty-F.Tuple (map same_type items)) (out-Ty t)
same_tuple_type items t = at_form (ty.Tuple items) t (Ty-F.Tuple items) (ty.outs-Tuple items)

pub same_ref_type : (m : Bool) (a t : Ty) → same_type (ty.Ref m a) t ≡ same_level (Ty-F.Ref m (same_type a)) (out-Ty t)
same_ref_type m a t = at_form (ty.Ref m a) t (Ty-F.Ref m a) (ty.outs-Ref m a)

pub same_raw_type : (m : Bool) (a t : Ty) → same_type (ty.Raw m a) t ≡ same_level (Ty-F.Raw m (same_type a)) (out-Ty t)
same_raw_type m a t = at_form (ty.Raw m a) t (Ty-F.Raw m a) (ty.outs-Raw m a)

pub same_named_type : (path : List ℕ) (t : Ty) → same_type (ty.Named path) t ≡ same_level (Ty-F.Named path) (out-Ty t)
same_named_type path t = at_form (ty.Named path) t (Ty-F.Named path) (ty.outs-Named path)

pub same_dyn_type : (path : List ℕ) (t : Ty) → same_type (ty.Dyn path) t ≡ same_level (Ty-F.Dyn path) (out-Ty t)
same_dyn_type path t = at_form (ty.Dyn path) t (Ty-F.Dyn path) (ty.outs-Dyn path)

pub same_array_type : (item : Ty) (n : ℕ) (t : Ty) → same_type (ty.Array item n) t ≡ same_level (Ty-F.Array (same_type item) n) (out-Ty t)
same_array_type item n t = at_form (ty.Array item n) t (Ty-F.Array item n) (ty.outs-Array item n)

pub same_slice_type : (item t : Ty) → same_type (ty.Slice item) t ≡ same_level (Ty-F.Slice (same_type item)) (out-Ty t)
same_slice_type item t = at_form (ty.Slice item) t (Ty-F.Slice item) (ty.outs-Slice item)

pub same_box_type : (a t : Ty) → same_type (ty.BoxOf a) t ≡ same_level (Ty-F.BoxOf (same_type a)) (out-Ty t)
same_box_type a t = at_form (ty.BoxOf a) t (Ty-F.BoxOf a) (ty.outs-BoxOf a)

-- of each form
pub ruleset same = (same_bool_type, same_char_type, same_never_type, same_int_type, same_tuple_type, same_ref_type, same_raw_type, same_named_type, same_dyn_type, same_array_type, same_slice_type, same_box_type)

-- the forms of the types that are made
pub ruleset forms = (ty.outs-Bool, ty.outs-Char, ty.outs-Int, ty.outs-Tuple, ty.outs-Ref, ty.outs-Raw)
