-- The equations of the test whether the traits in a type are declared.
use Rattle.std.proofs.Common.{◌≡◌, ℕ, Bool, true, List, map, ap, ◌∙◌}
use Rattle.std.specs.Prelude.{is_some}
use Rattle.mir_ir.specs.declared.types.IntTy.{IntTy}
use Rattle.mir_ir.specs.declared.types.Ty.{Ty, out-Ty, map-Ty, fold_out-Ty}
use Rattle.mir_ir.specs.declared.types.Ty.TheOpen.{Ty-F}
use Rattle.mir_ir.specs.declared.types.Ty.TheVariants as ty
use Rattle.mir_ir.specs.declared.declarations.Declarations.{Declarations}
use Rattle.type_rules.specs.Lookup.{all_true, knows_level, knows_traits, trait_named}

abbrev pub known_parts : Declarations → Ty-F Ty → Ty-F Bool
known_parts d x = map-Ty Ty Bool (knows_traits d) x

pub knows_traits_out : (d : Declarations) (t : Ty) → knows_traits d t ≡ knows_level d (known_parts d (out-Ty t))
unfolding knows_traits
knows_traits_out d t = fold_out-Ty Bool (knows_level d) t

-- a type of a known form
at_form : (d : Declarations) (t : Ty) (x : Ty-F Ty) → out-Ty t ≡ x → knows_traits d t ≡ knows_level d (known_parts d x)
at_form d t x is = knows_traits_out d t ∙ ap (λ y. knows_level d (known_parts d y)) is

pub knows_bool : (d : Declarations) → knows_traits d ty.Bool ≡ true
knows_bool d = at_form d ty.Bool Ty-F.Bool ty.outs-Bool

pub knows_int : (d : Declarations) (i : IntTy) → knows_traits d (ty.Int i) ≡ true
knows_int d i = at_form d (ty.Int i) (Ty-F.Int i) (ty.outs-Int i)

pub knows_named : (d : Declarations) (path : List ℕ) → knows_traits d (ty.Named path) ≡ true
knows_named d path = at_form d (ty.Named path) (Ty-F.Named path) (ty.outs-Named path)

pub knows_dyn : (d : Declarations) (path : List ℕ) → knows_traits d (ty.Dyn path) ≡ is_some (trait_named d path)
knows_dyn d path = at_form d (ty.Dyn path) (Ty-F.Dyn path) (ty.outs-Dyn path)

pub knows_tuple : (d : Declarations) (items : List Ty) → knows_traits d (ty.Tuple items) ≡ all_true (map (knows_traits d) items)
knows_tuple d items = at_form d (ty.Tuple items) (Ty-F.Tuple items) (ty.outs-Tuple items)

pub knows_array : (d : Declarations) (item : Ty) (n : ℕ) → knows_traits d (ty.Array item n) ≡ knows_traits d item
knows_array d item n = at_form d (ty.Array item n) (Ty-F.Array item n) (ty.outs-Array item n)

pub knows_slice : (d : Declarations) (item : Ty) → knows_traits d (ty.Slice item) ≡ knows_traits d item
knows_slice d item = at_form d (ty.Slice item) (Ty-F.Slice item) (ty.outs-Slice item)

pub knows_ref : (d : Declarations) (m : Bool) (t : Ty) → knows_traits d (ty.Ref m t) ≡ knows_traits d t
knows_ref d m t = at_form d (ty.Ref m t) (Ty-F.Ref m t) (ty.outs-Ref m t)

pub knows_raw : (d : Declarations) (m : Bool) (t : Ty) → knows_traits d (ty.Raw m t) ≡ knows_traits d t
knows_raw d m t = at_form d (ty.Raw m t) (Ty-F.Raw m t) (ty.outs-Raw m t)

pub knows_box : (d : Declarations) (t : Ty) → knows_traits d (ty.BoxOf t) ≡ knows_traits d t
knows_box d t = at_form d (ty.BoxOf t) (Ty-F.BoxOf t) (ty.outs-BoxOf t)

-- of each form that the examples have
pub ruleset knows = (knows_bool, knows_int, knows_named, knows_dyn, knows_tuple, knows_array, knows_slice, knows_ref, knows_raw, knows_box)
