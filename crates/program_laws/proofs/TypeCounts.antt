-- How many types are written in a type.
use Rattle.std.proofs.Common.{◌≡◌, ℕ, ◌+◌, ◌≤◌, Bool, true, false, List, [], ◌∷◌, map, length, Option, Some, None, refl, ◌∙◌, ap, arith, rules, length-append}
use Rattle.mir_ir.specs.declared.types.Ty.{Ty, out-Ty, map-Ty, fold_out-Ty}
use Rattle.mir_ir.specs.declared.types.Ty.TheVariants as ty
use Rattle.mir_ir.specs.declared.types.Ty.TheOpen.{Ty-F}
use Rattle.mir_ir.specs.declared.types.Ty.TheViews.{the_lemmas}
use Rattle.mir_ir.specs.declared.types.IntTy.{IntTy}
use Rattle.mir_program.specs.Joined.{all_in, written_in, written}
use Rattle.program_laws.proofs.Takes.{total}

abbrev pub count : Ty → ℕ
count t = length (written false t)

abbrev pub optional : Option Ty → ℕ
optional None = 0
optional (Some t) = count t

pub written_same : (t : Ty) → written true t ≡ written false t
unfolding written
written_same t = refl

abbrev level_count : Ty-F Ty → ℕ
level_count x = length (written_in (map-Ty Ty (List (Unit {0})) (written false) x))

written_out : (t : Ty) → written false t ≡ written_in (map-Ty Ty (List (Unit {0})) (written false) (out-Ty t))
unfolding written
written_out = fold_out-Ty (List (Unit {0})) written_in

count_out : (t : Ty) (x : Ty-F Ty) → out-Ty t ≡ x → count t ≡ level_count x
count_out t x e = ap length (written_out t) ∙ ap level_count e

some_level : (x : Ty-F Ty) → 1 ≤ level_count x
some_level Ty-F.Bool = omega arith
some_level Ty-F.Char = omega arith
some_level (Ty-F.Int i) = omega arith
some_level Ty-F.Never = omega arith
some_level Ty-F.Str = omega arith
some_level (Ty-F.Tuple items) = omega arith
some_level (Ty-F.Array item n) = omega arith
some_level (Ty-F.Slice item) = omega arith
some_level (Ty-F.Ref m target) = omega arith
some_level (Ty-F.Raw m target) = omega arith
some_level (Ty-F.BoxOf target) = omega arith
some_level (Ty-F.Dyn path) = omega arith
some_level (Ty-F.Named path) = omega arith

pub count_some : (t : Ty) → 1 ≤ count t
count_some t = let e = count_out t (out-Ty t) refl in let h = some_level (out-Ty t) in omega arith

pub count_bool : count ty.Bool ≡ 1
count_bool = count_out ty.Bool Ty-F.Bool (search (rules, the_lemmas))

pub count_char : count ty.Char ≡ 1
count_char = count_out ty.Char Ty-F.Char (search (rules, the_lemmas))

pub count_never : count ty.Never ≡ 1
count_never = count_out ty.Never Ty-F.Never (search (rules, the_lemmas))

pub count_str : count ty.Str ≡ 1
count_str = count_out ty.Str Ty-F.Str (search (rules, the_lemmas))

pub count_int : (i : IntTy) → count (ty.Int i) ≡ 1
count_int i = count_out (ty.Int i) (Ty-F.Int i) (search (rules, the_lemmas))

pub count_named : (path : List ℕ) → count (ty.Named path) ≡ 1
count_named path = count_out (ty.Named path) (Ty-F.Named path) (search (rules, the_lemmas))

pub count_dyn : (path : List ℕ) → count (ty.Dyn path) ≡ 1
count_dyn path = count_out (ty.Dyn path) (Ty-F.Dyn path) (search (rules, the_lemmas))

pub count_box : (t : Ty) → count (ty.BoxOf t) ≡ 1 + count t
count_box t = let e : count (ty.BoxOf t) ≡ level_count (Ty-F.BoxOf t) = count_out (ty.BoxOf t) (Ty-F.BoxOf t) (search (rules, the_lemmas)) in omega arith

pub count_slice : (t : Ty) → count (ty.Slice t) ≡ 1 + count t
count_slice t = let e : count (ty.Slice t) ≡ level_count (Ty-F.Slice t) = count_out (ty.Slice t) (Ty-F.Slice t) (search (rules, the_lemmas)) in omega arith

pub count_array : (t : Ty) (n : ℕ) → count (ty.Array t n) ≡ 1 + count t
count_array t n = let e : count (ty.Array t n) ≡ level_count (Ty-F.Array t n) = count_out (ty.Array t n) (Ty-F.Array t n) (search (rules, the_lemmas)) in omega arith

pub count_ref : (m : Bool) (t : Ty) → count (ty.Ref m t) ≡ 1 + count t
count_ref m t = let e : count (ty.Ref m t) ≡ level_count (Ty-F.Ref m t) = count_out (ty.Ref m t) (Ty-F.Ref m t) (search (rules, the_lemmas)) in omega arith

pub count_raw : (m : Bool) (t : Ty) → count (ty.Raw m t) ≡ 1 + count t
count_raw m t = let e : count (ty.Raw m t) ≡ level_count (Ty-F.Raw m t) = count_out (ty.Raw m t) (Ty-F.Raw m t) (search (rules, the_lemmas)) in omega arith

all_in_length : (ts : List Ty) → length (all_in (map (written false) ts)) ≡ total count ts
all_in_length [] = refl
all_in_length (t ∷ ts) = let e = all_in_length ts in omega (arith, length-append (written false t) (all_in (map (written false) ts)))

pub count_tuple : (ts : List Ty) → count (ty.Tuple ts) ≡ 1 + total count ts
count_tuple ts = let e : count (ty.Tuple ts) ≡ level_count (Ty-F.Tuple ts) = count_out (ty.Tuple ts) (Ty-F.Tuple ts) (search (rules, the_lemmas)) in let f = all_in_length ts in omega arith
