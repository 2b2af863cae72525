-- When two types of known forms are one.
use Rattle.std.proofs.Common.{◌≡◌, ℕ, suc, ◌+◌, ◌<◌, ◌≤◌, Bool, true, false, List, [], ◌∷◌, ◌&&◌, ◌==◌, bytes_eq, map, drop, length, refl, ap, sym, ◌∙◌, ◌≢◌, arith}
use Rattle.std.proofs.Math.Seq.{drop-cons}
use Rattle.std.proofs.lemmas.List.{drop_all}
use Rattle.std.proofs.lemmas.Bool.{eq-eqb, ne_eqb}
use Rattle.std.specs.Prelude.{slice_index_or}
use Rattle.std.proofs.Math.Bool.{and-false}
use Rattle.mir_ir.specs.declared.types.IntTy.{IntTy}
use Rattle.mir_ir.specs.declared.types.Ty.{Ty, out-Ty}
use Rattle.mir_ir.specs.declared.types.Ty.TheOpen.{Ty-F}
use Rattle.mir_ir.specs.declared.types.Ty.TheVariants as ty
use Rattle.type_rules.specs.Types.{all_hold, same_bool, same_int, same_level, same_type, same_types}
use Rattle.type_rules.proofs.SameTypes.{all_hold_of, same_type_out, tests_of}

at_forms : (a b : Ty) (x y : Ty-F Ty) → out-Ty a ≡ x → out-Ty b ≡ y → same_type a b ≡ same_level (tests_of x) y
at_forms a b x y p q = same_type_out a b ∙ (λ i. same_level (tests_of (p i)) (q i))

pub both_ints : (a b : Ty) (i j : IntTy) → a ≡ ty.Int i → b ≡ ty.Int j → same_type a b ≡ same_int i j
both_ints a b i j p q = at_forms a b (Ty-F.Int i) (Ty-F.Int j) (ap out-Ty p ∙ ty.outs-Int i) (ap out-Ty q ∙ ty.outs-Int j)

pub tuple_holds : (xs : List Ty) (t : Ty) (ys : List Ty) → t ≡ ty.Tuple ys → same_type (ty.Tuple xs) t ≡ all_hold (map same_type xs) ys
tuple_holds xs t ys p = at_forms (ty.Tuple xs) t (Ty-F.Tuple xs) (Ty-F.Tuple ys) (ty.outs-Tuple xs) (ap out-Ty p ∙ ty.outs-Tuple ys)

pub both_tuples : (a b : Ty) (xs ys : List Ty) → a ≡ ty.Tuple xs → b ≡ ty.Tuple ys → same_type a b ≡ same_types xs ys
both_tuples a b xs ys p q = at_forms a b (Ty-F.Tuple xs) (Ty-F.Tuple ys) (ap out-Ty p ∙ ty.outs-Tuple xs) (ap out-Ty q ∙ ty.outs-Tuple ys) ∙ all_hold_of xs ys

both_arrays : (a b x y : Ty) (n m : ℕ) → a ≡ ty.Array x n → b ≡ ty.Array y m → same_type a b ≡ ((n == m) && same_type x y)
both_arrays a b x y n m p q = at_forms a b (Ty-F.Array x n) (Ty-F.Array y m) (ap out-Ty p ∙ ty.outs-Array x n) (ap out-Ty q ∙ ty.outs-Array y m)

pub arrays_of_one_count : (a b x y : Ty) (n m : ℕ) → a ≡ ty.Array x n → b ≡ ty.Array y m → n ≡ m → same_type a b ≡ same_type x y
arrays_of_one_count a b x y n m p q e = both_arrays a b x y n m p q ∙ ap (λ r. r && same_type x y) (eq-eqb n m e)

pub arrays_of_two_counts : (a b x y : Ty) (n m : ℕ) → a ≡ ty.Array x n → b ≡ ty.Array y m → n ≢ m → (n == m) ≡ same_type a b
arrays_of_two_counts a b x y n m p q e = ne_eqb n m e ∙ sym (both_arrays a b x y n m p q ∙ ap (λ r. r && same_type x y) (ne_eqb n m e))

pub both_slices : (a b x y : Ty) → a ≡ ty.Slice x → b ≡ ty.Slice y → same_type a b ≡ same_type x y
both_slices a b x y p q = at_forms a b (Ty-F.Slice x) (Ty-F.Slice y) (ap out-Ty p ∙ ty.outs-Slice x) (ap out-Ty q ∙ ty.outs-Slice y)

pub both_refs : (a b x y : Ty) (m n : Bool) → a ≡ ty.Ref m x → b ≡ ty.Ref n y → same_type a b ≡ (same_bool m n && same_type x y)
both_refs a b x y m n p q = at_forms a b (Ty-F.Ref m x) (Ty-F.Ref n y) (ap out-Ty p ∙ ty.outs-Ref m x) (ap out-Ty q ∙ ty.outs-Ref n y)

pub both_raws : (a b x y : Ty) (m n : Bool) → a ≡ ty.Raw m x → b ≡ ty.Raw n y → same_type a b ≡ (same_bool m n && same_type x y)
both_raws a b x y m n p q = at_forms a b (Ty-F.Raw m x) (Ty-F.Raw n y) (ap out-Ty p ∙ ty.outs-Raw m x) (ap out-Ty q ∙ ty.outs-Raw n y)

pub both_boxes : (a b x y : Ty) → a ≡ ty.BoxOf x → b ≡ ty.BoxOf y → same_type a b ≡ same_type x y
both_boxes a b x y p q = at_forms a b (Ty-F.BoxOf x) (Ty-F.BoxOf y) (ap out-Ty p ∙ ty.outs-BoxOf x) (ap out-Ty q ∙ ty.outs-BoxOf y)

pub both_dyns : (a b : Ty) (p q : List ℕ) → a ≡ ty.Dyn p → b ≡ ty.Dyn q → same_type a b ≡ bytes_eq p q
both_dyns a b p q r s = at_forms a b (Ty-F.Dyn p) (Ty-F.Dyn q) (ap out-Ty r ∙ ty.outs-Dyn p) (ap out-Ty s ∙ ty.outs-Dyn q)

pub both_named : (a b : Ty) (p q : List ℕ) → a ≡ ty.Named p → b ≡ ty.Named q → same_type a b ≡ bytes_eq p q
both_named a b p q r s = at_forms a b (Ty-F.Named p) (Ty-F.Named q) (ap out-Ty r ∙ ty.outs-Named p) (ap out-Ty s ∙ ty.outs-Named q)

-- a test that holds leaves the next one, and one that fails decides
pub and_next : (r b s t : Bool) → r ≡ (b && t) → b ≡ true → s ≡ t → s ≡ r
and_next r b s t e h same = same ∙ sym (e ∙ ap (λ x. x && t) h)

pub and_decided : (r b s t : Bool) → r ≡ (b && t) → b ≡ false → s ≡ b → s ≡ r
and_decided r b s t e h same = same ∙ h ∙ sym (e ∙ ap (λ x. x && t) h)

-- lists of different lengths are not the same, and lists of one length are by their items
pub lengths_differ : (xs ys : List Ty) → length xs ≢ length ys → same_types xs ys ≡ false
lengths_differ [] [] h = absurd (h refl)
lengths_differ [] (y ∷ ys) h = refl
lengths_differ (x ∷ xs) [] h = refl
lengths_differ (x ∷ xs) (y ∷ ys) h = ap (λ r. same_type x y && r) (lengths_differ xs ys (λ e. h (ap suc e))) ∙ and-false (same_type x y)

-- the items at a place and the lists behind it
same_behind : (xs ys : List Ty) (n : ℕ) (x y : Ty) → n < length xs → n < length ys → x ≡ slice_index_or xs n x → y ≡ slice_index_or ys n y
    → same_types (drop n xs) (drop n ys) ≡ (same_type x y && same_types (drop (n + 1) xs) (drop (n + 1) ys))
same_behind xs ys n x y p q e f =
    let next : suc n ≡ n + 1 = omega arith in
    (λ i. same_types (drop-cons xs n x p i) (drop-cons ys n y q i)) ∙ (λ i. same_type (sym e i) (sym f i) && same_types (drop (next i) xs) (drop (next i) ys))

-- a turn of the walk along two lists of one length
pub same_on : (xs ys : List Ty) (n : ℕ) (x y : Ty) → n < length xs → length xs ≡ length ys → x ≡ slice_index_or xs n x → y ≡ slice_index_or ys n y
    → same_types (drop n xs) (drop n ys) ≡ same_types xs ys → same_type x y ≡ true
    → same_types (drop (n + 1) xs) (drop (n + 1) ys) ≡ same_types xs ys
same_on xs ys n x y p l e f h same =
    sym (sym h ∙ same_behind xs ys n x y p (omega arith) e f ∙ ap (λ b. b && same_types (drop (n + 1) xs) (drop (n + 1) ys)) same)

pub same_no_more : (xs ys : List Ty) (n : ℕ) (x y : Ty) → n < length xs → length xs ≡ length ys → x ≡ slice_index_or xs n x → y ≡ slice_index_or ys n y
    → same_types (drop n xs) (drop n ys) ≡ same_types xs ys → same_type x y ≡ false → false ≡ same_types xs ys
same_no_more xs ys n x y p l e f h other =
    sym (sym h ∙ same_behind xs ys n x y p (omega arith) e f ∙ ap (λ b. b && same_types (drop (n + 1) xs) (drop (n + 1) ys)) other)

pub same_to_end : (xs ys : List Ty) (n : ℕ) → length xs ≤ n → length xs ≡ length ys → same_types (drop n xs) (drop n ys) ≡ same_types xs ys → true ≡ same_types xs ys
same_to_end xs ys n p l h = (λ i. same_types (sym (drop_all n xs p) i) (sym (drop_all n ys (omega arith)) i)) ∙ h
