-- The types of locals that are parameters, and when those of two functions are the same.
use Rattle.std.proofs.Common.{◌≡◌, ℕ, zero, suc, ◌+◌, ◌<◌, ◌≤◌, Bool, true, false, ◌&&◌, List, [], ◌∷◌, drop, take, length, refl, ap, sym, ◌∙◌, ◌≢◌, arith}
use Rattle.std.specs.Prelude.{slice_index_or}
use Rattle.std.proofs.Math.Seq.{drop-cons}
use Rattle.std.proofs.lemmas.List.{drop_all}
use Rattle.mir_ir.specs.declared.types.Ty.{Ty, out-Ty}
use Rattle.mir_ir.specs.declared.types.Ty.TheOpen.{Ty-F}
use Rattle.mir_ir.specs.declared.types.Ty.TheVariants as ty
use Rattle.mir_ir.specs.declared.tree.Local.{Local}
use Rattle.type_rules.specs.Calls.{types_of, unit}
use Rattle.type_rules.specs.Types.{same_bool, same_level, same_type, same_types}
use Rattle.type_rules.proofs.SameForms.{both_refs, both_tuples, lengths_differ}
use Rattle.type_rules.proofs.SameTypes.{same_type_out, tests_of}

pub as_many : (xs : List Local) → length (types_of xs) ≡ length xs
as_many [] = refl
as_many (x ∷ xs) = ap suc (as_many xs)

pub types_of_first : (n : ℕ) (xs : List Local) → types_of (take n xs) ≡ take n (types_of xs)
types_of_first zero xs = refl
types_of_first (suc n) [] = refl
types_of_first (suc n) (x ∷ xs) = ap (λ ts. x.ty ∷ ts) (types_of_first n xs)

pub counts_differ : (xs ys : List Local) → length xs ≢ length ys → same_types (types_of xs) (types_of ys) ≡ false
counts_differ xs ys h = lengths_differ (types_of xs) (types_of ys) (λ e. h (sym (as_many xs) ∙ e ∙ as_many ys))

-- the locals at a place and those behind it
behind : (xs ys : List Local) (n : ℕ) (x y : Local) → n < length xs → n < length ys → x ≡ slice_index_or xs n x → y ≡ slice_index_or ys n y
    → same_types (types_of (drop n xs)) (types_of (drop n ys)) ≡ (same_type x.ty y.ty && same_types (types_of (drop (n + 1) xs)) (types_of (drop (n + 1) ys)))
behind xs ys n x y p q e f =
    let next : suc n ≡ n + 1 = omega arith in
    (λ i. same_types (types_of (drop-cons xs n x p i)) (types_of (drop-cons ys n y q i)))
    ∙ (λ i. same_type (sym e i).ty (sym f i).ty && same_types (types_of (drop (next i) xs)) (types_of (drop (next i) ys)))

-- a turn of the walk along two lists of one length
pub same_on : (xs ys : List Local) (n : ℕ) (x y : Local) (all : Bool) → n < length xs → length xs ≡ length ys → x ≡ slice_index_or xs n x → y ≡ slice_index_or ys n y
    → same_types (types_of (drop n xs)) (types_of (drop n ys)) ≡ all → same_type x.ty y.ty ≡ true
    → same_types (types_of (drop (n + 1) xs)) (types_of (drop (n + 1) ys)) ≡ all
same_on xs ys n x y all p l e f h same =
    sym (sym h ∙ behind xs ys n x y p (omega arith) e f ∙ ap (λ b. b && same_types (types_of (drop (n + 1) xs)) (types_of (drop (n + 1) ys))) same)

pub same_no_more : (xs ys : List Local) (n : ℕ) (x y : Local) (all : Bool) → n < length xs → length xs ≡ length ys → x ≡ slice_index_or xs n x → y ≡ slice_index_or ys n y
    → same_types (types_of (drop n xs)) (types_of (drop n ys)) ≡ all → same_type x.ty y.ty ≡ false → false ≡ all
same_no_more xs ys n x y all p l e f h other =
    sym (sym h ∙ behind xs ys n x y p (omega arith) e f ∙ ap (λ b. b && same_types (types_of (drop (n + 1) xs)) (types_of (drop (n + 1) ys))) other)

pub same_to_end : (xs ys : List Local) (n : ℕ) (all : Bool) → length xs ≤ n → length xs ≡ length ys → same_types (types_of (drop n xs)) (types_of (drop n ys)) ≡ all → true ≡ all
same_to_end xs ys n all p l h = (λ i. same_types (types_of (sym (drop_all n xs p) i)) (types_of (sym (drop_all n ys (omega arith)) i))) ∙ h

pub same_as_unit : (t : Ty) → same_type t unit ≡ same_level (tests_of (out-Ty t)) (Ty-F.Tuple [])
same_as_unit t = same_type_out t unit ∙ ap (same_level (tests_of (out-Ty t))) (ty.outs-Tuple [])

pub tuple_as_unit : (t : Ty) (items read : List Ty) (b : Bool) → t ≡ ty.Tuple items → read ≡ items → b ≡ same_types read [] → b ≡ same_type t unit
tuple_as_unit t items read b is same h = h ∙ ap (λ xs. same_types xs []) same ∙ sym (both_tuples t unit items [] is refl)

pub same_as_mut_ref : (t target : Ty) → same_type t (ty.Ref true target) ≡ same_level (tests_of (out-Ty t)) (Ty-F.Ref true target)
same_as_mut_ref t target = same_type_out t (ty.Ref true target) ∙ ap (same_level (tests_of (out-Ty t))) (ty.outs-Ref true target)

-- a reference that is `&mut` is of the target where its own target is, and another is not
pub ref_as_mut_ref : (t target own read : Ty) (m b : Bool) → t ≡ ty.Ref m own → read ≡ own → m ≡ true → b ≡ same_type read target → b ≡ same_type t (ty.Ref true target)
ref_as_mut_ref t target own read m b is same mutable h =
    h ∙ ap (λ x. same_type x target) same
    ∙ sym (both_refs t (ty.Ref true target) own target m true is refl ∙ ap (λ n. same_bool n true && same_type own target) mutable)

pub shared_as_mut_ref : (t target own : Ty) (m : Bool) → t ≡ ty.Ref m own → m ≡ false → false ≡ same_type t (ty.Ref true target)
shared_as_mut_ref t target own m is shared =
    sym (both_refs t (ty.Ref true target) own target m true is refl ∙ ap (λ n. same_bool n true && same_type own target) shared)

pub some_are_not_none : (xs : List Ty) → 1 ≤ length xs → false ≡ same_types xs []
some_are_not_none [] le = absurd (omega arith)
some_are_not_none (x ∷ xs) le = refl
