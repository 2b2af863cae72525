-- Operands against the parts of array and tuple types.
use Rattle.std.proofs.Common.{◌≡◌, ◌≤◌, ℕ, zero, suc, arith, Bool, true, false, ◌&&◌, ◌==◌, List, [], ◌∷◌, Option, Some, None, Ok, Err, map, length, slice_get, refl, ap, sym, ◌∙◌}
use Rattle.std.specs.Prelude.{option_map}
use Rattle.mir_ir.specs.declared.types.Ty.{Ty, out-Ty}
use Rattle.mir_ir.specs.declared.types.Ty.TheOpen.{Ty-F}
use Rattle.mir_ir.specs.declared.types.Ty.TheVariants as ty
use Rattle.mir_ir.specs.declared.declarations.FieldDecl.{FieldDecl}
use Rattle.type_rules.specs.declared.refusal.TypeKind.TheVariants as kind
use Rattle.type_rules.specs.Refusals.{OrRefused, ◌>>=◌, ◌>>◌, check, each}
use Rattle.type_rules.specs.Lookup.{field_types}
use Rattle.type_rules.specs.Types.{same_level, same_type, same_types}
use Rattle.type_rules.specs.Rvalues.{all_of, are_items, array_type}
use Rattle.type_rules.proofs.SameTypes.{all_hold_of, same_array_type, same_tuple_type}
use Rattle.code_types.specs.Forms.{ArrayType, array_form, is_array, is_tuple, tuple_form}
use Rattle.code_types.specs.Lists.{has_type}

-- ---- the types of fields

type_of_field : (fields : List FieldDecl) (n : ℕ) → slice_get (field_types fields) n ≡ option_map (λ f. f.ty) (slice_get fields n)
type_of_field [] zero = refl
type_of_field [] (suc n) = refl
type_of_field (f ∷ fs) zero = refl
type_of_field (f ∷ fs) (suc n) = type_of_field fs n

pub field_has : (t : Ty) (fields : List FieldDecl) (n : ℕ) (found : Option FieldDecl) (r : Bool) → found ≡ slice_get fields n → r ≡ has_type t (option_map (λ f. f.ty) found)
    → r ≡ has_type t (slice_get (field_types fields) n)
field_has t fields n found r at h = h ∙ ap (λ o. has_type t (option_map (λ f. f.ty) o)) at ∙ ap (has_type t) (sym (type_of_field fields n))

pub some_given : (fields : List FieldDecl) → 1 ≤ length fields → false ≡ same_types [] (field_types fields)
some_given [] le = absurd (omega arith)
some_given (f ∷ fs) le = refl

-- ---- tuples

tuple_level : (ts : List Ty) (x : Ty-F Ty) → same_level (Ty-F.Tuple (map same_type ts)) x ≡ is_tuple ts (tuple_form x)
tuple_level ts (Ty-F.Tuple items) = all_hold_of ts items
tuple_level ts Ty-F.Bool = refl
tuple_level ts Ty-F.Char = refl
tuple_level ts (Ty-F.Int i) = refl
tuple_level ts Ty-F.Never = refl
tuple_level ts Ty-F.Str = refl
tuple_level ts (Ty-F.Array item n) = refl
tuple_level ts (Ty-F.Slice item) = refl
tuple_level ts (Ty-F.Ref m target) = refl
tuple_level ts (Ty-F.Raw m target) = refl
tuple_level ts (Ty-F.BoxOf target) = refl
tuple_level ts (Ty-F.Dyn path) = refl
tuple_level ts (Ty-F.Named path) = refl

tuple_is : (ts : List Ty) (to : Ty) (items : Option (List Ty)) → items ≡ tuple_form (out-Ty to) → same_type (ty.Tuple ts) to ≡ is_tuple ts items
tuple_is ts to items is = same_tuple_type ts to ∙ tuple_level ts (out-Ty to) ∙ ap (is_tuple ts) (sym is)

abbrev tuple_against : OrRefused (List Ty) → Ty → OrRefused (Unit {0})
tuple_against typed to = (typed >>= λ ts. Ok (ty.Tuple ts)) >>= λ t. check (same_type t to) kind.Mismatch

-- operands are compared with the items of a tuple
pub tuple_written : (typed : OrRefused (List Ty)) (to : Ty) (items : List Ty) (same : Bool) (done : OrRefused (Unit {0})) → Some items ≡ tuple_form (out-Ty to)
    → Ok same ≡ (typed >>= λ ts. Ok (same_types ts items)) → done ≡ check same kind.Mismatch → done ≡ tuple_against typed to
tuple_written (Ok ts) to items same done is tells made =
    let told : same ≡ same_types ts items = cc in
    made ∙ ap (λ b. check b kind.Mismatch) (told ∙ sym (tuple_is ts to (Some items) is))
tuple_written (Err why) to items same done is tells made = absurd (cc)

-- and refused where there is none
pub no_tuple_written : (typed : OrRefused (List Ty)) (to : Ty) (u : Unit {0}) → None ≡ tuple_form (out-Ty to)
    → Ok u ≡ (typed >>= λ ts. Ok tt) → Err kind.Mismatch ≡ tuple_against typed to
no_tuple_written (Ok ts) to u is tells = ap (λ b. check b kind.Mismatch) (sym (tuple_is ts to None is))
no_tuple_written (Err why) to u is tells = absurd (cc)

-- ---- arrays

array_level : (t : Ty) (n : ℕ) (x : Ty-F Ty) → same_level (Ty-F.Array (same_type t) n) x ≡ is_array t n (array_form x)
array_level t n (Ty-F.Array item m) = refl
array_level t n (Ty-F.Tuple items) = refl
array_level t n Ty-F.Bool = refl
array_level t n Ty-F.Char = refl
array_level t n (Ty-F.Int i) = refl
array_level t n Ty-F.Never = refl
array_level t n Ty-F.Str = refl
array_level t n (Ty-F.Slice item) = refl
array_level t n (Ty-F.Ref m target) = refl
array_level t n (Ty-F.Raw m target) = refl
array_level t n (Ty-F.BoxOf target) = refl
array_level t n (Ty-F.Dyn path) = refl
array_level t n (Ty-F.Named path) = refl

array_is : (t : Ty) (n : ℕ) (to : Ty) (array : Option ArrayType) → array ≡ array_form (out-Ty to) → same_type (ty.Array t n) to ≡ is_array t n array
array_is t n to array is = same_array_type t n to ∙ array_level t n (out-Ty to) ∙ ap (is_array t n) (sym is)

abbrev repeat_against : OrRefused Ty → ℕ → Ty → OrRefused (Unit {0})
repeat_against typed n to = (typed >>= λ t. Ok (ty.Array t n)) >>= λ t. check (same_type t to) kind.Mismatch

-- one operand, so many times, is compared with the items of an array
pub repeat_written : (typed : OrRefused Ty) (n : ℕ) (to : Ty) (t : Ty) (array : Option ArrayType) (done : OrRefused (Unit {0})) → array ≡ array_form (out-Ty to)
    → Ok t ≡ typed → done ≡ check (is_array t n array) kind.Mismatch → done ≡ repeat_against typed n to
repeat_written typed n to t array done is has made =
    made ∙ ap (λ b. check b kind.Mismatch) (sym (array_is t n to array is)) ∙ ap (λ r. repeat_against r n to) has

abbrev are_of : List Ty → Option ArrayType → Bool
are_of ts None = false
are_of ts (Some a) = a.count == length ts && all_of a.item ts

items_level : (ts : List Ty) (x : Ty-F Ty) → are_items x ts ≡ are_of ts (array_form x)
items_level ts (Ty-F.Array item m) = refl
items_level ts (Ty-F.Tuple items) = refl
items_level ts Ty-F.Bool = refl
items_level ts Ty-F.Char = refl
items_level ts (Ty-F.Int i) = refl
items_level ts Ty-F.Never = refl
items_level ts Ty-F.Str = refl
items_level ts (Ty-F.Slice item) = refl
items_level ts (Ty-F.Ref m target) = refl
items_level ts (Ty-F.Raw m target) = refl
items_level ts (Ty-F.BoxOf target) = refl
items_level ts (Ty-F.Dyn path) = refl
items_level ts (Ty-F.Named path) = refl

abbrev both_of : OrRefused Ty → OrRefused (List Ty) → OrRefused (List Ty)
both_of a rest = a >>= λ t. (rest >>= λ more. Ok (t ∷ more))

many_more : (a : OrRefused Ty) (rest : OrRefused (List Ty)) (n : ℕ) (ts : List Ty) → ((more : List Ty) → rest ≡ Ok more → length more ≡ n) → both_of a rest ≡ Ok ts → length ts ≡ suc n
many_more (Err why) rest n ts later e = absurd (cc)
many_more (Ok t) (Err why) n ts later e = absurd (cc)
many_more (Ok t) (Ok more) n ts later e =
    let whole : t ∷ more ≡ ts = cc in
    ap length (sym whole) ∙ ap suc (later more refl)

-- as many are typed as there are
as_many : {A : Type 0} (typed : A → OrRefused Ty) (os : List A) (ts : List Ty) → each typed os ≡ Ok ts → length ts ≡ length os
as_many typed [] [] h = refl
as_many typed [] (t ∷ ts) h = absurd (cc)
as_many typed (o ∷ os) ts h = many_more (typed o) (each typed os) (length os) ts (as_many typed os) h

abbrev items_against : OrRefused (List Ty) → Ty → OrRefused (Unit {0})
items_against typed to = (typed >>= λ ts. array_type to ts) >>= λ t. Ok tt

checked_twice : (b : Bool) (to : Ty) → check b kind.Mismatch ≡ ((check b kind.Mismatch >> Ok to) >>= λ t. Ok tt)
checked_twice true to = refl
checked_twice false to = refl

items_typed : (typed : OrRefused (List Ty)) (to : Ty) (a : ArrayType) (count : ℕ) (same : Bool) (done : OrRefused (Unit {0})) → Some a ≡ array_form (out-Ty to)
    → ((ts : List Ty) → typed ≡ Ok ts → length ts ≡ count)
    → Ok same ≡ (typed >>= λ ts. Ok (all_of a.item ts)) → done ≡ check (a.count == count && same) kind.Mismatch → done ≡ items_against typed to
items_typed (Ok ts) to a count same done is many tells made =
    let told : same ≡ all_of a.item ts = cc in
    made ∙ (λ i. check (a.count == sym (many ts refl) i && told i) kind.Mismatch)
    ∙ ap (λ b. check b kind.Mismatch) (sym (items_level ts (out-Ty to) ∙ ap (are_of ts) (sym is)))
    ∙ checked_twice (are_items (out-Ty to) ts) to
items_typed (Err why) to a count same done is many tells made = absurd (cc)

-- operands in brackets are compared with the items of an array
pub array_written : {A : Type 0} (typed : A → OrRefused Ty) (os : List A) (to : Ty) (a : ArrayType) (same : Bool) (done : OrRefused (Unit {0})) → Some a ≡ array_form (out-Ty to)
    → Ok same ≡ (each typed os >>= λ ts. Ok (all_of a.item ts)) → done ≡ check (a.count == length os && same) kind.Mismatch → done ≡ items_against (each typed os) to
array_written typed os to a same done is tells made = items_typed (each typed os) to a (length os) same done is (as_many typed os) tells made

-- and refused where there is none
pub no_array_written : (typed : OrRefused (List Ty)) (to : Ty) (u : Unit {0}) → None ≡ array_form (out-Ty to)
    → Ok u ≡ (typed >>= λ ts. Ok tt) → Err kind.Mismatch ≡ items_against typed to
no_array_written (Ok ts) to u is tells =
    ap (λ b. (check b kind.Mismatch >> Ok to) >>= λ t. Ok tt) (sym (items_level ts (out-Ty to) ∙ ap (are_of ts) (sym is)))
no_array_written (Err why) to u is tells = absurd (cc)
