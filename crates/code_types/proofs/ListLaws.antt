-- Walks along lists of operands: all are typed, and then a test of their types is made.
use Rattle.std.proofs.Common.{◌≡◌, ℕ, zero, suc, ◌+◌, ◌<◌, ◌≤◌, Bool, true, false, ◌&&◌, leb, List, [], ◌∷◌, Ok, Err, drop, length, slice_get, refl, ap, sym, ◌∙◌, arith}
use Rattle.std.specs.Prelude.{slice_index_or, if◌then◌else◌}
use Rattle.std.proofs.Math.Dec.{leb-suc-suc, leb-suc-zero, leb-zero}
use Rattle.std.proofs.Math.Seq.{drop-cons, drop-nil}
use Rattle.std.proofs.lemmas.List.{drop_all}
use Rattle.mir_ir.specs.declared.types.Ty.{Ty}
use Rattle.mir_ir.specs.declared.places.Projection.{Projection}
use Rattle.mir_ir.specs.declared.tree.Function.{Function}
use Rattle.mir_ir.specs.declared.declarations.Declarations.{Declarations}
use Rattle.mir_ir.specs.declared.declarations.FieldDecl.{FieldDecl}
use Rattle.type_rules.specs.declared.refusal.TypeKind.{TypeKind}
use Rattle.type_rules.specs.declared.refusal.TypeKind.TheVariants as kind
use Rattle.type_rules.specs.Refusals.{OrRefused, ◌>>=◌, ◌>>◌, check, each}
use Rattle.type_rules.specs.Lookup.{field_types}
use Rattle.type_rules.specs.Places.{PlaceType, after_steps, stepped}
use Rattle.type_rules.specs.Aggregates.{Given, fields_fit, has_field, not_next, other_fields}
use Rattle.type_rules.specs.Types.{same_type, same_types}
use Rattle.type_rules.specs.Rvalues.{all_of}
use Rattle.code_types.specs.Lists.{has_type, is_next, next_fits}

-- each of a list has a type, and then the test of the types tells
abbrev pub tested : {A B C : Type 0} → (A → OrRefused B) → (List B → C) → List A → OrRefused C
tested typed test os = each typed os >>= λ ts. Ok (test ts)

with_first : {B C : Type 0} (test : List B → C) (b : B) (r : OrRefused (List B)) → ((r >>= λ rest. Ok (b ∷ rest)) >>= λ ts. Ok (test ts)) ≡ (r >>= λ ts. Ok (test (b ∷ ts)))
with_first test b (Ok ts) = refl
with_first test b (Err kind) = refl

module _ {A B C : Type 0} (typed : A → OrRefused B) (test : List B → C) where
  abbrev from : List A → OrRefused B → OrRefused C
  from os r = (r >>= λ first. (each typed os >>= λ rest. Ok (first ∷ rest))) >>= λ ts. Ok (test ts)

  first_at : (os : List A) (n : ℕ) (o : A) → n < length os → o ≡ slice_index_or os n o → tested typed test (drop n os) ≡ from (drop (n + 1) os) (typed o)
  first_at os n o lt is =
      let next : suc n ≡ n + 1 = omega arith in
      ap (tested typed test) (drop-cons os n o lt) ∙ (λ i. from (drop (next i) os) (typed (sym is i)))

  -- an operand that has a type leaves the others
  pub typed_at : (later : List B → C) (os : List A) (n : ℕ) (o : A) (b : B) (all : OrRefused C) → n < length os → o ≡ slice_index_or os n o → Ok b ≡ typed o
      → ((ts : List B) → test (b ∷ ts) ≡ later ts)
      → tested typed test (drop n os) ≡ all → tested typed later (drop (n + 1) os) ≡ all
  typed_at later os n o b all lt is has tells h =
      sym (sym h ∙ first_at os n o lt is ∙ ap (from (drop (n + 1) os)) (sym has) ∙ with_first test b (each typed (drop (n + 1) os))
      ∙ (λ i. each typed (drop (n + 1) os) >>= λ ts. Ok (tells ts i)))

  -- one that is refused decides
  pub refused_at : (os : List A) (n : ℕ) (o : A) (why : TypeKind) (all : OrRefused C) → n < length os → o ≡ slice_index_or os n o → Err why ≡ typed o
      → tested typed test (drop n os) ≡ all → Err why ≡ all
  refused_at os n o why all lt is refused h = sym (sym h ∙ first_at os n o lt is ∙ ap (from (drop (n + 1) os)) (sym refused))

  -- where all have types, the test tells
  pub typed_end : (os : List A) (n : ℕ) (all : OrRefused C) → length os ≤ n → tested typed test (drop n os) ≡ all → Ok (test []) ≡ all
  typed_end os n all le h = ap (tested typed test) (sym (drop_all n os le)) ∙ h

pub and_assoc : (a b c : Bool) → (a && (b && c)) ≡ ((a && b) && c)
and_assoc true b c = refl
and_assoc false b c = refl

same_first : (wanted : List Ty) (n : ℕ) (t : Ty) (ts : List Ty) → same_types (t ∷ ts) (drop n wanted) ≡ (has_type t (slice_get wanted n) && same_types ts (drop (n + 1) wanted))
same_first [] zero t ts = refl
same_first [] (suc n) t ts = refl
same_first (w ∷ ws) zero t ts = refl
same_first (w ∷ ws) (suc n) t ts =
    let next : suc n + 1 ≡ suc (n + 1) = omega arith in
    same_first ws n t ts ∙ ap (λ k. has_type t (slice_get ws n) && same_types ts (drop k (w ∷ ws))) (sym next)

-- the types from a place on, with the first of them compared
pub same_more : (wanted : List Ty) (n : ℕ) (t : Ty) (b c r : Bool) → c ≡ has_type t (slice_get wanted n) → r ≡ (b && c) → (ts : List Ty)
    → (b && same_types (t ∷ ts) (drop n wanted)) ≡ (r && same_types ts (drop (n + 1) wanted))
same_more wanted n t b c r is made ts =
    ap (λ s. b && s) (same_first wanted n t ts ∙ ap (λ s. s && same_types ts (drop (n + 1) wanted)) (sym is))
    ∙ and_assoc b c (same_types ts (drop (n + 1) wanted)) ∙ ap (λ s. s && same_types ts (drop (n + 1) wanted)) (sym made)

-- no types are left where the place is past the last
pub same_end : (wanted : List Ty) (n : ℕ) → same_types [] (drop n wanted) ≡ leb (length wanted) n
same_end [] n = ap (same_types []) (drop-nil n) ∙ sym (leb-zero n)
same_end (w ∷ ws) zero = sym (leb-suc-zero (length ws))
same_end (w ∷ ws) (suc n) = same_end ws n ∙ sym (leb-suc-suc (length ws) n)

pub all_more : (item t : Ty) (b c r : Bool) → c ≡ same_type t item → r ≡ (b && c) → (ts : List Ty) → (b && all_of item (t ∷ ts)) ≡ (r && all_of item ts)
all_more item t b c r is made ts =
    ap (λ s. b && (s && all_of item ts)) (sym is) ∙ and_assoc b c (all_of item ts) ∙ ap (λ s. s && all_of item ts) (sym made)

-- a field is given, and the rest against those that are left
fit_first : (fields : List FieldDecl) (left : List FieldDecl) (g : Given) (more : List Given) (fits : OrRefused (Unit {0}))
    → (fits >> fields_fit fields left (g ∷ more)) ≡ (next_fits fits fields left g.name g.ty >> fields_fit fields (other_fields left) more)
fit_first fields left g more (Err why) = refl
fit_first fields left g more (Ok _) = by (is_next left g.name g.ty)
  where
    by : (b : Bool) → (if b then fields_fit fields (other_fields left) more else not_next fields g.name) ≡ ((if b then Ok tt else not_next fields g.name) >> fields_fit fields (other_fields left) more)
    by true = refl
    by false = refused_after (has_field fields g.name)
      where
        refused_after : (b : Bool) → (if b then Err kind.Mismatch else Err kind.UnknownName) ≡ ((if b then Err kind.Mismatch else Err kind.UnknownName) >> fields_fit fields (other_fields left) more)
        refused_after true = refl
        refused_after false = refl

others_at : (fields : List FieldDecl) (n : ℕ) → other_fields (drop n fields) ≡ drop (n + 1) fields
others_at [] zero = refl
others_at [] (suc n) = sym (drop-nil (suc n + 1))
others_at (x ∷ xs) zero = refl
others_at (x ∷ xs) (suc n) =
    let next : suc (n + 1) ≡ suc n + 1 = omega arith in
    others_at xs n ∙ ap (λ k. drop k (x ∷ xs)) next

-- the fields from a place on, with the first of them compared
pub fit_more : (fields : List FieldDecl) (n : ℕ) (name : List ℕ) (t : Ty) (fits next : OrRefused (Unit {0})) → next ≡ next_fits fits fields (drop n fields) name t → (more : List Given)
    → (fits >> fields_fit fields (drop n fields) (record { name = name; ty = t } ∷ more)) ≡ (next >> fields_fit fields (drop (n + 1) fields) more)
fit_more fields n name t fits next made more =
    fit_first fields (drop n fields) (record { name = name; ty = t }) more fits
    ∙ (λ i. sym made i >> fields_fit fields (others_at fields n i) more)

-- no field is left out where the place is past the last
pub fit_end : (fields : List FieldDecl) (n : ℕ) → fields_fit fields (drop n fields) [] ≡ check (leb (length fields) n) kind.Mismatch
fit_end fields n = at fields n
  where
    at : (left : List FieldDecl) (k : ℕ) → fields_fit fields (drop k left) [] ≡ check (leb (length left) k) kind.Mismatch
    at [] k = ap (λ left. fields_fit fields left []) (drop-nil k) ∙ ap (λ b. check b kind.Mismatch) (sym (leb-zero k))
    at (x ∷ xs) zero = ap (λ b. check b kind.Mismatch) (sym (leb-suc-zero (length xs)))
    at (x ∷ xs) (suc k) = at xs k ∙ ap (λ b. check b kind.Mismatch) (sym (leb-suc-suc (length xs) k))

pub as_many_types : (fields : List FieldDecl) → length (field_types fields) ≡ length fields
as_many_types [] = refl
as_many_types (f ∷ fs) = ap suc (as_many_types fs)

and_true : (b : Bool) → b ≡ (b && true)
and_true true = refl
and_true false = refl

-- a test that holds of no types says what was found so far
pub tested_true : {A B : Type 0} (typed : A → OrRefused B) (test : List B → Bool) (b : Bool) (os : List A) (n : ℕ) (all : OrRefused Bool) → test [] ≡ true → length os ≤ n
    → tested typed (λ ts. b && test ts) (drop n os) ≡ all → Ok b ≡ all
tested_true typed test b os n all none le h =
    ap (λ r. Ok r) (and_true b ∙ ap (λ r. b && r) (sym none)) ∙ typed_end typed (λ ts. b && test ts) os n all le h

-- ---- the steps of a place

module _ (d : Declarations) (f : Function) where
  abbrev on : List Projection → OrRefused PlaceType → OrRefused PlaceType
  on steps r = r >>= λ q. after_steps d f q steps

  step_at : (p : PlaceType) (steps : List Projection) (n : ℕ) (s : Projection) → n < length steps → s ≡ slice_index_or steps n s
      → after_steps d f p (drop n steps) ≡ on (drop (n + 1) steps) (stepped d f p s)
  step_at p steps n s lt is =
      let next : suc n ≡ n + 1 = omega arith in
      ap (after_steps d f p) (drop-cons steps n s lt) ∙ (λ i. on (drop (next i) steps) (stepped d f p (sym is i)))

  -- a step that is taken leaves the others
  pub step_taken : (p q : PlaceType) (steps : List Projection) (n : ℕ) (s : Projection) (all : OrRefused PlaceType) → n < length steps → s ≡ slice_index_or steps n s → Ok q ≡ stepped d f p s
      → after_steps d f p (drop n steps) ≡ all → after_steps d f q (drop (n + 1) steps) ≡ all
  step_taken p q steps n s all lt is has h = sym (sym h ∙ step_at p steps n s lt is ∙ ap (on (drop (n + 1) steps)) (sym has))

  -- one that is refused decides
  pub step_refused : (p : PlaceType) (steps : List Projection) (n : ℕ) (s : Projection) (why : TypeKind) (all : OrRefused PlaceType) → n < length steps → s ≡ slice_index_or steps n s → Err why ≡ stepped d f p s
      → after_steps d f p (drop n steps) ≡ all → Err why ≡ all
  step_refused p steps n s why all lt is refused h = sym (sym h ∙ step_at p steps n s lt is ∙ ap (on (drop (n + 1) steps)) (sym refused))

  -- where all are taken, the place is reached
  pub steps_end : (p : PlaceType) (steps : List Projection) (n : ℕ) (all : OrRefused PlaceType) → length steps ≤ n → after_steps d f p (drop n steps) ≡ all → Ok p ≡ all
  steps_end p steps n all le h = ap (after_steps d f p) (sym (drop_all n steps le)) ∙ h
