-- The marks after as many rounds as there are declared types tell which types are plain.
use Rattle.std.proofs.Common.{◌≡◌, ℕ, zero, suc, ◌+◌, ◌-◌, ◌<◌, ◌≤◌, Bool, true, false, cond, List, [], ◌∷◌, ◌++◌, Option, Some, None, map, take, length, get_or, slice_get, ltb, refl, ap, sym, ◌∙◌, arith}
use Rattle.std.specs.Prelude.{find, slice_index_or}
use Rattle.std.specs.List.{position_from, position_or_len}
use Rattle.std.proofs.lemmas.List.{map_more, take_all}
use Rattle.std.proofs.lemmas.List.Folds.{find_at}
use Rattle.std.proofs.lemmas.Option.{slice_get_past}
use Rattle.std.proofs.lemmas.Iterator.Adapters.{position_from-zero}
use Rattle.std.proofs.lemmas.Bool.{ltb-false}
use Rattle.mir_ir.specs.declared.types.Ty.{Ty}
use Rattle.mir_ir.specs.declared.types.Ty.TheFolds.{fold-Ty}
use Rattle.mir_ir.specs.declared.declarations.Declarations.{Declarations}
use Rattle.mir_ir.specs.declared.declarations.TypeDecl.{TypeDecl}
use Rattle.type_rules.specs.Lookup.{is_name, path_of, type_named}
use Rattle.type_rules.specs.Plain.{declared_plain, is_plain, plain_level, plain_within}
use Rattle.name_tables.specs.Plain.{mark_at, mark_of, marks_after, next_marks, own_plain, plain_by, plain_marks}

module _ {X : Type 0} (f : X → Bool) where
  abbrev of_found : Option X → Bool
  of_found None = false
  of_found (Some x) = f x

  reads : (xs : List X) (k : ℕ) → get_or (map f xs) k false ≡ of_found (slice_get xs k)
  reads [] k = refl
  reads (x ∷ xs) zero = refl
  reads (x ∷ xs) (suc k) = reads xs k

  chosen : (b : Bool) (xs : List X) (k : ℕ) → ltb k (length xs) ≡ b → mark_at (map f xs) (cond b (Some k) None) ≡ of_found (slice_get xs k)
  chosen true xs k e = reads xs k
  chosen false xs k e = ap of_found (sym (slice_get_past xs k (ltb-false k (length xs) e)))

  -- the mark of the first that passes is its own
  marked : (test : X → Bool) (xs : List X) → mark_at (map f xs) (position_from test 0 xs) ≡ of_found (find test xs)
  marked test xs =
      let k = position_or_len test xs in
      ap (mark_at (map f xs)) (sym (position_from-zero test xs)) ∙ chosen (ltb k (length xs)) xs k refl ∙ ap of_found (sym (find_at test xs))

none_found : {X : Type 0} (o : Option X) → of_found (λ x. false) o ≡ false
none_found None = refl
none_found (Some x) = refl

as_declared : (test : Ty → Bool) (o : Option TypeDecl) → of_found (own_plain test) o ≡ declared_plain test o
as_declared test None = refl
as_declared test (Some own) = refl

unmarked : (d : Declarations) (path : List ℕ) → mark_of d.types (marks_after d.types zero) path ≡ false
unmarked d path = marked (λ own. false) (λ own. is_name path (path_of own.name)) d.types ∙ none_found (type_named d path)

marked_named : (d : Declarations) (n : ℕ) (path : List ℕ) → ((t : Ty) → plain_by d.types (marks_after d.types n) t ≡ plain_within n d t)
    → mark_of d.types (marks_after d.types (suc n)) path ≡ declared_plain (plain_within n d) (type_named d path)
marked_named d n path h =
    marked (own_plain (plain_by d.types (marks_after d.types n))) (λ own. is_name path (path_of own.name)) d.types
    ∙ as_declared (plain_by d.types (marks_after d.types n)) (type_named d path)
    ∙ (λ i. declared_plain (λ t. h t i) (type_named d path))

plain_after : (d : Declarations) (n : ℕ) (t : Ty) → plain_by d.types (marks_after d.types n) t ≡ plain_within n d t
unfolding plain_by
plain_after d zero t = λ i. fold-Ty Bool (plain_level (λ path. unmarked d path i)) t
plain_after d (suc n) t = λ i. fold-Ty Bool (plain_level (λ path. marked_named d n path (plain_after d n) i)) t

pub plain_by_marks : (d : Declarations) (t : Ty) → plain_by d.types (plain_marks d.types) t ≡ is_plain d t
unfolding plain_marks is_plain
plain_by_marks d t = plain_after d (length d.types) t

stays : (types : List TypeDecl) (m k n : ℕ) → n ≡ m + k → next_marks types (marks_after types k) ≡ marks_after types k → marks_after types n ≡ marks_after types k
stays types zero k n e h = let same : n ≡ k = omega arith in ap (marks_after types) same
stays types (suc m) k n e h =
    let next : n ≡ suc (m + k) = omega arith in
    ap (marks_after types) next ∙ ap (next_marks types) (stays types m k (m + k) refl h) ∙ h

-- a round that changes nothing is the last that is wanted
pub marks_stay : (types : List TypeDecl) (marks old next seen : List Bool) (k : ℕ) → k ≤ length types → marks ≡ marks_after types k → old ≡ marks → next ≡ next_marks types old → seen ≡ next → seen ≡ old
    → marks ≡ plain_marks types
unfolding plain_marks
marks_stay types marks old next seen k le at is made read same =
    at ∙ sym (stays types (length types - k) k (length types) (omega arith)
    (ap (next_marks types) (sym (is ∙ at)) ∙ sym made ∙ sym read ∙ same ∙ is ∙ at))

pub marks_next : (types : List TypeDecl) (marks old next : List Bool) (k n : ℕ) → n ≡ k + 1 → marks ≡ marks_after types k → old ≡ marks → next ≡ next_marks types old → next ≡ marks_after types n
marks_next types marks old next k n e at is made =
    let more : suc k ≡ n = omega arith in
    made ∙ ap (next_marks types) (is ∙ at) ∙ ap (marks_after types) more

pub marks_end : (types : List TypeDecl) (marks : List Bool) (k : ℕ) → k ≡ length types → marks ≡ marks_after types k → marks ≡ plain_marks types
unfolding plain_marks
marks_end types marks k all at = at ∙ ap (marks_after types) all

-- marks of one round, as far as they are made
pub marks_more : (f : TypeDecl → Bool) (types : List TypeDecl) (n : ℕ) (own : TypeDecl) (r : Bool) (old new : List Bool) → n < length types → own ≡ slice_index_or types n own → r ≡ f own
    → new ≡ old ++ r ∷ [] → old ≡ map f (take n types) → new ≡ map f (take (n + 1) types)
marks_more f types n own r old new lt is tells made h = made ∙ (λ i. h i ++ (tells ∙ ap f is) i ∷ []) ∙ sym (map_more f types n own lt)

pub marks_made : (f : TypeDecl → Bool) (types all : List TypeDecl) (n : ℕ) (marks : List Bool) → all ≡ types → length all ≤ n → marks ≡ map f (take n all) → marks ≡ map f types
marks_made f types all n marks same le h = h ∙ ap (map f) (take_all n all le ∙ same)

none_more : (types : List TypeDecl) (n : ℕ) → n < length types → map (λ own. false) (take n types) ++ false ∷ [] ≡ map (λ own. false) (take (n + 1) types)
none_more [] n lt = absurd (omega arith)
none_more (x ∷ xs) n lt = sym (map_more (λ own. false) (x ∷ xs) n x lt)

pub no_mark_more : (types : List TypeDecl) (n : ℕ) (old new : List Bool) → n < length types → new ≡ old ++ false ∷ [] → old ≡ map (λ own. false) (take n types)
    → new ≡ map (λ own. false) (take (n + 1) types)
no_mark_more types n old new lt made h = made ∙ (λ i. h i ++ false ∷ []) ∙ none_more types n lt

-- the marks that are kept beside the declarations tell it
pub told_by_marks : (d e : Declarations) (types : List TypeDecl) (plain marks : List Bool) (t : Ty) (r : Bool) → d ≡ e → types ≡ d.types → plain ≡ plain_marks d.types → marks ≡ plain
    → r ≡ plain_by types marks t → r ≡ is_plain e t
told_by_marks d e types plain marks t r same are kept read h =
    h ∙ (λ i. plain_by (are i) ((read ∙ kept) i) t) ∙ plain_by_marks d t ∙ ap (λ x. is_plain x t) same
