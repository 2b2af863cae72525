-- Types under their numbers: a type that is put gets one if it has none, and there are no more of them than are written.
use Rattle.std.proofs.Common.{◌≡◌, ℕ, zero, suc, ◌+◌, ◌<◌, ◌≤◌, Bool, true, false, true≢false, cond, ◌||◌, List, [], ◌∷◌, ◌++◌, Option, Some, None, drop, length, get_or, refl, ap, sym, ◌∙◌, arith, length-append}
use Rattle.std.specs.Prelude.{slice_get}
use Rattle.std.specs.List.{list_any}
use Rattle.std.proofs.Math.Seq.{drop-cons}
use Rattle.std.specs.Borrow.{Bor}
use Rattle.mir_ir.specs.declared.types.Ty.{Ty}
use Rattle.mir_program.specs.Apart.{IsCountable}
use Rattle.mir_program.specs.Joined.{IsProgram, Joined, all_written}
use Rattle.program_types.specs.Inside.{types_now}
use Rattle.program_types.specs.Mentioned.{types_written}
use Rattle.program_types.proofs.CountLaws.{written_counted}
use Rattle.type_rules.specs.Types.{same_type}
use Rattle.typed_program.specs.Numbers.{IsPlaceOf, scalar_types, types_of, with_type, with_types}
use Rattle.typed_program.proofs.SameLaws.{same_exact, same_own}

-- ---- one type

absent_by : (t u : Ty) (more : Bool) (b : Bool) → same_type t u ≡ b → (t ≡ u → ⊥) → more ≡ false → (b || more) ≡ false
absent_by t u more true is other later = absurd (other (same_exact t u is))
absent_by t u more false is other later = later

-- a type that stands at no place passes no test
absent : (types : List Ty) (t : Ty) → ((k : ℕ) → slice_get types k ≡ Some t → ⊥) → list_any (same_type t) types ≡ false
absent [] t none = refl
absent (u ∷ us) t none =
    absent_by t u (list_any (same_type t) us) (same_type t u) refl (λ e. none 0 (ap (λ v. Some v) (sym e))) (absent us t (λ k there. none (suc k) there))

or_later : (b more : Bool) → more ≡ true → (b || more) ≡ true
or_later true more h = refl
or_later false more h = h

present : (types : List Ty) (t : Ty) (k : ℕ) → slice_get types k ≡ Some t → list_any (same_type t) types ≡ true
present [] t k there = absurd (true≢false (sym (ap (λ (o : Option Ty). elim o [ Some z ↦ true | None ↦ false ]) there)))
present (u ∷ us) t zero there =
    let own : same_type t u ≡ true = ap (same_type t) (ap (λ (o : Option Ty). elim o [ Some z ↦ z | None ↦ t ]) there) ∙ same_own t in
    ap (λ b. b || list_any (same_type t) us) own
present (u ∷ us) t (suc k) there = or_later (same_type t u) (list_any (same_type t) us) (present us t k there)

pub type_put : (old new : List Ty) (t copy : Ty) → IsPlaceOf old t None → copy ≡ t → new ≡ old ++ copy ∷ [] → new ≡ with_type old t
unfolding with_type
type_put old new t copy none same is =
    is ∙ ap (λ u. old ++ u ∷ []) same ∙ sym (ap (λ b. cond b old (old ++ t ∷ [])) (absent old t none))

pub type_left : (old : List Ty) (t : Ty) (n : ℕ) → IsPlaceOf old t (Some n) → old ≡ with_type old t
unfolding with_type
type_left old t n at = sym (ap (λ b. cond b old (old ++ t ∷ [])) (present old t n at))

-- ---- many types

types_behind : (types a b : List Ty) → with_types types (a ++ b) ≡ with_types (with_types types a) b
types_behind types [] b = refl
types_behind types (t ∷ a) b = types_behind (with_type types t) a b

pub all_put : (none first second written : List Ty) → none ≡ [] → first ≡ with_types none scalar_types → second ≡ with_types first written → second ≡ with_types [] (scalar_types ++ written)
all_put none first second written n p q =
    q ∙ ap (λ types. with_types types written) (p ∙ ap (λ types. with_types types scalar_types) n) ∙ sym (types_behind [] scalar_types written)

now_at : (refs : List (Bor Ty)) (i : ℕ) (r : Bor Ty) → i < length refs → r ≡ get_or refs i r → types_now (drop i refs) ≡ r.now ∷ types_now (drop (i + 1) refs)
now_at refs i r lt is =
    let more : suc i ≡ i + 1 = omega arith in
    ap types_now (drop-cons refs i r lt) ∙ (λ j. (sym is j).now ∷ types_now (drop (more j) refs))

-- one more of the types that are lent
pub next_put : (refs : List (Bor Ty)) (i : ℕ) (r : Bor Ty) (old new all : List Ty) → i < length refs → r ≡ get_or refs i r → new ≡ with_type old r.now
    → with_types old (types_now (drop i refs)) ≡ all → with_types new (types_now (drop (i + 1) refs)) ≡ all
next_put refs i r old new all lt is made h =
    ap (λ types. with_types types (types_now (drop (i + 1) refs))) made ∙ sym (ap (with_types old) (now_at refs i r lt is)) ∙ h

-- ---- their count

with_type_long : (types : List Ty) (t : Ty) → length (with_type types t) ≤ length types + 1
unfolding with_type
with_type_long types t = by (list_any (same_type t) types)
  where
    by : (b : Bool) → length (cond b types (types ++ t ∷ [])) ≤ length types + 1
    by true = omega arith
    by false = omega (arith, length-append types (t ∷ []))

with_types_long : (types more : List Ty) → length (with_types types more) ≤ length types + length more
with_types_long types [] = omega arith
with_types_long types (t ∷ more) = omega (arith, with_types_long (with_type types t) more, with_type_long types t)

types_long : (p : Joined) → length (types_of p) ≤ length (all_written p)
unfolding types_of
types_long p = omega (arith, with_types_long [] (scalar_types ++ types_written p), length-append scalar_types (types_written p), written_counted p)

pub types_countable : (p : Joined) → IsProgram p → IsCountable (types_of p)
types_countable p is = record { counted = omega (arith, types_long p, is.types.counted) }
