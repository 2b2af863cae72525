-- The units of a well-typed program name its functions, and what their reports say of them.
use Rattle.std.proofs.Common.{◌≡◌, ℕ, zero, suc, ◌+◌, ◌-◌, ◌<◌, ◌≤◌, Bool, true, false, ◌&&◌, cond, List, [], ◌∷◌, ◌++◌, length, get_or, take, drop, Option, Some, None, IsSome, Result, Ok, Err, find, All, MatchOption, ap, subst, sym, ◌∙◌, refl, arith, rules, append_assoc}
use Rattle.std.proofs.lemmas.List.Elements.{All-cons}
use Rattle.std.proofs.Math.Seq.{take-length}
use Rattle.std.proofs.lemmas.List.{append-nil}
use Rattle.std.specs.Prelude.{◌↔◌, IsTrue}
use Rattle.std.proofs.lemmas.Bool.{false≢true}
use Rattle.std.proofs.lemmas.Option.{none-some, same_Some}
use Rattle.mir_ir.specs.declared.tree.Function.{Function}
use Rattle.mir_ir.specs.declared.declarations.Declarations.{Declarations}
use Rattle.mir_ir.specs.declared.declarations.Unit as units
use Rattle.mir_ir.specs.declared.declarations.UnitKind.{UnitKind}
use Rattle.mir_ir.specs.declared.declarations.UnitKind.TheVariants as unit_kind
use Rattle.type_rules.specs.Code.{Refused, functions_fit, ◌>>>◌}
use Rattle.type_rules.specs.Entries.{refused_in, typing, unit_function, units_fit}
use Rattle.type_rules.specs.Lookup.{function_named}
use Rattle.std.specs.List.{list_all}
use Rattle.scalar_form.specs.Form.{is_scalar}
use Rattle.scalar_runs.proofs.OperandLaws.{and_left, and_right, both_true}
use Rattle.unit_reports.specs.declared.status.UnitReport.{UnitReport}
use Rattle.unit_reports.specs.declared.verdict.Verdict.{Verdict}
use Rattle.unit_reports.specs.declared.verdict.Verdict.TheVariants as verdict
use Rattle.unit_reports.specs.Verdicts.{same_verdict, verdict_of}
use Rattle.scalar_verdicts.proofs.Safe.{never_faults}
use Rattle.kani_mir.specs.Command.{all_units_succeed, is_successful}
use Rattle.kani_mir.specs.Told.{IsKnown}
use Rattle.mir_program.specs.Joined.{Joined}
use Rattle.typed_program.specs.WellTyped.{IsWellTyped}
use Rattle.kani_mir.specs.Units.{AreReports, HasHarnessesAlone, IsBuilt, IsReportOf, NeverFails, NoneFails, no_budget}

-- a rule that follows another, where neither refuses
abbrev pub IsFine : Refused → Type 0
IsFine (Ok _) = Unit {0}
IsFine (Err _) = ⊥

fine_of : (r : Refused) → r ≡ Ok tt → IsFine r
fine_of r e = subst IsFine (sym e) tt

left_fine : (a b : Refused) → IsFine (a >>> b) → IsFine a
left_fine (Ok _) b h = tt
left_fine (Err _) b h = h

right_fine : (a b : Refused) → IsFine (a >>> b) → IsFine b
right_fine (Ok _) b h = h
right_fine (Err _) b h = absurd h

known_by : (kind : UnitKind) (of : Option Function) (path : List ℕ) → IsFine (refused_in path (unit_function kind of)) → IsSome of
known_by kind None path h = absurd h
known_by kind (Some f) path h = refl

units_known : (fs : List Function) (n : ℕ) (us : List units.Unit) → IsFine (units_fit fs n us) → All (IsKnown fs) us
units_known fs n [] h = λ k d lt. absurd (omega arith)
units_known fs n (u ∷ us) h =
    All-cons (IsKnown fs) u us
    (known_by u.kind (function_named fs u.name) _ (left_fine _ _ (left_fine _ (units_fit fs (n + 1) us) h)))
    (units_known fs (n + 1) us (right_fine _ (units_fit fs (n + 1) us) h))

pub known_of_typing : (fs : List Function) (d : Declarations) → typing fs d ≡ Ok tt → All (IsKnown fs) d.units
unfolding typing
known_of_typing fs d e = units_known fs 0 d.units (right_fine _ (units_fit fs 0 d.units) (left_fine _ (functions_fit fs d 0 fs) (fine_of _ e)))

-- what is left behind the first
abbrev pub rest_of : {A : Type 0} → List A → List A
rest_of xs = take (length xs - 1) (drop 1 xs)

pub rest_is : {A : Type 0} (x : A) (xs : List A) → rest_of (x ∷ xs) ≡ xs
rest_is x xs = let e : length (x ∷ xs) - 1 ≡ length xs = omega arith in ap (λ n. take n xs) e ∙ take-length xs

-- a test that all of a list pass is passed by the first that is found
pub found_passes : {A : Type 0} (pass test : A → Bool) (xs : List A) (x : A) → list_all pass xs ≡ true → find test xs ≡ Some x → pass x ≡ true
found_passes pass test [] x all e = absurd (none-some x e)
found_passes pass test (y ∷ ys) x all e =
    elim (test y) as (λ t. cond t (Some y) (find test ys) ≡ Some x → pass x ≡ true) [
      | true ↦ λ h. subst (λ z. pass z ≡ true) (same_Some y x h) (and_left (pass y) (list_all pass ys) all)
      | false ↦ λ h. found_passes pass test ys x (and_right (pass y) (list_all pass ys) all) h
    ] e

pub scalar_named : (fs : List Function) (name : List ℕ) (f : Function) → Some f ≡ function_named fs name → list_all is_scalar fs ≡ true → is_scalar f ≡ true
scalar_named fs name f named all = found_passes is_scalar _ fs f all (sym named)

-- what the reports on the units that are left make of all
abbrev pub Makes : List Function → List units.Unit → List units.Unit → List UnitReport → Type 0
Makes fs left all done = (more : List UnitReport) → AreReports fs left more → AreReports fs all (done ++ more)

-- the report of one more unit
pub more_reports : (fs : List Function) (u : units.Unit) (left all : List units.Unit) (done new : List UnitReport) (r : UnitReport)
    → 1 ≤ length left → u ≡ get_or left 0 u → new ≡ done ++ r ∷ [] → Makes fs left all done → IsReportOf fs u r → Makes fs (rest_of left) all new
more_reports fs u [] all done new r l e same makes this = absurd (omega arith)
more_reports fs u (v ∷ vs) all done new r l e same makes this = λ more h.
    subst (AreReports fs all) (search (rules, append_assoc) ∙ sym (ap (λ rs. rs ++ more) same))
    (makes (r ∷ more) (subst (λ w. IsReportOf fs w r) e this, subst (λ ws. AreReports fs ws more) (rest_is v vs) h))

pub no_reports : (fs : List Function) (left all : List units.Unit) (done : List UnitReport) → length left < 1 → Makes fs left all done → AreReports fs all done
no_reports fs [] all done l makes = subst (AreReports fs all) (append-nil done) (makes [] tt)
no_reports fs (u ∷ us) all done l makes = absurd (omega arith)

successful_is : (v : Verdict) → same_verdict v verdict.Successful ≡ true → v ≡ verdict.Successful
successful_is verdict.Successful e = refl
successful_is verdict.Failed e = cc
successful_is verdict.Undetermined e = cc

pub unit_never_fails : (fs : List Function) (u : units.Unit) (r : UnitReport) → IsReportOf fs u r → is_successful r ≡ true → NeverFails fs u
unit_never_fails fs u r report success = record {
  function = report.function;
  named = report.named;
  form = report.form;
  never = never_faults report.function no_budget r.statuses.items report.form report.statuses (successful_is (verdict_of r.statuses.items) success);
}

pub none_fails : (fs : List Function) (us : List units.Unit) (rs : List UnitReport) → AreReports fs us rs → all_units_succeed rs ≡ true → NoneFails fs us
none_fails fs [] rs reports e = tt
none_fails fs (u ∷ us) [] reports e = absurd reports
none_fails fs (u ∷ us) (r ∷ rs) reports e = (
  unit_never_fails fs u r reports.0 (and_left (is_successful r) (all_units_succeed rs) e),
  none_fails fs us rs reports.1 (and_right (is_successful r) (all_units_succeed rs) e),
)

-- each of a list, by its first

pub all_tail : {A : Type 0} (P : A → Type 0) (x : A) (xs : List A) → All P (x ∷ xs) → All P xs
all_tail P x xs all = λ k d lt. all (suc k) d (omega arith)

-- what is left once the first is known
pub all_rest : {A : Type 0} (P : A → Type 0) (xs : List A) → 1 ≤ length xs → All P xs → All P (rest_of xs)
all_rest P [] l all = absurd (omega arith)
all_rest P (x ∷ xs) l all = subst (All P) (sym (rest_is x xs)) (all_tail P x xs all)

pub all_whole : {A : Type 0} (P : A → Type 0) (xs : List A) (x : A) → 1 ≤ length xs → x ≡ get_or xs 0 x → P x → All P (rest_of xs) → All P xs
all_whole P [] x l e this all = absurd (omega arith)
all_whole P (y ∷ ys) x l e this all = All-cons P y ys (subst P e this) (subst (All P) (rest_is y ys) all)

pub all_first : {A : Type 0} (P : A → Type 0) (xs : List A) (x : A) → 1 ≤ length xs → x ≡ get_or xs 0 x → All P xs → P x
all_first P [] x l e all = absurd (omega arith)
all_first P (y ∷ ys) x l e all = subst P (sym e) (all 0 y (omega arith))

pub built_where : (p : Joined) (d : Declarations) (fs : List Function) (alone : Bool) → d ≡ p.declarations → fs ≡ p.functions → IsTrue alone ↔ HasHarnessesAlone d → IsTrue (alone && list_all is_scalar fs) ↔ IsBuilt p
built_where p d fs alone same_d same_fs h = (
  λ t. record {
    declarations = subst HasHarnessesAlone same_d (h.0 (and_left alone (list_all is_scalar fs) t));
    functions = subst (λ gs. list_all is_scalar gs ≡ true) same_fs (and_right alone (list_all is_scalar fs) t);
  },
  λ b. both_true alone (list_all is_scalar fs) (h.1 (subst HasHarnessesAlone (sym same_d) b.declarations)) (subst (λ gs. list_all is_scalar gs ≡ true) (sym same_fs) b.functions),
)

pub known_moved : (p : Joined) (fs : List Function) (us : List units.Unit) → fs ≡ p.functions → us ≡ p.declarations.units → IsWellTyped p → All (IsKnown fs) us
known_moved p fs us same_fs same_us typed =
    subst (λ gs. All (IsKnown gs) us) (sym same_fs) (subst (All (IsKnown p.functions)) (sym same_us) (known_of_typing p.functions p.declarations typed.types))

pub forms_moved : (p : Joined) (fs : List Function) → fs ≡ p.functions → IsBuilt p → list_all is_scalar fs ≡ true
forms_moved p fs same built = subst (λ gs. list_all is_scalar gs ≡ true) (sym same) built.functions

pub at_most_later : (a b c : ℕ) → a ≤ b → b ≤ c → a ≤ c
at_most_later a b c ab bc = omega arith
