-- The failures that are left while queries are asked.
use Rattle.std.proofs.Common.{◌≡◌, ℕ, ◌≤◌, ◌<◌, ◌^◌, ◌==◌, Bool, true, false, List, [], ◌∷◌, length, get_or, arith, subst, sym, ◌∙◌, refl, inl, inr}
use Rattle.std.specs.Prelude.{leb}
use Rattle.std.proofs.lemmas.Bool.{eqb-true, leb-true, leb-false}
use Rattle.mir_ir.specs.declared.tree.Function.{Function}
use Rattle.sym_terms.specs.declared.term.Term.{Term}
use Rattle.value_terms.specs.Made.{Grown, IsTest, holds}
use Rattle.scalar_runs.specs.declared.breach.Breach.{Breach}
use Rattle.scalar_runs.specs.Run.{start}
use Rattle.scalar_terms.specs.declared.failures.Failure.{Failure}
use Rattle.scalar_terms.specs.declared.replays.FaultRun.{FaultRun}
use Rattle.scalar_terms.specs.Faults.{AreFaults, FaultsWith}
use Rattle.scalar_terms.specs.Replays.{IsFaultRun, Reaches}
use Rattle.scalar_terms.specs.Ways.{AreFailures, Tells}
use Rattle.term_queries.specs.Queries as query
use Rattle.scalar_verdicts.specs.Choices.{choices_of}
use Rattle.scalar_verdicts.specs.Failures.{AreOthers, AreOwn, any_holds}
use Rattle.scalar_verdicts.specs.declared.rounds.Round.{Round}
use Rattle.scalar_verdicts.specs.declared.rounds.Round.TheVariants as round
use Rattle.scalar_verdicts.specs.Rounds.{AreLeft, AreLeftFor, AreOf, AreTold, IsRound, RunsHaveInputs}
use Rattle.scalar_verdicts.specs.Runs.{Covers, FaultsSomehow, HasRun, IsNoted}
use Rattle.scalar_verdicts.specs.Statuses.{IsSpentAt, Never}
use Rattle.scalar_verdicts.proofs.FailureLaws.{failures_kept, some_told, told_any, told_before, told_kept}

-- before any query
pub left_start : (f : Function) (terms : List Term) (failures : List Failure) → AreFaults f terms failures → AreLeft f terms failures []
left_start f terms failures are = record {
  failures = are.failures;
  told = λ inputs b tells. (are.told inputs b).0 tells;
  there = λ inputs b faults. inr ((are.told inputs b).1 faults);
}

pub inputs_start : (f : Function) (terms : List Term) (failures : List Failure) → AreFaults f terms failures → RunsHaveInputs f
unfolding RunsHaveInputs
inputs_start f terms failures are n choices unused b h =
    let some = are.every n choices unused b h in
    record { inputs = some.inputs; faults = (are.told some.inputs b).0 some.tells }

pub told_later : (f : Function) (old new : List Term) (failures : List Failure) → Grown old new → AreFailures old failures → AreTold f old failures → AreTold f new failures
told_later f old new failures grown are told inputs b tells = told inputs b (told_before old new inputs failures b grown.keeps are tells)

-- terms that came change nothing
pub left_kept : (f : Function) (old new : List Term) (left : List Failure) (runs : List FaultRun) → Grown old new → AreLeft f old left runs → AreLeft f new left runs
left_kept f old new left runs grown are = record {
  failures = failures_kept old new left grown.keeps are.failures;
  told = told_later f old new left grown are.failures are.told;
  there = λ inputs b faults. elim (are.there inputs b faults) [ inl has ↦ inl has | inr tells ↦ inr (told_kept old new inputs left b grown.keeps are.failures tells) ];
}

-- a run was found, and the failures of its fault are taken out
pub left_noted : (f : Function) (terms : List Term) (left kept : List Failure) (runs new : List FaultRun) (r : FaultRun) → AreLeft f terms left runs → IsNoted runs new r → AreOthers r.breach left kept → AreLeft f terms kept new
left_noted f terms left kept runs new r are noted others = record {
  failures = others.failures terms are.failures;
  told = λ inputs b tells. are.told inputs b (others.back terms inputs b tells).0;
  there = λ inputs b faults. elim (are.there inputs b faults) [
    | inl has ↦ inl (noted.kept b has)
    | inr tells ↦ elim (others.there terms inputs b tells) [
      | inl same ↦ inl (subst (HasRun new) (sym same) noted.has)
      | inr other ↦ inr other
    ]
  ];
}

-- no failure that is left is so: all faults are found
pub covers_never : (f : Function) (terms : List Term) (left : List Failure) (runs : List FaultRun) → RunsHaveInputs f → AreLeft f terms left runs → ((inputs : ℕ → ℕ) (b : Breach) → Tells terms inputs left b → ⊥) → Covers f (start f) runs
unfolding RunsHaveInputs Covers
covers_never f terms left runs have are never n choices unused b h =
    let some = have n choices unused b h in
    elim (are.there some.inputs b some.faults) [ inl has ↦ has | inr tells ↦ absurd (never some.inputs b tells) ]

pub covers_empty : (f : Function) (terms : List Term) (left : List Failure) (runs : List FaultRun) → RunsHaveInputs f → AreLeft f terms left runs → left ≡ [] → Covers f (start f) runs
covers_empty f terms left runs have are none = covers_never f terms left runs have are (λ inputs b tells. subst (λ xs. Tells terms inputs xs b) none tells)

-- a query of all that are left whose term is never 1
pub never_told : (old new : List Term) (root : ℕ) (left : List Failure) → IsTest old new root (λ inputs. any_holds old inputs left) → ((inputs : ℕ → ℕ) → holds new inputs root ≡ false)
    → (inputs : ℕ → ℕ) (b : Breach) → Tells old inputs left b → ⊥
never_told old new root left test never inputs b tells = absurd_bool (sym (never inputs) ∙ test.holds_is inputs ∙ told_any old inputs left b tells) where
  absurd_bool : false ≡ true → ⊥
  absurd_bool e = cc

-- and one whose term is 1 under these inputs
pub faults_somehow : (f : Function) (old new : List Term) (root : ℕ) (left : List Failure) (slice numbers : List ℕ) → AreTold f old left → IsTest old new root (λ inputs. any_holds old inputs left)
    → holds new (λ n. get_or numbers n 0) root ≡ true → slice ≡ numbers → FaultsSomehow f (λ n. get_or slice n 0)
faults_somehow f old new root left slice numbers told test h e =
    let some = some_told old (λ n. get_or numbers n 0) left (sym (test.holds_is (λ n. get_or numbers n 0)) ∙ h) in
    subst (λ xs. FaultsSomehow f (λ n. get_or xs n 0)) (sym e) (record { breach = some.breach; faults = told (λ n. get_or numbers n 0) some.breach some.tells })

-- a round that found nothing more
pub found_never : (f : Function) (terms : List Term) (slice left : List Failure) (runs : List FaultRun) (r : Round) → RunsHaveInputs f → slice ≡ left → IsRound f terms slice r → r ≡ round.Never → AreLeft f terms left runs → Covers f (start f) runs
found_never f terms slice left runs r have e told is are =
    covers_never f terms left runs have are (λ inputs b tells. subst (IsRound f terms slice) is told inputs b (subst (λ xs. Tells terms inputs xs b) (sym e) tells))

-- a list whose length is 0
pub empty_list : (slice xs : List Failure) (t : Bool) → slice ≡ xs → t ≡ (length slice == 0) → t ≡ true → xs ≡ []
empty_list slice xs t e test h = sym e ∙ none slice (eqb-true (length slice) 0 (sym test ∙ h)) where
  none : (ys : List Failure) → length ys ≡ 0 → ys ≡ []
  none [] g = refl
  none (y ∷ ys) g = absurd (omega (arith, g))

-- the failures of a fault to which no run was found
pub left_for : (f : Function) (terms : List Term) (left : List Failure) (runs : List FaultRun) (b : Breach) → AreLeft f terms left runs → (HasRun runs b → ⊥) → AreLeftFor f terms left b
left_for f terms left runs b are none = record {
  failures = are.failures;
  told = are.told;
  there = λ inputs faults. elim (are.there inputs b faults) [ inl has ↦ absurd (none has) | inr tells ↦ tells ];
}

pub own_are : (f : Function) (terms : List Term) (left own : List Failure) (b : Breach) → AreLeftFor f terms left b → AreOwn b left own → AreOf f terms own b
own_are f terms left own b are picked = record {
  failures = picked.failures terms are.failures;
  sound = λ inputs h. let some = some_told terms inputs own h in are.told inputs b (picked.back terms inputs some.breach some.tells).1;
  complete = λ inputs faults. told_any terms inputs own b (picked.there terms inputs (are.there inputs faults));
}

-- a fault that no inputs lead to
never_of : (f : Function) (b : Breach) → RunsHaveInputs f → ((inputs : ℕ → ℕ) → FaultsWith f inputs b → ⊥) → Never f b
unfolding RunsHaveInputs
never_of f b have none n choices unused h = let some = have n choices unused b h in none some.inputs some.faults

false_true : false ≡ true → ⊥
false_true e = cc

pub never_empty : (f : Function) (terms : List Term) (own : List Failure) (b : Breach) → RunsHaveInputs f → AreOf f terms own b → own ≡ [] → Never f b
never_empty f terms own b have are none =
    never_of f b have (λ inputs faults. false_true (subst (λ xs. any_holds terms inputs xs ≡ true) none (are.complete inputs faults)))

pub never_own : (f : Function) (old new : List Term) (root : ℕ) (own : List Failure) (b : Breach) → RunsHaveInputs f → AreOf f old own b → IsTest old new root (λ inputs. any_holds old inputs own)
    → ((inputs : ℕ → ℕ) → holds new inputs root ≡ false) → Never f b
never_own f old new root own b have are test never = never_of f b have (λ inputs faults. false_true (sym (never inputs) ∙ test.holds_is inputs ∙ are.complete inputs faults))

pub own_faults : (f : Function) (old new : List Term) (root : ℕ) (own : List Failure) (b : Breach) (slice numbers : List ℕ) → AreOf f old own b → IsTest old new root (λ inputs. any_holds old inputs own)
    → holds new (λ n. get_or numbers n 0) root ≡ true → slice ≡ numbers → FaultsWith f (λ n. get_or slice n 0) b
own_faults f old new root own b slice numbers are test h e =
    subst (λ xs. FaultsWith f (λ n. get_or xs n 0) b) (sym e) (are.sound (λ n. get_or numbers n 0) (sym (test.holds_is (λ n. get_or numbers n 0)) ∙ h))

pub own_somehow : (f : Function) (old new : List Term) (root : ℕ) (own : List Failure) (b : Breach) (slice numbers : List ℕ) → AreOf f old own b → IsTest old new root (λ inputs. any_holds old inputs own)
    → holds new (λ n. get_or numbers n 0) root ≡ true → slice ≡ numbers → FaultsSomehow f (λ n. get_or slice n 0)
own_somehow f old new root own b slice numbers are test h e = record { breach = b; faults = own_faults f old new root own b slice numbers are test h e }

-- a budget that is no longer without limit
pub few_of : (budget : ℕ) → (2 ^ 60 ≤ budget → ⊥) → budget < 2 ^ 60
few_of budget not = by_order (leb (2 ^ 60) budget) refl where
  by_order : (t : Bool) → leb (2 ^ 60) budget ≡ t → budget < 2 ^ 60
  by_order true e = absurd (not (leb-true (2 ^ 60) budget e))
  by_order false e = leb-false (2 ^ 60) budget e

pub reached_of : (f : Function) (inputs : ℕ → ℕ) (b : Breach) (r : FaultRun) → FaultsWith f inputs b → IsFaultRun f inputs r → Reaches f b r.choices.items r.steps
reached_of f inputs b r faults is = subst (λ c. Reaches f c r.choices.items r.steps) (sym (is.one b faults)) is.reaches

-- a query of the term is one of the fault
pub query_of : (f : Function) (old new : List Term) (root : ℕ) (own : List Failure) (b : Breach) (budget : ℕ) → AreOf f old own b → IsTest old new root (λ inputs. any_holds old inputs own)
    → budget < 2 ^ 60 → budget < choices_of f → query.IsSpentAt new root budget → IsSpentAt f b budget
query_of f old new root own b budget are test few many spent = record {
  inputs = spent.inputs;
  list = spent.list;
  query = record {
    sound = λ model satisfies numbers agree. are.sound numbers (sym (test.holds_is numbers) ∙ spent.query.sound model satisfies numbers agree);
    complete = λ numbers faults. spent.query.complete numbers (test.holds_is numbers ∙ are.complete numbers faults);
  };
  log = spent.log;
  spent = spent.spent;
  long = spent.long;
  few = few;
  many = many;
}
