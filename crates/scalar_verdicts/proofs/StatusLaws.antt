-- What may be told of checks, from what was found.
use Rattle.std.proofs.Common.{◌≡◌, ℕ, ◌+◌, ◌*◌, ◌-◌, ◌^◌, ◌<◌, ◌≤◌, Bool, true, false, List, [], ◌∷◌, ◌++◌, map, min, subst, sym, ap, ◌∙◌, refl, arith, ◌⊎◌, inl, inr}
use Rattle.std.specs.Prelude.{leb}
use Rattle.std.proofs.lemmas.Bool.{leb-true, leb-false}
use Rattle.std.proofs.Math.Nat.{min-eq_left, min-eq_right, min-le_left, min-le_right}
use Rattle.mir_ir.specs.declared.tree.Function.{Function}
use Rattle.scalar_runs.specs.declared.breach.Breach.{Breach}
use Rattle.scalar_checks.specs.declared.checks.Check.{Check}
use Rattle.scalar_checks.specs.Checks.{checks_of}
use Rattle.scalar_runs.specs.Run.{start}
use Rattle.scalar_terms.specs.declared.replays.FaultRun.{FaultRun}
use Rattle.scalar_terms.specs.Replays.{Reaches}
use Rattle.unit_reports.specs.declared.status.Outcome.{Outcome}
use Rattle.unit_reports.specs.declared.status.Outcome.TheVariants.{Success, Failure, BudgetSpent}
use Rattle.unit_reports.specs.declared.status.CheckStatus.{CheckStatus}
use Rattle.scalar_verdicts.specs.Rounds.{AreAsked, AreKnown, EachIsKnown, IsFailureOf, IsKnownOf, IsPaidOnce}
use Rattle.scalar_verdicts.specs.Runs.{Covers, EachReached, HasRun, IsRunTo}
use Rattle.scalar_verdicts.specs.Statuses.{EachIsTrue, FitStatuses, IsPaid, IsTrueOf, Never, spent_count, spent_one}

abbrev checks_told : List CheckStatus → List Check
checks_told ss = map (λ (s : CheckStatus). s.check) ss

checks_append : (xs : List CheckStatus) (x : CheckStatus) → checks_told (xs ++ x ∷ []) ≡ checks_told xs ++ x.check ∷ []
checks_append [] x = refl
checks_append (y ∷ ys) x = ap (λ l. y.check ∷ l) (checks_append ys x)

known_append : (runs : List FaultRun) (xs : List CheckStatus) (x : CheckStatus) → EachIsKnown runs xs → IsKnownOf runs x.check.breach x.outcome → EachIsKnown runs (xs ++ x ∷ [])
known_append runs [] x each this = (this, tt)
known_append runs (y ∷ ys) x each this = (each.0, known_append runs ys x each.1 this)

true_append : (f : Function) (budget : ℕ) (xs : List CheckStatus) (x : CheckStatus) → EachIsTrue f budget xs → IsTrueOf f budget x.check.breach x.outcome → EachIsTrue f budget (xs ++ x ∷ [])
true_append f budget [] x each this = (this, tt)
true_append f budget (y ∷ ys) x each this = (each.0, true_append f budget ys x each.1 this)

count_append : (xs : List CheckStatus) (x : CheckStatus) → spent_count (xs ++ x ∷ []) ≡ spent_count xs + spent_one x.outcome
count_append [] x = omega arith
count_append (y ∷ ys) x = let rest = count_append ys x in omega (arith, rest)

pub known_none : (runs : List FaultRun) → AreKnown runs [] []
known_none runs = record { checks_are = refl; each = tt }

-- a status more
pub known_more : (runs : List FaultRun) (before after : List Check) (xs new : List CheckStatus) (x : CheckStatus) → AreKnown runs before xs → IsKnownOf runs x.check.breach x.outcome → new ≡ xs ++ x ∷ [] → after ≡ before ++ x.check ∷ [] → AreKnown runs after new
known_more runs before after xs new x known this e g = record {
  checks_are = ap checks_told e ∙ checks_append xs x ∙ ap (λ l. l ++ x.check ∷ []) known.checks_are ∙ sym g;
  each = subst (EachIsKnown runs) (sym e) (known_append runs xs x known.each this);
}

pub known_failure : (runs : List FaultRun) (b : Breach) (r : FaultRun) (o : Outcome) → IsRunTo runs b r → IsFailureOf r o → IsKnownOf runs b o
known_failure runs b r Success to is = absurd is
known_failure runs b r (Failure choices steps) to is = λ f each. subst (λ n. Reaches f b choices.items n) (sym is.1) (subst (λ cs. Reaches f b cs r.steps) (sym is.0) (to f each))
known_failure runs b r (BudgetSpent lines) to is = absurd is

-- the failure of a run that was found is so
pub true_failure : (f : Function) (budget : ℕ) (runs : List FaultRun) (b : Breach) (r : FaultRun) (o : Outcome) → EachReached f runs → IsRunTo runs b r → IsFailureOf r o → IsTrueOf f budget b o
true_failure f budget runs b r Success each to is = absurd is
true_failure f budget runs b r (Failure choices steps) each to is = subst (λ n. Reaches f b choices.items n) (sym is.1) (subst (λ cs. Reaches f b cs r.steps) (sym is.0) (to f each))
true_failure f budget runs b r (BudgetSpent lines) each to is = absurd is

never_known : (f : Function) (runs : List FaultRun) (b : Breach) → Covers f (start f) runs → (HasRun runs b → ⊥) → Never f b
unfolding Covers
never_known f runs b covers none n choices unused h = none (covers n choices unused b h)

known_true : (f : Function) (budget : ℕ) (runs : List FaultRun) (b : Breach) (o : Outcome) → EachReached f runs → Covers f (start f) runs → IsKnownOf runs b o → IsTrueOf f budget b o
known_true f budget runs b Success each covers known = never_known f runs b covers known
known_true f budget runs b (Failure choices steps) each covers known = known f each
known_true f budget runs b (BudgetSpent lines) each covers known = absurd known

each_known_true : (f : Function) (budget : ℕ) (runs : List FaultRun) (ss : List CheckStatus) → EachReached f runs → Covers f (start f) runs → EachIsKnown runs ss → EachIsTrue f budget ss
each_known_true f budget runs [] each covers known = tt
each_known_true f budget runs (s ∷ ss) each covers known = (known_true f budget runs s.check.breach s.outcome each covers known.0, each_known_true f budget runs ss each covers known.1)

pub fit_known : (f : Function) (budget : ℕ) (runs : List FaultRun) (checks : List Check) (ss : List CheckStatus) → EachReached f runs → Covers f (start f) runs → checks ≡ checks_of f → AreKnown runs checks ss → FitStatuses f budget ss
fit_known f budget runs checks ss each covers all known = record { checks = known.checks_are ∙ all; each = each_known_true f budget runs ss each covers known.each }

known_one : (runs : List FaultRun) (b : Breach) (o : Outcome) → IsKnownOf runs b o → spent_one o ≡ 0
known_one runs b Success known = refl
known_one runs b (Failure choices steps) known = refl
known_one runs b (BudgetSpent lines) known = absurd known

each_known_count : (runs : List FaultRun) (ss : List CheckStatus) → EachIsKnown runs ss → spent_count ss ≡ 0
each_known_count runs [] known = refl
each_known_count runs (s ∷ ss) known =
    let one = known_one runs s.check.breach s.outcome known.0 in
    let rest = each_known_count runs ss known.1 in
    omega (arith, one, rest)

pub known_count : (runs : List FaultRun) (checks : List Check) (ss : List CheckStatus) → AreKnown runs checks ss → spent_count ss ≡ 0
known_count runs checks ss known = each_known_count runs ss known.each

unlimited_one : (f : Function) (budget : ℕ) (b : Breach) (o : Outcome) → 2 ^ 60 ≤ budget → IsTrueOf f budget b o → spent_one o ≡ 0
unlimited_one f budget b Success more is = refl
unlimited_one f budget b (Failure choices steps) more is = refl
unlimited_one f budget b (BudgetSpent lines) more is = absurd (too_few lines budget is.0 is.1.few more) where
  too_few : (n m : ℕ) → n ≡ m → n < 2 ^ 60 → 2 ^ 60 ≤ m → ⊥
  too_few n m e less more = omega (arith, e, less, more)

-- a budget of 2^60 or more is never spent
pub unlimited_count : (f : Function) (budget : ℕ) (ss : List CheckStatus) → 2 ^ 60 ≤ budget → EachIsTrue f budget ss → spent_count ss ≡ 0
unlimited_count f budget [] more each = refl
unlimited_count f budget (s ∷ ss) more each =
    let one = unlimited_one f budget s.check.breach s.outcome more each.0 in
    let rest = unlimited_count f budget ss more each.1 in
    omega (arith, one, rest)

min_or : (a b c : ℕ) → min a b ≤ c → (a ≤ c) ⊎ (b ≤ c)
min_or a b c h = by_order (leb a b) refl where
  by_order : (t : Bool) → leb a b ≡ t → (a ≤ c) ⊎ (b ≤ c)
  by_order true e = inl (subst (λ n. n ≤ c) (min-eq_left (leb-true a b e)) h)
  by_order false e = let less : b < a = leb-false a b e in let upto : b ≤ a = omega (arith, less) in inr (subst (λ n. n ≤ c) (min-eq_right upto) h)

up_left : (a b c : ℕ) → a ≤ c → min a b ≤ c
up_left a b c h = let least = min-le_left a b in omega (arith, least, h)

up_right : (a b c : ℕ) → b ≤ c → min a b ≤ c
up_right a b c h = let least = min-le_right a b in omega (arith, least, h)

paid_sum : (before mid behind x y most : ℕ) → min (before + x) most ≤ mid → min (mid + y) most ≤ behind → min (before + (x + y)) most ≤ behind
paid_sum before mid behind x y most first second = by_cases (min_or (before + x) most mid first) (min_or (mid + y) most behind second) where
  by_cases : (before + x ≤ mid) ⊎ (most ≤ mid) → (mid + y ≤ behind) ⊎ (most ≤ behind) → min (before + (x + y)) most ≤ behind
  by_cases (inl a) (inl b) = up_left (before + (x + y)) most behind (omega (arith, a, b))
  by_cases (inl a) (inr b) = up_right (before + (x + y)) most behind b
  by_cases (inr a) (inl b) = up_right (before + (x + y)) most behind (omega (arith, a, b))
  by_cases (inr a) (inr b) = up_right (before + (x + y)) most behind b

product_sum : (a c d e : ℕ) → e ≡ c + d → a * e ≡ a * c + a * d
product_sum a c d e h = omega (arith, ap (λ n. a * n) h)

paid_append : (before mid behind budget : ℕ) (xs : List CheckStatus) (x : CheckStatus) → IsPaid before mid budget xs → IsPaidOnce mid behind budget x.outcome → IsPaid before behind budget (xs ++ x ∷ [])
paid_append before mid behind budget xs x first second =
    subst (λ n. min (before + n) (2 ^ 64 - 1) ≤ behind) (sym (product_sum budget (spent_count xs) (spent_one x.outcome) (spent_count (xs ++ x ∷ [])) (count_append xs x)))
    (paid_sum before mid behind (budget * spent_count xs) (budget * spent_one x.outcome) (2 ^ 64 - 1) first second)

zero_product : (a n : ℕ) → n ≡ 0 → a * n ≡ 0
zero_product a n e = ap (λ m. a * m) e ∙ none a where
  none : (a : ℕ) → a * 0 ≡ 0
  none a = omega arith

-- nothing is owed where nothing was spent
pub paid_none : (before behind budget : ℕ) (ss : List CheckStatus) → spent_count ss ≡ 0 → before ≤ behind → IsPaid before behind budget ss
paid_none before behind budget ss none risen =
    up_left (before + budget * spent_count ss) (2 ^ 64 - 1) behind (let zero = zero_product budget (spent_count ss) none in omega (arith, zero, risen))

pub paid_once_none : (before behind budget : ℕ) (o : Outcome) → spent_one o ≡ 0 → before ≤ behind → IsPaidOnce before behind budget o
paid_once_none before behind budget o none risen =
    up_left (before + budget * spent_one o) (2 ^ 64 - 1) behind (let zero = zero_product budget (spent_one o) none in omega (arith, zero, risen))

pub paid_once_spent : (before behind budget : ℕ) (o : Outcome) → spent_one o ≡ 1 → behind ≡ min (before + budget) (2 ^ 64 - 1) → IsPaidOnce before behind budget o
paid_once_spent before behind budget o one e =
    let product : budget * spent_one o ≡ budget = ap (λ n. budget * n) one ∙ single budget in
    let same : min (before + budget * spent_one o) (2 ^ 64 - 1) ≡ behind = ap (λ n. min (before + n) (2 ^ 64 - 1)) product ∙ sym e in
    upto (min (before + budget * spent_one o) (2 ^ 64 - 1)) behind same
  where
    single : (a : ℕ) → a * 1 ≡ a
    single a = omega arith

    upto : (a b : ℕ) → a ≡ b → a ≤ b
    upto a b e = omega (arith, e)

pub risen_spent : (before behind budget : ℕ) → before < 2 ^ 64 → behind ≡ min (before + budget) (2 ^ 64 - 1) → before ≤ behind
risen_spent before behind budget small e = by_cases (min_or (before + budget) (2 ^ 64 - 1) behind (upto (min (before + budget) (2 ^ 64 - 1)) behind (sym e))) where
  upto : (a b : ℕ) → a ≡ b → a ≤ b
  upto a b e = omega (arith, e)

  by_cases : (before + budget ≤ behind) ⊎ (2 ^ 64 - 1 ≤ behind) → before ≤ behind
  by_cases (inl a) = omega (arith, a)
  by_cases (inr b) = omega (arith, b, small)

pub failure_count : (r : FaultRun) (o : Outcome) → IsFailureOf r o → spent_one o ≡ 0
failure_count r Success is = absurd is
failure_count r (Failure choices steps) is = refl
failure_count r (BudgetSpent lines) is = absurd is

pub asked_none : (f : Function) (budget before : ℕ) → AreAsked f budget before before [] []
asked_none f budget before = record { checks_are = refl; each = tt; paid = paid_none before before budget [] refl (omega arith) }

pub asked_more : (f : Function) (budget before mid behind : ℕ) (done after : List Check) (xs new : List CheckStatus) (x : CheckStatus) → AreAsked f budget before mid done xs → IsTrueOf f budget x.check.breach x.outcome
    → IsPaidOnce mid behind budget x.outcome → new ≡ xs ++ x ∷ [] → after ≡ done ++ x.check ∷ [] → AreAsked f budget before behind after new
asked_more f budget before mid behind done after xs new x asked this paid e g = record {
  checks_are = ap checks_told e ∙ checks_append xs x ∙ ap (λ l. l ++ x.check ∷ []) asked.checks_are ∙ sym g;
  each = subst (EachIsTrue f budget) (sym e) (true_append f budget xs x asked.each this);
  paid = subst (IsPaid before behind budget) (sym e) (paid_append before mid behind budget xs x asked.paid paid);
}

pub fit_asked : (f : Function) (budget before behind : ℕ) (checks : List Check) (ss : List CheckStatus) → checks ≡ checks_of f → AreAsked f budget before behind checks ss → FitStatuses f budget ss
fit_asked f budget before behind checks ss all asked = record { checks = asked.checks_are ∙ all; each = asked.each }
