-- Every fault in which a run can end is among the checks of the function.
use Rattle.std.proofs.Common.{◌≡◌, ℕ, zero, suc, Bool, true, false, cond, List, [], ◌∷◌, subst, sym, ap, ◌∙◌, refl}
use Rattle.mir_ir.specs.declared.tree.Function.{Function}
use Rattle.scalar_runs.specs.declared.breach.Breach.{Breach}
use Rattle.scalar_checks.specs.declared.checks.Check.{Check}
use Rattle.scalar_runs.specs.declared.kinds.Choice.{Choice}
use Rattle.scalar_checks.specs.Checks.{checks_of}
use Rattle.scalar_form.specs.Form.{is_scalar}
use Rattle.scalar_runs.specs.Kinds.{is_choice_of}
use Rattle.scalar_runs.specs.Run.{Configuration, Outcome, Running, Ended, Cut, Faulted, Wanting, Lost, Stepped, Goes, Ends, Cuts, Faults, Chooses, Stuck, after, chosen, run, start, step}
use Rattle.scalar_checks.specs.Complete.{EachFaultIsListed, HasCheck}
use Rattle.scalar_checks.proofs.Listed.{Listed, step_listed}

pub run_more : (f : Function) (n : ℕ) (s : Configuration) (choices : List Choice) → run f (suc n) s choices ≡ after (run f n) s choices (step f s)
unfolding run
run_more f n s choices = refl

pub run_none : (f : Function) (s : Configuration) (choices : List Choice) → run f zero s choices ≡ Running
unfolding run
run_none f s choices = refl

-- which fault an outcome tells of, and another where it tells of none
abbrev fault_told : Breach → Outcome → Breach
fault_told other (Faulted b unused) = b
fault_told other Running = other
fault_told other Ended = other
fault_told other Cut = other
fault_told other Wanting = other
fault_told other Lost = other

-- a run behind a step, on being the rest of it
pub after_choice_listed : (checks : List Check) (on : Outcome) (b : Breach) (unused : List Choice) (is : Bool) → (on ≡ Faulted b unused → HasCheck checks b) → cond is on Wanting ≡ Faulted b unused → HasCheck checks b
after_choice_listed checks on b unused true rest h = rest h
after_choice_listed checks on b unused false rest h = cc

pub after_listed : (checks : List Check) (on : Configuration → List Choice → Outcome) → ((t : Configuration) (cs unused : List Choice) (b : Breach) → on t cs ≡ Faulted b unused → HasCheck checks b)
    → (s : Configuration) (choices unused : List Choice) (b : Breach) (done : Stepped) → Listed s checks done → after on s choices done ≡ Faulted b unused → HasCheck checks b
after_listed checks on rest s choices unused b (Goes t) listed h = rest t choices unused b h
after_listed checks on rest s choices unused b Ends listed h = cc
after_listed checks on rest s choices unused b Cuts listed h = cc
after_listed checks on rest s choices unused b (Faults c) listed h = subst (HasCheck checks) (ap (fault_told b) h) listed
after_listed checks on rest s [] unused b (Chooses k destination next) listed h = cc
after_listed checks on rest s (c ∷ cs) unused b (Chooses k destination next) listed h =
    after_choice_listed checks (on (chosen s destination next c.word) cs) b unused (is_choice_of k c) (rest (chosen s destination next c.word) cs unused b) h
after_listed checks on rest s choices unused b Stuck listed h = cc

pub run_listed : (f : Function) → is_scalar f ≡ true → (n : ℕ) (s : Configuration) (choices unused : List Choice) (b : Breach) → run f n s choices ≡ Faulted b unused → HasCheck (checks_of f) b
run_listed f form zero s choices unused b h = let e0 = run_none f s choices in cc
run_listed f form (suc n) s choices unused b h =
    after_listed (checks_of f) (run f n) (run_listed f form n) s choices unused b (step f s) (step_listed f s form) (sym (run_more f n s choices) ∙ h)

pub each_fault_is_listed : (f : Function) → is_scalar f ≡ true → EachFaultIsListed f
each_fault_is_listed f form n choices unused b h = run_listed f form n (start f) choices unused b h
