-- Runs that are tried, choice by choice.
use Rattle.std.proofs.Common.{Vec, Global, ◌≡◌, ℕ, zero, suc, ◌+◌, ◌<◌, ◌≤◌, Bool, true, false, cond, List, [], ◌∷◌, Option, Some, None, get_or, subst, sym, ap, ◌∙◌, refl, arith, ◌⊎◌, inl, inr}
use Rattle.std.specs.Prelude.{leb}
use Rattle.std.proofs.lemmas.Bool.{eqb-true, leb-true, leb-false}
use Rattle.vk_core.specs.declared.check.CheckClass.{CheckClass}
use Rattle.vk_core.specs.declared.ids.BlockId.{BlockId}
use Rattle.word_bits.specs.declared.word.Word.{Word}
use Rattle.word_bits.specs.Words.{word}
use Rattle.mir_ir.specs.declared.tree.Function.{Function}
use Rattle.scalar_runs.specs.declared.breach.Breach.{Breach}
use Rattle.scalar_runs.specs.declared.kinds.Choice.{Choice}
use Rattle.scalar_runs.specs.declared.kinds.ValueKind.{ValueKind}
use Rattle.scalar_runs.specs.declared.step.State.{State}
use Rattle.scalar_runs.specs.declared.step.Step.{Step}
use Rattle.scalar_runs.specs.declared.step.Step.TheVariants as made
use Rattle.scalar_runs.specs.Engine.{Does, configuration}
use Rattle.scalar_form.specs.Form.{is_scalar}
use Rattle.scalar_runs.specs.Kinds.{is_choice_of, is_value, same_kind, width_of_kind}
use Rattle.scalar_runs.specs.Run.{Configuration, Stepped, Goes, Ends, Cuts, Faults, Chooses, Stuck, Outcome, Running, Ended, Cut, Faulted, Wanting, Lost, after, breach_at, chosen, entry_of, run, start, step, stored}
use Rattle.scalar_form.specs.Size.{size_of}
use Rattle.scalar_form.proofs.FormLaws.{parts_of}
use Rattle.scalar_runs.proofs.OperandLaws.{and_right}
use Rattle.scalar_terms.specs.declared.replays.FaultRun.{FaultRun}
use Rattle.scalar_terms.specs.Faults.{FaultsWith}
use Rattle.scalar_terms.specs.Oracle.{On, Stop, EndsWithin, after_told, oracle, told_by}
use Rattle.scalar_terms.specs.Places.{End, Fault, Wanting as Unwanted, chosen_word}
use Rattle.scalar_terms.proofs.FaultLaws.{GoesOn, faults_of_end, run_more, run_none, step_on, value_width, value_word}
use Rattle.scalar_terms.proofs.ReplayLaws.{HasEnd, oracle_longer, run_ends}
use Rattle.scalar_terms.proofs.RunLaws.{oracle_more, oracle_none, oracle_one}
use Rattle.scalar_verdicts.specs.Runs.{Covers, HasRun, IsReplayed}
use Rattle.scalar_verdicts.specs.declared.walks.Walk.{Walk}
use Rattle.scalar_verdicts.specs.Walks.{Explored, HasGone, IsBranch, IsPut, IsStop, IsWalk, Leads, Tried, TriedOne}
use Rattle.scalar_verdicts.proofs.RunListLaws.{adds_more, adds_none}

run_step : (f : Function) (n : ℕ) (s : Configuration) (choices : List Choice) (done : Stepped) → step f s ≡ done → run f (suc n) s choices ≡ after (run f n) s choices done
run_step f n s choices done e = run_more f n s choices ∙ ap (λ d. after (run f n) s choices d) e

-- each fault of a run has a run in the list, from what holds behind the step
pub covers_goes : (f : Function) (s t : Configuration) (runs : List FaultRun) → step f s ≡ Goes t → Covers f t runs → Covers f s runs
unfolding Covers
covers_goes f s t runs e next zero choices unused b h = let e0 = run_none f s choices in cc
covers_goes f s t runs e next (suc n) choices unused b h = next n choices unused b (sym (run_step f n s choices (Goes t) e) ∙ h)

pub covers_ends : (f : Function) (s : Configuration) (runs : List FaultRun) → step f s ≡ Ends → Covers f s runs
unfolding Covers
covers_ends f s runs e zero choices unused b h = let e0 = run_none f s choices in cc
covers_ends f s runs e (suc n) choices unused b h = let e1 = run_step f n s choices Ends e in cc

pub covers_cuts : (f : Function) (s : Configuration) (runs : List FaultRun) → step f s ≡ Cuts → Covers f s runs
unfolding Covers
covers_cuts f s runs e zero choices unused b h = let e0 = run_none f s choices in cc
covers_cuts f s runs e (suc n) choices unused b h = let e1 = run_step f n s choices Cuts e in cc

pub covers_stuck : (f : Function) (s : Configuration) (runs : List FaultRun) → step f s ≡ Stuck → Covers f s runs
unfolding Covers
covers_stuck f s runs e zero choices unused b h = let e0 = run_none f s choices in cc
covers_stuck f s runs e (suc n) choices unused b h = let e1 = run_step f n s choices Stuck e in cc

-- which fault an outcome tells of, and another where it tells of none
abbrev pub breach_told : Breach → Outcome → Breach
breach_told other (Faulted b unused) = b
breach_told other Running = other
breach_told other Ended = other
breach_told other Cut = other
breach_told other Wanting = other
breach_told other Lost = other

covers_faults : (f : Function) (s : Configuration) (c : CheckClass) (runs : List FaultRun) → step f s ≡ Faults c → HasRun runs (breach_at s c) → Covers f s runs
unfolding Covers
covers_faults f s c runs e has zero choices unused b h = let e0 = run_none f s choices in cc
covers_faults f s c runs e has (suc n) choices unused b h =
    let same : Faulted (breach_at s c) choices ≡ Faulted b unused = sym (run_step f n s choices (Faults c) e) ∙ h in
    subst (HasRun runs) (ap (breach_told b) same) has

-- a value of the kind was chosen, and the runs behind it are covered
covers_choice : (f : Function) (s : Configuration) (k : ValueKind) (destination next : ℕ) (runs : List FaultRun) (n : ℕ) (c : Choice) (cs unused : List Choice) (b : Breach) (is : Bool) → is_choice_of k c ≡ is
    → (is_choice_of k c ≡ true → Covers f (chosen s destination next c.word) runs)
    → cond is (run f n (chosen s destination next c.word) cs) Wanting ≡ Faulted b unused → HasRun runs b
unfolding Covers
covers_choice f s k destination next runs n c cs unused b true e each h = each e n cs unused b h
covers_choice f s k destination next runs n c cs unused b false e each h = cc

covers_chooses : (f : Function) (s : Configuration) (k : ValueKind) (destination next : ℕ) (runs : List FaultRun) → step f s ≡ Chooses k destination next
    → ((c : Choice) → is_choice_of k c ≡ true → Covers f (chosen s destination next c.word) runs) → Covers f s runs
unfolding Covers
covers_chooses f s k destination next runs e each zero choices unused b h = let e0 = run_none f s choices in cc
covers_chooses f s k destination next runs e each (suc n) [] unused b h = let e1 = run_step f n s [] (Chooses k destination next) e in cc
covers_chooses f s k destination next runs e each (suc n) (c ∷ cs) unused b h =
    covers_choice f s k destination next runs n c cs unused b (is_choice_of k c) refl (each c) (sym (run_step f n s (c ∷ cs) (Chooses k destination next) e) ∙ h)

-- what was covered stays so
covers_kept : (f : Function) (s : Configuration) (old new : List FaultRun) → ((b : Breach) → HasRun old b → HasRun new b) → Covers f s old → Covers f s new
unfolding Covers
covers_kept f s old new kept covers n choices unused b h = kept b (covers n choices unused b h)

less_on : (m b c : ℕ) → m < b → b ≤ c → m < c
less_on m b c less upto = omega (arith, less, upto)

moved : (n m : ℕ) → n + 1 + m ≡ n + suc m
moved n m = omega arith

-- a walk that has made no step
pub leads_start : (f : Function) (s : Configuration) (numbers : List ℕ) → s ≡ start f → Leads f s numbers 0
unfolding Leads
leads_start f s numbers e inputs agree m = ap (λ k. oracle f inputs k (start f)) (plain m) ∙ ap (λ t. oracle f inputs m t) (sym e) where
  plain : (m : ℕ) → 0 + m ≡ m
  plain m = omega arith

pub leads_goes : (f : Function) (s t : Configuration) (numbers : List ℕ) (steps : ℕ) → is_scalar f ≡ true → Leads f s numbers steps → step f s ≡ Goes t → Leads f t numbers (steps + 1)
unfolding Leads
leads_goes f s t numbers steps form here e inputs agree m =
    let upto : s.block ≤ t.block = subst (GoesOn s.block) e (step_on f s form) in
    ap (λ k. oracle f inputs k (start f)) (moved steps m)
    ∙ here inputs (λ k less. agree k (less_on k s.block t.block less upto)) (suc m)
    ∙ oracle_more f inputs m s ∙ ap (λ r. after_told (oracle f inputs m) (told_by inputs s r)) e

-- the inputs choose this word
told_chosen : (f : Function) (inputs : ℕ → ℕ) (m : ℕ) (s : Configuration) (k : ValueKind) (destination next : ℕ) (w : Word) → is_value k w ≡ true → inputs s.block ≡ w.value
    → after_told (oracle f inputs m) (told_by inputs s (Chooses k destination next)) ≡ oracle f inputs m (chosen s destination next w)
told_chosen f inputs m s k destination next w is e =
    let chosen_is : chosen_word inputs s.block k ≡ w = ap (word (width_of_kind k)) e ∙ value_word k w is in
    ap (λ x. after_told (oracle f inputs m) (cond (is_value k x) (On (chosen s destination next x)) (Stop Unwanted))) chosen_is
    ∙ ap (λ x. after_told (oracle f inputs m) (cond x (On (chosen s destination next w)) (Stop Unwanted))) is

pub leads_chooses : (f : Function) (s : Configuration) (k : ValueKind) (destination next : ℕ) (numbers new : List ℕ) (steps : ℕ) (w : Word) → is_scalar f ≡ true → Leads f s numbers steps → step f s ≡ Chooses k destination next → is_value k w ≡ true
    → IsPut numbers new s.block w.value → Leads f (chosen s destination next w) new (steps + 1)
unfolding Leads
leads_chooses f s k destination next numbers new steps w form here e is put inputs agree m =
    let less : s.block < next = subst (GoesOn s.block) e (step_on f s form) in
    ap (λ n. oracle f inputs n (start f)) (moved steps m)
    ∙ here inputs (λ n below. agree n (less_on n s.block next below (upto s.block next less)) ∙ put.1 n below) (suc m)
    ∙ oracle_more f inputs m s ∙ ap (λ r. after_told (oracle f inputs m) (told_by inputs s r)) e
    ∙ told_chosen f inputs m s k destination next w is (agree s.block less ∙ put.0)
  where
    upto : (a b : ℕ) → a < b → a ≤ b
    upto a b less = omega (arith, less)

-- the numbers of a walk as inputs
abbrev pub own_inputs : List ℕ → ℕ → ℕ
own_inputs numbers n = get_or numbers n 0

none_end : (e : End) → ◌≡◌ {A = Option End} None (Some e) → ⊥
none_end e h = cc

-- a walk has made fewer steps than the function's size
pub walk_room : (f : Function) (s : Configuration) (numbers : List ℕ) (steps : ℕ) → is_scalar f ≡ true → Leads f s numbers steps → steps + 1 ≤ 50000
unfolding Leads
walk_room f s numbers steps form here = by_cases (leb ends.steps steps) refl where
  ends : EndsWithin f (own_inputs numbers) (start f) (run_ends f (own_inputs numbers) form).end (size_of f)
  ends = (run_ends f (own_inputs numbers) form).ends

  plain : (n : ℕ) → n ≡ n + 0
  plain n = omega arith

  open_still : oracle f (own_inputs numbers) steps (start f) ≡ None
  open_still = ap (λ k. oracle f (own_inputs numbers) k (start f)) (plain steps) ∙ here (own_inputs numbers) (λ m below. refl) 0 ∙ oracle_none f (own_inputs numbers) s

  by_cases : (t : Bool) → leb ends.steps steps ≡ t → steps + 1 ≤ 50000
  by_cases true h = absurd (none_end _ (sym open_still ∙ oracle_longer f (own_inputs numbers) ends.steps steps (start f) _ (leb-true ends.steps steps h) ends.there))
  by_cases false h =
      let above : steps < ends.steps = leb-false ends.steps steps h in
      let few : ends.steps ≤ size_of f = ends.few in
      let small : size_of f ≤ 50000 = (parts_of f form).small in
      omega (arith, above, few, small)

-- a walk that stands before a fault: its numbers lead there
pub walk_faults : (f : Function) (s : Configuration) (numbers : List ℕ) (steps : ℕ) (c : CheckClass) → is_scalar f ≡ true → Leads f s numbers steps → step f s ≡ Faults c → FaultsWith f (own_inputs numbers) (breach_at s c)
unfolding Leads
walk_faults f s numbers steps c form here e = faults_of_end f (own_inputs numbers) (breach_at s c) (record { steps = all.ends.steps; few = all.ends.few; there = all.ends.there ∙ ap (λ d. Some d) (sym same) }) where
  all : HasEnd f (own_inputs numbers)
  all = run_ends f (own_inputs numbers) form

  there : oracle f (own_inputs numbers) (steps + suc zero) (start f) ≡ Some (Fault (breach_at s c))
  there = here (own_inputs numbers) (λ m below. refl) (suc zero) ∙ oracle_more f (own_inputs numbers) zero s ∙ ap (λ r. after_told (oracle f (own_inputs numbers) zero) (told_by (own_inputs numbers) s r)) e

  same : Fault (breach_at s c) ≡ all.end
  same = oracle_one f (own_inputs numbers) (steps + suc zero) all.ends.steps (start f) (Fault (breach_at s c)) all.end there all.ends.there

-- a walk that has gone nowhere
pub gone_start : (f : Function) (w : Walk) → IsWalk f w → HasGone f w w
gone_start f w walk = record { walk = walk; later = omega arith; covers = λ runs covers. covers }

pub gone_goes : (f : Function) (old mid : Walk) (t : State) → is_scalar f ≡ true → HasGone f old mid → step f (configuration mid.state) ≡ Goes (configuration t) → HasGone f old (record { state = t; numbers = mid.numbers; steps = mid.steps + 1 })
gone_goes f old mid t form gone e = record {
  walk = leads_goes f (configuration mid.state) (configuration t) mid.numbers.items mid.steps form gone.walk e;
  later = let later : old.steps ≤ mid.steps = gone.later in omega (arith, later);
  covers = λ runs covers. gone.covers runs (covers_goes f (configuration mid.state) (configuration t) runs e covers);
}

-- a step that did not go on left the walk where it was
stays : (r : Stepped) (done : Step) (old new : Configuration) → Does r done old new → (done ≡ made.Went → ⊥) → (new ≡ old) × IsStop r done
stays r made.Went old new does not = absurd (not refl)
stays r made.Ended old new does not = (does.1, does.0)
stays r made.Cut old new does not = (does.1, does.0)
stays r (made.Faulted c) old new does not = (does.1, does.0)
stays r (made.Chooses k destination next) old new does not = (does.1, does.0)
stays r made.Stuck old new does not = (does.1, does.0)

pub gone_stop : (f : Function) (old mid : Walk) (t : State) (r : Stepped) (done : Step) → HasGone f old mid → Does r done (configuration mid.state) (configuration t) → (done ≡ made.Went → ⊥) → HasGone f old (record { state = t; numbers = mid.numbers; steps = mid.steps })
gone_stop f old mid t r done gone does not =
    let same : configuration t ≡ configuration mid.state = (stays r done (configuration mid.state) (configuration t) does not).0 in
    record {
      walk = subst (λ s. Leads f s mid.numbers.items mid.steps) (sym same) gone.walk;
      later = gone.later;
      covers = λ runs covers. gone.covers runs (subst (λ s. Covers f s runs) same covers);
    }

pub stop_is : (f : Function) (done : Step) (old new : Configuration) → Does (step f old) done old new → (done ≡ made.Went → ⊥) → IsStop (step f new) done
stop_is f done old new does not =
    let both = stays (step f old) done old new does not in
    subst (λ s. IsStop (step f s) done) (sym both.0) both.1

-- the walk behind a choice, made of what was copied
pub branch_made : (f : Function) (old : Walk) (k : ValueKind) (destination : ℕ) (next : BlockId) (w : Word) (copied : List (Option Word)) (values : Vec (Option Word) Global) (before : List ℕ) (numbers : Vec ℕ Global)
    → is_scalar f ≡ true → IsWalk f old → step f (configuration old.state) ≡ Chooses k destination next.0 → is_value k w ≡ true → copied ≡ old.state.values.items → values.items ≡ stored copied destination w
    → before ≡ old.numbers.items → IsPut before numbers.items old.state.block.0 w.value
    → IsBranch f old (record { state = record { block = next; index = 0; values = values }; numbers = numbers; steps = old.steps + 1 }) destination next.0 w
branch_made f old k destination next w copied values before numbers form walk e is same store numbered put =
    let state : entry_of next.0 values.items ≡ chosen (configuration old.state) destination next.0 w = ap (entry_of next.0) (store ∙ ap (λ vs. stored vs destination w) same) in
    let there : Leads f (chosen (configuration old.state) destination next.0 w) numbers.items (old.steps + 1) =
    leads_chooses f (configuration old.state) k destination next.0 old.numbers.items numbers.items old.steps w form walk e is (subst (λ ns. IsPut ns numbers.items old.state.block.0 w.value) numbered put) in
    record { state = state; walk = subst (λ s. Leads f s numbers.items (old.steps + 1)) (sym state) there; steps = refl }

-- no walk makes 50,000 steps
pub too_far : (f : Function) (old mid : Walk) (made : ℕ) → is_scalar f ≡ true → HasGone f old mid → old.steps + made ≤ mid.steps → 50000 ≤ made → ⊥
too_far f old mid made form gone steps many =
    let room : mid.steps + 1 ≤ 50000 = walk_room f (configuration mid.state) mid.numbers.items mid.steps form gone.walk in
    absurd (omega (arith, room, steps, many))

pub explored_ends : (f : Function) (s : Configuration) (runs : List FaultRun) → step f s ≡ Ends → Explored f s runs runs
explored_ends f s runs e = record { adds = adds_none f runs; covers = covers_ends f s runs e }

pub explored_cuts : (f : Function) (s : Configuration) (runs : List FaultRun) → step f s ≡ Cuts → Explored f s runs runs
explored_cuts f s runs e = record { adds = adds_none f runs; covers = covers_cuts f s runs e }

pub explored_stuck : (f : Function) (s : Configuration) (runs : List FaultRun) → step f s ≡ Stuck → Explored f s runs runs
explored_stuck f s runs e = record { adds = adds_none f runs; covers = covers_stuck f s runs e }

pub explored_faults : (f : Function) (s : Configuration) (numbers : List ℕ) (steps : ℕ) (c : CheckClass) (old new : List FaultRun) → is_scalar f ≡ true → Leads f s numbers steps → step f s ≡ Faults c → IsReplayed f (own_inputs numbers) old new → Explored f s old new
explored_faults f s numbers steps c old new form here e replayed = record {
  adds = replayed.adds;
  covers = covers_faults f s c new e (replayed.has (breach_at s c) (walk_faults f s numbers steps c form here e));
}

-- from where a walk has gone to, back to where it was
pub explored_back : (f : Function) (s t : Configuration) (old new : List FaultRun) → ((runs : List FaultRun) → Covers f t runs → Covers f s runs) → Explored f t old new → Explored f s old new
explored_back f s t old new back there = record { adds = there.adds; covers = back new there.covers }

abbrev numbered : ValueKind → ℕ → Word
numbered k number = record { width = width_of_kind k; value = number }

pub tried_none : (f : Function) (s : Configuration) (k : ValueKind) (destination next : ℕ) (runs : List FaultRun) → Tried f s k destination next 0 runs runs
tried_none f s k destination next runs = record { adds = adds_none f runs; covers = λ number below. absurd (omega (arith, below)) }

pub tried_more : (f : Function) (s : Configuration) (k : ValueKind) (destination next below : ℕ) (old mid new : List FaultRun) → Tried f s k destination next below old mid → TriedOne f s k destination next below mid new → Tried f s k destination next (below + 1) old new
tried_more f s k destination next below old mid new before this = record {
  adds = adds_more f old mid new before.adds this.adds;
  covers = λ number within is. tried_at number (cases_below number below within) is;
} where
  cases_below : (number below : ℕ) → number < below + 1 → (number < below) ⊎ (number ≡ below)
  cases_below number below within = grind arith

  tried_at : (number : ℕ) → (number < below) ⊎ (number ≡ below) → is_value k (numbered k number) ≡ true → Covers f (chosen s destination next (numbered k number)) new
  tried_at number (inl less) is = covers_kept f (chosen s destination next (numbered k number)) mid new this.adds.kept (before.covers number less is)
  tried_at number (inr same) is =
      subst (λ n. Covers f (chosen s destination next (numbered k n)) new) (sym same) (this.covers (subst (λ n. is_value k (numbered k n) ≡ true) same is))

word_numbered : (k : ValueKind) (w : Word) → is_value k w ≡ true → numbered k w.value ≡ w
word_numbered k w is = ap (λ n. with_width n w.value) (sym (eqb-true w.width (width_of_kind k) (value_width k w is))) where
  with_width : ℕ → ℕ → Word
  with_width width n = record { width = width; value = n }

pub tried_all : (f : Function) (s : Configuration) (k : ValueKind) (destination next last : ℕ) (old new : List FaultRun) → step f s ≡ Chooses k destination next → ((w : Word) → is_value k w ≡ true → w.value ≤ last) → Tried f s k destination next (last + 1) old new → Explored f s old new
tried_all f s k destination next last old new e greatest tried = record {
  adds = tried.adds;
  covers = covers_chooses f s k destination next new e (λ c is. covered c.word (and_right (same_kind k c.kind) (is_value k c.word) is));
} where
  within : (n last : ℕ) → n ≤ last → n < last + 1
  within n last upto = omega (arith, upto)

  covered : (w : Word) → is_value k w ≡ true → Covers f (chosen s destination next w) new
  covered w is =
      let same = word_numbered k w is in
      subst (λ x. Covers f (chosen s destination next x) new) same
      (tried.covers w.value (within w.value last (greatest w is)) (subst (λ x. is_value k x ≡ true) (sym same) is))
