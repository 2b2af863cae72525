-- The run that takes its choices from inputs, a step at a time.
use Rattle.std.proofs.Common.{◌≡◌, ℕ, zero, suc, ◌+◌, ◌-◌, ◌<◌, ◌≤◌, ◌==◌, Bool, true, false, cond, List, [], ◌∷◌, ◌++◌, Option, Some, None, length, append_assoc, append-nil, subst, sym, ap, ◌∙◌, refl, arith}
use Rattle.std.specs.Prelude.{Result, Ok, Err, leb, slice_get}
use Rattle.std.proofs.lemmas.Bool.{leb-true, leb-false}
use Rattle.vk_core.specs.declared.check.CheckClass.{CheckClass}
use Rattle.word_bits.specs.declared.word.Word.{Word}
use Rattle.mir_ir.specs.declared.tree.Block.{Block}
use Rattle.mir_ir.specs.declared.tree.Function.{Function}
use Rattle.mir_ir.specs.declared.tree.Statement.{Statement}
use Rattle.mir_ir.specs.declared.tree.Statement.TheVariants as statement
use Rattle.scalar_runs.specs.declared.breach.Breach.{Breach}
use Rattle.scalar_runs.specs.declared.kinds.Choice.{Choice}
use Rattle.scalar_runs.specs.declared.kinds.ValueKind.{ValueKind}
use Rattle.scalar_form.specs.Form.{is_scalar}
use Rattle.scalar_runs.specs.Kinds.{is_value}
use Rattle.scalar_runs.specs.Look.{block_of, blocks_end}
use Rattle.scalar_runs.specs.Run.{Configuration, Stepped, Goes, Ends, Cuts, Faults, Chooses, Stuck, after, assigned, block_step, breach_at, chosen, run, start, step, step_at, terminator_step}
use Rattle.scalar_runs.specs.Run as outcome
use Rattle.scalar_form.specs.Size.{size_of}
use Rattle.scalar_runs.specs.Values.{rvalue_value}
use Rattle.scalar_form.proofs.FormLaws.{parts_of}
use Rattle.scalar_terms.specs.declared.replays.FaultRun.{FaultRun}
use Rattle.scalar_terms.specs.Faults.{FaultsWith}
use Rattle.scalar_terms.specs.Oracle.{Advance, On, Stop, EndsWithin, PlaceEnds, after_told, oracle, told_by}
use Rattle.scalar_terms.specs.Places.{End, Ended, Cut, Fault, Wanting as Unwanted, Lost as Strayed, Place, Before, Done, chosen_word, place}
use Rattle.scalar_terms.specs.Replays.{HasCome, IsMadeChoice, IsReplay, Reaches}
use Rattle.scalar_terms.proofs.AheadLaws.{HasEnded, all_ended}
use Rattle.scalar_terms.proofs.FaultLaws.{choice_test, end_of_faults, faults_of_end, run_more, run_none}
use Rattle.scalar_terms.proofs.RunLaws.{AtEntry, oracle_more, oracle_none, oracle_one, terminator_entry}
use Rattle.scalar_terms.proofs.StartLaws.{ends_small}

none_end : (e : End) → ◌≡◌ {A = Option End} None (Some e) → ⊥
none_end e h = cc

told_longer : (f : Function) (inputs : ℕ → ℕ) (k n : ℕ) (e : End) → ((t : Configuration) → oracle f inputs k t ≡ Some e → oracle f inputs n t ≡ Some e) → (a : Advance) → after_told (oracle f inputs k) a ≡ Some e → after_told (oracle f inputs n) a ≡ Some e
told_longer f inputs k n e on (On t) g = on t g
told_longer f inputs k n e on (Stop d) g = g

-- a run that has ended has ended behind more steps too
pub oracle_longer : (f : Function) (inputs : ℕ → ℕ) (k n : ℕ) (s : Configuration) (e : End) → k ≤ n → oracle f inputs k s ≡ Some e → oracle f inputs n s ≡ Some e
oracle_longer f inputs zero n s e more h = absurd (none_end e (sym (oracle_none f inputs s) ∙ h))
oracle_longer f inputs (suc k) zero s e more h = absurd (omega (arith, more))
oracle_longer f inputs (suc k) (suc n) s e more h =
    let fewer : k ≤ n = omega (arith, more) in
    oracle_more f inputs n s ∙ told_longer f inputs k n e (λ t g. oracle_longer f inputs k n t e fewer g) (told_by inputs s (step f s)) (sym (oracle_more f inputs k s) ∙ h)

-- how a run ends
pub record HasEnd (f : Function) (inputs : ℕ → ℕ) : Type 0 where
  pub end : End
  pub ends : EndsWithin f inputs (start f) end (size_of f)

pub run_ends : (f : Function) (inputs : ℕ → ℕ) → is_scalar f ≡ true → HasEnd f inputs
run_ends f inputs form = by_place (place f inputs (blocks_end f.blocks)) (all_ended f inputs form) (λ e. ends_small f inputs e form) where
  by_place : (p : Place) → HasEnded p → ((e : End) → PlaceEnds f inputs p e 0 → EndsWithin f inputs (start f) e (size_of f)) → HasEnd f inputs
  by_place (Before t v) ended from = absurd ended
  by_place (Done d) ended from = record { end = d; ends = from d refl }

-- a run that has not ended behind so many steps has fewer than its size
pub still_running : (f : Function) (inputs : ℕ → ℕ) (n : ℕ) (s : Configuration) (choices : List Choice) → is_scalar f ≡ true → HasCome f inputs n s choices → n + 1 ≤ size_of f
still_running f inputs n s choices form come = by_cases (leb (run_ends f inputs form).ends.steps n) refl where
  ends : EndsWithin f inputs (start f) (run_ends f inputs form).end (size_of f)
  ends = (run_ends f inputs form).ends

  open_still : oracle f inputs n (start f) ≡ None
  open_still = ap (λ k. oracle f inputs k (start f)) (plain n) ∙ come.ends 0 ∙ oracle_none f inputs s where
    plain : (n : ℕ) → n ≡ n + 0
    plain n = omega arith

  by_cases : (t : Bool) → leb ends.steps n ≡ t → n + 1 ≤ size_of f
  by_cases true h = absurd (none_end _ (sym open_still ∙ oracle_longer f inputs ends.steps n (start f) _ (leb-true ends.steps n h) ends.there))
  by_cases false h =
      let above : n < ends.steps = leb-false ends.steps n h in
      let few : ends.steps ≤ size_of f = ends.few in
      omega (arith, above, few)

pub none_longer : (f : Function) (inputs : ℕ → ℕ) (s : Configuration) (choices : List Choice) → is_scalar f ≡ true → HasCome f inputs 50000 s choices → ⊥
none_longer f inputs s choices form come =
    let small : size_of f ≤ 50000 = (parts_of f form).small in
    let more : 50000 + 1 ≤ size_of f = still_running f inputs 50000 s choices form come in
    too_many (size_of f) small more
  where
    too_many : (n : ℕ) → n ≤ 50000 → 50000 + 1 ≤ n → ⊥
    too_many n small more = absurd (omega (arith, small, more))

start_index : (f : Function) → (start f).index ≤ 0
unfolding start
start_index f = omega arith

pub come_start : (f : Function) (inputs : ℕ → ℕ) → HasCome f inputs 0 (start f) []
come_start f inputs = record { ends = λ m. ap (λ k. oracle f inputs k (start f)) (plain m); runs = λ m more. ap (λ k. run f k (start f) more) (plain m); index = start_index f } where
  plain : (m : ℕ) → 0 + m ≡ m
  plain m = omega arith

moved : (n m : ℕ) → n + 1 + m ≡ n + suc m
moved n m = omega arith

-- a step of a run goes on by an index at most
abbrev IndexOn : ℕ → Stepped → Type 0
IndexOn i (Goes t) = t.index ≤ i + 1
IndexOn i _ = Unit {0}

index_on : (f : Function) (s : Configuration) → IndexOn s.index (step f s)
unfolding step
index_on f s = by_block (block_of f s.block) where
  by_value : (p : ℕ) (r : Result Word CheckClass) → IndexOn s.index (assigned s p r)
  by_value p (Ok w) = omega arith
  by_value p (Err c) = tt

  by_entry : (r : Stepped) → AtEntry r → IndexOn s.index r
  by_entry (Goes t) at = let zero_index : t.index ≡ 0 = at in omega (arith, zero_index)
  by_entry Ends at = tt
  by_entry Cuts at = tt
  by_entry (Faults c) at = tt
  by_entry (Chooses k destination next) at = tt
  by_entry Stuck at = tt

  by_test : (b : Block) (t : Bool) → IndexOn s.index (cond t (terminator_step f s b.terminator) Stuck)
  by_test b true = by_entry (terminator_step f s b.terminator) (terminator_entry f s b.terminator)
  by_test b false = tt

  by_statement : (b : Block) (found : Option Statement) → IndexOn s.index (step_at f s b.terminator (length b.statements) found)
  by_statement b (Some (statement.Assign target value)) = by_value target.local.0 (rvalue_value f s.values value)
  by_statement b (Some (statement.StorageLive l)) = tt
  by_statement b (Some (statement.StorageDead l)) = tt
  by_statement b (Some (statement.SetVariant p n)) = tt
  by_statement b None = by_test b (s.index == length b.statements)

  by_block : (found : Option Block) → IndexOn s.index (block_step f s found)
  by_block None = tt
  by_block (Some b) = by_statement b (slice_get b.statements s.index)

pub come_on : (f : Function) (inputs : ℕ → ℕ) (n : ℕ) (s t : Configuration) (choices : List Choice) → HasCome f inputs n s choices → step f s ≡ Goes t → HasCome f inputs (n + 1) t choices
come_on f inputs n s t choices come e = record {
  ends = λ m. ap (λ k. oracle f inputs k (start f)) (moved n m) ∙ come.ends (suc m) ∙ oracle_more f inputs m s ∙ ap (λ r. after_told (oracle f inputs m) (told_by inputs s r)) e;
  runs = λ m more. ap (λ k. run f k (start f) (choices ++ more)) (moved n m) ∙ come.runs (suc m) more ∙ run_more f m s more ∙ ap (after (run f m) s more) e;
  index =
      let here : s.index ≤ n = come.index in
      let next : t.index ≤ s.index + 1 = subst (IndexOn s.index) e (index_on f s) in
      omega (arith, here, next);
}

pub come_chosen : (f : Function) (inputs : ℕ → ℕ) (n : ℕ) (s t : Configuration) (choices after_choices : List Choice) (k : ValueKind) (destination next : ℕ) → HasCome f inputs n s choices → step f s ≡ Chooses k destination next
    → IsMadeChoice inputs s t choices after_choices k destination next true → HasCome f inputs (n + 1) t after_choices
come_chosen f inputs n s t choices after_choices k destination next come e made =
    subst (λ x. HasCome f inputs (n + 1) x after_choices) (sym made.1) (subst (HasCome f inputs (n + 1) (chosen s destination next (chosen_word inputs s.block k))) (sym made.2) (record {
      ends = λ m. ap (λ j. oracle f inputs j (start f)) (moved n m) ∙ come.ends (suc m) ∙ oracle_more f inputs m s ∙ ap (λ r. after_told (oracle f inputs m) (told_by inputs s r)) e
          ∙ ap (λ x. after_told (oracle f inputs m) (cond x (On (chosen s destination next (chosen_word inputs s.block k))) (Stop Unwanted))) made.0;
      runs = λ m more. ap (λ j. run f j (start f) ((choices ++ this ∷ []) ++ more)) (moved n m) ∙ ap (run f (n + suc m) (start f)) (append_assoc choices (this ∷ []) more) ∙ come.runs (suc m) (this ∷ more) ∙ run_more f m s (this ∷ more)
          ∙ ap (after (run f m) s (this ∷ more)) e ∙ ap (λ x. cond x (run f m (chosen s destination next (chosen_word inputs s.block k)) more) outcome.Wanting) (choice_test k (chosen_word inputs s.block k) ∙ made.0);
      index = omega arith;
    }))
  where
    this : Choice
    this = record { kind = k; word = chosen_word inputs s.block k }

-- the step behind which the run has ended
stopped : (f : Function) (inputs : ℕ → ℕ) (n : ℕ) (s : Configuration) (choices : List Choice) (e : End) → HasCome f inputs n s choices → told_by inputs s (step f s) ≡ Stop e → oracle f inputs (n + 1) (start f) ≡ Some e
stopped f inputs n s choices e come h = come.ends 1 ∙ oracle_more f inputs 0 s ∙ ap (after_told (oracle f inputs 0)) h

no_fault : (f : Function) (inputs : ℕ → ℕ) (n : ℕ) (e : End) → oracle f inputs n (start f) ≡ Some e → ((b : Breach) → e ≡ Fault b → ⊥) → (b : Breach) → FaultsWith f inputs b → ⊥
no_fault f inputs n e there other b faults =
    let ends = end_of_faults f inputs b faults in
    other b (oracle_one f inputs n ends.steps (start f) e (Fault b) there ends.there)

pub none_ended : (f : Function) (inputs : ℕ → ℕ) (n : ℕ) (s : Configuration) (choices : List Choice) → HasCome f inputs n s choices → step f s ≡ Ends → IsReplay f inputs None
none_ended f inputs n s choices come e = no_fault f inputs (n + 1) Ended (stopped f inputs n s choices Ended come (ap (told_by inputs s) e)) (λ b h. clash b h) where
  clash : (b : Breach) → Ended ≡ Fault b → ⊥
  clash b h = cc

pub none_cut : (f : Function) (inputs : ℕ → ℕ) (n : ℕ) (s : Configuration) (choices : List Choice) → HasCome f inputs n s choices → step f s ≡ Cuts → IsReplay f inputs None
none_cut f inputs n s choices come e = no_fault f inputs (n + 1) Cut (stopped f inputs n s choices Cut come (ap (told_by inputs s) e)) (λ b h. clash b h) where
  clash : (b : Breach) → Cut ≡ Fault b → ⊥
  clash b h = cc

pub none_stuck : (f : Function) (inputs : ℕ → ℕ) (n : ℕ) (s : Configuration) (choices : List Choice) → HasCome f inputs n s choices → step f s ≡ Stuck → IsReplay f inputs None
none_stuck f inputs n s choices come e = no_fault f inputs (n + 1) Strayed (stopped f inputs n s choices Strayed come (ap (told_by inputs s) e)) (λ b h. clash b h) where
  clash : (b : Breach) → Strayed ≡ Fault b → ⊥
  clash b h = cc

pub none_chosen : (f : Function) (inputs : ℕ → ℕ) (n : ℕ) (s : Configuration) (choices : List Choice) (k : ValueKind) (destination next : ℕ) → HasCome f inputs n s choices → step f s ≡ Chooses k destination next → is_value k (chosen_word inputs s.block k) ≡ false → IsReplay f inputs None
none_chosen f inputs n s choices k destination next come e h = no_fault f inputs (n + 1) Unwanted
    (stopped f inputs n s choices Unwanted come (ap (told_by inputs s) e ∙ ap (λ x. cond x (On (chosen s destination next (chosen_word inputs s.block k))) (Stop Unwanted)) h)) (λ b h. clash b h)
  where
    clash : (b : Breach) → Unwanted ≡ Fault b → ⊥
    clash b h = cc

pub some_faulted : (f : Function) (inputs : ℕ → ℕ) (n : ℕ) (s : Configuration) (choices : List Choice) (c : CheckClass) (r : FaultRun) → is_scalar f ≡ true → HasCome f inputs n s choices → step f s ≡ Faults c
    → r.breach ≡ breach_at s c → r.choices.items ≡ choices → r.steps ≡ n + 1 → IsReplay f inputs (Some r)
some_faulted f inputs n s choices c r form come e breach_is choices_are steps_are =
    let there : oracle f inputs (n + 1) (start f) ≡ Some (Fault (breach_at s c)) = stopped f inputs n s choices (Fault (breach_at s c)) come (ap (told_by inputs s) e) in
    let few : n + 1 ≤ size_of f = still_running f inputs n s choices form come in
    let reaches : Reaches f (breach_at s c) choices (n + 1) = record {
      some = omega arith;
      few = few;
      before = ap (λ k. run f k (start f) choices) (less_one n) ∙ ap (run f (n + 0) (start f)) (sym (append-nil choices)) ∙ come.runs 0 [] ∙ run_none f s [];
      there = ap (run f (n + 1) (start f)) (sym (append-nil choices)) ∙ come.runs 1 [] ∙ run_more f 0 s [] ∙ ap (after (run f 0) s []) e;
    } in
    record {
      faults = subst (FaultsWith f inputs) (sym breach_is) (faults_of_end f inputs (breach_at s c) (record { steps = n + 1; few = few; there = there }));
      one = λ b faults. (
          let ends = end_of_faults f inputs b faults in
          same_fault b (breach_at s c) (oracle_one f inputs ends.steps (n + 1) (start f) (Fault b) (Fault (breach_at s c)) ends.there there) ∙ sym breach_is);
      reaches = subst (λ b. Reaches f b r.choices.items r.steps) (sym breach_is) (subst (λ cs. Reaches f (breach_at s c) cs r.steps) (sym choices_are) (subst (Reaches f (breach_at s c) choices) (sym steps_are) reaches));
    }
  where
    less_one : (n : ℕ) → n + 1 - 1 ≡ n + 0
    less_one n = omega arith

    same_fault : (a b : Breach) → Fault a ≡ Fault b → a ≡ b
    same_fault a b h = cc

-- behind a choice that was made, and where it was not
pub chosen_on : (f : Function) (inputs : ℕ → ℕ) (n : ℕ) (s u t : Configuration) (choices after_choices : List Choice) (k : ValueKind) (destination next : ℕ) (made : Bool) → HasCome f inputs n s choices → step f s ≡ Chooses k destination next → u ≡ s → made ≡ true
    → IsMadeChoice inputs u t choices after_choices k destination next made → HasCome f inputs (n + 1) t after_choices
chosen_on f inputs n s u t choices after_choices k destination next made come e same is h =
    come_chosen f inputs n s t choices after_choices k destination next come e
    (subst (λ x. IsMadeChoice inputs x t choices after_choices k destination next true) same (subst (IsMadeChoice inputs u t choices after_choices k destination next) is h))

pub none_made : (f : Function) (inputs : ℕ → ℕ) (n : ℕ) (s u t : Configuration) (choices after_choices : List Choice) (k : ValueKind) (destination next : ℕ) (made : Bool) → HasCome f inputs n s choices → step f s ≡ Chooses k destination next → u ≡ s → made ≡ false
    → IsMadeChoice inputs u t choices after_choices k destination next made → IsReplay f inputs None
none_made f inputs n s u t choices after_choices k destination next made come e same is h =
    none_chosen f inputs n s choices k destination next come e
    (subst (λ x. is_value k (chosen_word inputs x.block k) ≡ false) same (subst (IsMadeChoice inputs u t choices after_choices k destination next) is h))

-- a fault, where the step left the run as it was
pub faulted_at : (f : Function) (inputs : ℕ → ℕ) (n : ℕ) (s u : Configuration) (choices : List Choice) (c : CheckClass) (r : FaultRun) → is_scalar f ≡ true → HasCome f inputs n s choices → step f s ≡ Faults c → u ≡ s
    → r.breach ≡ breach_at u c → r.choices.items ≡ choices → r.steps ≡ n + 1 → IsReplay f inputs (Some r)
faulted_at f inputs n s u choices c r form come e same breach_is choices_are steps_are =
    some_faulted f inputs n s choices c r form come e (breach_is ∙ ap (λ x. breach_at x c) same) choices_are steps_are
