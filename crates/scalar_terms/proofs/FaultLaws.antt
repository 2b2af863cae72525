-- Runs that take their choices from inputs, and runs of any choices.
use Rattle.std.proofs.Common.{◌≡◌, ℕ, zero, suc, ◌<◌, ◌≤◌, ◌%◌, ◌^◌, ◌==◌, ◌&&◌, Bool, true, false, cond, List, [], ◌∷◌, Option, Some, None, length, subst, sym, ap, ◌∙◌, refl, arith}
use Rattle.std.specs.Prelude.{Result, Ok, Err, slice_get}
use Rattle.std.proofs.lemmas.Bool.{eqb-true, eq-eqb, ne_eqb}
use Rattle.std.proofs.Math.Nat.{mod-eq_of_lt}
use Rattle.vk_core.specs.declared.check.CheckClass.{CheckClass}
use Rattle.word_bits.specs.declared.word.Word.{Word}
use Rattle.word_bits.specs.Words.{word}
use Rattle.mir_ir.specs.declared.types.IntTy.{IntTy}
use Rattle.mir_ir.specs.declared.types.IntTy.TheVariants as int
use Rattle.mir_ir.specs.declared.tree.Block.{Block}
use Rattle.mir_ir.specs.declared.tree.Function.{Function}
use Rattle.mir_ir.specs.declared.tree.Statement.{Statement}
use Rattle.mir_ir.specs.declared.tree.Statement.TheVariants as statement
use Rattle.scalar_runs.specs.declared.breach.Breach.{Breach}
use Rattle.scalar_runs.specs.declared.kinds.Choice.{Choice}
use Rattle.scalar_runs.specs.declared.kinds.ValueKind.{ValueKind}
use Rattle.scalar_runs.specs.declared.kinds.ValueKind.TheVariants as kind
use Rattle.scalar_form.specs.Form.{is_scalar}
use Rattle.scalar_runs.specs.Kinds.{is_choice_of, is_scalar_value, is_value, is_word, same_int, same_kind, width_of_kind}
use Rattle.scalar_runs.specs.Look.{block_of}
use Rattle.scalar_runs.specs.Run.{Configuration, Stepped, Goes, Ends, Cuts, Faults, Chooses, Stuck, Outcome, Running, Faulted, Wanting, Lost, after, assigned, block_step, breach_at, chosen, run, start, statement_step, step, step_at, terminator_step}
use Rattle.scalar_runs.specs.Run as outcome
use Rattle.scalar_form.specs.Size.{size_of}
use Rattle.scalar_runs.specs.Values.{rvalue_value}
use Rattle.scalar_form.proofs.FormLaws.{found_number, scalar_block}
use Rattle.scalar_runs.proofs.OperandLaws.{and_left, and_right, word_of_test}
use Rattle.scalar_terms.specs.Faults.{FaultsWith, choices_behind, choices_by}
use Rattle.scalar_terms.specs.Oracle.{On, Stop, EndsWithin, after_told, oracle, told_by}
use Rattle.scalar_terms.specs.Places.{End, Ended, Cut, Fault, Wanting as Unwanted, Lost as Strayed, chosen_word}
use Rattle.scalar_terms.proofs.AheadLaws.{LeadsAhead, terminator_ahead}
use Rattle.scalar_terms.proofs.RunLaws.{oracle_more, oracle_none}

pub run_more : (f : Function) (n : ℕ) (s : Configuration) (choices : List Choice) → run f (suc n) s choices ≡ after (run f n) s choices (step f s)
unfolding run
run_more f n s choices = refl

pub run_none : (f : Function) (s : Configuration) (choices : List Choice) → run f zero s choices ≡ Running
unfolding run
run_none f s choices = refl

pub choices_more : (f : Function) (inputs : ℕ → ℕ) (n : ℕ) (s : Configuration) → choices_by f inputs (suc n) s ≡ choices_behind (choices_by f inputs n) inputs s (step f s)
unfolding choices_by
choices_more f inputs n s = refl

same_int_self : (i : IntTy) → same_int i i ≡ true
same_int_self int.I8 = refl
same_int_self int.I16 = refl
same_int_self int.I32 = refl
same_int_self int.I64 = refl
same_int_self int.I128 = refl
same_int_self int.Isize = refl
same_int_self int.U8 = refl
same_int_self int.U16 = refl
same_int_self int.U32 = refl
same_int_self int.U64 = refl
same_int_self int.U128 = refl
same_int_self int.Usize = refl

same_kind_self : (k : ValueKind) → same_kind k k ≡ true
same_kind_self kind.Bool = refl
same_kind_self kind.Char = refl
same_kind_self (kind.Int i) = same_int_self i
same_kind_self kind.Unit = refl
same_kind_self kind.Never = refl

-- how the end of a run by inputs is the outcome of the run of its choices
abbrev pub outcome_of : Option End → Outcome
outcome_of None = Running
outcome_of (Some Ended) = outcome.Ended
outcome_of (Some Cut) = outcome.Cut
outcome_of (Some (Fault b)) = Faulted b []
outcome_of (Some Unwanted) = Wanting
outcome_of (Some Strayed) = Lost

pub choice_test : (k : ValueKind) (w : Word) → is_choice_of k (record { kind = k; word = w }) ≡ is_value k w
choice_test k w = ap (λ t. t && is_value k w) (same_kind_self k)

same_choice : (f : Function) (inputs : ℕ → ℕ) (n : ℕ) (s : Configuration) (k : ValueKind) (destination next : ℕ) → ((t : Configuration) → run f n t (choices_by f inputs n t) ≡ outcome_of (oracle f inputs n t)) → (x : Bool)
    → cond x (run f n (chosen s destination next (chosen_word inputs s.block k)) (choices_by f inputs n (chosen s destination next (chosen_word inputs s.block k)))) Wanting
    ≡ outcome_of (after_told (oracle f inputs n) (cond x (On (chosen s destination next (chosen_word inputs s.block k))) (Stop Unwanted)))
same_choice f inputs n s k destination next on true = on (chosen s destination next (chosen_word inputs s.block k))
same_choice f inputs n s k destination next on false = refl

same_step : (f : Function) (inputs : ℕ → ℕ) (n : ℕ) (s : Configuration) → ((t : Configuration) → run f n t (choices_by f inputs n t) ≡ outcome_of (oracle f inputs n t)) → (r : Stepped)
    → after (run f n) s (choices_behind (choices_by f inputs n) inputs s r) r ≡ outcome_of (after_told (oracle f inputs n) (told_by inputs s r))
same_step f inputs n s on (Goes t) = on t
same_step f inputs n s on Ends = refl
same_step f inputs n s on Cuts = refl
same_step f inputs n s on (Faults c) = refl
same_step f inputs n s on (Chooses k destination next) =
    ap (λ t. cond t (run f n (chosen s destination next (chosen_word inputs s.block k)) (choices_by f inputs n (chosen s destination next (chosen_word inputs s.block k)))) Wanting) (choice_test k (chosen_word inputs s.block k))
    ∙ same_choice f inputs n s k destination next on (is_value k (chosen_word inputs s.block k))
same_step f inputs n s on Stuck = refl

-- the run of the choices that the inputs give goes as the run by inputs does
pub same_run : (f : Function) (inputs : ℕ → ℕ) (n : ℕ) (s : Configuration) → run f n s (choices_by f inputs n s) ≡ outcome_of (oracle f inputs n s)
same_run f inputs zero s = run_none f s (choices_by f inputs zero s) ∙ sym (ap outcome_of (oracle_none f inputs s))
same_run f inputs (suc n) s =
    run_more f n s (choices_by f inputs (suc n) s) ∙ ap (λ cs. after (run f n) s cs (step f s)) (choices_more f inputs n s)
    ∙ same_step f inputs n s (λ t. same_run f inputs n t) (step f s) ∙ sym (ap outcome_of (oracle_more f inputs n s))

fault_outcome : (e : Option End) (b : Breach) (unused : List Choice) → outcome_of e ≡ Faulted b unused → e ≡ Some (Fault b)
fault_outcome None b unused h = cc
fault_outcome (Some Ended) b unused h = cc
fault_outcome (Some Cut) b unused h = cc
fault_outcome (Some (Fault x)) b unused h = ap (λ y. Some (Fault y)) (fault_same x b unused h) where
  fault_same : (x b : Breach) (unused : List Choice) → Faulted x [] ≡ Faulted b unused → x ≡ b
  fault_same x b unused h = cc
fault_outcome (Some Unwanted) b unused h = cc
fault_outcome (Some Strayed) b unused h = cc

pub faults_of_end : (f : Function) (inputs : ℕ → ℕ) (b : Breach) → EndsWithin f inputs (start f) (Fault b) (size_of f) → FaultsWith f inputs b
faults_of_end f inputs b ends = record { steps = ends.steps; few = ends.few; there = same_run f inputs ends.steps (start f) ∙ ap outcome_of ends.there }

pub end_of_faults : (f : Function) (inputs : ℕ → ℕ) (b : Breach) → FaultsWith f inputs b → EndsWithin f inputs (start f) (Fault b) (size_of f)
end_of_faults f inputs b faults = record { steps = faults.steps; few = faults.few; there = fault_outcome (oracle f inputs faults.steps (start f)) b [] (sym (same_run f inputs faults.steps (start f)) ∙ faults.there) }

farther : (b c m : ℕ) → b ≤ c → c ≤ m → b ≤ m
farther b c m first second = omega (arith, first, second)

not_before : (b c : ℕ) → b < c → b ≤ c
not_before b c less = omega (arith, less)

-- a step stays in its block, or leads to one with a greater number
abbrev pub GoesOn : ℕ → Stepped → Type 0
GoesOn b (Goes t) = b ≤ t.block
GoesOn b (Chooses k destination next) = b < next
GoesOn b _ = Unit {0}

ahead_on : (f : Function) (b : ℕ) (r : Stepped) → LeadsAhead f b r → GoesOn b r
ahead_on f b (Goes t) ahead = not_before b t.block ahead.0
ahead_on f b Ends ahead = tt
ahead_on f b Cuts ahead = tt
ahead_on f b (Faults c) ahead = tt
ahead_on f b (Chooses k destination next) ahead = ahead.0
ahead_on f b Stuck ahead = tt

statement_on : (f : Function) (s : Configuration) (this : Statement) → GoesOn s.block (statement_step f s this)
statement_on f s (statement.Assign place value) = by_value (rvalue_value f s.values value) where
  by_value : (r : Result Word CheckClass) → GoesOn s.block (assigned s place.local.0 r)
  by_value (Ok w) = omega arith
  by_value (Err c) = tt
statement_on f s (statement.StorageLive l) = tt
statement_on f s (statement.StorageDead l) = tt
statement_on f s (statement.SetVariant p n) = tt

pub step_on : (f : Function) (s : Configuration) → is_scalar f ≡ true → GoesOn s.block (step f s)
unfolding step
step_on f s form = by_block (block_of f s.block) refl where
  by_test : (b : Block) → GoesOn s.block (terminator_step f s b.terminator) → (t : Bool) → GoesOn s.block (cond t (terminator_step f s b.terminator) Stuck)
  by_test b on true = on
  by_test b on false = tt

  by_statement : (b : Block) → GoesOn s.block (terminator_step f s b.terminator) → (found : Option Statement) → GoesOn s.block (step_at f s b.terminator (length b.statements) found)
  by_statement b on (Some this) = statement_on f s this
  by_statement b on None = by_test b on (s.index == length b.statements)

  by_block : (found : Option Block) → block_of f s.block ≡ found → GoesOn s.block (block_step f s found)
  by_block None e = tt
  by_block (Some b) e =
      let number : b.id.0 ≡ s.block = found_number f.blocks s.block b e in
      by_statement b (ahead_on f s.block (terminator_step f s b.terminator) (subst (λ k. LeadsAhead f k (terminator_step f s b.terminator)) number (terminator_ahead f b.id.0 s b.terminator (scalar_block f s.block b form e).terminator))) (slice_get b.statements s.index)

agree_choice : (f : Function) (inputs others : ℕ → ℕ) (n : ℕ) (s : Configuration) (destination next : ℕ) (w : Word) → oracle f inputs n (chosen s destination next w) ≡ oracle f others n (chosen s destination next w) → (x : Bool)
    → after_told (oracle f inputs n) (cond x (On (chosen s destination next w)) (Stop Unwanted)) ≡ after_told (oracle f others n) (cond x (On (chosen s destination next w)) (Stop Unwanted))
agree_choice f inputs others n s destination next w on true = on
agree_choice f inputs others n s destination next w on false = refl

agree_step : (f : Function) (inputs others : ℕ → ℕ) (n : ℕ) (s : Configuration) → inputs s.block ≡ others s.block → ((t : Configuration) → s.block ≤ t.block → oracle f inputs n t ≡ oracle f others n t) → (r : Stepped) → GoesOn s.block r
    → after_told (oracle f inputs n) (told_by inputs s r) ≡ after_told (oracle f others n) (told_by others s r)
agree_step f inputs others n s here on (Goes t) goes = on t goes
agree_step f inputs others n s here on Ends goes = refl
agree_step f inputs others n s here on Cuts goes = refl
agree_step f inputs others n s here on (Faults c) goes = refl
agree_step f inputs others n s here on (Chooses k destination next) goes =
    agree_choice f inputs others n s destination next (chosen_word inputs s.block k) (on (chosen s destination next (chosen_word inputs s.block k)) (not_before s.block next goes)) (is_value k (chosen_word inputs s.block k))
    ∙ ap (λ x. after_told (oracle f others n) (cond (is_value k (word (width_of_kind k) x)) (On (chosen s destination next (word (width_of_kind k) x))) (Stop Unwanted))) here
agree_step f inputs others n s here on Stuck goes = refl

-- two inputs that agree from a block on give the same run from there
pub same_inputs : (f : Function) (inputs others : ℕ → ℕ) → is_scalar f ≡ true → (n : ℕ) (s : Configuration) → ((m : ℕ) → s.block ≤ m → inputs m ≡ others m) → oracle f inputs n s ≡ oracle f others n s
same_inputs f inputs others form zero s same = oracle_none f inputs s ∙ sym (oracle_none f others s)
same_inputs f inputs others form (suc n) s same =
    oracle_more f inputs n s
    ∙ agree_step f inputs others n s (same s.block (omega arith)) (λ t more. same_inputs f inputs others form n t (λ m upto. same m (farther s.block t.block m more upto))) (step f s) (step_on f s form)
    ∙ sym (oracle_more f others n s)

-- inputs with another number for one block
abbrev pub with_choice : (ℕ → ℕ) → ℕ → ℕ → ℕ → ℕ
with_choice inputs b n m = cond (m == b) n (inputs m)

with_here : (inputs : ℕ → ℕ) (b n : ℕ) → with_choice inputs b n b ≡ n
with_here inputs b n = ap (λ t. cond t n (inputs b)) (eq-eqb b b refl)

with_there : (inputs : ℕ → ℕ) (b n m : ℕ) → b < m → with_choice inputs b n m ≡ inputs m
with_there inputs b n m less = ap (λ t. cond t n (inputs m)) (ne_eqb m b (λ e. absurd (omega (arith, less, e))))

pub value_width : (k : ValueKind) (w : Word) → is_value k w ≡ true → (w.width == width_of_kind k) ≡ true
value_width kind.Bool w h = and_left (w.width == 1) (is_word w) h
value_width kind.Char w h = and_left (w.width == 32) (is_word w) (and_left (w.width == 32 && is_word w) (is_scalar_value w.value) h)
value_width (kind.Int i) w h = and_left (w.width == width_of_kind (kind.Int i)) (is_word w) h
value_width kind.Unit w h = and_left (w.width == 1) (is_word w) h
value_width kind.Never w h = and_left (w.width == 1) (is_word w) h

pub value_test : (k : ValueKind) (w : Word) → is_value k w ≡ true → is_word w ≡ true
value_test kind.Bool w h = and_right (w.width == 1) (is_word w) h
value_test kind.Char w h = and_right (w.width == 32) (is_word w) (and_left (w.width == 32 && is_word w) (is_scalar_value w.value) h)
value_test (kind.Int i) w h = and_right (w.width == width_of_kind (kind.Int i)) (is_word w) h
value_test kind.Unit w h = and_right (w.width == 1) (is_word w) h
value_test kind.Never w h = and_right (w.width == 1) (is_word w) h

abbrev word_with : ℕ → ℕ → Word
word_with width n = record { width = width; value = n }

word_same : (width n : ℕ) (w : Word) → width ≡ w.width → n ≡ w.value → ◌≡◌ {A = Word} (record { width = width; value = n }) w
word_same width n w e g = ap (λ k. word_with k n) e ∙ ap (word_with w.width) g

-- a value of a kind is its number, cut to the width
pub value_word : (k : ValueKind) (w : Word) → is_value k w ≡ true → word (width_of_kind k) w.value ≡ w
value_word k w h =
    let width : w.width ≡ width_of_kind k = eqb-true w.width (width_of_kind k) (value_width k w h) in
    let below : w.value < 2 ^ width_of_kind k = subst (λ n. w.value < 2 ^ n) width (word_of_test w (value_test k w h)).below in
    word_same (width_of_kind k) (w.value % 2 ^ width_of_kind k) w (sym width) (mod-eq_of_lt below)

-- the inputs under which the run by inputs goes as a run that ends in a fault
pub record SomeInputs (f : Function) (n : ℕ) (s : Configuration) (b : Breach) : Type 0 where
  pub inputs : ℕ → ℕ
  pub there : oracle f inputs n s ≡ Some (Fault b)

-- the inputs for a choice and what comes behind it
choice_inputs : (f : Function) → is_scalar f ≡ true → (n : ℕ) (s : Configuration) (k : ValueKind) (destination next : ℕ) (c : Choice) (b : Breach) → step f s ≡ Chooses k destination next → is_value k c.word ≡ true
    → SomeInputs f n (chosen s destination next c.word) b → SomeInputs f (suc n) s b
choice_inputs f form n s k destination next c b e fits on =
    let inputs = with_choice on.inputs s.block c.word.value in
    let chosen_is : chosen_word inputs s.block k ≡ c.word = ap (word (width_of_kind k)) (with_here on.inputs s.block c.word.value) ∙ value_word k c.word fits in
    let less : s.block < next = subst (GoesOn s.block) e (step_on f s form) in
    record {
      inputs = inputs;
      there = oracle_more f inputs n s ∙ ap (λ r. after_told (oracle f inputs n) (told_by inputs s r)) e
          ∙ ap (λ w. after_told (oracle f inputs n) (cond (is_value k w) (On (chosen s destination next w)) (Stop Unwanted))) chosen_is
          ∙ ap (λ x. after_told (oracle f inputs n) (cond x (On (chosen s destination next c.word)) (Stop Unwanted))) fits
          ∙ same_inputs f inputs on.inputs form n (chosen s destination next c.word) (λ m upto. with_there on.inputs s.block c.word.value m (behind s.block next m less upto))
          ∙ on.there;
    }
  where
    behind : (b next m : ℕ) → b < next → next ≤ m → b < m
    behind b next m less upto = omega (arith, less, upto)

breach_same : (x b : Breach) (cs unused : List Choice) → Faulted x cs ≡ Faulted b unused → x ≡ b
breach_same x b cs unused e = cc

test_inputs : (f : Function) → is_scalar f ≡ true → (n : ℕ) (s : Configuration) (k : ValueKind) (destination next : ℕ) (c : Choice) (cs unused : List Choice) (b : Breach) → step f s ≡ Chooses k destination next
    → ((t : Configuration) (more : List Choice) → run f n t more ≡ Faulted b unused → SomeInputs f n t b)
    → (x : Bool) → is_choice_of k c ≡ x → cond x (run f n (chosen s destination next c.word) cs) Wanting ≡ Faulted b unused → SomeInputs f (suc n) s b
test_inputs f form n s k destination next c cs unused b e on true t g = choice_inputs f form n s k destination next c b e (and_right (same_kind k c.kind) (is_value k c.word) t) (on (chosen s destination next c.word) cs g)
test_inputs f form n s k destination next c cs unused b e on false t g = cc

step_inputs : (f : Function) → is_scalar f ≡ true → (n : ℕ) (s : Configuration) (choices unused : List Choice) (b : Breach)
    → ((t : Configuration) (more : List Choice) → run f n t more ≡ Faulted b unused → SomeInputs f n t b)
    → (r : Stepped) → step f s ≡ r → after (run f n) s choices r ≡ Faulted b unused → SomeInputs f (suc n) s b
step_inputs f form n s choices unused b on (Goes t) e g =
    let more = on t choices g in
    record { inputs = more.inputs; there = oracle_more f more.inputs n s ∙ ap (λ r. after_told (oracle f more.inputs n) (told_by more.inputs s r)) e ∙ more.there }
step_inputs f form n s choices unused b on Ends e g = cc
step_inputs f form n s choices unused b on Cuts e g = cc
step_inputs f form n s choices unused b on (Faults c) e g = record {
  inputs = λ m. 0;
  there = oracle_more f (λ m. 0) n s ∙ ap (λ r. after_told (oracle f (λ m. 0) n) (told_by (λ m. 0) s r)) e ∙ ap (λ x. Some (Fault x)) (breach_same (breach_at s c) b choices unused g);
}
step_inputs f form n s [] unused b on (Chooses k destination next) e g = cc
step_inputs f form n s (c ∷ cs) unused b on (Chooses k destination next) e g = test_inputs f form n s k destination next c cs unused b e on (is_choice_of k c) refl g
step_inputs f form n s choices unused b on Stuck e g = cc

running_fault : (b : Breach) (unused : List Choice) → Running ≡ Faulted b unused → ⊥
running_fault b unused e = cc

pub inputs_of_run : (f : Function) → is_scalar f ≡ true → (n : ℕ) (s : Configuration) (choices unused : List Choice) (b : Breach) → run f n s choices ≡ Faulted b unused → SomeInputs f n s b
inputs_of_run f form zero s choices unused b h = absurd (running_fault b unused (sym (run_none f s choices) ∙ h))
inputs_of_run f form (suc n) s choices unused b h =
    step_inputs f form n s choices unused b (λ t more g. inputs_of_run f form n t more unused b g) (step f s) refl (sym (run_more f n s choices) ∙ h)
