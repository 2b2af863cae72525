-- What is known behind a switch, a return and a call, and where a step leads.
use Rattle.std.proofs.Common.{◌≡◌, ◌↔◌, ℕ, ◌<◌, ◌≤◌, ◌==◌, ◌&&◌, not, Bool, true, false, cond, List, [], ◌∷◌, Option, Some, None, length, get_or, subst, sym, ap, ◌∙◌, refl, arith}
use Rattle.std.specs.Prelude.{Result, Ok, Err, nat_lt}
use Rattle.std.specs.List.{list_any}
use Rattle.std.proofs.lemmas.Bool.{false≢true}
use Rattle.vk_core.specs.declared.check.CheckClass.{CheckClass}
use Rattle.vk_core.specs.declared.check.CheckClass.TheVariants as class
use Rattle.vk_core.specs.declared.ids.BlockId.{BlockId}
use Rattle.word_bits.specs.declared.word.Word.{Word}
use Rattle.mir_ir.specs.declared.tree.Arm.{Arm}
use Rattle.mir_ir.specs.declared.tree.Function.{Function}
use Rattle.mir_ir.specs.declared.tree.Operand.{Operand}
use Rattle.mir_ir.specs.declared.tree.Terminator.{Terminator}
use Rattle.mir_ir.specs.declared.tree.Terminator.TheVariants as terminator
use Rattle.sym_terms.specs.declared.term.Term.{Term}
use Rattle.sym_terms.specs.declared.term.TermId.{TermId}
use Rattle.sym_terms.specs.Terms.{Keeps}
use Rattle.scalar_runs.specs.declared.breach.Breach.{Breach}
use Rattle.scalar_runs.specs.declared.builtins.Builtin.{Builtin}
use Rattle.scalar_runs.specs.declared.builtins.Builtin.TheVariants as builtin
use Rattle.scalar_runs.specs.declared.kinds.ValueKind.{ValueKind}
use Rattle.scalar_runs.specs.declared.kinds.ValueKind.TheVariants as kind
use Rattle.scalar_runs.specs.Kinds.{has_bytes, is_word, width_of_kind}
use Rattle.scalar_runs.specs.Look.{block_of}
use Rattle.scalar_runs.specs.Run.{Configuration, Stepped, Ends, builtin_step, call_step, condition_step, switched, target_of, terminator_step, tested}
use Rattle.scalar_form.specs.Typing.{agree, are_arms, are_shown, has_kind, is_any_call, is_assert_call, is_assume_call, is_builtin_call, is_call, is_switch, is_target, is_terminator, is_text, is_there, is_truth, switch_width}
use Rattle.scalar_runs.specs.Values.{Values, kind_of_operand, operand_value}
use Rattle.scalar_runs.proofs.OperandLaws.{and_left, and_right, word_of_test}
use Rattle.value_terms.specs.declared.slots.Slot.{Slot}
use Rattle.value_terms.specs.Made.{Grown, IsTest, holds}
use Rattle.value_terms.specs.Slots.{AreHeld, AreSlots, IsRead, ReadIs, slot_width}
use Rattle.value_terms.proofs.MadeLaws.{grown_same, grown_trans, holds_kept}
use Rattle.value_terms.proofs.RvalueLaws.{held_kept}
use Rattle.scalar_terms.specs.declared.failures.Failure.{Failure}
use Rattle.scalar_terms.specs.declared.ways.Way.{Way}
use Rattle.scalar_terms.specs.Joins.{AreQuiet, AreWays, WaysAre, WaysIn}
use Rattle.scalar_terms.specs.Places.{Fault, Before, Done, Spot, Here, There, place_of, standing, stepped_place}
use Rattle.scalar_terms.specs.Steps.{breach_of}
use Rattle.scalar_terms.specs.Sweeps.{HaveRoom, has_condition}
use Rattle.scalar_terms.specs.Switches.{AreArms, IsSwitched}
use Rattle.scalar_terms.specs.Tests.{IsLed}
use Rattle.scalar_terms.specs.Ways.{AreFailures, IsFaultAt, IsNoted, IsWay, PointIs, Tells, ToldAt, ToldIn}
use Rattle.scalar_terms.proofs.LedLaws.{noted_first, noted_same}
use Rattle.scalar_terms.proofs.StepLaws.{failures_kept}
use Rattle.scalar_terms.proofs.TestLaws.{quiet_kept, told_kept, ways_kept}

-- a target is among the ways
pub target_inside : (f : Function) (count from : ℕ) (to : BlockId) → HaveRoom f count → is_target f from to ≡ true → to.0 < count
target_inside f count from to room h = room to.0 (and_right (nat_lt from to.0) (is_there (block_of f to.0)) h)

-- what is switched on has bytes, as many bits as the width says
pub switch_known : (k : Option ValueKind) (f : Function) (from : ℕ) (arms : List Arm) (otherwise : BlockId) → is_switch f from (switch_width k) arms otherwise ≡ true
    → (has_kind k ≡ true) × (is_switch f from (Some (slot_width k)) arms otherwise ≡ true)
switch_known None f from arms otherwise h = cc
switch_known (Some k) f from arms otherwise h = by_cases (has_bytes k) h where
  by_cases : (t : Bool) → is_switch f from (cond t (Some (width_of_kind k)) None) arms otherwise ≡ true → (has_kind (Some k) ≡ true) × (is_switch f from (Some (width_of_kind k)) arms otherwise ≡ true)
  by_cases true h = (refl, h)
  by_cases false h = cc

pub arms_inside : (f : Function) (count from width : ℕ) (arms : List Arm) → HaveRoom f count → are_arms f from width arms ≡ true → AreArms count width arms
arms_inside f count from width [] room h = tt
arms_inside f count from width (arm ∷ arms) room h =
    let word_test = is_word (record { width = width; value = arm.number }) in
    let apart = not (list_any (λ (other : Arm). other.number == arm.number) arms) in
    let three : (word_test && is_target f from arm.target && apart) ≡ true = and_left (word_test && is_target f from arm.target && apart) (are_arms f from width arms) h in
    let two : (word_test && is_target f from arm.target) ≡ true = and_left (word_test && is_target f from arm.target) apart three in (
      target_inside f count from arm.target room (and_right word_test (is_target f from arm.target) two),
      word_of_test (record { width = width; value = arm.number }) (and_left word_test (is_target f from arm.target) two),
      arms_inside f count from width arms room (and_right (word_test && is_target f from arm.target && apart) (are_arms f from width arms) h),
    )

-- a step that is another one says the same
pub led_as : (f : Function) (old new : List Term) (was : Way) (ways joined : List (Option Way)) (fs gs : List Failure) (b i : ℕ) (does other : Configuration → Stepped) → ((s : Configuration) → does s ≡ other s)
    → IsLed f old new was ways joined fs gs b i does → IsLed f old new was ways joined fs gs b i other
led_as f old new was ways joined fs gs b i does other same led = record {
  keeps = led.keeps;
  free = led.free;
  one_each = led.one_each;
  are = led.are;
  failures = led.failures;
  is = λ inputs spot point come told. by_spot f old new was ways joined fs gs b i does other same led inputs spot (led.is inputs spot point come told);
} where
  by_spot : (f : Function) (old new : List Term) (was : Way) (ways joined : List (Option Way)) (fs gs : List Failure) (b i : ℕ) (does other : Configuration → Stepped) → ((s : Configuration) → does s ≡ other s)
      → IsLed f old new was ways joined fs gs b i does → (inputs : ℕ → ℕ) (spot : Spot)
      → WaysAre new inputs joined (stepped_place inputs b i does spot) × ToldAt new inputs gs (stepped_place inputs b i does spot)
      → WaysAre new inputs joined (stepped_place inputs b i other spot) × ToldAt new inputs gs (stepped_place inputs b i other spot)
  by_spot f old new was ways joined fs gs b i does other same led inputs (Here v) h = subst (λ r. WaysAre new inputs joined (place_of inputs (standing b i v) r) × ToldAt new inputs gs (place_of inputs (standing b i v) r)) (same (standing b i v)) h
  by_spot f old new was ways joined fs gs b i does other same led inputs (There p) h = h

-- behind a return
pub ended_made : (f : Function) (terms : List Term) (was : Way) (ways : List (Option Way)) (fs : List Failure) (b i : ℕ) → AreWays f terms ways → AreFailures terms fs → IsLed f terms terms was ways ways fs fs b i (λ s. Ends)
ended_made f terms was ways fs b i ways_are are = record {
  keeps = (grown_same terms).keeps;
  free = λ number apart free. free;
  one_each = refl;
  are = ways_are;
  failures = are;
  is = λ inputs spot point come told. by_spot f terms was ways fs b i inputs spot come told;
} where
  by_spot : (f : Function) (terms : List Term) (was : Way) (ways : List (Option Way)) (fs : List Failure) (b i : ℕ) (inputs : ℕ → ℕ) (spot : Spot) → WaysIn terms inputs ways spot → ToldIn terms inputs fs spot
      → WaysAre terms inputs ways (stepped_place inputs b i (λ s. Ends) spot) × ToldAt terms inputs fs (stepped_place inputs b i (λ s. Ends) spot)
  by_spot f terms was ways fs b i inputs (Here v) come told = (come, told)
  by_spot f terms was ways fs b i inputs (There p) come told = (come, told)

-- behind a switch, at a point that the run passes
switch_here : (f : Function) (old mid next new : List Term) (inputs : ℕ → ℕ) (fs gs : List Failure) (ways joined : List (Option Way)) (b i guard goes : ℕ) (unset : TermId) (slots : List Slot) (slot : Slot) (arms : List Arm) (otherwise : BlockId) (v : Values) (r : Result Word CheckClass)
    → Keeps old next → Keeps mid next → slot.word.0 < length mid → AreFailures old fs → AreWays f old ways → AreSlots f old slots → IsNoted next fs gs (breach_of b i class.Uninit) unset
    → IsSwitched f next new ways joined slot.word.0 goes slots arms otherwise → AreFailures next gs
    → holds next inputs unset.0 ≡ not (holds mid inputs slot.set.0) → holds next inputs goes ≡ holds mid inputs slot.set.0
    → AreHeld old inputs slots v → AreQuiet old inputs ways → ((z : Breach) → Tells old inputs fs z ↔ ⊥) → ReadIs mid inputs slot r
    → WaysAre new inputs joined (place_of inputs (standing b i v) (switched (standing b i v) arms otherwise r)) × ToldAt new inputs gs (place_of inputs (standing b i v) (switched (standing b i v) arms otherwise r))
switch_here f old mid next new inputs fs gs ways joined b i guard goes unset slots slot arms otherwise v (Ok w) keeps later inside are ways_are slots_are noted switch noted_are unset_is goes_is held quiet told is = (
  subst (λ x. WaysAre new inputs joined (Before (target_of arms otherwise x.value).0 v)) (later.values_kept inputs slot.word.0 inside ∙ is.1)
      (switch.comes inputs v (goes_is ∙ is.0) (quiet_kept f old next inputs ways keeps ways_are quiet) (held_kept old next inputs f slots v keeps slots_are held)),
  told_kept next new inputs gs (λ z. ⊥) switch.grown.keeps noted_are
      (noted_same old next inputs fs gs _ unset (λ z. ⊥) keeps are noted told (unset_is ∙ ap not is.0)),
)
switch_here f old mid next new inputs fs gs ways joined b i guard goes unset slots slot arms otherwise v (Err c) keeps later inside are ways_are slots_are noted switch noted_are unset_is goes_is held quiet told is = (
  switch.stays inputs (Done (Fault (breach_of b i c))) (goes_is ∙ is.1) (quiet_kept f old next inputs ways keeps ways_are quiet),
  told_kept next new inputs gs (λ z. breach_of b i c ≡ z) switch.grown.keeps noted_are
      (subst (λ x. (z : Breach) → Tells next inputs gs z ↔ (breach_of b i x ≡ z)) (sym is.0)
      (noted_first old next inputs fs gs _ unset keeps are noted told (unset_is ∙ ap not is.1))),
)

pub switch_made : (f : Function) (old mid next last new : List Term) (was : Way) (ways joined : List (Option Way)) (fs gs : List Failure) (b i goes : ℕ) (unset : TermId) (slot : Slot) (o : Operand) (arms : List Arm) (otherwise : BlockId)
    → IsWay f old was → AreWays f old ways → AreFailures old fs → IsRead f old mid was.slots.items (kind_of_operand f o) (λ values. operand_value f values o) slot
    → IsTest mid next unset.0 (λ inputs. holds mid inputs was.guard.0 && not (holds mid inputs slot.set.0)) → IsTest next last goes (λ inputs. holds next inputs was.guard.0 && holds next inputs slot.set.0)
    → IsNoted last fs gs (breach_of b i class.Uninit) unset → IsSwitched f last new ways joined slot.word.0 goes was.slots.items arms otherwise
    → IsLed f old new was ways joined fs gs b i (λ s. switched s arms otherwise (operand_value f s.values o))
switch_made f old mid next last new was ways joined fs gs b i goes unset slot o arms otherwise way ways_are are got is_unset is_goes noted switch =
    let ml : Grown mid last = grown_trans mid next last is_unset.grown is_goes.grown in
    let upto : Grown old last = grown_trans old mid last got.grown ml in
    let all : Grown old new = grown_trans old last new upto switch.grown in
    let noted_are : AreFailures last gs = noted.failures (failures_kept old last fs upto.keeps are) in
    let guard_is : (inputs : ℕ → ℕ) → holds mid inputs was.guard.0 ≡ holds old inputs was.guard.0 = λ inputs. holds_kept old mid inputs was.guard.0 got.grown.keeps way.guard.inside in
    let unset_is : (inputs : ℕ → ℕ) → holds last inputs unset.0 ≡ (holds old inputs was.guard.0 && not (holds mid inputs slot.set.0)) = λ inputs. holds_kept next last inputs unset.0 is_goes.grown.keeps is_unset.bit.inside ∙ is_unset.holds_is inputs
    ∙ ap (λ x. x && not (holds mid inputs slot.set.0)) (guard_is inputs) in
    let goes_is : (inputs : ℕ → ℕ) → holds last inputs goes ≡ (holds old inputs was.guard.0 && holds mid inputs slot.set.0) = λ inputs. is_goes.holds_is inputs
    ∙ ap (λ x. x && holds next inputs slot.set.0) (holds_kept old next inputs was.guard.0 (grown_trans old mid next got.grown is_unset.grown).keeps way.guard.inside)
    ∙ ap (λ x. holds old inputs was.guard.0 && x) (holds_kept mid next inputs slot.set.0 is_unset.grown.keeps got.kept.set.inside) in
    record {
      keeps = all.keeps;
      free = λ number apart free. all.free number free;
      one_each = switch.one_each;
      are = switch.are;
      failures = failures_kept last new gs switch.grown.keeps noted_are;
      is = λ inputs spot point come told. by_spot f old mid last new was ways joined fs gs b i goes unset slot o arms otherwise way ways_are are got ml upto noted_are noted switch inputs (unset_is inputs) (goes_is inputs) spot point come told;
    }
  where
    by_spot : (f : Function) (old mid last new : List Term) (was : Way) (ways joined : List (Option Way)) (fs gs : List Failure) (b i goes : ℕ) (unset : TermId) (slot : Slot) (o : Operand) (arms : List Arm) (otherwise : BlockId)
        → IsWay f old was → AreWays f old ways → AreFailures old fs → IsRead f old mid was.slots.items (kind_of_operand f o) (λ values. operand_value f values o) slot → Grown mid last → Grown old last → AreFailures last gs
        → IsNoted last fs gs (breach_of b i class.Uninit) unset → IsSwitched f last new ways joined slot.word.0 goes was.slots.items arms otherwise
        → (inputs : ℕ → ℕ) → holds last inputs unset.0 ≡ (holds old inputs was.guard.0 && not (holds mid inputs slot.set.0)) → holds last inputs goes ≡ (holds old inputs was.guard.0 && holds mid inputs slot.set.0)
        → (spot : Spot) → PointIs old inputs was spot → WaysIn old inputs ways spot → ToldIn old inputs fs spot
        → WaysAre new inputs joined (stepped_place inputs b i (λ s. switched s arms otherwise (operand_value f s.values o)) spot) × ToldAt new inputs gs (stepped_place inputs b i (λ s. switched s arms otherwise (operand_value f s.values o)) spot)
    by_spot f old mid last new was ways joined fs gs b i goes unset slot o arms otherwise way ways_are are got ml upto noted_are noted switch inputs unset_is goes_is (Here v) point come told =
        switch_here f old mid last new inputs fs gs ways joined b i was.guard.0 goes unset was.slots.items slot arms otherwise v (operand_value f v o) upto.keeps ml.keeps got.kept.inside are ways_are way.slots noted switch noted_are
        (unset_is ∙ ap (λ x. x && not (holds mid inputs slot.set.0)) point.0) (goes_is ∙ ap (λ x. x && holds mid inputs slot.set.0) point.0) point.1 come told (got.is inputs v point.1)
    by_spot f old mid last new was ways joined fs gs b i goes unset slot o arms otherwise way ways_are are got ml upto noted_are noted switch inputs unset_is goes_is (There p) point come told = (
      switch.stays inputs p (goes_is ∙ ap (λ x. x && holds mid inputs slot.set.0) point) (ways_kept f old last inputs ways p upto.keeps ways_are come),
      told_kept last new inputs gs (IsFaultAt p) switch.grown.keeps noted_are
          (noted_same old last inputs fs gs _ unset (IsFaultAt p) upto.keeps are noted told (unset_is ∙ ap (λ x. x && not (holds mid inputs slot.set.0)) point)),
    )

-- a terminator that is known
pub form_of : (f : Function) (from : ℕ) (last x : Terminator) → last ≡ x → is_terminator f from last ≡ true → is_terminator f from x ≡ true
form_of f from last x e h = subst (λ t. is_terminator f from t ≡ true) e h

-- the condition of an assertion is a truth value
pub assert_truth : (f : Function) (from : ℕ) (last : Terminator) (o : Operand) (expected : Bool) (text : List ℕ) (shown : List Operand) (next : BlockId) → last ≡ terminator.Assert o expected text shown next → is_terminator f from last ≡ true → is_truth f o ≡ true
assert_truth f from last o expected text shown next e h =
    and_left (is_truth f o) (are_shown f shown) (and_left (is_truth f o && are_shown f shown) (is_target f from next) (form_of f from last (terminator.Assert o expected text shown next) e h))

pub led_of : (f : Function) (old new : List Term) (was : Way) (ways joined : List (Option Way)) (fs gs : List Failure) (b i : ℕ) (last x : Terminator) → last ≡ x
    → IsLed f old new was ways joined fs gs b i (λ s. terminator_step f s x) → IsLed f old new was ways joined fs gs b i (λ s. terminator_step f s last)
led_of f old new was ways joined fs gs b i last x e led = subst (λ t. IsLed f old new was ways joined fs gs b i (λ s. terminator_step f s t)) (sym e) led

-- a call that is known
pub called_led : (f : Function) (old new : List Term) (was : Way) (ways joined : List (Option Way)) (fs gs : List Failure) (b i destination : ℕ) (called x : Option Builtin) (arguments : List Operand) (next y : Option BlockId) → called ≡ x → next ≡ y
    → IsLed f old new was ways joined fs gs b i (λ s. call_step f s destination x arguments y) → IsLed f old new was ways joined fs gs b i (λ s. call_step f s destination called arguments next)
called_led f old new was ways joined fs gs b i destination called x arguments next y e g led =
    subst (λ c. IsLed f old new was ways joined fs gs b i (λ s. call_step f s destination c arguments next)) (sym e) (subst (λ n. IsLed f old new was ways joined fs gs b i (λ s. call_step f s destination x arguments n)) (sym g) led)

pub builtin_led : (f : Function) (old new : List Term) (was : Way) (ways joined : List (Option Way)) (fs gs : List Failure) (b i destination : ℕ) (called x : Builtin) (arguments : List Operand) (next : Option BlockId) → called ≡ x
    → IsLed f old new was ways joined fs gs b i (λ s. builtin_step f s destination x arguments next) → IsLed f old new was ways joined fs gs b i (λ s. builtin_step f s destination called arguments next)
builtin_led f old new was ways joined fs gs b i destination called x arguments next e led = subst (λ c. IsLed f old new was ways joined fs gs b i (λ s. builtin_step f s destination c arguments next)) (sym e) led

pub call_form : (f : Function) (from : ℕ) (k : Option ValueKind) (called x : Option Builtin) (arguments : List Operand) (next y : Option BlockId) → called ≡ x → next ≡ y → is_call f from k called arguments next ≡ true → is_call f from k x arguments y ≡ true
call_form f from k called x arguments next y e g h = subst (λ n. is_call f from k x arguments n ≡ true) g (subst (λ c. is_call f from k c arguments next ≡ true) e h)

pub builtin_form : (f : Function) (from : ℕ) (k : Option ValueKind) (called x : Builtin) (arguments : List Operand) (next : Option BlockId) → called ≡ x → is_builtin_call f from k called arguments next ≡ true → is_builtin_call f from k x arguments next ≡ true
builtin_form f from k called x arguments next e h = subst (λ c. is_builtin_call f from k c arguments next ≡ true) e h

-- a panic alone does not return
pub panic_alone : (f : Function) (from : ℕ) (k : Option ValueKind) (called : Builtin) (arguments : List Operand) → is_builtin_call f from k called arguments None ≡ true → called ≡ builtin.Panic
panic_alone f from k (builtin.Any x) arguments h = absurd (false≢true (and_right (is_any_call x k arguments) false h))
panic_alone f from k builtin.Assume arguments h = absurd (false≢true (and_right (is_assume_call f k arguments) false h))
panic_alone f from k builtin.Assert arguments h = absurd (false≢true (and_right (is_assert_call f k arguments) false h))
panic_alone f from k builtin.Panic arguments h = refl

pub panic_returns : (f : Function) (from : ℕ) (k : Option ValueKind) (arguments : List Operand) (next : BlockId) → is_builtin_call f from k builtin.Panic arguments (Some next) ≡ true → ⊥
panic_returns f from k [] next h = cc
panic_returns f from k (text ∷ []) next h = cc
panic_returns f from k (text ∷ other ∷ more) next h = cc

-- the condition of an assumption and of an assertion
pub assume_condition : (f : Function) (k : Option ValueKind) (arguments : List Operand) → is_assume_call f k arguments ≡ true → has_condition f arguments ≡ true
assume_condition f k [] h = cc
assume_condition f k (condition ∷ []) h = and_left (is_truth f condition) (agree k (Some kind.Unit)) h
assume_condition f k (condition ∷ other ∷ more) h = cc

pub assert_condition : (f : Function) (k : Option ValueKind) (arguments : List Operand) → is_assert_call f k arguments ≡ true → has_condition f arguments ≡ true
assert_condition f k [] h = cc
assert_condition f k (condition ∷ []) h = cc
assert_condition f k (condition ∷ text ∷ []) h = and_left (is_truth f condition) (is_text text) (and_left (is_truth f condition && is_text text) (agree k (Some kind.Unit)) h)
assert_condition f k (condition ∷ text ∷ other ∷ more) h = cc

pub no_condition : (f : Function) (arguments : List Operand) → length arguments < 1 → has_condition f arguments ≡ true → ⊥
no_condition f [] none h = cc
no_condition f (condition ∷ more) none h = absurd (omega arith)

pub first_condition : (f : Function) (condition : Operand) (arguments : List Operand) → 1 ≤ length arguments → condition ≡ get_or arguments 0 condition → has_condition f arguments ≡ true → is_truth f condition ≡ true
first_condition f condition [] some e h = absurd (omega arith)
first_condition f condition (x ∷ xs) some e h = subst (λ o. is_truth f o ≡ true) (sym e) h

pub first_tested : (f : Function) (failed : Stepped) (condition : Operand) (arguments : List Operand) (next : ℕ) → 1 ≤ length arguments → condition ≡ get_or arguments 0 condition → (s : Configuration)
    → tested failed true s next (operand_value f s.values condition) ≡ condition_step f failed s arguments next
first_tested f failed condition [] next some e s = absurd (omega arith)
first_tested f failed condition (x ∷ xs) next some e s = ap (λ o. tested failed true s next (operand_value f s.values o)) e

-- the destination of a choice has its kind
pub any_agrees : (k : ValueKind) (destination : Option ValueKind) (arguments : List Operand) → is_any_call k destination arguments ≡ true → agree destination (Some k) ≡ true
any_agrees k destination [] h = and_right (has_bytes k) (agree destination (Some k)) h
any_agrees k destination (o ∷ os) h = cc

-- a call that does not return is a panic
pub panic_called : (f : Function) (from : ℕ) (k : Option ValueKind) (called : Option Builtin) (x : Builtin) (arguments : List Operand) (next : Option BlockId) → called ≡ Some x → next ≡ None → is_call f from k called arguments next ≡ true → called ≡ Some builtin.Panic
panic_called f from k called x arguments next e g h = e ∙ ap Some (panic_alone f from k x arguments (call_form f from k called (Some x) arguments next None e g h))
