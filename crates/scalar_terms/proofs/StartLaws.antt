-- What is known before the first step, and behind the last block.
use Rattle.std.proofs.Common.{◌≡◌, ◌↔◌, ℕ, zero, suc, ◌+◌, ◌<◌, ◌==◌, Bool, true, false, List, [], ◌∷◌, ◌++◌, Option, Some, None, length, replicate, subst, sym, ap, ◌∙◌, refl, arith, ◌⊎◌, inl, inr}
use Rattle.std.specs.Prelude.{slice_get, slice_index_or, slice_set}
use Rattle.std.proofs.lemmas.Bool.{eqb-true, eqb-false}
use Rattle.std.proofs.lemmas.List.{get_or-set_same, get_or-set_other, length-append, length-replicate, length-set}
use Rattle.std.proofs.lemmas.Option.{none-some, same_Some}
use Rattle.word_bits.specs.declared.word.Word.{Word}
use Rattle.mir_ir.specs.declared.tree.Function.{Function}
use Rattle.sym_terms.specs.declared.term.Term.{Term}
use Rattle.sym_terms.specs.declared.term.Term.TheVariants.{Constant}
use Rattle.sym_terms.specs.Terms.{IsInserted}
use Rattle.scalar_runs.specs.declared.breach.Breach.{Breach}
use Rattle.scalar_runs.specs.declared.kinds.Choice.{Choice}
use Rattle.scalar_form.specs.Form.{is_scalar}
use Rattle.scalar_runs.specs.Look.{blocks_end, local_kind, locals_end}
use Rattle.scalar_runs.specs.Run.{Faulted, run, start}
use Rattle.scalar_form.specs.Size.{size_below, size_of}
use Rattle.value_terms.specs.declared.slots.Slot.{Slot}
use Rattle.value_terms.specs.Made.{IsFree, IsTest, holds}
use Rattle.value_terms.specs.Slots.{IsSlot, SlotIs, slot_width}
use Rattle.value_terms.proofs.MadeLaws.{bit_kept, grown_same, grown_trans, holds_kept, made_of}
use Rattle.value_terms.proofs.RvalueLaws.{slot_later}
use Rattle.scalar_terms.specs.declared.failures.Failure.{Failure}
use Rattle.scalar_terms.specs.declared.ways.Way.{Way}
use Rattle.scalar_terms.specs.Faults.{AreFaults, FaultsWith}
use Rattle.scalar_terms.specs.Joins.{way_at}
use Rattle.scalar_terms.specs.Oracle.{EndsWithin, PlaceEnds, oracle}
use Rattle.scalar_terms.specs.Places.{End, Ended, Cut, Fault, Wanting, Lost, Place, Before, Done, place}
use Rattle.scalar_terms.specs.Starts.{AreUnset, IsStart, IsUnset}
use Rattle.scalar_terms.specs.Sweeps.{AreSwept}
use Rattle.scalar_terms.specs.Ways.{IsFaultAt, IsWay, Tells, ToldAt}
use Rattle.scalar_terms.proofs.AheadLaws.{HasEnded, all_ended}
use Rattle.scalar_terms.proofs.FaultLaws.{end_of_faults, faults_of_end, inputs_of_run}
use Rattle.scalar_terms.proofs.ReachedLaws.{place_reached}
use Rattle.scalar_terms.proofs.RunLaws.{ends_one, oracle_one, place_from}

-- the inputs of a run that ends in a fault
record SomeFault (f : Function) (b : Breach) : Type 0 where
  pub inputs : ℕ → ℕ
  pub faults : FaultsWith f inputs b

pub unset_made : (old mid new : List Term) (slot : Slot) (w : Word) → IsTest old mid slot.set.0 (λ inputs. false) → IsInserted mid new (Constant w) slot.word.0 → IsUnset old new w.width slot
unset_made old mid new slot w set inserted =
    let word = made_of mid new (Constant w) slot.word.0 (λ n k. tt) inserted in
    record {
      grown = grown_trans old mid new set.grown word.grown;
      kept = record { set = bit_kept mid new slot.set.0 word.grown.keeps set.bit; inside = word.inside; width_is = word.width_is };
      unset = λ inputs. holds_kept mid new inputs slot.set.0 word.grown.keeps set.bit.inside ∙ set.holds_is inputs;
    }

pub none_unset : (f : Function) (terms : List Term) → AreUnset f terms terms [] 0
none_unset f terms = record { grown = grown_same terms; one_each = refl; each = λ n slot at. absurd (none-some slot at); unset = λ n slot at inputs. absurd (none-some slot at) }

-- an item of a list with one more at its end
last_cases : (xs : List Slot) (x y : Slot) (n : ℕ) → slice_get (xs ++ x ∷ []) n ≡ Some y → (slice_get xs n ≡ Some y) ⊎ ((n ≡ length xs) × (x ≡ y))
last_cases [] x y zero at = inr (refl, same_Some x y at)
last_cases [] x y (suc n) at = absurd (none-some y at)
last_cases (z ∷ zs) x y zero at = inl at
last_cases (z ∷ zs) x y (suc n) at = elim (last_cases zs x y n at) [ inl before ↦ inl before | inr here ↦ inr (ap suc here.0, here.1) ]

pub more_unset : (f : Function) (old mid new : List Term) (slots : List Slot) (slot : Slot) (count width : ℕ) → width ≡ slot_width (local_kind f count) → AreUnset f old mid slots count → IsUnset mid new width slot → AreUnset f old new (slots ++ slot ∷ []) (count + 1)
more_unset f old mid new slots slot count width e are is = record {
  grown = grown_trans old mid new are.grown is.grown;
  one_each = longer slots slot are.one_each;
  each = λ n x at. elim (last_cases slots slot x n at) [
    | inl before ↦ slot_later mid new _ x is.grown.keeps (are.each n x before)
    | inr here ↦ subst (IsSlot new (slot_width (local_kind f n))) here.1 (subst (λ w. IsSlot new w slot) (e ∙ ap (λ k. slot_width (local_kind f k)) (sym (here.0 ∙ are.one_each))) is.kept)
  ];
  unset = λ n x at inputs. elim (last_cases slots slot x n at) [
    | inl before ↦ holds_kept mid new inputs x.set.0 is.grown.keeps (are.each n x before).set.inside ∙ are.unset n x before inputs
    | inr here ↦ subst (λ y. holds new inputs y.set.0 ≡ false) here.1 (is.unset inputs)
  ];
} where
  longer : (xs : List Slot) (x : Slot) → length xs ≡ count → length (xs ++ x ∷ []) ≡ count + 1
  longer xs x same = length-append xs (x ∷ []) ∙ ap (λ n. n + 1) same

pub start_made : (f : Function) (old mid new : List Term) (way : Way) → IsTest old mid way.guard.0 (λ inputs. true) → AreUnset f mid new way.slots.items (locals_end f.locals) → IsStart f old new way
start_made f old mid new way guard are = record {
  grown = grown_trans old mid new guard.grown are.grown;
  is_way = record { guard = bit_kept mid new way.guard.0 are.grown.keeps guard.bit; slots = record { one_each = are.one_each; each = are.each } };
  always = λ inputs. holds_kept mid new inputs way.guard.0 are.grown.keeps guard.bit.inside ∙ guard.holds_is inputs;
  unset = are.unset;
}

-- a way for each block
pub ways_count : (count : ℕ) (none ways : List (Option Way)) (way : Way) → none ≡ replicate count None → ways ≡ slice_set none 0 (Some way) → length ways ≡ count
ways_count count none ways way e g = ap length g ∙ length-set none 0 (Some way) ∙ ap length e ∙ length-replicate count None

-- no terms have no inputs
none_free : (number : ℕ) → IsFree [] number
none_free number width n w at = absurd (none-some _ at)

none_at : (count n : ℕ) → slice_index_or (replicate {A = Option Way} count None) n None ≡ None
none_at zero n = refl
none_at (suc count) zero = refl
none_at (suc count) (suc n) = none_at count n

no_value : (count n : ℕ) → slice_index_or (replicate {A = Option Word} count None) n None ≡ None
no_value zero n = refl
no_value (suc count) zero = refl
no_value (suc count) (suc n) = no_value count n

way_none : (w : Way) → ◌≡◌ {A = Option Way} None (Some w) → ⊥
way_none w e = cc

pub start_swept : (f : Function) (terms : List Term) (way : Way) (none ways : List (Option Way)) (count : ℕ) → 0 < count → none ≡ replicate count None → ways ≡ slice_set none 0 (Some way) → IsStart f [] terms way → AreSwept f terms ways [] 0
start_swept f terms way none ways count some e g start_is = record {
  are = λ n w at. subst (IsWay f terms) (only n w at).1 start_is.is_way;
  failures = tt;
  free = λ number above. start_is.grown.free number (none_free number);
  is = λ inputs. (
    record {
      way = way;
      at = here;
      guard = start_is.always inputs;
      held = record {
        one_each = length-replicate (locals_end f.locals) None ∙ sym start_is.is_way.slots.one_each;
        each = λ n slot at. subst (SlotIs terms inputs slot) (sym (no_value (locals_end f.locals) n)) (start_is.unset n slot at inputs);
      };
      others = λ n w apart at. absurd (apart (only n w at).0);
    },
    λ b. (λ t. t, λ t. t),
  );
} where
  here : way_at ways 0 ≡ Some way
  here = ap (λ l. way_at l 0) g ∙ get_or-set_same none 0 (Some way) None (subst (λ l. 0 < length l) (sym e) (subst (λ n. 0 < n) (sym (length-replicate count None)) some))

  only : (n : ℕ) (w : Way) → way_at ways n ≡ Some w → (n ≡ 0) × (way ≡ w)
  only n w at = by_cases (n == 0) refl where
    by_cases : (t : Bool) → (n == 0) ≡ t → (n ≡ 0) × (way ≡ w)
    by_cases true h = (eqb-true n 0 h, same_Some way w (sym here ∙ ap (way_at ways) (sym (eqb-true n 0 h)) ∙ at))
    by_cases false h = absurd (way_none w (sym (ap (λ l. way_at l n) g ∙ get_or-set_other none 0 n (Some way) None (eqb-false n 0 h) ∙ ap (λ l. way_at l n) e ∙ none_at count n) ∙ at))

-- the failures behind all blocks are the faults of the runs by inputs
told_done : (f : Function) (inputs : ℕ → ℕ) (terms : List Term) (fs : List Failure) (p : Place) (b : Breach) → HasEnded p → ((e : End) → PlaceEnds f inputs p e 0 → EndsWithin f inputs (start f) e (size_of f)) → ToldAt terms inputs fs p → Tells terms inputs fs b ↔ FaultsWith f inputs b
told_done f inputs terms fs (Before t v) b ended from told = absurd ended
told_done f inputs terms fs (Done d) b ended from told = (
  λ tells. faults_of_end f inputs b (subst (λ e. EndsWithin f inputs (start f) e (size_of f)) (fault_is d b ((told b).0 tells)) (from d refl)),
  λ faults. (told b).1 (fault_at d b (ends_one f inputs (start f) d (Fault b) (size_of f) (size_of f) (from d refl) (end_of_faults f inputs b faults))),
) where
  fault_is : (d : End) (b : Breach) → IsFaultAt (Done d) b → d ≡ Fault b
  fault_is (Fault x) b h = ap Fault h
  fault_is Ended b h = absurd h
  fault_is Cut b h = absurd h
  fault_is Wanting b h = absurd h
  fault_is Lost b h = absurd h

  fault_at : (d : End) (b : Breach) → d ≡ Fault b → IsFaultAt (Done d) b
  fault_at d b h = subst (λ x. IsFaultAt (Done x) b) (sym h) refl

-- a run that ends, ends within the size of the function
pub ends_small : (f : Function) (inputs : ℕ → ℕ) (e : End) → is_scalar f ≡ true → PlaceEnds f inputs (place f inputs (blocks_end f.blocks)) e 0 → EndsWithin f inputs (start f) e (size_of f)
unfolding size_of
ends_small f inputs e form done = subst (EndsWithin f inputs (start f) e) (plain (size_below f (blocks_end f.blocks))) (place_from f inputs (λ n. place_reached f inputs n form) (blocks_end f.blocks) e 0 done) where
  plain : (n : ℕ) → n + 0 ≡ n
  plain n = omega arith

-- a run that ends in a fault does so under some inputs
fault_inputs : (f : Function) (n : ℕ) (choices unused : List Choice) (b : Breach) → is_scalar f ≡ true → run f n (start f) choices ≡ Faulted b unused → SomeFault f b
fault_inputs f n choices unused b form h =
    let found = inputs_of_run f form n (start f) choices unused b h in
    by_place found.inputs found.there (place f found.inputs (blocks_end f.blocks)) (all_ended f found.inputs form) (λ e. ends_small f found.inputs e form)
  where
    by_place : (inputs : ℕ → ℕ) → oracle f inputs n (start f) ≡ Some (Fault b) → (p : Place) → HasEnded p → ((e : End) → PlaceEnds f inputs p e 0 → EndsWithin f inputs (start f) e (size_of f)) → SomeFault f b
    by_place inputs there (Before t v) ended from = absurd ended
    by_place inputs there (Done d) ended from =
        let same : d ≡ Fault b = oracle_one f inputs (from d refl).steps n (start f) d (Fault b) (from d refl).there there in
        record { inputs = inputs; faults = faults_of_end f inputs b (subst (λ e. EndsWithin f inputs (start f) e (size_of f)) same (from d refl)) }

pub faults_made : (f : Function) (terms : List Term) (ways : List (Option Way)) (fs : List Failure) (count : ℕ) → is_scalar f ≡ true → count ≡ blocks_end f.blocks → AreSwept f terms ways fs count → AreFaults f terms fs
faults_made f terms ways fs count form e swept = record {
  failures = swept.failures;
  told = tells;
  every = λ n choices unused b h. (
      let found = fault_inputs f n choices unused b form h in
      record { inputs = found.inputs; tells = (tells found.inputs b).1 found.faults });
} where
  tells : (inputs : ℕ → ℕ) (b : Breach) → Tells terms inputs fs b ↔ FaultsWith f inputs b
  tells inputs b = told_done f inputs terms fs (place f inputs (blocks_end f.blocks)) b (all_ended f inputs form) (λ d. ends_small f inputs d form) (subst (λ n. ToldAt terms inputs fs (place f inputs n)) e (swept.is inputs).1)
