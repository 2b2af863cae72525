-- What is known behind a switch.
use Rattle.std.proofs.Common.{◌≡◌, ℕ, ◌<◌, ◌≤◌, ◌==◌, ◌&&◌, not, Bool, true, false, cond, List, [], ◌∷◌, length, Option, Some, find, option_map, unwrap_or, get_or, subst, sym, ap, ◌∙◌, refl, arith}
use Rattle.std.proofs.lemmas.Bool.{eqb-true, eq-eqb}
use Rattle.vk_core.specs.declared.ids.BlockId.{BlockId}
use Rattle.word_bits.specs.Words.{IsWord}
use Rattle.mir_ir.specs.declared.tree.Arm.{Arm}
use Rattle.mir_ir.specs.declared.tree.Function.{Function}
use Rattle.sym_terms.specs.declared.term.Term.{Term}
use Rattle.sym_terms.specs.Terms.{value, width_of}
use Rattle.scalar_runs.specs.Run.{target_of}
use Rattle.scalar_runs.specs.Values.{Values}
use Rattle.value_terms.specs.declared.slots.Slot.{Slot}
use Rattle.value_terms.specs.Made.{Grown, IsBit, IsTest, holds}
use Rattle.value_terms.specs.Slots.{AreHeld, AreSlots}
use Rattle.scalar_terms.specs.declared.ways.Way.{Way}
use Rattle.scalar_terms.specs.Joins.{AreQuiet, AreWays, IsJoined, WaysAre}
use Rattle.scalar_terms.specs.Places.{Ended, Before, Done}
use Rattle.scalar_terms.specs.Switches.{AreArms, IsSwitched}
use Rattle.value_terms.proofs.MadeLaws.{bit_kept, grown_trans, holds_kept}
use Rattle.value_terms.proofs.RvalueLaws.{held_kept, inside_kept, slots_kept}
use Rattle.scalar_terms.proofs.MergeLaws.{rest_cons, rest_of}
use Rattle.scalar_terms.proofs.TestLaws.{quiet_kept, ways_kept}

eqb_back : (a b : ℕ) (t : Bool) → (a == b) ≡ t → (b == a) ≡ t
eqb_back a b t e = by_cases t (b == a) e refl where
  by_cases : (t s : Bool) → (a == b) ≡ t → (b == a) ≡ s → (b == a) ≡ t
  by_cases true s e g = eq-eqb b a (sym (eqb-true a b e))
  by_cases false true e g = absurd (clash (a == b) e (eq-eqb a b (sym (eqb-true b a g)))) where
    clash : (b : Bool) → b ≡ false → b ≡ true → ⊥
    clash b e f = cc
  by_cases false false e g = g

-- the first arm decides where its number is the word's, else the rest do
pub target_hit : (arm : Arm) (arms : List Arm) (otherwise : BlockId) (n : ℕ) → (arm.number == n) ≡ true → target_of (arm ∷ arms) otherwise n ≡ arm.target
target_hit arm arms otherwise n e = ap (λ t. unwrap_or (option_map (λ (a : Arm). a.target) (cond t (Some arm) (find (λ (a : Arm). a.number == n) arms))) otherwise) e

pub target_missed : (arm : Arm) (arms : List Arm) (otherwise : BlockId) (n : ℕ) → (arm.number == n) ≡ false → target_of (arm ∷ arms) otherwise n ≡ target_of arms otherwise n
target_missed arm arms otherwise n e = ap (λ t. unwrap_or (option_map (λ (a : Arm). a.target) (cond t (Some arm) (find (λ (a : Arm). a.number == n) arms))) otherwise) e

pub switched_none : (f : Function) (old new : List Term) (ways joined : List (Option Way)) (word left : ℕ) (slots : List Slot) (arms : List Arm) (otherwise : BlockId) → length arms < 1 → IsJoined f old new ways joined otherwise.0 left slots
    → IsSwitched f old new ways joined word left slots arms otherwise
switched_none f old new ways joined word left slots [] otherwise none join = record { grown = join.grown; one_each = join.one_each; are = join.are; comes = join.comes; stays = join.stays }
switched_none f old new ways joined word left slots (arm ∷ arms) otherwise none join = absurd (omega arith)

pub switched_more : (f : Function) (old a b c d new : List Term) (ways joined last : List (Option Way)) (word left equal hit others : ℕ) (slots : List Slot) (arm : Arm) (arms : List Arm) (otherwise : BlockId)
    → word < length old → IsBit old left → AreSlots f old slots → AreWays f old ways
    → IsTest old a equal (λ inputs. (value old inputs word).value == arm.number) → IsTest a b hit (λ inputs. holds a inputs left && holds a inputs equal) → IsTest b c others (λ inputs. holds b inputs left && not (holds b inputs equal))
    → IsJoined f c d ways joined arm.target.0 hit slots → IsSwitched f d new joined last word others slots arms otherwise → IsSwitched f old new ways last word left slots (arm ∷ arms) otherwise
switched_more f old a b c d new ways joined last word left equal hit others slots arm arms otherwise inside bit slots_are ways_are is_equal is_hit is_others join rest =
    let ob : Grown old b = grown_trans old a b is_equal.grown is_hit.grown in
    let oc : Grown old c = grown_trans old b c ob is_others.grown in
    let od : Grown old d = grown_trans old c d oc join.grown in
    let e : (inputs : ℕ → ℕ) → Bool = λ inputs. (value old inputs word).value == arm.number in
    let hit_is : (inputs : ℕ → ℕ) → holds c inputs hit ≡ (holds old inputs left && e inputs) = λ inputs. holds_kept b c inputs hit is_others.grown.keeps is_hit.bit.inside ∙ is_hit.holds_is inputs
    ∙ ap (λ x. x && holds a inputs equal) (holds_kept old a inputs left is_equal.grown.keeps bit.inside) ∙ ap (λ y. holds old inputs left && y) (is_equal.holds_is inputs) in
    let others_is : (inputs : ℕ → ℕ) → holds d inputs others ≡ (holds old inputs left && not (e inputs)) = λ inputs. holds_kept c d inputs others join.grown.keeps is_others.bit.inside ∙ is_others.holds_is inputs
    ∙ ap (λ x. x && not (holds b inputs equal)) (holds_kept old b inputs left ob.keeps bit.inside) ∙ ap (λ y. holds old inputs left && not y) (holds_kept a b inputs equal is_hit.grown.keeps is_equal.bit.inside ∙ is_equal.holds_is inputs) in
    record {
      grown = grown_trans old d new od rest.grown;
      one_each = rest.one_each ∙ join.one_each;
      are = rest.are;
      comes = λ inputs v h quiet held. come inputs v h quiet held hit_is others_is oc od (e inputs) refl;
      stays = λ inputs p h before. rest.stays inputs p (others_is inputs ∙ ap (λ x. x && not (e inputs)) h) (join.stays inputs p (hit_is inputs ∙ ap (λ x. x && e inputs) h) (ways_kept f old c inputs ways p oc.keeps ways_are before));
    }
  where
    come : (inputs : ℕ → ℕ) (v : Values) → holds old inputs left ≡ true → AreQuiet old inputs ways → AreHeld old inputs slots v
        → ((inputs : ℕ → ℕ) → holds c inputs hit ≡ (holds old inputs left && ((value old inputs word).value == arm.number))) → ((inputs : ℕ → ℕ) → holds d inputs others ≡ (holds old inputs left && not ((value old inputs word).value == arm.number)))
        → Grown old c → Grown old d → (t : Bool) → ((value old inputs word).value == arm.number) ≡ t → WaysAre new inputs last (Before (target_of (arm ∷ arms) otherwise (value old inputs word).value).0 v)
    come inputs v h quiet held hit_is others_is oc od true e =
        subst (λ k. WaysAre new inputs last (Before k.0 v)) (sym (target_hit arm arms otherwise (value old inputs word).value (eqb_back _ _ true e)))
        (rest.stays inputs (Before arm.target.0 v) (others_is inputs ∙ ap (λ x. x && not ((value old inputs word).value == arm.number)) h ∙ ap not e)
        (join.comes inputs v (hit_is inputs ∙ ap (λ x. x && ((value old inputs word).value == arm.number)) h ∙ e) (quiet_kept f old c inputs ways oc.keeps ways_are quiet) (held_kept old c inputs f slots v oc.keeps slots_are held)))
    come inputs v h quiet held hit_is others_is oc od false e =
        subst (λ k. WaysAre new inputs last (Before k.0 v)) (sym (target_missed arm arms otherwise (value old inputs word).value (eqb_back _ _ false e)))
        (subst (λ w. WaysAre new inputs last (Before (target_of arms otherwise w.value).0 v)) (od.keeps.values_kept inputs word inside)
        (rest.comes inputs v (others_is inputs ∙ ap (λ x. x && not ((value old inputs word).value == arm.number)) h ∙ ap not e)
        (join.stays inputs (Done Ended) (hit_is inputs ∙ ap (λ x. x && ((value old inputs word).value == arm.number)) h ∙ e) (quiet_kept f old c inputs ways oc.keeps ways_are quiet))
        (held_kept old d inputs f slots v od.keeps slots_are held)))

pub rest_arms : (count width : ℕ) (xs : List Arm) → 1 ≤ length xs → AreArms count width xs → AreArms count width (rest_of xs)
rest_arms count width [] some are = absurd (omega arith)
rest_arms count width (x ∷ xs) some are = subst (AreArms count width) (sym (rest_cons x xs)) are.2

pub first_arm : (count width : ℕ) (xs : List Arm) (d : Arm) → 1 ≤ length xs → AreArms count width xs → ((get_or xs 0 d).target.0 < count) × IsWord (record { width = width; value = (get_or xs 0 d).number })
first_arm count width [] d some are = absurd (omega arith)
first_arm count width (x ∷ xs) d some are = (are.0, are.1)

pub switched_on : (f : Function) (old a b c e new : List Term) (ways joined last : List (Option Way)) (word left equal hit others : ℕ) (slots : List Slot) (d : Arm) (xs : List Arm) (otherwise : BlockId) → 1 ≤ length xs
    → word < length old → IsBit old left → AreSlots f old slots → AreWays f old ways
    → IsTest old a equal (λ inputs. (value old inputs word).value == (get_or xs 0 d).number) → IsTest a b hit (λ inputs. holds a inputs left && holds a inputs equal) → IsTest b c others (λ inputs. holds b inputs left && not (holds b inputs equal))
    → IsJoined f c e ways joined (get_or xs 0 d).target.0 hit slots → IsSwitched f e new joined last word others slots (rest_of xs) otherwise → IsSwitched f old new ways last word left slots xs otherwise
switched_on f old a b c e new ways joined last word left equal hit others slots d [] otherwise some inside bit slots_are ways_are is_equal is_hit is_others join rest = absurd (omega arith)
switched_on f old a b c e new ways joined last word left equal hit others slots d (x ∷ xs) otherwise some inside bit slots_are ways_are is_equal is_hit is_others join rest =
    switched_more f old a b c e new ways joined last word left equal hit others slots x xs otherwise inside bit slots_are ways_are is_equal is_hit is_others join (subst (λ l. IsSwitched f e new joined last word others slots l otherwise) (rest_cons x xs) rest)

-- the first so many arms were passed, and what comes behind those that are ahead comes behind all
pub record IsSwitching (f : Function) (old : List Term) (was : List (Option Way)) (word left width : ℕ) (slots : List Slot) (all : List Arm) (otherwise : BlockId) (terms : List Term) (ways : List (Option Way)) (unmatched : ℕ) (ahead : List Arm) : Type 0 where
  pub one_each : length ways ≡ length was
  pub arms : AreArms (length ways) width ahead
  pub inside : word < length terms
  pub width_is : width_of terms word ≡ width
  pub bit : IsBit terms unmatched
  pub slots_are : AreSlots f terms slots
  pub are : AreWays f terms ways
  pub rest : (new : List Term) (last : List (Option Way)) → IsSwitched f terms new ways last word unmatched slots ahead otherwise → IsSwitched f old new was last word left slots all otherwise

pub begun : (f : Function) (terms : List Term) (ways : List (Option Way)) (word left width : ℕ) (slots : List Slot) (all : List Arm) (otherwise : BlockId) → AreArms (length ways) width all → word < length terms → width_of terms word ≡ width → IsBit terms left
    → AreSlots f terms slots → AreWays f terms ways → IsSwitching f terms ways word left width slots all otherwise terms ways left all
begun f terms ways word left width slots all otherwise arms inside width_is bit slots_are are = record {
  one_each = refl;
  arms = arms;
  inside = inside;
  width_is = width_is;
  bit = bit;
  slots_are = slots_are;
  are = are;
  rest = λ new last h. h;
}

pub arm_on : (f : Function) (old mid a b c next : List Term) (was ways joined : List (Option Way)) (word left width unmatched equal hit others : ℕ) (slots : List Slot) (all ahead : List Arm) (d : Arm) (otherwise : BlockId) → 1 ≤ length ahead
    → IsSwitching f old was word left width slots all otherwise mid ways unmatched ahead
    → IsTest mid a equal (λ inputs. (value mid inputs word).value == (get_or ahead 0 d).number) → IsTest a b hit (λ inputs. holds a inputs unmatched && holds a inputs equal) → IsTest b c others (λ inputs. holds b inputs unmatched && not (holds b inputs equal))
    → IsJoined f c next ways joined (get_or ahead 0 d).target.0 hit slots → IsSwitching f old was word left width slots all otherwise next joined others (rest_of ahead)
arm_on f old mid a b c next was ways joined word left width unmatched equal hit others slots all ahead d otherwise some under is_equal is_hit is_others join =
    let mb : Grown mid b = grown_trans mid a b is_equal.grown is_hit.grown in
    let mc : Grown mid c = grown_trans mid b c mb is_others.grown in
    let mn : Grown mid next = grown_trans mid c next mc join.grown in
    record {
      one_each = join.one_each ∙ under.one_each;
      arms = subst (λ n. AreArms n width (rest_of ahead)) (sym join.one_each) (rest_arms (length ways) width ahead some under.arms);
      inside = inside_kept mid next word mn.keeps under.inside;
      width_is = mn.keeps.widths_kept word under.inside ∙ under.width_is;
      bit = bit_kept c next others join.grown.keeps is_others.bit;
      slots_are = slots_kept f mid next slots mn.keeps under.slots_are;
      are = join.are;
      rest = λ new last h. under.rest new last (switched_on f mid a b c next new ways joined last word unmatched equal hit others slots d ahead otherwise some under.inside under.bit under.slots_are under.are is_equal is_hit is_others join h);
    }

pub all_on : (f : Function) (old mid new : List Term) (was ways joined : List (Option Way)) (word left width unmatched : ℕ) (slots : List Slot) (all ahead : List Arm) (otherwise : BlockId) → length ahead < 1 → IsSwitching f old was word left width slots all otherwise mid ways unmatched ahead
    → IsJoined f mid new ways joined otherwise.0 unmatched slots → IsSwitched f old new was joined word left slots all otherwise
all_on f old mid new was ways joined word left width unmatched slots all ahead otherwise none under join = under.rest new joined (switched_none f mid new ways joined word unmatched slots ahead otherwise none join)
