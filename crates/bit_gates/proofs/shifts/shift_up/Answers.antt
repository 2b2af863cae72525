use Rattle.std.proofs.Common.{◌≡◌, ◌-◌, ◌%◌, ◌≤◌, ℕ, List, ◌++◌, length, take, replicate, ap, sym, ◌∙◌, refl, arith}
use Rattle.bit_gates.specs.Circuit.{value}
use Rattle.bit_gates.specs.Shifts.{shifted_up}
use Rattle.bit_gates.specs.Made.{number}
use Rattle.bit_gates.proofs.NumberLaws.{in_at_later, in_same}
use Rattle.bit_gates.proofs.WordLaws.{word_as}
use Rattle.bit_gates.proofs.ShiftLaws.{step_fits, up_begin, up_more, amount_is, in_moved_up, length_moved_up}
use Rattle.bit_gates.proofs.shifts.shift_up.Goals as goal

pub loop-k-init : goal.loop-k-init
loop-k-init c = rw c.in_ok-word.ensures.items (up_begin _ c.args.xs.now c.args.by.now c.requires.xs_inside)

pub moved_up-requires : goal.moved_up-requires
moved_up-requires c =
    let s : c.power.result ≤ length c.args.xs.now = step_fits c.loop-k.k c.min-k-end.result c.args.steps (length c.args.by.now) (length c.args.xs.now) c.power.result c.power.ensures c.loop-k-test.true c.min-k-end.ensures c.requires.steps_fit in
    let e : length c.as_slice.result.now ≡ length c.args.xs.now = ap length c.as_slice.ensures.value ∙ c.loop-k.invariant.width_is in
    omega arith

pub choose_words-requires-clause-one_width : goal.choose_words-requires-clause-one_width
choose_words-requires-clause-one_width c =
    let s : c.power.result ≤ length c.args.xs.now = step_fits c.loop-k.k c.min-k-end.result c.args.steps (length c.args.by.now) (length c.args.xs.now) c.power.result c.power.ensures c.loop-k-test.true c.min-k-end.ensures c.requires.steps_fit in
    let e : length c.as_slice.result.now ≡ length c.args.xs.now = ap length c.as_slice.ensures.value ∙ c.loop-k.invariant.width_is in
    let m : length c.as_slice-in-loop-k.result.now ≡ length c.as_slice.result.now = ap length (c.as_slice-in-loop-k.ensures.value ∙ c.in_ok-moved.ensures) ∙ length_moved_up c.as_slice.result.now c.power.result c.constant-fill.result (omega arith) in
    let w : length c.as_slice-in-loop-k-2.result.now ≡ length c.loop-k.word.items = ap length c.as_slice-in-loop-k-2.ensures.value in
    w ∙ c.loop-k.invariant.width_is ∙ sym e ∙ sym m

pub choose_words-requires-clause-test_inside : goal.choose_words-requires-clause-test_inside
choose_words-requires-clause-test_inside c = in_at_later _ _ c.args.by.now c.loop-k.k _ c.loop-k.invariant.extends (omega arith) refl c.requires.by_inside

pub choose_words-requires-clause-xs_inside : goal.choose_words-requires-clause-xs_inside
choose_words-requires-clause-xs_inside c =
    in_same _ _ _ (c.as_slice-in-loop-k.ensures.value ∙ c.in_ok-moved.ensures)
    (in_moved_up _ _ c.power.result (length c.as_slice.result.now - c.power.result) _ (omega (arith, c.constant-fill.ensures.inside, c.loop-k.invariant.extends.grown)) (in_same _ _ _ c.as_slice.ensures.value c.loop-k.invariant.inside))

pub loop-k-preserved : goal.loop-k-preserved
loop-k-preserved c =
    let s : c.power.result ≤ length c.args.xs.now = step_fits c.loop-k.k c.min-k-end.result c.args.steps (length c.args.by.now) (length c.args.xs.now) c.power.result c.power.ensures c.loop-k-test.true c.min-k-end.ensures c.requires.steps_fit in
    up_more _ _ _ c.args.xs.now c.args.by.now c.loop-k.word.items _ _ _ (length c.args.xs.now) c.loop-k.k c.power.result _ c.constant-fill.result c.power.ensures s (omega arith) refl c.requires.by_inside c.constant-fill.ensures
    c.as_slice-in-loop-k-2.ensures.value
    (c.as_slice-in-loop-k.ensures.value ∙ c.in_ok-moved.ensures ∙ ap (λ (q : List ℕ). replicate c.power.result c.constant-fill.result ++ take (length q - c.power.result) q) c.as_slice.ensures.value)
    c.loop-k.invariant c.in_ok-word-2.ensures

pub returns : goal.returns
returns c =
    let e : c.loop-k.k ≡ c.min-k-end.result = omega arith in
    word_as _ _ _ _ _ (λ v. shifted_up (length c.args.xs.now) (number v c.args.xs.now) (number v (take c.loop-k.k c.args.by.now))) (λ v. shifted_up (length c.args.xs.now) (number v c.args.xs.now) (number v c.args.by.now % length c.args.xs.now)) c.loop-k.invariant refl
    (λ bits. ap (shifted_up (length c.args.xs.now) (number (value c.args.net.now bits) c.args.xs.now)) (amount_is (value c.args.net.now bits) c.args.by.now c.loop-k.k c.args.steps (length c.args.xs.now) c.requires.steps_fit (e ∙ c.min-k-end.ensures)))
