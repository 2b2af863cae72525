use Rattle.std.proofs.Common.{◌≡◌, ◌⊎◌, ℕ, List, All, take, get_or, inl, inr, sym, subst}
use Rattle.std.proofs.lemmas.List.{take_all, take_more}
use Rattle.std.proofs.lemmas.List.Elements.{All-push}
use Rattle.region_pool.specs.Refutation.{IsFalse}
use Rattle.sat_core.specs.Steps.{literals_of_steps}
use Rattle.sat_core.proofs.propagate.free_literal.Goals as goal
use Rattle.sat_core.proofs.propagate.free_literal.Goals.{else-literal-other-via-then-literal-other+else-not-is_false, else-literal-other-via-else-literal-other}

pub loop-literal-preserved : goal.loop-literal-preserved
loop-literal-preserved c =
    let i : ℕ = c.loop-literal.literal-index in
    let clause = c.args.clause.now in
    let P : ℕ → Type 0 = λ x. (x ≡ c.args.other) ⊎ IsFalse (literals_of_steps c.args.trail.now.steps) x in
    let here : P (get_or clause i 0) = elim c.else-literal-other.branch [
      | else-literal-other-via-then-literal-other+else-not-is_false w ↦ inr (w.is_false.ensures.0 w.if-not-is_false.false)
      | else-literal-other-via-else-literal-other w ↦ inl w.if-literal-other.false
    ] in
    subst (λ (s : List ℕ). All P s) (sym (take_more clause i 0 c.loop-literal-test.true)) (All-push P (take i clause) (get_or clause i 0) c.loop-literal.invariant here)

pub returns : goal.returns
returns c =
    let P : ℕ → Type 0 = λ x. (x ≡ c.args.other) ⊎ IsFalse (literals_of_steps c.args.trail.now.steps) x in
    subst (λ (s : List ℕ). All P s) (take_all c.loop-literal.literal-index c.args.clause.now c.loop-literal-test.false) c.loop-literal.invariant
