use Rattle.std.proofs.Common.{◌+◌, ℕ, Bool, List, length, sym, ap, ◌∙◌, subst}
use Rattle.std.proofs.lemmas.List.{length_push}
use Rattle.sat_core.specs.Values.{IsValued}
use Rattle.sat_core.proofs.ValueLemmas.{valued_more}
use Rattle.sat_core.proofs.solver.values_of.Goals as goal

pub loop-variable-preserved : goal.loop-variable-preserved
loop-variable-preserved c =
    let items = c.in_ok-push.ensures.items in
    record {
      long = ap length items ∙ length_push c.loop-variable.values.items c.is_true.result ∙ ap (λ (n : ℕ). n + 1) c.loop-variable.invariant.long;
      said = subst (λ (s : List Bool). IsValued c.args.trail.now s (c.loop-variable.variable + 1)) (sym items) (valued_more c.args.trail.now c.loop-variable.values.items c.is_true.result c.loop-variable.variable c.loop-variable.invariant.long c.loop-variable.invariant.said c.is_true.ensures);
    }
