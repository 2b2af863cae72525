use Rattle.std.proofs.Common.{List, arith, subst}
use Rattle.std.proofs.lemmas.List.{length_push}
use Rattle.sat_core.specs.Trail.{IsPlaced}
use Rattle.sat_core.specs.declared.trail.Step.{Step}
use Rattle.sat_core.proofs.TrailLemmas.{IsPlaced-pop, shorter_prefix}
use Rattle.sat_core.proofs.trail.Trail.cut.Goals as goal

pub loop-self-preserved-in-Some : goal.loop-self-preserved-in-Some
loop-self-preserved-in-Some c =
    let old = c.loop-self.self-inside in
    let items = c.in-Some.ensures.items in
    let long = length_push c.pop.new.self.items c.in-Some.step in
    record {
      placed = IsPlaced-pop old.variables old.places.items c.pop.new.self.items c.in-Some.step (subst (λ (s : List Step). IsPlaced old.variables old.places.items s) items c.loop-self.invariant.placed);
      same = c.loop-self.invariant.same;
      kept = omega (arith, c.in-Some.ensures.len, old.steps.ok.0, c.pop.new.self.ok.0);
      prefix = shorter_prefix c.args.self.now.steps old.steps.items c.pop.new.self.items c.in-Some.step items c.loop-self.invariant.prefix;
    }
