use Rattle.std.proofs.Common.{subst}
use Rattle.type_layouts.specs.Recursion.{NoneRecursive}
use Rattle.layout_rules.proofs.JudgeLaws.{no_place}
use Rattle.layout_rules.proofs.check.judge_recursive.Goals as goal

pub returns : goal.returns
returns c = subst NoneRecursive c.as_slice.ensures.value (no_place c.as_slice.result.now c.in_ok-place.field-0 c.in_ok-place.ensures c.in_default.not-Some)
