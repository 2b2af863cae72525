use Rattle.std.proofs.Common.{ap, ◌∙◌}
use Rattle.type_layouts.specs.Outlines.{outlines}
use Rattle.layout_rules.proofs.AnswerLaws.{kept_of_lists}
use Rattle.layout_rules.proofs.check.judge_types.Goals as goal

pub returns : goal.returns
returns c = kept_of_lists _ _ _ _ (c.in_ok-outlines_of.ensures ∙ ap outlines (c.in_ok-scope.ensures ∙ c.as_slice.ensures)) c.in_ok-rows_of_program.ensures c.in_ok-judge.ensures
