use Rattle.layout_rules.proofs.AnswerLaws.{kept_of_program}
use Rattle.layout_rules.proofs.check.check_layouts.Goals as goal

pub returns : goal.returns
returns c = kept_of_program c.args.program.now c.functions.result.now c.declarations.result.now c.functions.ensures.value c.declarations.ensures.value c.in_ok-judge_types.ensures
