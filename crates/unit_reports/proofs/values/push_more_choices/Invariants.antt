use Rattle.std.proofs.Common.{◌≡◌, ◌++◌, drop}
use Rattle.unit_reports.specs.Values.{more_choices}
use Rattle.unit_reports.proofs.values.push_more_choices.Given as goal

abbrev pub invariant-loop-choice : goal.invariant-loop-choice
invariant-loop-choice l = l.out.items ++ more_choices (drop l.choice-index l.choices) ≡ l.initial.out.items ++ more_choices l.choices
