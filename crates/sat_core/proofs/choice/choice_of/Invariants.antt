use Rattle.sat_core.specs.Choice.{ChoiceIs}
use Rattle.sat_core.specs.Steps.{literals_of_steps}
use Rattle.sat_core.proofs.choice.choice_of.Given as goal

abbrev pub invariant-loop-number : goal.invariant-loop-number
invariant-loop-number l = ChoiceIs l.trail.variables (literals_of_steps l.trail.steps) l.clauses.clauses l.number l.choice
