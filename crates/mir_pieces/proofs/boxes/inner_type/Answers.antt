use Rattle.std.proofs.Common.{sym, ◌∙◌, ap}
use Rattle.mir_pieces.specs.Boxes.{inner_at, inner_type}
use Rattle.mir_pieces.proofs.Boxing.{inner_is}
use Rattle.mir_pieces.proofs.boxes.inner_type.Goals as goal

pub returns-in-StepWord : goal.returns-in-StepWord
returns-in-StepWord c = c.last_type.ensures ∙ ap (inner_at c.pop.new.self) (sym c.in-StepWord.is) ∙ sym (inner_is c.pop.new.self c.in_ok-step.step) ∙ ap inner_type (sym c.in_ok-step.ensures)

pub returns-in-StepArguments : goal.returns-in-StepArguments
returns-in-StepArguments c = c.last_argument.ensures ∙ ap (inner_at c.pop.new.self) (sym c.in-StepArguments.is) ∙ sym (inner_is c.pop.new.self c.in_ok-step.step) ∙ ap inner_type (sym c.in_ok-step.ensures)

pub returns-in-StepImpl : goal.returns-in-StepImpl
returns-in-StepImpl c = ap (inner_at c.pop.new.self) (sym c.in-StepImpl.is) ∙ sym (inner_is c.pop.new.self c.in_ok-step.step) ∙ ap inner_type (sym c.in_ok-step.ensures)
