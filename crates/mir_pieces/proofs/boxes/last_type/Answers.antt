use Rattle.std.proofs.Common.{sym, ◌∙◌, ap}
use Rattle.mir_pieces.specs.Boxes.{last_type}
use Rattle.mir_pieces.proofs.Boxing.{last_type_is}
use Rattle.mir_pieces.proofs.boxes.last_type.Goals as goal

pub returns : goal.returns
returns c = c.step_type.ensures ∙ sym (last_type_is c.pop.new.self c.in_ok-step.step) ∙ ap last_type (sym c.in_ok-step.ensures)
