use Rattle.std.proofs.Common.{sym, ◌∙◌, ap}
use Rattle.mir_pieces.specs.Boxes.{last_argument}
use Rattle.mir_pieces.proofs.Boxing.{last_argument_is}
use Rattle.mir_pieces.proofs.boxes.last_argument.Goals as goal

pub returns : goal.returns
returns c = c.argument_type.ensures ∙ sym (last_argument_is c.pop.new.self c.in_ok-argument.argument) ∙ ap last_argument (sym c.in_ok-argument.ensures)
