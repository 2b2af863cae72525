use Rattle.std.proofs.Common.{take, ap, ◌∙◌}
use Rattle.std.proofs.lemmas.List.{take_rest}
use Rattle.bit_blast.proofs.Moved.{slice_made}
use Rattle.bit_blast.proofs.moves.slice_word.Goals as goal

pub returns : goal.returns
returns c = slice_made _ _ _ _ _ c.requires.within c.requires.xs_inside (c.in_ok-from_slice.ensures.items ∙ ap (take c.args.width) (take_rest c.args.xs.now c.args.from))
