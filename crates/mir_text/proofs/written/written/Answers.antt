use Rattle.std.proofs.Common.{refl, ◌∙◌}
use Rattle.mir_pieces.proofs.Small.{are_slices}
use Rattle.mir_text.proofs.Answering.{written_right}
use Rattle.mir_text.proofs.written.written.Goals as goal

pub pieces-requires : goal.pieces-requires
pieces-requires c = are_slices _ _ _ c.requires.lexed refl

pub returns : goal.returns
returns c = written_right c.args.text.now c.args.tokens.now c.as_slice.result.now c.in_ok-read.read c.requires.lexed (c.as_slice.ensures.value ∙ c.in_ok-pieces.ensures) c.in_ok-read.ensures
