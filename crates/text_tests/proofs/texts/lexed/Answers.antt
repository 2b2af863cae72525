use Rattle.mir_pieces.proofs.Small.{are_slices}
use Rattle.text_tests.proofs.texts.lexed.Goals as goal

pub pieces-requires : goal.pieces-requires
pieces-requires c = are_slices _ _ _ c.in_ok-found.ensures c.as_slice.ensures
