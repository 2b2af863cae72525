use Rattle.std.proofs.Common.{sym, ◌∙◌}
use Rattle.mir_pieces.proofs.Small.{are_slices}
use Rattle.mir_text.proofs.Finding.{none_lexed}
use Rattle.mir_text.proofs.parts.tokens_of.Goals as goal

pub pieces-requires : goal.pieces-requires
pieces-requires c = are_slices _ _ _ c.in-Ok.ensures c.as_slice.ensures

pub returns-else-is_memory : goal.returns-else-is_memory
returns-else-is_memory c = none_lexed c.args.text.now c.in-Err.fault c.in-Err.ensures (sym c.is_memory.ensures ∙ c.if-is_memory.false)
