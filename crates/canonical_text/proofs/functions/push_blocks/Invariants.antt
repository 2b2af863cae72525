use Rattle.std.proofs.Common.{◌≡◌, ◌++◌, drop}
use Rattle.canonical_text.specs.Functions.{blocks_text}
use Rattle.canonical_text.proofs.functions.push_blocks.Given as goal

abbrev pub invariant-loop-block : goal.invariant-loop-block
invariant-loop-block l = l.out.items ++ blocks_text (drop l.block-index l.blocks) ≡ l.initial.out.items ++ blocks_text l.blocks
