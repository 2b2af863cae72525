use Rattle.std.proofs.Common.{◌-◌}
use Rattle.mir_grammar.specs.Blocks.{line_at}
use Rattle.value_reader.specs.Levels.{places, types}
use Rattle.block_reader.proofs.LineTurns.{LinesSoFar}
use Rattle.block_reader.proofs.blocks.lines.Given as goal

abbrev pub invariant-loop-done : goal.invariant-loop-done
invariant-loop-done l = LinesSoFar (line_at l.fn.turns (types l.fn.turns l.fn.depth) (places l.fn.turns l.fn.depth)) l.fn.turns l.fn.tokens l.done l.found.items l.left

abbrev pub decreases-loop-done : goal.decreases-loop-done
decreases-loop-done l = l.fn.turns - l.done
