use Rattle.std.proofs.Common.{◌≡◌, ◌≤◌, ◌+◌, length, option_map}
use Rattle.mir_lex.specs.Lexing.{segment_len}
use Rattle.mir_lex.proofs.front.segment_len.Given as goal

abbrev pub invariant-loop-bytes : goal.invariant-loop-bytes
invariant-loop-bytes l = (option_map (λ n. l.len + n) (segment_len l.depth l.bytes) ≡ segment_len 1 l.segment) × (l.len + length l.bytes ≡ length l.segment) × (1 ≤ l.depth) × (l.depth ≤ l.len + 1)

abbrev pub decreases-loop-bytes : goal.decreases-loop-bytes
decreases-loop-bytes l = length l.bytes
