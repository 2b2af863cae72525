use Rattle.std.proofs.Common.{◌≡◌, ◌+◌, false, length, option_map}
use Rattle.mir_lex.specs.Lexing.{body_len}
use Rattle.mir_lex.proofs.front.text_len.Given as goal

abbrev pub invariant-loop-bytes : goal.invariant-loop-bytes
invariant-loop-bytes l = (option_map (λ n. l.len + n) (body_len l.escaped l.bytes) ≡ body_len false l.text) × (l.len + length l.bytes ≡ length l.text)

abbrev pub decreases-loop-bytes : goal.decreases-loop-bytes
decreases-loop-bytes l = length l.bytes
