use Rattle.std.proofs.Common.{◌≡◌, drop}
use Rattle.typed_program.specs.Hashes.{all_mixed}
use Rattle.typed_program.proofs.hashes.mixed_bytes.Given as goal

abbrev pub invariant-loop-byte : goal.invariant-loop-byte
invariant-loop-byte l = all_mixed l.hash (drop l.byte-index l.bytes) ≡ all_mixed l.seed l.bytes
