use Rattle.std.proofs.Common.{sym, ◌∙◌}
use Rattle.typed_program.proofs.HashLaws.{hash_out}
use Rattle.typed_program.proofs.hashes.+hashes.Goals as goal

pub hash_of-returns : goal.hash_of-returns
hash_of-returns t c = c.level_hash.ensures ∙ sym (hash_out _)
