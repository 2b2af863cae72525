-- The number that is told of a type, from those of its parts.
use Rattle.std.proofs.Common.{◌≡◌, ℕ}
use Rattle.mir_ir.specs.declared.types.Ty.{Ty, fold_out-Ty}
use Rattle.typed_program.specs.Hashes.{form_hash, hash_of, level_hash}

pub hash_out : (t : Ty) → hash_of t ≡ level_hash t
unfolding hash_of
hash_out = fold_out-Ty ℕ form_hash
