use Rattle.std.proofs.Common.{◌≡◌, drop, map}
use Rattle.typed_program.specs.Hashes.{all_mixed, hash_of}
use Rattle.typed_program.proofs.hashes.+hashes.Given as goal

abbrev pub invariant-mixed_items-loop-item : goal.invariant-mixed_items-loop-item
invariant-mixed_items-loop-item l = all_mixed l.hash (map hash_of (drop l.item-index l.items)) ≡ all_mixed l.seed (map hash_of l.items)
