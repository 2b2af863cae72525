use Rattle.std.proofs.Common.{◌≡◌, take}
use Rattle.typed_program.proofs.copies.+copies.Given as goal

abbrev pub invariant-copy_types-loop-ty : goal.invariant-copy_types-loop-ty
invariant-copy_types-loop-ty l = l.copies.items ≡ take l.ty-index l.types
