use Rattle.std.proofs.Common.{◌≡◌, drop}
use Rattle.program_types.specs.Inside.{types_now}
use Rattle.typed_program.specs.Numbers.{with_types}
use Rattle.typed_program.proofs.numbers.put_all.Given as goal

abbrev pub invariant-loop-ty : goal.invariant-loop-ty
invariant-loop-ty l = with_types l.numbers (types_now (drop l.ty-index l.more)) ≡ with_types l.initial.numbers (types_now l.more)
