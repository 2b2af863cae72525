use Rattle.std.proofs.Common.{◌≡◌}
use Rattle.typed_program.specs.Numbers.{types_of}
use Rattle.typed_program.proofs.JoinedLaws.{rows_joined, types_joined}
use Rattle.typed_program.proofs.NumberLaws.{types_countable}
use Rattle.typed_program.proofs.typed.Typed.from_program.Goals as goal

pub invariant_of-result : goal.invariant_of-result
invariant_of-result c =
    let numbered : c.in_ok-numbers.numbers ≡ types_of c.args.program =
    types_joined c.args.program _ _ _ c.functions.ensures.value c.declarations.ensures.value c.in_ok-numbers.ensures in
    record {
      numbers = numbered;
      rows = rows_joined c.args.program _ _ _ _ c.declarations-2.ensures.value c.types.ensures numbered c.in_ok-rows.ensures;
      count = types_countable c.args.program c.functions.ensures.joined;
      well = c.requires;
    }
