use Rattle.std.proofs.Common.{◌≡◌, ◌^◌, min}
use Rattle.scalar_form.specs.Size.{reached_before}
use Rattle.scalar_verdicts.specs.Choices.{choices_below}
use Rattle.scalar_verdicts.proofs.choices.are_few.Given as goal

abbrev pub invariant-loop-number : goal.invariant-loop-number
invariant-loop-number l = record {
  marks : l.marks ≡ reached_before l.function l.number;
  ways : l.ways ≡ min (choices_below l.function l.number) (2 ^ 60);
}
