use Rattle.std.proofs.Common.{◌≡◌, ◌≤◌, ◌*◌}
use Rattle.scalar_form.specs.Size.{reached_before, size_below}
use Rattle.scalar_form.proofs.size.is_small.Given as goal

abbrev pub invariant-loop-number : goal.invariant-loop-number
invariant-loop-number l = record {
  marks : l.marks ≡ reached_before l.function l.number;
  size : l.size ≡ size_below l.function l.number;
  few : l.size ≤ l.number * 18446744073709551616;
}
