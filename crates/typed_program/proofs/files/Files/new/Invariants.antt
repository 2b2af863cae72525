use Rattle.std.proofs.Common.{◌≡◌, ℕ, [], length}
use Rattle.std.specs.Prelude.{slice_index_or}
use Rattle.typed_program.proofs.ItemLaws.{lists}
use Rattle.typed_program.proofs.files.Files.new.Given as goal

abbrev pub invariant-loop : goal.invariant-loop
invariant-loop l = record {
  long : length l.files.items ≡ l.counter;
  empty : (number : ℕ) → slice_index_or (lists l.files.items) number [] ≡ [];
}
