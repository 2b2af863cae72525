use Rattle.std.proofs.Common.{◌≡◌, ℕ, [], length}
use Rattle.watch_lists.specs.Lists.{list_at}
use Rattle.watch_lists.proofs.ListLemmas.{items}
use Rattle.watch_lists.proofs.lists.WatchLists.new.Given as goal

abbrev pub invariant-loop : goal.invariant-loop
invariant-loop l = record {
  long : length l.lists.items ≡ l.counter;
  empty : (number : ℕ) → list_at (items l.lists.items) number ≡ [];
}
