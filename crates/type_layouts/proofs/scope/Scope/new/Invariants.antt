use Rattle.std.proofs.Common.{◌≡◌, ◌≤◌, ℕ, List, bytes_eq, drop, length}
use Rattle.indexmap.specs.IndexMap.{get_by}
use Rattle.type_layouts.specs.Entries.{entry_from}
use Rattle.type_layouts.proofs.scope.Scope.new.Given as goal

abbrev pub invariant-loop-place : goal.invariant-loop-place
invariant-loop-place l = record {
  within : l.place ≤ length l.types;
  numbered : (text : List ℕ) → get_by (λ k. bytes_eq text k.items) l.numbers ≡ entry_from l.place (drop l.place l.types) text;
}

abbrev pub decreases-loop-place : goal.decreases-loop-place
decreases-loop-place l = l.place
