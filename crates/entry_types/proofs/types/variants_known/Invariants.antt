use Rattle.std.proofs.Common.{◌≡◌, ◌-◌, drop, length}
use Rattle.std.specs.Prelude.{codes}
use Rattle.type_rules.specs.Entries.{key, variants_known}
use Rattle.entry_types.specs.Paths.{entry_path}
use Rattle.entry_types.proofs.types.variants_known.Given as goal

abbrev pub invariant-loop-at : goal.invariant-loop-at
invariant-loop-at l = variants_known l.declared (key (entry_path l.entry) (codes "variants")) l.at (drop l.at l.variants) ≡ variants_known l.declared (key (entry_path l.entry) (codes "variants")) 0 l.variants

abbrev pub decreases-loop-at : goal.decreases-loop-at
decreases-loop-at l = length l.variants - l.at
