use Rattle.std.proofs.Common.{◌≡◌, ◌++◌, drop, map}
use Rattle.type_layouts.specs.Extents.{repeated_held}
use Rattle.type_layouts.proofs.extent.push_repeated.Given as goal

abbrev pub invariant-loop-held : goal.invariant-loop-held
invariant-loop-held l = l.out ++ map (repeated_held l.count) (drop l.held-index l.more) ≡ l.initial.out ++ map (repeated_held l.count) l.more
