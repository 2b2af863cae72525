use Rattle.std.proofs.Common.{◌≡◌, ◌++◌, drop, map}
use Rattle.type_layouts.specs.Parts.{outline_parts}
use Rattle.type_layouts.proofs.parts.one_level.Given as goal

abbrev pub invariant-loop-outline : goal.invariant-loop-outline
invariant-loop-outline l = l.next.items ++ map (outline_parts l.table) (drop l.outline-index l.outlines) ≡ map (outline_parts l.table) l.outlines
