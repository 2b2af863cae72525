use Rattle.std.proofs.Common.{◌≡◌, ◌++◌, drop, map}
use Rattle.type_layouts.specs.Outlines.{outline_of}
use Rattle.type_layouts.proofs.outline.outlines_of.Given as goal

abbrev pub invariant-loop-own : goal.invariant-loop-own
invariant-loop-own l = l.all.items ++ map (outline_of l.scope) (drop l.own-index l.types) ≡ map (outline_of l.scope) l.types
