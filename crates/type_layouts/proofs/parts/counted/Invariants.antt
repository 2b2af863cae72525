use Rattle.std.proofs.Common.{◌≡◌, drop}
use Rattle.type_layouts.specs.Parts.{counted}
use Rattle.type_layouts.proofs.parts.counted.Given as goal

abbrev pub invariant-loop-h : goal.invariant-loop-h
invariant-loop-h l = counted l.table l.count (drop l.h-index l.held) ≡ counted l.table l.parts l.held
