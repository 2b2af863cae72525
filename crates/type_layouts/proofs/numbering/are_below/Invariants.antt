use Rattle.std.proofs.Common.{◌≡◌, drop}
use Rattle.type_layouts.specs.Ranks.{are_below}
use Rattle.type_layouts.proofs.numbering.are_below.Given as goal

abbrev pub invariant-loop-h : goal.invariant-loop-h
invariant-loop-h l = are_below l.ranks l.limit (drop l.h-index l.held) ≡ are_below l.ranks l.limit l.held
