use Rattle.std.proofs.Common.{◌≡◌, ◌++◌, map, drop}
use Rattle.canonical_text.specs.Types.{type_text, with_commas}
use Rattle.canonical_text.proofs.Texts.{left_text}
use Rattle.canonical_text.proofs.types.+types.Given as goal

abbrev pub invariant-push_tuple-loop-item : goal.invariant-push_tuple-loop-item
invariant-push_tuple-loop-item l = l.out.items ++ left_text l.first (map type_text (drop l.item-index l.items)) ≡ l.initial.out.items ++ with_commas (map type_text l.items)
