use Rattle.std.proofs.Common.{◌≡◌, ◌++◌, drop}
use Rattle.canonical_text.specs.Lines.{arms_text}
use Rattle.canonical_text.proofs.lines.push_arms.Given as goal

abbrev pub invariant-loop-arm : goal.invariant-loop-arm
invariant-loop-arm l = l.out.items ++ arms_text (drop l.arm-index l.arms) ≡ l.initial.out.items ++ arms_text l.arms
