use Rattle.std.proofs.Common.{◌-◌, ◌∷◌, []}
use Rattle.grammar_words.specs.Classes.{inside}
use Rattle.grammar_words.specs.Coded.{SoFar}
use Rattle.mir_grammar.specs.Lexemes.{class_of}
use Rattle.mir_grammar.specs.Blocks.{arm_at}
use Rattle.line_reader.proofs.switches.arms.Given as goal

abbrev pub invariant-loop-left : goal.invariant-loop-left
invariant-loop-left l = SoFar (inside class_of (35 ∷ [])) arm_at l.fn.turns l.fn.tokens l.done l.found.items l.left

abbrev pub decreases-loop-left : goal.decreases-loop-left
decreases-loop-left l = l.fn.turns - l.done
