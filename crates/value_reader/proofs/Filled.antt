-- An array by all its operands.
use Rattle.std.proofs.Common.{◌≡◌, ℕ, List, [], ◌∷◌, refl}
use Rattle.mir_ir.specs.declared.tree.Operand.{Operand}
use Rattle.grammar_words.specs.Reading.{Outcome, Got, Fault, Reader, pair, after, turned, made, chained, first}
use Rattle.grammar_words.specs.Classes.{tok, ended}
use Rattle.grammar_words.specs.Coded.{behind}
use Rattle.mir_grammar.specs.Lexemes.{Lexeme, class_of}
use Rattle.mir_grammar.specs.Types.{Readers}
use Rattle.mir_grammar.specs.declared.limits.Limited.{Limited}
use Rattle.mir_grammar.specs.declared.trees.Placed.{Placed}
use Rattle.mir_grammar.specs.declared.trees.ArrayTail.TheVariants.{Others}
use Rattle.mir_grammar.specs.Values.{to_array_of}
use Rattle.value_pieces.specs.Arrays.{array_of}
use Rattle.value_reader.specs.Lists.{more_operands, operands_after, operands_closed}

one_more : (o : Limited Operand) (os : List (Limited Operand)) (q : Outcome Lexeme Lexeme) → turned (λ tail. to_array_of (o, tail)) (turned Others (turned first (turned (pair os) q))) ≡ turned array_of (turned first (turned (pair (o ∷ os)) q))
unfolding to_array_of
one_more o os (Got t r) = refl
one_more o os (Fault why r) = refl

all_more : (o : Limited Operand) (q : Reader Lexeme Lexeme) (more : Outcome Lexeme (List (Limited Operand)))
    → turned (λ tail. to_array_of (o, tail)) (turned Others (turned first (after (λ a r. turned (pair a) (q r)) more))) ≡ turned array_of (turned first (after (λ a r. turned (pair a) (q r)) (behind (o ∷ []) more)))
all_more o q (Got os r) = one_more o os (q r)
all_more o q (Fault why r) = refl

pub array_closed : (m : ℕ) (t : Readers) (p : Reader Lexeme Placed) (o : Limited Operand) (ts : List Lexeme)
    → made (λ tail. to_array_of (o, tail)) (made Others (operands_closed m t p)) ts ≡ turned array_of (ended class_of (operands_after m t p o) (4 ∷ []) ts)
unfolding made chained operands_after
array_closed m t p o ts = all_more o (tok class_of (4 ∷ [])) (more_operands m t p ts)
