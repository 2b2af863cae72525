-- Operands from the second one on.
use Rattle.std.specs.Prelude.{ℕ, List, [], ◌∷◌}
use Rattle.mir_ir.specs.declared.tree.Operand.{Operand}
use Rattle.grammar_words.specs.Reading.{Reader, many}
use Rattle.grammar_words.specs.Classes.{past, ended, inside}
use Rattle.grammar_words.specs.Coded.{behind}
use Rattle.mir_grammar.specs.Lexemes.{Lexeme, class_of}
use Rattle.mir_grammar.specs.Types.{Readers}
use Rattle.mir_grammar.specs.declared.limits.Limited.{Limited}
use Rattle.mir_grammar.specs.declared.trees.Placed.{Placed}
use Rattle.mir_grammar.specs.Values.{operand_at}

-- operands, each behind a comma
abbrev pub more_operands : ℕ → Readers → Reader Lexeme Placed → Reader Lexeme (List (Limited Operand))
more_operands m t p = many (inside class_of (9 ∷ [])) (past class_of (9 ∷ []) (operand_at m t p)) m

-- the same, and the first before them
unfoldable pub operands_after : ℕ → Readers → Reader Lexeme Placed → Limited Operand → Reader Lexeme (List (Limited Operand))
operands_after m t p first ts = behind (first ∷ []) (more_operands m t p ts)

-- operands, each behind a comma, and the end of an array
abbrev pub operands_closed : ℕ → Readers → Reader Lexeme Placed → Reader Lexeme (List (Limited Operand))
operands_closed m t p = ended class_of (more_operands m t p) (4 ∷ [])
