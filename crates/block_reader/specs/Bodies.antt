-- Parts of the grammar's readers of blocks that the code reads by themselves.
use Rattle.std.specs.Prelude.{ℕ, Bool, List, [], ◌∷◌}
use Rattle.grammar_words.specs.Reading.{Reader, joined, made, pick, until}
use Rattle.grammar_words.specs.Classes.{inside, tok, past}
use Rattle.mir_grammar.specs.declared.trees.RawBlock.{RawBlock}
use Rattle.mir_grammar.specs.Lexemes.{Lexeme, class_of}
use Rattle.mir_grammar.specs.Blocks.{Kept, EndingAt, line_at, cleanup_line_at}
use Rattle.mir_grammar.specs.Functions.{braces_at, kept_body, cleanup_body, to_block}
use Rattle.value_reader.specs.Levels.{types, places}

-- statements and a terminator
unfoldable pub lines_part : ℕ → ℕ → Reader Lexeme (List Kept × EndingAt)
lines_part m d = until (line_at m (types m d) (places m d)) m

-- the same in a cleanup block
unfoldable pub cleanup_lines_part : ℕ → ℕ → Reader Lexeme (List Kept × EndingAt)
cleanup_lines_part m d = until (cleanup_line_at m (types m d) (places m d)) m

unfoldable pub colon_cleanup_part : ℕ → ℕ → Reader Lexeme (List Kept × EndingAt)
colon_cleanup_part m d = past class_of (11 ∷ []) (braces_at (cleanup_lines_part m d))

abbrev pub cleanup_body_at : ℕ → ℕ → Reader Lexeme (Bool × (List Kept × EndingAt))
cleanup_body_at m d = made cleanup_body (past class_of (1 ∷ []) (past class_of (174 ∷ []) (past class_of (2 ∷ []) (colon_cleanup_part m d))))

-- what stands behind the label of a block
unfoldable pub block_body_part : ℕ → ℕ → Reader Lexeme (Bool × (List Kept × EndingAt))
block_body_part m d = pick (inside class_of (11 ∷ [])) (made kept_body (past class_of (11 ∷ []) (braces_at (lines_part m d)))) (cleanup_body_at m d)

abbrev pub block_part : ℕ → ℕ → Reader Lexeme RawBlock
block_part m d = made to_block (joined (tok class_of (32 ∷ [])) (block_body_part m d))
