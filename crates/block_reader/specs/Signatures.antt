-- Parts of the grammar's readers of functions that the code reads by themselves.
use Rattle.std.specs.Prelude.{ℕ, List, [], ◌∷◌}
use Rattle.grammar_words.specs.Reading.{Reader, joined, made, many, cons}
use Rattle.grammar_words.specs.Classes.{inside, past, ended, perhaps}
use Rattle.mir_grammar.specs.declared.named.Named.{Named}
use Rattle.mir_grammar.specs.declared.trees.Declared.{Declared}
use Rattle.mir_grammar.specs.declared.trees.RawBlock.{RawBlock}
use Rattle.mir_grammar.specs.declared.trees.RawFunction.{RawFunction}
use Rattle.mir_grammar.specs.Lexemes.{Lexeme, class_of}
use Rattle.mir_grammar.specs.Types.{AnyType, any_word, free_path_at}
use Rattle.mir_grammar.specs.Functions.{declared_at, block_at, braces_at, to_function}
use Rattle.value_reader.specs.Levels.{types, places}
use Rattle.block_reader.specs.Scopes.{items_part}

-- a parameter before the others
abbrev pub behind_first : Declared → List Declared → List Declared
behind_first first more = first ∷ more

abbrev pub parameter_at : ℕ → ℕ → Reader Lexeme Declared
parameter_at m d = declared_at (31 ∷ []) (types m d AnyType)

abbrev pub more_parameters_at : ℕ → ℕ → Reader Lexeme (List Declared)
more_parameters_at m d = many (inside class_of (9 ∷ [])) (past class_of (9 ∷ []) (parameter_at m d)) m

unfoldable pub perhaps_parameters_part : ℕ → ℕ → Reader Lexeme (List Declared)
perhaps_parameters_part m d = perhaps class_of (31 ∷ []) [] (made cons (joined (parameter_at m d) (more_parameters_at m d)))

unfoldable pub parameters_part : ℕ → ℕ → Reader Lexeme (List Declared)
parameters_part m d = past class_of (1 ∷ []) (ended class_of (perhaps_parameters_part m d) (2 ∷ []))

unfoldable pub name_part : ℕ → ℕ → Reader Lexeme Named
name_part m d = free_path_at m any_word (types m d)

unfoldable pub blocks_part : ℕ → ℕ → Reader Lexeme (List RawBlock)
blocks_part m d = many (inside class_of (32 ∷ [])) (block_at m (types m d) (places m d)) m

-- items and blocks in braces
unfoldable pub inside_part : ℕ → ℕ → Reader Lexeme (List Declared × List RawBlock)
inside_part m d = braces_at (joined (items_part m d d) (blocks_part m d))

-- what stands behind the parameters
unfoldable pub result_part : ℕ → ℕ → Reader Lexeme (Named × (List Declared × List RawBlock))
result_part m d = past class_of (20 ∷ []) (joined (types m d AnyType) (inside_part m d))

abbrev pub signed : Named → List Declared → Named × (List Declared × List RawBlock) → RawFunction
signed name parameters v = to_function (name, (parameters, v))

abbrev pub function_part : ℕ → ℕ → Reader Lexeme RawFunction
function_part m d = made to_function (past class_of (175 ∷ []) (joined (name_part m d) (joined (parameters_part m d) (result_part m d))))
