-- Parts of the grammar's readers of items that the code reads by themselves.
use Rattle.std.specs.Prelude.{ℕ, List, [], ◌∷◌}
use Rattle.grammar_words.specs.Reading.{Reader, joined, made, many}
use Rattle.grammar_words.specs.Classes.{inside, tok, past, ended, perhaps}
use Rattle.mir_grammar.specs.declared.trees.Declared.{Declared}
use Rattle.mir_grammar.specs.Lexemes.{Lexeme, class_of}
use Rattle.mir_grammar.specs.Types.{AnyType}
use Rattle.mir_grammar.specs.Functions.{scope_tokens, scope_at, items_at, inner_items}
use Rattle.value_reader.specs.Levels.{types}

-- what is read and not kept
abbrev pub no_value : {A : Type 0} → A → Unit {0}
no_value a = tt

-- any number of tokens of these classes
unfoldable pub passed_over : List ℕ → ℕ → Reader Lexeme (Unit {0})
passed_over set m = made no_value (many (inside class_of set) (tok class_of set) m)

-- the name of a scope in parentheses
abbrev pub parenthesized_name_at : ℕ → Reader Lexeme (List Lexeme)
parenthesized_name_at m = past class_of (1 ∷ []) (ended class_of (many (inside class_of scope_tokens) (tok class_of scope_tokens) m) (2 ∷ []))

unfoldable pub scope_name_part : ℕ → Reader Lexeme (List Lexeme)
scope_name_part m = perhaps class_of (1 ∷ []) [] (parenthesized_name_at m)

-- the scopes that may stand in one which is nested so deep
abbrev pub scopes : ℕ → ℕ → ℕ → Reader Lexeme (List Declared)
scopes m d n = scope_at m (types m d AnyType) n

unfoldable pub items_part : ℕ → ℕ → ℕ → Reader Lexeme (List Declared)
items_part m d n = items_at m (types m d AnyType) (scopes m d n)

unfoldable pub braced_items_part : ℕ → ℕ → ℕ → Reader Lexeme (List Declared)
braced_items_part m d n = past class_of (5 ∷ []) (ended class_of (items_part m d n) (6 ∷ []))

abbrev pub scope_inside_at : ℕ → ℕ → ℕ → Reader Lexeme (List Declared)
scope_inside_at m d n = made inner_items (past class_of (178 ∷ []) (joined (tok class_of (35 ∷ [])) (joined (scope_name_part m) (braced_items_part m d n))))
