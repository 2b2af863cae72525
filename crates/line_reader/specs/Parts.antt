-- Parts of the grammar's readers that the code reads by themselves. Those that are no abbreviations stay as they are where
-- the parts around them are read.
use Rattle.std.specs.Prelude.{ℕ, Bool, List, [], ◌∷◌, Option, Some, None}
use Rattle.mir_ir.specs.declared.tree.Operand.{Operand}
use Rattle.mir_ir.specs.declared.tree.NamedOperand.{NamedOperand}
use Rattle.mir_ir.specs.declared.tree.Rvalue.{Rvalue}
use Rattle.mir_ir.specs.declared.tree.Arm.{Arm}
use Rattle.grammar_words.specs.Grammar.{Next}
use Rattle.grammar_words.specs.Reading.{Reader, joined, made, pick, many}
use Rattle.grammar_words.specs.Classes.{inside, tok, past, ended, perhaps}
use Rattle.mir_grammar.specs.declared.limits.Passed.{Passed}
use Rattle.mir_grammar.specs.declared.limits.Limited.{Limited}
use Rattle.mir_grammar.specs.declared.named.Named.{Named}
use Rattle.mir_grammar.specs.declared.trees.Placed.{Placed}
use Rattle.mir_grammar.specs.declared.trees.Target.{Target}
use Rattle.mir_grammar.specs.declared.trees.PathTail.{PathTail}
use Rattle.mir_grammar.specs.declared.trees.PathTail.TheVariants.{FieldTail}
use Rattle.mir_grammar.specs.Lexemes.{Lexeme, class_of}
use Rattle.mir_grammar.specs.Types.{any_word, perhaps_token}
use Rattle.mir_grammar.specs.Places.{none_passed}
use Rattle.mir_grammar.specs.Values.{fields_at, operands_at, value_path_at, formed_value_at}
use Rattle.mir_grammar.specs.Blocks.{Label, label_at, no_label, edge_label, edge_at, next_at, returns, target_at, Called, EndingAt, to_drop, to_switch, to_assert, arrow_at, switch_arms_at, unit_tail, operand_tail, to_path_line}
use Rattle.value_reader.specs.Levels.{types, places}

-- what stands behind unwind
abbrev pub edge_action_at : Reader Lexeme Passed
edge_action_at = pick (inside class_of (171 ∷ 164 ∷ [])) (made no_label (tok class_of (171 ∷ 164 ∷ [])))
    (pick (inside class_of (172 ∷ [])) (made no_label (past class_of (172 ∷ []) (past class_of (1 ∷ []) (ended class_of (tok class_of any_word) (2 ∷ [])))))
    (pick (inside class_of (11 ∷ [])) (made edge_label (past class_of (11 ∷ []) (tok class_of (32 ∷ [])))) (made edge_label (tok class_of (32 ∷ [])))))

-- a label, perhaps an edge behind a comma, and ]
abbrev pub label_and_edge_at : Reader Lexeme (Label × Passed)
label_and_edge_at = joined label_at (ended class_of (perhaps class_of (9 ∷ []) none_passed (past class_of (9 ∷ []) edge_at)) (4 ∷ []))

-- ( place )
abbrev pub parenthesized_at : Reader Lexeme Placed → Reader Lexeme Placed
parenthesized_at p = past class_of (1 ∷ []) (ended class_of p (2 ∷ []))

-- ) = number ;
abbrev pub variant_number_at : Reader Lexeme Lexeme
variant_number_at = past class_of (2 ∷ []) (past class_of (14 ∷ []) (ended class_of (tok class_of (35 ∷ [])) (10 ∷ [])))

unfoldable pub next_part : List ℕ → Reader Lexeme Label
next_part word = next_at word

abbrev pub drop_part : Reader Lexeme Placed → Reader Lexeme EndingAt
drop_part p = made to_drop (past class_of (167 ∷ []) (past class_of (1 ∷ []) (joined p (past class_of (2 ∷ []) (arrow_at (next_part returns))))))

-- arms, and the block of otherwise
unfoldable pub switch_arms_part : ℕ → Reader Lexeme (List (Limited Arm) × Label)
switch_arms_part m = switch_arms_at m

abbrev pub otherwise_at : Reader Lexeme Label
otherwise_at = past class_of (166 ∷ []) (past class_of (11 ∷ []) (ended class_of label_at (4 ∷ [])))

abbrev pub switch_part : Reader Lexeme (Limited Operand) → ℕ → Reader Lexeme EndingAt
switch_part o m = made to_switch (past class_of (165 ∷ []) (past class_of (1 ∷ []) (joined o (past class_of (2 ∷ []) (arrow_at (switch_arms_part m))))))

-- the operands that an assert shows, and the next block
unfoldable pub shown_and_next_at : Reader Lexeme (Limited Operand) → ℕ → Reader Lexeme (List (Limited Operand) × Label)
shown_and_next_at o m = joined (many (inside class_of (9 ∷ [])) (past class_of (9 ∷ []) o) m) (past class_of (2 ∷ []) (arrow_at (next_part (169 ∷ []))))

-- what stands behind the operand of an assert
unfoldable pub assert_rest_at : Reader Lexeme (Limited Operand) → ℕ → Reader Lexeme (Lexeme × (List (Limited Operand) × Label))
assert_rest_at o m = past class_of (9 ∷ []) (joined (tok class_of (40 ∷ [])) (shown_and_next_at o m))

abbrev pub asserted : Bool → Limited Operand → Lexeme × (List (Limited Operand) × Label) → EndingAt
asserted negated o v = to_assert (negated, (o, v))

-- what stands behind the parenthesis of an assert
unfoldable pub assert_inside_at : Reader Lexeme (Limited Operand) → ℕ → Reader Lexeme (Bool × (Limited Operand × (Lexeme × (List (Limited Operand) × Label))))
assert_inside_at o m = joined (perhaps_token (17 ∷ [])) (joined o (assert_rest_at o m))

abbrev pub assert_part : Reader Lexeme (Limited Operand) → ℕ → Reader Lexeme EndingAt
assert_part o m = made to_assert (past class_of (168 ∷ []) (past class_of (1 ∷ []) (assert_inside_at o m)))

-- Values and calls.

unfoldable pub arrow_target_at : Reader Lexeme (Limited Target)
arrow_target_at = arrow_at target_at

unfoldable pub call_end_part : Reader Lexeme (Option (Limited Target))
call_end_part = pick (inside class_of (10 ∷ [])) (made (λ t. None) (tok class_of (10 ∷ []))) (made Some arrow_target_at)

unfoldable pub fields_part : ℕ → ℕ → Reader Lexeme (List (Limited NamedOperand))
fields_part m d = fields_at m (types m d) (places m d)

unfoldable pub operands_part : ℕ → ℕ → Reader Lexeme (List (Limited Operand))
operands_part m d = operands_at m (types m d) (places m d)

unfoldable pub value_path_part : ℕ → ℕ → Reader Lexeme Named
value_path_part m d = value_path_at m (types m d)

abbrev pub to_operand_tail : ℕ → ℕ → Reader Lexeme PathTail
to_operand_tail m d = made operand_tail (joined (operands_part m d) call_end_part)

unfoldable pub path_rest_part : ℕ → ℕ → Reader Lexeme PathTail
path_rest_part m d = pick (inside class_of (10 ∷ [])) (made unit_tail (tok class_of (10 ∷ []))) (pick (inside class_of (5 ∷ [])) (made FieldTail (ended class_of (fields_part m d) (10 ∷ []))) (to_operand_tail m d))

abbrev pub path_line_part : ℕ → ℕ → Reader Lexeme (Next (Limited Rvalue) Called)
path_line_part m d = made to_path_line (joined (value_path_part m d) (path_rest_part m d))

unfoldable pub formed_value_part : ℕ → ℕ → Reader Lexeme (Limited Rvalue)
formed_value_part m d = formed_value_at m (types m d) (places m d)
