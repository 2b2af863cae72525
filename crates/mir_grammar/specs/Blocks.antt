-- Statements and terminators.
--   statement  := place = rvalue ; | StorageLive ( local ) ; | StorageDead ( local ) ; | discriminant ( place ) = number ;
--               | nop ; | ConstEvalCounter ; | PlaceMention ( place ) ;
--   terminator := goto -> label ; | return ; | unreachable ; | switchInt ( operand ) -> [ (number : label ,)* otherwise : label ] ;
--               | drop ( place ) -> next ; | assert ( !? operand , text (, operand)* ) -> next ;
--               | place = path ( list(operand) ) -> (next | edge) ;
--   next       := label | [ (return | success) : label (, edge)? ]
--   edge       := unwind (continue | unreachable | terminate ( word ) | :? label)
-- return stands in the next of a call or a drop, success in that of an assert.
use Rattle.std.specs.Prelude.{ℕ, Bool, not, List, [], ◌∷◌, Option, Some, None}
use Rattle.vk_core.specs.declared.ids.BlockId.{BlockId}
use Rattle.mir_ir.specs.declared.tree.Operand.{Operand}
use Rattle.mir_ir.specs.declared.tree.Statement.{Statement}
use Rattle.mir_ir.specs.declared.tree.Statement.TheVariants as statement
use Rattle.mir_ir.specs.declared.tree.Arm.{Arm}
use Rattle.mir_ir.specs.declared.tree.Terminator.TheVariants as terminator
use Rattle.grammar_words.specs.Grammar.{Part, Then, Made, Either, Each, Next, More, Last}
use Rattle.grammar_words.specs.Reading.{Reader, joined, made, pick, choose, many}
use Rattle.grammar_words.specs.Classes.{inside, Tok, tok, Past, past, Ended, ended, Perhaps, perhaps, Perhaps_token, bare}
pub use Rattle.mir_grammar.specs.declared.trees.Target.{Target}
pub use Rattle.mir_grammar.specs.declared.trees.Target.TheVariants.{ToBlock, ToLabel, ToNone}
pub use Rattle.mir_grammar.specs.declared.trees.Ending.{Ending}
pub use Rattle.mir_grammar.specs.declared.trees.Ending.TheVariants.{Settled, Calling}
pub use Rattle.mir_grammar.specs.declared.trees.PathTail.{PathTail}
pub use Rattle.mir_grammar.specs.declared.trees.PathTail.TheVariants.{UnitTail, FieldTail, OperandTail}
use Rattle.mir_grammar.specs.Lexemes.{Lexeme, class_of, local_number, label_number, number_value, text_body}
use Rattle.mir_grammar.specs.Names.{Named}
use Rattle.mir_grammar.specs.Types.{Family, Readers, any_word, colons, perhaps_token}
use Rattle.mir_grammar.specs.Places.{Passed, none_passed, both_passed, long_name, block_passed, far_local, to_local_id, Placed, place_firsts, locals}
use Rattle.mir_grammar.specs.Values.{Limited, Value, values_of, all_passed, OperandOf, Operands, FormedValue, RvalueOf, ValuePath, Fields, to_path_unit, to_path_tuple, to_path_fields, operand_at, operands_at, formed_value_at, formed_value_firsts, value_words, value_path_at, fields_at}

-- Labels and where a call goes on.

abbrev pub to_block_id : ℕ → BlockId
to_block_id n = record { 0 = n }

abbrev pub far_block : Lexeme → Passed
far_block l = block_passed (label_number l)

abbrev pub Label : Type 0
Label = Limited BlockId

unfoldable pub to_label : Lexeme → Label
to_label l = record { value = to_block_id (label_number l); passed = far_block l }

abbrev pub LabelPart : Part Lexeme Label
LabelPart = Made to_label (Tok class_of (32 ∷ []))

unfoldable pub no_label : Lexeme → Passed
no_label l = none_passed

unfoldable pub edge_label : Lexeme → Passed
edge_label l = far_block l

-- unwind and what it does
abbrev pub Edge : Part Lexeme Passed
Edge = Past class_of (170 ∷ []) (Either (Made no_label (Tok class_of (171 ∷ 164 ∷ []))) (Either (Made no_label (Past class_of (172 ∷ []) (Past class_of (1 ∷ []) (Ended class_of (Tok class_of any_word) (2 ∷ [])))))
    (Either (Made edge_label (Past class_of (11 ∷ []) (Tok class_of (32 ∷ [])))) (Made edge_label (Tok class_of (32 ∷ []))))))

unfoldable pub with_edge : Label × Passed → Label
with_edge v = record { value = v.0.value; passed = both_passed v.0.passed v.1 }

-- [ word : label (, edge)? ]
abbrev pub Bracketed : List ℕ → Part Lexeme Label
Bracketed word = Made with_edge (Past class_of (3 ∷ []) (Past class_of word (Past class_of (11 ∷ []) (Then LabelPart (Ended class_of (Perhaps none_passed (Past class_of (9 ∷ []) Edge)) (4 ∷ []))))))

abbrev pub NextBlock : List ℕ → Part Lexeme Label
NextBlock word = Either LabelPart (Bracketed word)

unfoldable pub bare_target : Label → Limited Target
bare_target l = record { value = ToLabel l.value; passed = l.passed }

unfoldable pub block_target : Label → Limited Target
block_target l = record { value = ToBlock l.value; passed = l.passed }

unfoldable pub edge_target : Passed → Limited Target
edge_target p = record { value = ToNone; passed = p }

abbrev pub returns : List ℕ
returns = 163 ∷ []

abbrev pub TargetPart : Part Lexeme (Limited Target)
TargetPart = Either (Made bare_target LabelPart) (Either (Made block_target (Bracketed returns)) (Made edge_target Edge))

-- Statements. Some are read and not kept.

abbrev pub Kept : Type 0
Kept = Limited (Option Statement)

unfoldable pub to_assign : Placed × Value → Kept
to_assign v = record { value = Some (statement.Assign v.0.place v.1.value); passed = both_passed v.0.passed v.1.passed }

unfoldable pub to_live : Lexeme → Kept
to_live l = record { value = Some (statement.StorageLive (to_local_id (local_number l))); passed = far_local l }

unfoldable pub to_dead : Lexeme → Kept
to_dead l = record { value = Some (statement.StorageDead (to_local_id (local_number l))); passed = far_local l }

unfoldable pub to_variant : Placed × Lexeme → Kept
to_variant v = record { value = Some (statement.SetVariant v.0.place (number_value v.1)); passed = v.0.passed }

unfoldable pub to_nothing : Lexeme → Kept
to_nothing l = record { value = None; passed = none_passed }

unfoldable pub to_mention : Placed → Kept
to_mention p = record { value = None; passed = p.passed }

abbrev pub AssignOf : Family → Part Lexeme Placed → Part Lexeme Kept
AssignOf T P = Made to_assign (Then P (Past class_of (14 ∷ []) (Ended class_of (RvalueOf T P) (10 ∷ []))))

-- ( local ) ;
abbrev pub LocalLine : Part Lexeme Lexeme
LocalLine = Past class_of (1 ∷ []) (Ended class_of (Ended class_of (Tok class_of locals) (2 ∷ [])) (10 ∷ []))

-- PlaceMention ( place ) ;
abbrev pub MentionPart : Part Lexeme Placed → Part Lexeme Kept
MentionPart P = Made to_mention (Past class_of (161 ∷ []) (Past class_of (1 ∷ []) (Ended class_of (Ended class_of P (2 ∷ [])) (10 ∷ []))))

-- discriminant ( place ) = number ;
abbrev pub VariantPart : Part Lexeme Placed → Part Lexeme Kept
VariantPart P = Made to_variant (Past class_of (147 ∷ []) (Past class_of (1 ∷ []) (Then P (Past class_of (2 ∷ []) (Past class_of (14 ∷ []) (Ended class_of (Tok class_of (35 ∷ [])) (10 ∷ [])))))))

-- a statement that begins with a word
abbrev pub WordStatement : Part Lexeme Placed → Part Lexeme Kept
WordStatement P = Either (Made to_live (Past class_of (157 ∷ []) LocalLine)) (Either (Made to_dead (Past class_of (158 ∷ []) LocalLine)) (Either (Made to_nothing (Past class_of (159 ∷ 160 ∷ []) (Tok class_of (10 ∷ []))))
    (Either (MentionPart P) (VariantPart P))))

abbrev pub StatementOf : Family → Part Lexeme Placed → Part Lexeme Kept
StatementOf T P = Either (AssignOf T P) (WordStatement P)

-- Terminators.

abbrev pub EndingAt : Type 0
EndingAt = Limited Ending

unfoldable pub to_goto : Label → EndingAt
to_goto l = record { value = Settled (terminator.Goto l.value); passed = l.passed }

unfoldable pub to_return : Lexeme → EndingAt
to_return l = record { value = Settled terminator.Return; passed = none_passed }

unfoldable pub to_unreachable : Lexeme → EndingAt
to_unreachable l = record { value = Settled terminator.Unreachable; passed = none_passed }

unfoldable pub to_arm : Lexeme × Label → Limited Arm
to_arm v = record { value = record { number = number_value v.0; target = v.1.value }; passed = v.1.passed }

unfoldable pub to_switch : Limited Operand × (List (Limited Arm) × Label) → EndingAt
to_switch v = record { value = Settled (terminator.Switch v.0.value (values_of v.1.0) v.1.1.value); passed = both_passed v.0.passed (both_passed (all_passed v.1.0) v.1.1.passed) }

unfoldable pub to_drop : Placed × Label → EndingAt
to_drop v = record { value = Settled (terminator.Drop v.0.place v.1.value); passed = both_passed v.0.passed v.1.passed }

-- the operand of an assert and whether it is expected, its text, the operands that are shown, and the next block
unfoldable pub to_assert : Bool × (Limited Operand × (Lexeme × (List (Limited Operand) × Label))) → EndingAt
to_assert v = record {
  value = Settled (terminator.Assert v.1.0.value (not v.0) (text_body v.1.1.0) (values_of v.1.1.1.0) v.1.1.1.1.value);
  passed = both_passed v.1.0.passed (both_passed (all_passed v.1.1.1.0) v.1.1.1.1.passed);
}

abbrev pub Arrow : {A : Type 0} → Part Lexeme A → Part Lexeme A
Arrow R = Past class_of (20 ∷ []) (Ended class_of R (10 ∷ []))

abbrev pub ArmPart : Part Lexeme (Limited Arm)
ArmPart = Made to_arm (Then (Tok class_of (35 ∷ [])) (Past class_of (11 ∷ []) (Ended class_of LabelPart (9 ∷ []))))

abbrev pub SwitchArms : Part Lexeme (List (Limited Arm) × Label)
SwitchArms = Past class_of (3 ∷ []) (Then (Each ArmPart) (Past class_of (166 ∷ []) (Past class_of (11 ∷ []) (Ended class_of LabelPart (4 ∷ [])))))

abbrev pub Assert : Family → Part Lexeme Placed → Part Lexeme EndingAt
Assert T P = Made to_assert (Past class_of (168 ∷ []) (Past class_of (1 ∷ []) (Then (Perhaps_token class_of (17 ∷ [])) (Then (OperandOf T P) (Past class_of (9 ∷ []) (Then (Tok class_of (40 ∷ []))
    (Then (Each (Past class_of (9 ∷ []) (OperandOf T P))) (Past class_of (2 ∷ []) (Arrow (NextBlock (169 ∷ [])))))))))))

-- switchInt ( operand ) -> [ .. ] ;
abbrev pub SwitchPart : Family → Part Lexeme Placed → Part Lexeme EndingAt
SwitchPart T P = Made to_switch (Past class_of (165 ∷ []) (Past class_of (1 ∷ []) (Then (OperandOf T P) (Past class_of (2 ∷ []) (Arrow SwitchArms)))))

-- drop ( place ) -> next ;
abbrev pub DropPart : Part Lexeme Placed → Part Lexeme EndingAt
DropPart P = Made to_drop (Past class_of (167 ∷ []) (Past class_of (1 ∷ []) (Then P (Past class_of (2 ∷ []) (Arrow (NextBlock returns))))))

-- a terminator that begins with a word
abbrev pub WordTerminator : Family → Part Lexeme Placed → Part Lexeme EndingAt
WordTerminator T P = Either (Made to_goto (Past class_of (162 ∷ []) (Arrow LabelPart))) (Either (Made to_return (Past class_of (163 ∷ []) (Tok class_of (10 ∷ [])))) (Either (Made to_unreachable (Past class_of (164 ∷ []) (Tok class_of (10 ∷ []))))
    (Either (SwitchPart T P) (Either (DropPart P) (Assert T P)))))

-- what is called, with what, and where it goes on
abbrev pub Called : Type 0
Called = Named × (List (Limited Operand) × Limited Target)

unfoldable pub to_call : Placed × Called → EndingAt
to_call v = record {
  value = Calling v.0.place (record { path = v.1.0.text; argument = v.1.0.argument }) (values_of v.1.1.0) v.1.1.1.value;
  passed = both_passed (both_passed v.0.passed (long_name v.1.0.is_long)) (both_passed (all_passed v.1.1.0) v.1.1.1.passed);
}

abbrev pub CallOf : Family → Part Lexeme Placed → Part Lexeme EndingAt
CallOf T P = Made to_call (Then P (Past class_of (14 ∷ []) (Then (ValuePath T) (Then (Operands T P) (Arrow TargetPart)))))

abbrev pub TerminatorOf : Family → Part Lexeme Placed → Part Lexeme EndingAt
TerminatorOf T P = Either (CallOf T P) (WordTerminator T P)

-- statements, and a terminator
abbrev pub Body : Family → Part Lexeme Placed → Part Lexeme (List Kept × EndingAt)
Body T P = Then (Each (StatementOf T P)) (TerminatorOf T P)

unfoldable pub to_resume : Lexeme → EndingAt
to_resume l = record { value = Settled terminator.Unreachable; passed = none_passed }

-- resume ; and terminate ( word ) ;, which end cleanup blocks
abbrev pub Resumed : Part Lexeme EndingAt
Resumed = Either (Made to_resume (Past class_of (173 ∷ []) (Tok class_of (10 ∷ [])))) (Made to_resume (Past class_of (172 ∷ []) (Past class_of (1 ∷ []) (Ended class_of (Ended class_of (Tok class_of any_word) (2 ∷ [])) (10 ∷ [])))))

abbrev pub CleanupBody : Family → Part Lexeme Placed → Part Lexeme (List Kept × EndingAt)
CleanupBody T P = Then (Each (StatementOf T P)) (Either (TerminatorOf T P) Resumed)

-- How they are read: what begins alike is read once.

abbrev pub Line : Type 0
Line = Next Kept EndingAt

abbrev pub unit_tail : Lexeme → PathTail
unit_tail l = UnitTail

abbrev pub operand_tail : List (Limited Operand) × Option (Limited Target) → PathTail
operand_tail v = OperandTail v.0 v.1

abbrev pub to_path_line : Named × PathTail → Next Value Called
to_path_line (n, UnitTail) = More (to_path_unit n)
to_path_line (n, FieldTail fields) = More (to_path_fields (n, fields))
to_path_line (n, OperandTail operands None) = More (to_path_tuple (n, operands))
to_path_line (n, OperandTail operands (Some target)) = Last (n, (operands, target))

abbrev pub to_assign_line : Placed × Next Value Called → Line
to_assign_line (p, More v) = More (to_assign (p, v))
to_assign_line (p, Last c) = Last (to_call (p, c))

abbrev pub CallEnd : Part Lexeme (Option (Limited Target))
CallEnd = Either (Made (λ t. None) (Tok class_of (10 ∷ []))) (Made Some (Arrow TargetPart))

abbrev pub PathRest : Family → Part Lexeme Placed → Part Lexeme PathTail
PathRest T P = Either (Made unit_tail (Tok class_of (10 ∷ []))) (Either (Made FieldTail (Ended class_of (Fields T P) (10 ∷ []))) (Made operand_tail (Then (Operands T P) CallEnd)))

abbrev pub FormedLine : Family → Part Lexeme Placed → Part Lexeme (Next Value Called)
FormedLine T P = Made More (Ended class_of (FormedValue T P) (10 ∷ []))

abbrev pub PathLine : Family → Part Lexeme Placed → Part Lexeme (Next Value Called)
PathLine T P = Made to_path_line (Then (ValuePath T) (PathRest T P))

abbrev pub ValueLine : Family → Part Lexeme Placed → Part Lexeme (Next Value Called)
ValueLine T P = Either (FormedLine T P) (PathLine T P)

abbrev pub LinePart : Family → Part Lexeme Placed → Part Lexeme Line
LinePart T P = Either (Made to_assign_line (Then P (Past class_of (14 ∷ []) (ValueLine T P)))) (Either (Made More (WordStatement P)) (Made Last (WordTerminator T P)))

abbrev pub CleanupLine : Family → Part Lexeme Placed → Part Lexeme Line
CleanupLine T P = Either (Made Last Resumed) (LinePart T P)

abbrev pub label_at : Reader Lexeme Label
label_at = made to_label (tok class_of (32 ∷ []))

abbrev pub edge_at : Reader Lexeme Passed
edge_at = past class_of (170 ∷ []) (pick (inside class_of (171 ∷ 164 ∷ [])) (made no_label (tok class_of (171 ∷ 164 ∷ [])))
    (pick (inside class_of (172 ∷ [])) (made no_label (past class_of (172 ∷ []) (past class_of (1 ∷ []) (ended class_of (tok class_of any_word) (2 ∷ [])))))
    (pick (inside class_of (11 ∷ [])) (made edge_label (past class_of (11 ∷ []) (tok class_of (32 ∷ [])))) (made edge_label (tok class_of (32 ∷ []))))))

abbrev pub bracketed_at : List ℕ → Reader Lexeme Label
bracketed_at word = made with_edge (past class_of (3 ∷ []) (past class_of word (past class_of (11 ∷ []) (joined label_at (ended class_of (perhaps class_of (9 ∷ []) none_passed (past class_of (9 ∷ []) edge_at)) (4 ∷ []))))))

abbrev pub next_at : List ℕ → Reader Lexeme Label
next_at word = pick (inside class_of (32 ∷ [])) label_at (bracketed_at word)

abbrev pub target_at : Reader Lexeme (Limited Target)
target_at = pick (inside class_of (32 ∷ [])) (made bare_target label_at) (pick (inside class_of (3 ∷ [])) (made block_target (bracketed_at returns)) (made edge_target edge_at))

abbrev pub local_line_at : Reader Lexeme Lexeme
local_line_at = past class_of (1 ∷ []) (ended class_of (ended class_of (tok class_of locals) (2 ∷ [])) (10 ∷ []))

abbrev pub mention_at : Reader Lexeme Placed → Reader Lexeme Kept
mention_at p = made to_mention (past class_of (161 ∷ []) (past class_of (1 ∷ []) (ended class_of (ended class_of p (2 ∷ [])) (10 ∷ []))))

abbrev pub variant_at : Reader Lexeme Placed → Reader Lexeme Kept
variant_at p = made to_variant (past class_of (147 ∷ []) (past class_of (1 ∷ []) (joined p (past class_of (2 ∷ []) (past class_of (14 ∷ []) (ended class_of (tok class_of (35 ∷ [])) (10 ∷ [])))))))

abbrev pub word_statement_at : Reader Lexeme Placed → Reader Lexeme Kept
word_statement_at p = pick (inside class_of (157 ∷ [])) (made to_live (past class_of (157 ∷ []) local_line_at)) (pick (inside class_of (158 ∷ [])) (made to_dead (past class_of (158 ∷ []) local_line_at))
    (pick (inside class_of (159 ∷ 160 ∷ [])) (made to_nothing (past class_of (159 ∷ 160 ∷ []) (tok class_of (10 ∷ [])))) (pick (inside class_of (161 ∷ [])) (mention_at p) (variant_at p))))

abbrev pub arrow_at : {A : Type 0} → Reader Lexeme A → Reader Lexeme A
arrow_at r = past class_of (20 ∷ []) (ended class_of r (10 ∷ []))

abbrev pub arm_at : Reader Lexeme (Limited Arm)
arm_at = made to_arm (joined (tok class_of (35 ∷ [])) (past class_of (11 ∷ []) (ended class_of label_at (9 ∷ []))))

abbrev pub switch_arms_at : ℕ → Reader Lexeme (List (Limited Arm) × Label)
switch_arms_at m = past class_of (3 ∷ []) (joined (many (inside class_of (35 ∷ [])) arm_at m) (past class_of (166 ∷ []) (past class_of (11 ∷ []) (ended class_of label_at (4 ∷ [])))))

abbrev pub assert_at : ℕ → Readers → Reader Lexeme Placed → Reader Lexeme EndingAt
assert_at m t p = made to_assert (past class_of (168 ∷ []) (past class_of (1 ∷ []) (joined (perhaps_token (17 ∷ [])) (joined (operand_at m t p) (past class_of (9 ∷ []) (joined (tok class_of (40 ∷ []))
    (joined (many (inside class_of (9 ∷ [])) (past class_of (9 ∷ []) (operand_at m t p)) m) (past class_of (2 ∷ []) (arrow_at (next_at (169 ∷ [])))))))))))

abbrev pub switch_at : ℕ → Readers → Reader Lexeme Placed → Reader Lexeme EndingAt
switch_at m t p = made to_switch (past class_of (165 ∷ []) (past class_of (1 ∷ []) (joined (operand_at m t p) (past class_of (2 ∷ []) (arrow_at (switch_arms_at m))))))

abbrev pub drop_at : Reader Lexeme Placed → Reader Lexeme EndingAt
drop_at p = made to_drop (past class_of (167 ∷ []) (past class_of (1 ∷ []) (joined p (past class_of (2 ∷ []) (arrow_at (next_at returns))))))

abbrev pub word_terminator_at : ℕ → Readers → Reader Lexeme Placed → Reader Lexeme EndingAt
word_terminator_at m t p = pick (inside class_of (162 ∷ [])) (made to_goto (past class_of (162 ∷ []) (arrow_at label_at))) (pick (inside class_of (163 ∷ [])) (made to_return (past class_of (163 ∷ []) (tok class_of (10 ∷ []))))
    (pick (inside class_of (164 ∷ [])) (made to_unreachable (past class_of (164 ∷ []) (tok class_of (10 ∷ [])))) (pick (inside class_of (165 ∷ [])) (switch_at m t p) (pick (inside class_of (167 ∷ [])) (drop_at p) (assert_at m t p)))))

abbrev pub resumed_at : Reader Lexeme EndingAt
resumed_at = pick (inside class_of (173 ∷ [])) (made to_resume (past class_of (173 ∷ []) (tok class_of (10 ∷ [])))) (made to_resume (past class_of (172 ∷ []) (past class_of (1 ∷ []) (ended class_of (ended class_of (tok class_of any_word) (2 ∷ [])) (10 ∷ [])))))

abbrev pub call_end_at : Reader Lexeme (Option (Limited Target))
call_end_at = pick (inside class_of (10 ∷ [])) (made (λ t. None) (tok class_of (10 ∷ []))) (made Some (arrow_at target_at))

abbrev pub path_rest_at : ℕ → Readers → Reader Lexeme Placed → Reader Lexeme PathTail
path_rest_at m t p = pick (inside class_of (10 ∷ [])) (made unit_tail (tok class_of (10 ∷ []))) (pick (inside class_of (5 ∷ [])) (made FieldTail (ended class_of (fields_at m t p) (10 ∷ []))) (made operand_tail (joined (operands_at m t p) call_end_at)))

abbrev pub formed_line_at : ℕ → Readers → Reader Lexeme Placed → Reader Lexeme (Next Value Called)
formed_line_at m t p = made More (ended class_of (formed_value_at m t p) (10 ∷ []))

abbrev pub path_line_at : ℕ → Readers → Reader Lexeme Placed → Reader Lexeme (Next Value Called)
path_line_at m t p = made to_path_line (joined (value_path_at m t) (path_rest_at m t p))

unfoldable pub value_line_at : ℕ → Readers → Reader Lexeme Placed → Reader Lexeme (Next Value Called)
value_line_at m t p = choose (bare class_of formed_value_firsts value_words colons) (formed_line_at m t p) (path_line_at m t p)

abbrev pub statement_words : List ℕ
statement_words = 157 ∷ 158 ∷ 159 ∷ 160 ∷ 161 ∷ 147 ∷ []

abbrev pub terminator_words : List ℕ
terminator_words = 162 ∷ 163 ∷ 164 ∷ 165 ∷ 167 ∷ 168 ∷ []

abbrev pub assign_line_at : ℕ → Readers → Reader Lexeme Placed → Reader Lexeme Line
assign_line_at m t p = made to_assign_line (joined p (past class_of (14 ∷ []) (value_line_at m t p)))

unfoldable pub line_at : ℕ → Readers → Reader Lexeme Placed → Reader Lexeme Line
line_at m t p = pick (inside class_of place_firsts) (assign_line_at m t p) (pick (inside class_of statement_words) (made More (word_statement_at p)) (made Last (word_terminator_at m t p)))

unfoldable pub cleanup_line_at : ℕ → Readers → Reader Lexeme Placed → Reader Lexeme Line
cleanup_line_at m t p = pick (inside class_of (173 ∷ 172 ∷ [])) (made Last resumed_at) (line_at m t p)

-- The lines of a block, each by the production that it is.

abbrev pub CallRest : Family → Part Lexeme Placed → Part Lexeme Called
CallRest T P = Then (ValuePath T) (Then (Operands T P) (Arrow TargetPart))

abbrev pub ValueOf : Family → Part Lexeme Placed → Part Lexeme (Next Value Called)
ValueOf T P ts (More v) rest = Ended class_of (RvalueOf T P) (10 ∷ []) ts v rest
ValueOf T P ts (Last c) rest = CallRest T P ts c rest

abbrev pub LineOf : Family → Part Lexeme Placed → Part Lexeme Line
LineOf T P ts (More s) rest = StatementOf T P ts s rest
LineOf T P ts (Last t) rest = TerminatorOf T P ts t rest

abbrev pub CleanupOf : Family → Part Lexeme Placed → Part Lexeme Line
CleanupOf T P ts (More s) rest = StatementOf T P ts s rest
CleanupOf T P ts (Last t) rest = Either (TerminatorOf T P) Resumed ts t rest
