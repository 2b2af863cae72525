-- Statements and terminators: each of them, each operand and each type that is written in them takes a token of its own.
use Rattle.std.proofs.Common.{◌≡◌, ℕ, ◌+◌, ◌≤◌, List, [], ◌∷◌, ◌++◌, length, Option, Some, None, refl, arith, flat_map, length-append}
use Rattle.std.specs.Bool.{⊤}
use Rattle.mir_ir.specs.declared.types.Ty.{Ty}
use Rattle.mir_ir.specs.declared.places.PlaceExpr.{PlaceExpr}
use Rattle.mir_ir.specs.declared.tree.Operand.{Operand}
use Rattle.mir_ir.specs.declared.tree.Statement.{Statement}
use Rattle.grammar_words.specs.Grammar.{Part}
use Rattle.mir_grammar.specs.declared.limits.Limited.{Limited}
use Rattle.mir_grammar.specs.declared.trees.Placed.{Placed}
use Rattle.mir_grammar.specs.declared.trees.Ending.{Ending}
use Rattle.mir_grammar.specs.declared.trees.Ending.TheVariants.{Settled, Calling}
use Rattle.mir_grammar.specs.Lexemes.{Lexeme}
use Rattle.mir_grammar.specs.Types.{Family, any_word}
use Rattle.mir_grammar.specs.Places.{locals, none_passed}
use Rattle.mir_grammar.specs.Values.{values_of}
use Rattle.mir_grammar.specs.Blocks.{to_label, LabelPart, no_label, edge_label, Edge, with_edge, Bracketed, NextBlock, bare_target, block_target, edge_target, returns, TargetPart, Kept, to_assign, to_live, to_dead, to_variant, to_nothing, to_mention, AssignOf, LocalLine, MentionPart, VariantPart, WordStatement, StatementOf, EndingAt, to_goto, to_return, to_unreachable, to_arm, to_switch, to_drop, to_assert, Arrow, ArmPart, SwitchArms, Assert, SwitchPart, DropPart, WordTerminator, to_call, CallOf, TerminatorOf, to_resume, Resumed, Body, CleanupBody}
use Rattle.mir_program.specs.Joined.{written}
use Rattle.mir_program.specs.Functions.{statement_operands, terminator_operands, IsOperand}
use Rattle.mir_program.specs.Mentions.{place_types, operand_types, rvalue_types, statement_types, argument_types, terminator_types}
use Rattle.program_laws.proofs.Takes.{Takes, Anything, nil, Every, total, takes_any, takes_made, takes_then, takes_either, takes_past, takes_ended, takes_each, takes_perhaps, takes_perhaps_token, takes_into}
use Rattle.program_laws.proofs.TypeCounts.{optional}
use Rattle.program_laws.proofs.PlacesTake.{place_weight}
use Rattle.program_laws.proofs.ValuesTake.{PartsTake, operand_weight, values_right, values_weight, operand_takes, operands_take, value_path_takes, rvalue_takes}

-- Labels and where a call goes on.

label_takes : Takes LabelPart Anything nil
label_takes = takes_made to_label (λ l g. (tt, omega arith)) (takes_any (32 ∷ []))

edge_takes : Takes Edge Anything nil
edge_takes = takes_past (170 ∷ []) (takes_either (takes_made no_label (λ l g. (tt, omega arith)) (takes_any (171 ∷ 164 ∷ [])))
    (takes_either (takes_made no_label (λ l g. (tt, omega arith)) (takes_past (172 ∷ []) (takes_past (1 ∷ []) (takes_ended (2 ∷ []) (takes_any any_word)))))
    (takes_either (takes_made edge_label (λ l g. (tt, omega arith)) (takes_past (11 ∷ []) (takes_any (32 ∷ [])))) (takes_made edge_label (λ l g. (tt, omega arith)) (takes_any (32 ∷ []))))))

bracketed_takes : (word : List ℕ) → Takes (Bracketed word) Anything nil
bracketed_takes word = takes_made with_edge (λ x g. (tt, omega arith)) (takes_past (3 ∷ []) (takes_past word (takes_past (11 ∷ []) (takes_then label_takes (takes_ended (4 ∷ []) (takes_perhaps none_passed tt refl (takes_past (9 ∷ []) edge_takes)))))))

next_takes : (word : List ℕ) → Takes (NextBlock word) Anything nil
next_takes word = takes_either label_takes (bracketed_takes word)

target_takes : Takes TargetPart Anything nil
target_takes = takes_either (takes_made bare_target (λ l g. (tt, omega arith)) label_takes) (takes_either (takes_made block_target (λ l g. (tt, omega arith)) (bracketed_takes returns)) (takes_made edge_target (λ l g. (tt, omega arith)) edge_takes))

arrow_takes : {A : Type 0} {R : Part Lexeme A} {P : A → Type 0} {w : A → ℕ} → Takes R P w → Takes (Arrow R) P w
arrow_takes r = takes_past (20 ∷ []) (takes_ended (10 ∷ []) r)

-- Statements.

abbrev pub statement_right : Option Statement → Type 0
statement_right None = ⊤
statement_right (Some s) = Every IsOperand (statement_operands s)

-- one for the statement, for each operand, and for each type that is written
abbrev pub statement_weight : Option Statement → ℕ
statement_weight None = 0
statement_weight (Some s) = 1 + (length (statement_operands s) + length (statement_types written s))

abbrev pub IsRightStatement : Kept → Type 0
IsRightStatement k = statement_right k.value

abbrev pub kept_weight : Kept → ℕ
kept_weight k = statement_weight k.value

assign_takes : {T : Family} {P : Part Lexeme Placed} → PartsTake T P → Takes (AssignOf T P) IsRightStatement kept_weight
unfolding to_assign
assign_takes q = takes_made to_assign (λ x g. (g.1, omega (arith, length-append (place_types written x.0.place) (rvalue_types written x.1.value)))) (takes_then q.places (takes_past (14 ∷ []) (takes_ended (10 ∷ []) (rvalue_takes q))))

local_takes : Takes LocalLine Anything (λ (l : Lexeme). 1)
local_takes = takes_past (1 ∷ []) (takes_ended (10 ∷ []) (takes_ended (2 ∷ []) (takes_any locals)))

mention_takes : {P : Part Lexeme Placed} → Takes P Anything place_weight → Takes (MentionPart P) IsRightStatement kept_weight
unfolding to_mention
mention_takes p = takes_made to_mention (λ a g. (tt, omega arith)) (takes_past (161 ∷ []) (takes_past (1 ∷ []) (takes_ended (10 ∷ []) (takes_ended (2 ∷ []) p))))

variant_takes : {P : Part Lexeme Placed} → Takes P Anything place_weight → Takes (VariantPart P) IsRightStatement kept_weight
unfolding to_variant
variant_takes p = takes_made to_variant (λ x g. (tt, omega arith)) (takes_past (147 ∷ []) (takes_past (1 ∷ []) (takes_then p (takes_past (2 ∷ []) (takes_past (14 ∷ []) (takes_ended (10 ∷ []) (takes_any (35 ∷ []))))))))

word_takes : {P : Part Lexeme Placed} → Takes P Anything place_weight → Takes (WordStatement P) IsRightStatement kept_weight
unfolding to_live to_dead to_nothing
word_takes p = takes_either (takes_made to_live (λ l g. (tt, omega arith)) (takes_past (157 ∷ []) local_takes)) (takes_either (takes_made to_dead (λ l g. (tt, omega arith)) (takes_past (158 ∷ []) local_takes))
    (takes_either (takes_made to_nothing (λ l g. (tt, omega arith)) (takes_past (159 ∷ 160 ∷ []) (takes_any (10 ∷ [])))) (takes_either (mention_takes p) (variant_takes p))))

statement_takes : {T : Family} {P : Part Lexeme Placed} → PartsTake T P → Takes (StatementOf T P) IsRightStatement kept_weight
statement_takes q = takes_either (assign_takes q) (word_takes q.places)

-- Terminators.

abbrev pub ending_operands : Ending → List Operand
ending_operands (Settled t) = terminator_operands t
ending_operands (Calling place callee arguments target) = arguments

abbrev pub ending_types : Ending → List (Unit {0})
ending_types (Settled t) = terminator_types written t
ending_types (Calling place callee arguments target) = place_types written place ++ flat_map (operand_types written) arguments ++ argument_types written callee.argument

abbrev pub IsRightEnding : EndingAt → Type 0
IsRightEnding e = Every IsOperand (ending_operands e.value)

-- one for each operand, and for each type that is written
abbrev pub ending_weight : EndingAt → ℕ
ending_weight e = length (ending_operands e.value) + length (ending_types e.value)

abbrev EndingTakes : Part Lexeme EndingAt → Type 0
EndingTakes R = Takes R IsRightEnding ending_weight

arm_takes : Takes ArmPart Anything nil
arm_takes = takes_made to_arm (λ x g. (tt, omega arith)) (takes_then (takes_any (35 ∷ [])) (takes_past (11 ∷ []) (takes_ended (9 ∷ []) label_takes)))

arms_take : Takes SwitchArms Anything nil
arms_take = takes_into (λ x g. (tt, omega arith)) (takes_past (3 ∷ []) (takes_then (takes_each arm_takes) (takes_past (166 ∷ []) (takes_past (11 ∷ []) (takes_ended (4 ∷ []) label_takes)))))

switch_takes : {T : Family} {P : Part Lexeme Placed} → PartsTake T P → EndingTakes (SwitchPart T P)
unfolding to_switch
switch_takes q = takes_made to_switch (λ x g. ((g.0, tt), omega arith)) (takes_past (165 ∷ []) (takes_past (1 ∷ []) (takes_then (operand_takes q) (takes_past (2 ∷ []) (arrow_takes arms_take)))))

drop_takes : {P : Part Lexeme Placed} → Takes P Anything place_weight → EndingTakes (DropPart P)
unfolding to_drop
drop_takes p = takes_made to_drop (λ x g. (tt, omega arith)) (takes_past (167 ∷ []) (takes_past (1 ∷ []) (takes_then p (takes_past (2 ∷ []) (arrow_takes (next_takes returns))))))

assert_takes : {T : Family} {P : Part Lexeme Placed} → PartsTake T P → EndingTakes (Assert T P)
unfolding to_assert
assert_takes q = takes_made to_assert (λ x g. ((g.1.0, values_right x.1.1.1.0 g.1.1.1.0), let e = values_weight x.1.1.1.0 in omega (arith, length-append (operand_types written x.1.0.value) (flat_map (operand_types written) (values_of x.1.1.1.0)))))
    (takes_past (168 ∷ []) (takes_past (1 ∷ []) (takes_then (takes_perhaps_token (17 ∷ [])) (takes_then (operand_takes q) (takes_past (9 ∷ []) (takes_then (takes_any (40 ∷ []))
    (takes_then (takes_each (takes_past (9 ∷ []) (operand_takes q))) (takes_past (2 ∷ []) (arrow_takes (next_takes (169 ∷ [])))))))))))

words_take : {T : Family} {P : Part Lexeme Placed} → PartsTake T P → EndingTakes (WordTerminator T P)
unfolding to_goto to_return to_unreachable
words_take q = takes_either (takes_made to_goto (λ l g. (tt, omega arith)) (takes_past (162 ∷ []) (arrow_takes label_takes))) (takes_either (takes_made to_return (λ l g. (tt, omega arith)) (takes_past (163 ∷ []) (takes_any (10 ∷ []))))
    (takes_either (takes_made to_unreachable (λ l g. (tt, omega arith)) (takes_past (164 ∷ []) (takes_any (10 ∷ [])))) (takes_either (switch_takes q) (takes_either (drop_takes q.places) (assert_takes q)))))

argument_low : (o : Option Ty) → length (argument_types written o) ≡ optional o
argument_low None = refl
argument_low (Some t) = refl

call_low : (p : PlaceExpr) (os : List (Limited Operand)) (o : Option Ty) → length (values_of os) + length (place_types written p ++ flat_map (operand_types written) (values_of os) ++ argument_types written o)
    ≤ (1 + length (place_types written p)) + (optional o + (total operand_weight os + 0))
call_low p os o = omega (arith, values_weight os, argument_low o, length-append (place_types written p ++ flat_map (operand_types written) (values_of os)) (argument_types written o), length-append (place_types written p) (flat_map (operand_types written) (values_of os)))

call_takes : {T : Family} {P : Part Lexeme Placed} → PartsTake T P → EndingTakes (CallOf T P)
unfolding to_call
call_takes q = takes_made to_call (λ x g. (values_right x.1.1.0 g.1.1.0, call_low x.0.place x.1.1.0 x.1.0.argument))
    (takes_then q.places (takes_past (14 ∷ []) (takes_then (value_path_takes q.types) (takes_then (operands_take q) (arrow_takes target_takes)))))

terminator_takes : {T : Family} {P : Part Lexeme Placed} → PartsTake T P → EndingTakes (TerminatorOf T P)
terminator_takes q = takes_either (call_takes q) (words_take q)

resumed_takes : EndingTakes Resumed
unfolding to_resume
resumed_takes = takes_either (takes_made to_resume (λ l g. (tt, omega arith)) (takes_past (173 ∷ []) (takes_any (10 ∷ []))))
    (takes_made to_resume (λ l g. (tt, omega arith)) (takes_past (172 ∷ []) (takes_past (1 ∷ []) (takes_ended (10 ∷ []) (takes_ended (2 ∷ []) (takes_any any_word))))))

-- The body of a block.

abbrev pub IsRightBody : List Kept × EndingAt → Type 0
IsRightBody v = Every IsRightStatement v.0 × IsRightEnding v.1

abbrev pub body_weight : List Kept × EndingAt → ℕ
body_weight v = total kept_weight v.0 + ending_weight v.1

pub body_takes : {T : Family} {P : Part Lexeme Placed} → PartsTake T P → Takes (Body T P) IsRightBody body_weight
body_takes q = takes_then (takes_each (statement_takes q)) (terminator_takes q)

pub cleanup_takes : {T : Family} {P : Part Lexeme Placed} → PartsTake T P → Takes (CleanupBody T P) IsRightBody body_weight
cleanup_takes q = takes_then (takes_each (statement_takes q)) (takes_either (terminator_takes q) resumed_takes)
