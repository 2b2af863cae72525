-- Values, statements and terminators do not look at where their tokens start.
use Rattle.std.proofs.Common.{◌≡◌, ℕ, Bool, true, false, List, [], ◌∷◌, Option, Some, None, refl, sym, ◌∙◌, ap}
use Rattle.grammar_words.specs.Grammar.{Part}
use Rattle.grammar_words.specs.Classes.{Tok, Past, Ended}
use Rattle.mir_ir.specs.declared.tree.CastKind.{CastKind}
use Rattle.mir_ir.specs.declared.tree.Operand.{Operand}
use Rattle.mir_grammar.specs.declared.limits.Limited.{Limited}
use Rattle.mir_grammar.specs.declared.named.Named.{Named}
use Rattle.mir_grammar.specs.declared.trees.Placed.{Placed}
use Rattle.mir_grammar.specs.declared.trees.ArrayTail.TheVariants.{Others}
use Rattle.mir_grammar.specs.Lexemes.{Lexeme, class_of, local_number, label_number, number_value, number_type, text_body, char_value}
use Rattle.mir_grammar.specs.Types.{Family, AnyType, any_word}
use Rattle.mir_grammar.specs.Places.{none_passed, locals}
use Rattle.mir_grammar.specs.Values as values
use Rattle.mir_grammar.specs.Values.{to_plus, to_minus, to_bool, to_char, to_text, to_unit, to_named, truths, constant_words, ConstantOf, to_copy, to_move, to_const, Marked, OperandOf, Operands, to_plain_kind, to_coercion, Kind, CastTo, to_used, to_binary, binaries, to_unary, to_measured, to_sized, to_ref_of, to_raw_of, mutable, immutable, Reference, to_array_of, to_no_array, to_times, ArrayOf, to_tuple_of, TupleOf, FormedValue, value_words, free_words, ValuePath, Field, Fields, to_path_unit, to_path_tuple, to_path_fields, RvalueOf}
use Rattle.mir_grammar.specs.Blocks.{Label, to_label, LabelPart, no_label, edge_label, Edge, with_edge, Bracketed, NextBlock, bare_target, block_target, edge_target, returns, TargetPart, to_assign, to_live, to_dead, to_variant, to_nothing, to_mention, StatementOf, to_goto, to_return, to_unreachable, to_arm, to_switch, to_drop, to_assert, Arrow, ArmPart, Called, to_call, TerminatorOf, to_resume, Resumed}
use Rattle.print_laws.proofs.Copies.{SameLexeme, SamePair, SameBool, Copies, copies_tok, copies_then, copies_made, copies_either, copies_nothing, copies_past, copies_ended, copies_perhaps_token}
use Rattle.print_laws.proofs.TypeCopies.{unplaced, SameNamed, CopiesAll, path_from}
use Rattle.print_laws.proofs.ValueCopies.{Equal, lex, copies_text, copies_equal, copies_both, copies_all, copies_list, copies_lexeme, copies_typed}

constant : {T : Family} → CopiesAll T → Copies (ConstantOf T) Equal
unfolding to_plus to_minus to_bool to_char to_text to_unit to_named number_type number_value char_value text_body
constant t = copies_either (copies_either (copies_text to_plus (λ l. refl) (36 ∷ 37 ∷ [])) (copies_either (copies_made to_minus (λ a b h. ap (λ x. to_minus (lex x)) h.1) (copies_past (19 ∷ []) (copies_tok (36 ∷ 38 ∷ []))))
    (copies_either (copies_text to_bool (λ l. refl) truths) (copies_either (copies_text to_char (λ l. refl) (41 ∷ [])) (copies_either (copies_text to_text (λ l. refl) (40 ∷ [])) (copies_made to_unit (λ a b h. refl) (copies_past (1 ∷ []) (copies_tok (2 ∷ [])))))))))
    (copies_made to_named (λ a b h. ap to_named h) (path_from truths constant_words t))

marked : {T : Family} {P : Part Lexeme Placed} → CopiesAll T → Copies P Equal → Copies (Marked T P) Equal
marked t p = copies_either (copies_equal to_copy (copies_past (120 ∷ []) p)) (copies_either (copies_equal to_move (copies_past (121 ∷ []) p)) (copies_equal to_const (copies_past (116 ∷ []) (constant t))))

operand : {T : Family} {P : Part Lexeme Placed} → CopiesAll T → Copies P Equal → Copies (OperandOf T P) Equal
operand t p = copies_either (copies_equal to_copy p) (marked t p)

operands : {T : Family} {P : Part Lexeme Placed} → CopiesAll T → Copies P Equal → Copies (Operands T P) Equal
operands t p = copies_past (1 ∷ []) (copies_ended (2 ∷ []) (copies_list (9 ∷ []) (operand t p)))

cast_kind : Copies Kind Equal
unfolding to_plain_kind to_coercion
cast_kind = copies_either (copies_text to_plain_kind (λ l. refl) (152 ∷ 153 ∷ [])) (copies_past (154 ∷ []) (copies_past (1 ∷ []) (copies_ended (2 ∷ []) (copies_lexeme to_coercion (λ v. refl) (155 ∷ 156 ∷ [])
    (copies_either (copies_made (λ x. true) (λ a b h. refl) (copies_past (9 ∷ []) (copies_tok any_word))) (copies_nothing false refl))))))

abbrev cast_unplaced : Option (Named × CastKind) → Option (Named × CastKind)
cast_unplaced None = None
cast_unplaced (Some v) = Some (unplaced v.0, v.1)

abbrev SameCast : Option (Named × CastKind) → Option (Named × CastKind) → Type 0
SameCast a b = cast_unplaced a ≡ cast_unplaced b

abbrev SameTyped : Named × CastKind → Named × CastKind → Type 0
SameTyped = SamePair SameNamed Equal

some_cast : (a b : Named × CastKind) → SameTyped a b → SameCast (Some a) (Some b)
some_cast a b h = ap (λ x. Some (x, a.1)) h.0 ∙ ap (λ y. Some (unplaced b.0, y)) h.1

cast_to : {T : Family} → CopiesAll T → Copies (CastTo T) SameCast
cast_to t = copies_made Some some_cast (copies_past (118 ∷ []) (copies_then (t.of_want AnyType) (copies_past (1 ∷ []) (copies_ended (2 ∷ []) cast_kind))))

used_natural : (o : Limited Operand) (c : Option (Named × CastKind)) → to_used (o, c) ≡ to_used (o, cast_unplaced c)
unfolding to_used
used_natural o None = refl
used_natural o (Some v) = refl

abbrev SameUsed : Limited Operand × Option (Named × CastKind) → Limited Operand × Option (Named × CastKind) → Type 0
SameUsed = SamePair Equal SameCast

used_same : (a b : Limited Operand × Option (Named × CastKind)) → SameUsed a b → to_used a ≡ to_used b
used_same a b h = used_natural a.0 a.1 ∙ ap (λ x. to_used (x, cast_unplaced a.1)) h.0 ∙ ap (λ y. to_used (b.0, y)) h.1 ∙ sym (used_natural b.0 b.1)

reference : {P : Part Lexeme Placed} → Copies P Equal → Copies (Reference P) Equal
reference p = copies_past (15 ∷ []) (copies_either (copies_equal to_raw_of (copies_past (151 ∷ []) (copies_either (copies_equal mutable (copies_past (117 ∷ []) p)) (copies_equal immutable (copies_past (116 ∷ []) p)))))
    (copies_equal to_ref_of (copies_either (copies_equal mutable (copies_past (117 ∷ []) p)) (copies_equal immutable p))))

array : {T : Family} {P : Part Lexeme Placed} → CopiesAll T → Copies P Equal → Copies (ArrayOf T P) Equal
unfolding to_no_array to_times number_value
array t p = copies_past (3 ∷ []) (copies_either (copies_text to_no_array (λ l. refl) (4 ∷ [])) (copies_equal to_array_of (copies_both (operand t p)
    (copies_either (copies_made to_times (λ a b h. ap (λ x. to_times (lex x)) h.1) (copies_past (10 ∷ []) (copies_ended (4 ∷ []) (copies_tok (35 ∷ []))))) (copies_equal Others (copies_ended (4 ∷ []) (copies_all (copies_past (9 ∷ []) (operand t p)))))))))

tuple : {T : Family} {P : Part Lexeme Placed} → CopiesAll T → Copies P Equal → Copies (TupleOf T P) Equal
tuple t p = copies_equal to_tuple_of (copies_past (1 ∷ []) (copies_ended (2 ∷ []) (copies_both (copies_list (9 ∷ []) (marked t p)) (copies_perhaps_token (9 ∷ [])))))

formed : {T : Family} {P : Part Lexeme Placed} → CopiesAll T → Copies P Equal → Copies (FormedValue T P) Equal
unfolding to_binary to_unary to_measured to_sized
formed t p = copies_either (copies_either (copies_made to_used used_same (copies_then (operand t p) (copies_either (cast_to t) (copies_nothing None refl)))) (tuple t p))
    (copies_either (copies_either (copies_lexeme to_binary (λ v. refl) binaries (copies_past (1 ∷ []) (copies_both (operand t p) (copies_past (9 ∷ []) (copies_ended (2 ∷ []) (operand t p))))))
    (copies_either (copies_lexeme to_unary (λ v. refl) (144 ∷ 145 ∷ 146 ∷ []) (copies_past (1 ∷ []) (copies_ended (2 ∷ []) (operand t p))))
    (copies_either (copies_lexeme to_measured (λ v. refl) (147 ∷ 148 ∷ []) (copies_past (1 ∷ []) (copies_ended (2 ∷ []) p))) (copies_typed to_sized (λ v. refl) (149 ∷ 150 ∷ []) (copies_past (1 ∷ []) (copies_ended (2 ∷ []) (t.of_want AnyType)))))))
    (copies_either (reference p) (array t p)))

value_path : {T : Family} → CopiesAll T → Copies (ValuePath T) SameNamed
value_path t = path_from value_words free_words t

fields : {T : Family} {P : Part Lexeme Placed} → CopiesAll T → Copies P Equal → Copies (Fields T P) Equal
unfolding values.to_field
fields t p = copies_past (5 ∷ []) (copies_ended (6 ∷ []) (copies_list (9 ∷ []) (copies_lexeme values.to_field (λ v. refl) any_word (copies_past (11 ∷ []) (operand t p)))))

value : {T : Family} {P : Part Lexeme Placed} → CopiesAll T → Copies P Equal → Copies (RvalueOf T P) Equal
unfolding to_path_unit to_path_tuple to_path_fields
value t p = copies_either (formed t p) (copies_either (copies_made to_path_unit (λ a b h. ap to_path_unit h) (value_path t))
    (copies_either (copies_made to_path_tuple (λ a b h. ap (λ (n : Named). to_path_tuple (n, a.1)) h.0 ∙ ap (λ y. to_path_tuple (b.0, y)) h.1) (copies_then (value_path t) (operands t p)))
    (copies_made to_path_fields (λ a b h. ap (λ (n : Named). to_path_fields (n, a.1)) h.0 ∙ ap (λ y. to_path_fields (b.0, y)) h.1) (copies_then (value_path t) (fields t p)))))

-- Statements.

local_line : Copies (Past class_of (1 ∷ []) (Ended class_of (Ended class_of (Tok class_of locals) (2 ∷ [])) (10 ∷ []))) SameLexeme
local_line = copies_past (1 ∷ []) (copies_ended (10 ∷ []) (copies_ended (2 ∷ []) (copies_tok locals)))

pub statement : {T : Family} {P : Part Lexeme Placed} → CopiesAll T → Copies P Equal → Copies (StatementOf T P) Equal
unfolding to_live to_dead to_nothing to_variant local_number number_value
statement t p = copies_either (copies_equal to_assign (copies_both p (copies_past (14 ∷ []) (copies_ended (10 ∷ []) (value t p)))))
    (copies_either (copies_made to_live (λ a b h. ap (λ x. to_live (lex x)) h.1) (copies_past (157 ∷ []) local_line)) (copies_either (copies_made to_dead (λ a b h. ap (λ x. to_dead (lex x)) h.1) (copies_past (158 ∷ []) local_line))
    (copies_either (copies_made to_nothing (λ a b h. refl) (copies_past (159 ∷ 160 ∷ []) (copies_tok (10 ∷ []))))
    (copies_either (copies_equal to_mention (copies_past (161 ∷ []) (copies_past (1 ∷ []) (copies_ended (10 ∷ []) (copies_ended (2 ∷ []) p)))))
    (copies_made to_variant (λ a b h. ap (λ x. to_variant (x, a.1)) h.0 ∙ ap (λ x. to_variant (b.0, lex x)) h.1.1) (copies_past (147 ∷ []) (copies_past (1 ∷ []) (copies_then p (copies_past (2 ∷ []) (copies_past (14 ∷ []) (copies_ended (10 ∷ []) (copies_tok (35 ∷ [])))))))))))))

-- Terminators.

label : Copies LabelPart Equal
unfolding to_label label_number
label = copies_text to_label (λ l. refl) (32 ∷ [])

edge : Copies Edge Equal
unfolding no_label edge_label label_number
edge = copies_past (170 ∷ []) (copies_either (copies_text no_label (λ l. refl) (171 ∷ 164 ∷ [])) (copies_either (copies_made no_label (λ a b h. refl) (copies_past (172 ∷ []) (copies_past (1 ∷ []) (copies_ended (2 ∷ []) (copies_tok any_word)))))
    (copies_either (copies_made edge_label (λ a b h. ap (λ x. edge_label (lex x)) h.1) (copies_past (11 ∷ []) (copies_tok (32 ∷ [])))) (copies_text edge_label (λ l. refl) (32 ∷ [])))))

bracketed : (set : List ℕ) → Copies (Bracketed set) Equal
bracketed set = copies_equal with_edge (copies_past (3 ∷ []) (copies_past set (copies_past (11 ∷ []) (copies_both label (copies_ended (4 ∷ []) (copies_either (copies_past (9 ∷ []) edge) (copies_nothing none_passed refl)))))))

next : (set : List ℕ) → Copies (NextBlock set) Equal
next set = copies_either label (bracketed set)

target : Copies TargetPart Equal
target = copies_either (copies_equal bare_target label) (copies_either (copies_equal block_target (bracketed returns)) (copies_equal edge_target edge))

arrow : {A : Type 0} {R : Part Lexeme A} → Copies R Equal → Copies (Arrow R) Equal
arrow c = copies_past (20 ∷ []) (copies_ended (10 ∷ []) c)

arm : Copies ArmPart Equal
unfolding to_arm number_value
arm = copies_lexeme to_arm (λ v. refl) (35 ∷ []) (copies_past (11 ∷ []) (copies_ended (9 ∷ []) label))

abbrev AssertParts : Type 0
AssertParts = Bool × (Limited Operand × (Lexeme × (List (Limited Operand) × Label)))

abbrev SameAssert : AssertParts → AssertParts → Type 0
SameAssert = SamePair SameBool (SamePair Equal (SamePair SameLexeme Equal))

assert_same : (a b : AssertParts) → SameAssert a b → to_assert a ≡ to_assert b
unfolding to_assert text_body
assert_same a b h = ap (λ x. to_assert (x, a.1)) h.0 ∙ ap (λ x. to_assert (b.0, (x, a.1.1))) h.1.0 ∙ ap (λ x. to_assert (b.0, (b.1.0, (lex x, a.1.1.1)))) h.1.1.0.1 ∙ ap (λ x. to_assert (b.0, (b.1.0, (b.1.1.0, x)))) h.1.1.1

abbrev SameCall : Placed × Called → Placed × Called → Type 0
SameCall = SamePair Equal (SamePair SameNamed Equal)

call_same : (a b : Placed × Called) → SameCall a b → to_call a ≡ to_call b
unfolding to_call
call_same a b h = ap (λ x. to_call (x, a.1)) h.0 ∙ ap (λ (n : Named). to_call (b.0, (n, a.1.1))) h.1.0 ∙ ap (λ x. to_call (b.0, (b.1.0, x))) h.1.1

pub terminator : {T : Family} {P : Part Lexeme Placed} → CopiesAll T → Copies P Equal → Copies (TerminatorOf T P) Equal
unfolding to_return to_unreachable
terminator t p = copies_either (copies_made to_call call_same (copies_then p (copies_past (14 ∷ []) (copies_then (value_path t) (copies_both (operands t p) (arrow target))))))
    (copies_either (copies_equal to_goto (copies_past (162 ∷ []) (arrow label))) (copies_either (copies_made to_return (λ a b h. refl) (copies_past (163 ∷ []) (copies_tok (10 ∷ [])))) (copies_either (copies_made to_unreachable (λ a b h. refl) (copies_past (164 ∷ []) (copies_tok (10 ∷ []))))
    (copies_either (copies_equal to_switch (copies_past (165 ∷ []) (copies_past (1 ∷ []) (copies_both (operand t p) (copies_past (2 ∷ []) (arrow (copies_past (3 ∷ []) (copies_both (copies_all arm) (copies_past (166 ∷ []) (copies_past (11 ∷ []) (copies_ended (4 ∷ []) label)))))))))))
    (copies_either (copies_equal to_drop (copies_past (167 ∷ []) (copies_past (1 ∷ []) (copies_both p (copies_past (2 ∷ []) (arrow (next returns)))))))
    (copies_made to_assert assert_same (copies_past (168 ∷ []) (copies_past (1 ∷ []) (copies_then (copies_perhaps_token (17 ∷ [])) (copies_then (operand t p) (copies_past (9 ∷ []) (copies_then (copies_tok (40 ∷ []))
    (copies_both (copies_all (copies_past (9 ∷ []) (operand t p))) (copies_past (2 ∷ []) (arrow (next (169 ∷ [])))))))))))))))))

pub resumed : Copies Resumed Equal
unfolding to_resume
resumed = copies_either (copies_made to_resume (λ a b h. refl) (copies_past (173 ∷ []) (copies_tok (10 ∷ [])))) (copies_made to_resume (λ a b h. refl) (copies_past (172 ∷ []) (copies_past (1 ∷ []) (copies_ended (10 ∷ []) (copies_ended (2 ∷ []) (copies_tok any_word))))))
