-- Statements and terminators are ready.
use Rattle.std.proofs.Common.{◌≡◌, ℕ, Bool, true, false, List, [], ◌∷◌, ◌++◌, codes, Some, None, refl}
use Rattle.grammar_words.specs.Grammar.{Part, Then, More, Last}
use Rattle.grammar_words.specs.Reading.{Reader}
use Rattle.grammar_words.specs.Classes.{Tok, tok, Past}
use Rattle.grammar_words.proofs.Laws.{any}
use Rattle.grammar_words.proofs.Ready.{Ready, token_shape, tok-ready, made-ready, wider-ready}
use Rattle.grammar_words.proofs.ReadyJoin.{then-ready, either-ready, left_short}
use Rattle.grammar_words.proofs.ReadyMany.{many-ready}
use Rattle.grammar_words.proofs.ReadyWords.{past-ready, ended-ready, perhaps-ready}
use Rattle.grammar_words.proofs.Trailing.{past_opens}
use Rattle.grammar_words.proofs.Fork.{Moves, Seen, moves-made, moves-joined, fork-ready}
use Rattle.grammar_words.proofs.Seen.{seen-alone, seen-made, seen-either, seen-then, behind_any, fits_behind}
use Rattle.mir_grammar.specs.Lexemes.{Lexeme, class_of, sign, word}
use Rattle.mir_grammar.specs.Types.{Family, Readers, any_word, colons}
use Rattle.mir_grammar.specs.Places.{Placed, place_firsts}
use Rattle.mir_grammar.specs.Values.{Value, to_copy, to_move, to_const, Marked, OperandOf, to_used, to_binary, binaries, to_unary, to_measured, to_sized, FormedValue, value_words, formed_value_at, formed_value_firsts, value_path_at}
use Rattle.mir_grammar.proofs.Samples.{name}
use Rattle.mir_grammar.proofs.TypeReady.{near, AllReady}
use Rattle.mir_grammar.proofs.PlaceReady.{flat, number-ready}
use Rattle.mir_grammar.specs.Places.{locals, none_passed}
use Rattle.mir_grammar.proofs.ValueReady.{PlaceKit, constant_ready, operand_ready, operands_ready, reference_ready, array_of_ready, tuple_of_ready, value_path_ready, value_path_moves, value_path_seen}
use Rattle.mir_grammar.specs.Blocks.{to_label, LabelPart, no_label, edge_label, Edge, with_edge, Bracketed, NextBlock, bare_target, block_target, edge_target, returns, TargetPart, to_live, to_dead, to_variant, to_nothing, to_mention, LocalLine, MentionPart, VariantPart, WordStatement, to_goto, to_return, to_unreachable, to_arm, to_switch, to_drop, to_assert, ArmPart, SwitchArms, Assert, SwitchPart, DropPart, WordTerminator, to_resume, Resumed, unit_tail, operand_tail, to_path_line, to_assign_line, CallEnd, PathRest, FormedLine, PathLine, ValueLine, LinePart, CleanupLine, label_at, edge_at, bracketed_at, next_at, target_at, local_line_at, mention_at, variant_at, word_statement_at, arm_at, switch_arms_at, assert_at, switch_at, drop_at, word_terminator_at, resumed_at, call_end_at, path_rest_at, formed_line_at, path_line_at, value_line_at, statement_words, terminator_words, line_at, cleanup_line_at, FieldTail}
use Rattle.mir_grammar.proofs.ValueFork.{formed_value_ready, formed_moves}
use Rattle.mir_grammar.proofs.ValueReady.{fields_ready, text}

abbrev pub label : Lexeme
label = word (codes "bb0")

abbrev pub local : Lexeme
local = word (codes "_1")

pub label_ready : (m : ℕ) (x : List Lexeme) → Ready class_of m (flat (32 ∷ [])) x LabelPart LabelPart (λ y. LabelPart) label_at label_at
unfolding class_of
label_ready m x = (made-ready to_label (tok-ready class_of m (32 ∷ []) label refl x))

pub edge_ready : (m : ℕ) (x : List Lexeme) → Ready class_of m (flat (170 ∷ [])) x Edge Edge (λ y. Edge) edge_at edge_at
unfolding class_of
edge_ready m x = wider-ready _ (past-ready (170 ∷ []) (word (codes "unwind")) refl (either-ready (171 ∷ 164 ∷ []) (made-ready no_label (tok-ready class_of m (171 ∷ 164 ∷ []) (word (codes "continue")) refl x)) (either-ready (172 ∷ []) (made-ready no_label (past-ready (172 ∷ []) (word (codes "terminate")) refl (past-ready (1 ∷ []) (sign (codes "(")) refl (ended-ready (2 ∷ []) (sign (codes ")")) refl (tok-ready class_of m any_word name refl x) refl) refl) refl)) (either-ready (11 ∷ []) (made-ready edge_label (past-ready (11 ∷ []) (sign (codes ":")) refl (tok-ready class_of m (32 ∷ []) label refl x) refl)) (made-ready edge_label (tok-ready class_of m (32 ∷ []) label refl x)) refl) refl) refl) refl) refl

pub returns_ready : (m : ℕ) (x : List Lexeme) → Ready class_of m (flat (3 ∷ [])) x (Bracketed returns) (Bracketed returns) (λ y. (Bracketed returns)) (bracketed_at returns) (bracketed_at returns)
unfolding class_of
returns_ready m x = wider-ready _ (made-ready with_edge (past-ready (3 ∷ []) (sign (codes "[")) refl (past-ready (163 ∷ []) (word (codes "return")) refl (past-ready (11 ∷ []) (sign (codes ":")) refl (then-ready (label_ready m x) (ended-ready (4 ∷ []) (sign (codes "]")) refl (perhaps-ready (9 ∷ []) none_passed (past-ready (9 ∷ []) (sign (codes ",")) refl (edge_ready m x) refl) refl) refl) refl) refl) refl) refl)) refl

pub success_ready : (m : ℕ) (x : List Lexeme) → Ready class_of m (flat (3 ∷ [])) x (Bracketed (169 ∷ [])) (Bracketed (169 ∷ [])) (λ y. (Bracketed (169 ∷ []))) (bracketed_at (169 ∷ [])) (bracketed_at (169 ∷ []))
unfolding class_of
success_ready m x = wider-ready _ (made-ready with_edge (past-ready (3 ∷ []) (sign (codes "[")) refl (past-ready (169 ∷ []) (word (codes "success")) refl (past-ready (11 ∷ []) (sign (codes ":")) refl (then-ready (label_ready m x) (ended-ready (4 ∷ []) (sign (codes "]")) refl (perhaps-ready (9 ∷ []) none_passed (past-ready (9 ∷ []) (sign (codes ",")) refl (edge_ready m x) refl) refl) refl) refl) refl) refl) refl)) refl

pub next_returns_ready : (m : ℕ) (x : List Lexeme) → Ready class_of m (flat (32 ∷ 3 ∷ [])) x (NextBlock returns) (NextBlock returns) (λ y. (NextBlock returns)) (next_at returns) (next_at returns)
unfolding class_of
next_returns_ready m x = wider-ready _ (either-ready (32 ∷ []) (label_ready m x) (returns_ready m x) refl) refl

pub next_success_ready : (m : ℕ) (x : List Lexeme) → Ready class_of m (flat (32 ∷ 3 ∷ [])) x (NextBlock (169 ∷ [])) (NextBlock (169 ∷ [])) (λ y. (NextBlock (169 ∷ []))) (next_at (169 ∷ [])) (next_at (169 ∷ []))
unfolding class_of
next_success_ready m x = wider-ready _ (either-ready (32 ∷ []) (label_ready m x) (success_ready m x) refl) refl

pub target_ready : (m : ℕ) (x : List Lexeme) → Ready class_of m (flat (32 ∷ 3 ∷ 170 ∷ [])) x TargetPart TargetPart (λ y. TargetPart) target_at target_at
unfolding class_of
target_ready m x = wider-ready _ (either-ready (32 ∷ []) (made-ready bare_target (label_ready m x)) (either-ready (3 ∷ []) (made-ready block_target (returns_ready m x)) (made-ready edge_target (edge_ready m x)) refl) refl) refl

pub local_line_ready : (m : ℕ) (x : List Lexeme) → Ready class_of m (flat (1 ∷ [])) x LocalLine LocalLine (λ y. LocalLine) local_line_at local_line_at
unfolding class_of
local_line_ready m x = wider-ready _ (past-ready (1 ∷ []) (sign (codes "(")) refl (ended-ready (10 ∷ []) (sign (codes ";")) refl (ended-ready (2 ∷ []) (sign (codes ")")) refl (tok-ready class_of m locals local refl x) refl) refl) refl) refl

pub mention_ready : {m : ℕ} {x : List Lexeme} {T U : Family} {S : List Lexeme → Family} {t u : Readers} {R W : Part Lexeme Placed} {H : List Lexeme → Part Lexeme Placed} {p w : Reader Lexeme Placed} → AllReady m x T U S t u → PlaceKit m x R W H p w
    → Ready class_of m (near [] (161 ∷ [])) x (MentionPart R) (MentionPart W) (λ y. MentionPart (H y)) (mention_at p) (mention_at w)
unfolding class_of
mention_ready {m} {x} i r = wider-ready _ (made-ready to_mention (past-ready (161 ∷ []) (word (codes "PlaceMention")) refl (past-ready (1 ∷ []) (sign (codes "(")) refl (ended-ready (10 ∷ []) (sign (codes ";")) refl (ended-ready (2 ∷ []) (sign (codes ")")) refl r.ready refl) refl) refl) refl)) refl

pub variant_ready : {m : ℕ} {x : List Lexeme} {T U : Family} {S : List Lexeme → Family} {t u : Readers} {R W : Part Lexeme Placed} {H : List Lexeme → Part Lexeme Placed} {p w : Reader Lexeme Placed} → AllReady m x T U S t u → PlaceKit m x R W H p w
    → Ready class_of m (near [] (147 ∷ [])) x (VariantPart R) (VariantPart W) (λ y. VariantPart (H y)) (variant_at p) (variant_at w)
unfolding class_of
variant_ready {m} {x} i r = wider-ready _ (made-ready to_variant (past-ready (147 ∷ []) (word (codes "discriminant")) refl (past-ready (1 ∷ []) (sign (codes "(")) refl (then-ready r.ready (past-ready (2 ∷ []) (sign (codes ")")) refl (past-ready (14 ∷ []) (sign (codes "=")) refl (ended-ready (10 ∷ []) (sign (codes ";")) refl (number-ready m x) refl) refl) refl) refl) refl) refl)) refl

pub word_statement_ready : {m : ℕ} {x : List Lexeme} {T U : Family} {S : List Lexeme → Family} {t u : Readers} {R W : Part Lexeme Placed} {H : List Lexeme → Part Lexeme Placed} {p w : Reader Lexeme Placed} → AllReady m x T U S t u → PlaceKit m x R W H p w
    → Ready class_of m (near [] statement_words) x (WordStatement R) (WordStatement W) (λ y. WordStatement (H y)) (word_statement_at p) (word_statement_at w)
unfolding class_of
word_statement_ready {m} {x} i r = wider-ready _ (either-ready (157 ∷ []) (made-ready to_live (past-ready (157 ∷ []) (word (codes "StorageLive")) refl (local_line_ready m x) refl)) (either-ready (158 ∷ []) (made-ready to_dead (past-ready (158 ∷ []) (word (codes "StorageDead")) refl (local_line_ready m x) refl)) (either-ready (159 ∷ 160 ∷ []) (made-ready to_nothing (past-ready (159 ∷ 160 ∷ []) (word (codes "nop")) refl (tok-ready class_of m (10 ∷ []) (sign (codes ";")) refl x) refl)) (either-ready (161 ∷ []) (mention_ready i r) (variant_ready i r) refl) refl) refl) refl) refl

pub arm_ready : (m : ℕ) (x : List Lexeme) → Ready class_of m (flat (35 ∷ [])) x ArmPart ArmPart (λ y. ArmPart) arm_at arm_at
unfolding class_of
arm_ready m x = wider-ready _ (made-ready to_arm (then-ready (number-ready m x) (past-ready (11 ∷ []) (sign (codes ":")) refl (ended-ready (9 ∷ []) (sign (codes ",")) refl (label_ready m x) refl) refl) refl)) refl

pub switch_arms_ready : (m : ℕ) (x : List Lexeme) → Ready class_of m (flat (3 ∷ [])) x SwitchArms SwitchArms (λ y. SwitchArms) (switch_arms_at m) (switch_arms_at m)
unfolding class_of
switch_arms_ready m x = wider-ready _ (past-ready (3 ∷ []) (sign (codes "[")) refl (then-ready (many-ready (35 ∷ []) (arm_ready m x) refl) (past-ready (166 ∷ []) (word (codes "otherwise")) refl (past-ready (11 ∷ []) (sign (codes ":")) refl (ended-ready (4 ∷ []) (sign (codes "]")) refl (label_ready m x) refl) refl) refl) refl) refl) refl

pub assert_ready : {m : ℕ} {x : List Lexeme} {T U : Family} {S : List Lexeme → Family} {t u : Readers} {R W : Part Lexeme Placed} {H : List Lexeme → Part Lexeme Placed} {p w : Reader Lexeme Placed} → AllReady m x T U S t u → PlaceKit m x R W H p w
    → Ready class_of m (near [] (168 ∷ [])) x (Assert T R) (Assert U W) (λ y. Assert (S y) (H y)) (assert_at m t p) (assert_at m u w)
unfolding class_of
assert_ready {m} {x} i r = wider-ready _ (made-ready to_assert (past-ready (168 ∷ []) (word (codes "assert")) refl (past-ready (1 ∷ []) (sign (codes "(")) refl (then-ready (perhaps-ready (17 ∷ []) false (made-ready (λ a. true) (tok-ready class_of m (17 ∷ []) (sign (codes "!")) refl x)) refl) (then-ready (operand_ready i r) (past-ready (9 ∷ []) (sign (codes ",")) refl (then-ready (tok-ready class_of m (40 ∷ []) text refl x) (then-ready (many-ready (9 ∷ []) (past-ready (9 ∷ []) (sign (codes ",")) refl (operand_ready i r) refl) refl) (past-ready (2 ∷ []) (sign (codes ")")) refl (past-ready (20 ∷ []) (sign (codes "->")) refl (ended-ready (10 ∷ []) (sign (codes ";")) refl (next_success_ready m x) refl) refl) refl) refl) refl) refl) refl) refl) refl) refl)) refl

pub switch_ready : {m : ℕ} {x : List Lexeme} {T U : Family} {S : List Lexeme → Family} {t u : Readers} {R W : Part Lexeme Placed} {H : List Lexeme → Part Lexeme Placed} {p w : Reader Lexeme Placed} → AllReady m x T U S t u → PlaceKit m x R W H p w
    → Ready class_of m (near [] (165 ∷ [])) x (SwitchPart T R) (SwitchPart U W) (λ y. SwitchPart (S y) (H y)) (switch_at m t p) (switch_at m u w)
unfolding class_of
switch_ready {m} {x} i r = wider-ready _ (made-ready to_switch (past-ready (165 ∷ []) (word (codes "switchInt")) refl (past-ready (1 ∷ []) (sign (codes "(")) refl (then-ready (operand_ready i r) (past-ready (2 ∷ []) (sign (codes ")")) refl (past-ready (20 ∷ []) (sign (codes "->")) refl (ended-ready (10 ∷ []) (sign (codes ";")) refl (switch_arms_ready m x) refl) refl) refl) refl) refl) refl)) refl

pub drop_ready : {m : ℕ} {x : List Lexeme} {T U : Family} {S : List Lexeme → Family} {t u : Readers} {R W : Part Lexeme Placed} {H : List Lexeme → Part Lexeme Placed} {p w : Reader Lexeme Placed} → AllReady m x T U S t u → PlaceKit m x R W H p w
    → Ready class_of m (near [] (167 ∷ [])) x (DropPart R) (DropPart W) (λ y. DropPart (H y)) (drop_at p) (drop_at w)
unfolding class_of
drop_ready {m} {x} i r = wider-ready _ (made-ready to_drop (past-ready (167 ∷ []) (word (codes "drop")) refl (past-ready (1 ∷ []) (sign (codes "(")) refl (then-ready r.ready (past-ready (2 ∷ []) (sign (codes ")")) refl (past-ready (20 ∷ []) (sign (codes "->")) refl (ended-ready (10 ∷ []) (sign (codes ";")) refl (next_returns_ready m x) refl) refl) refl) refl) refl) refl)) refl

pub word_terminator_ready : {m : ℕ} {x : List Lexeme} {T U : Family} {S : List Lexeme → Family} {t u : Readers} {R W : Part Lexeme Placed} {H : List Lexeme → Part Lexeme Placed} {p w : Reader Lexeme Placed} → AllReady m x T U S t u → PlaceKit m x R W H p w
    → Ready class_of m (near [] terminator_words) x (WordTerminator T R) (WordTerminator U W) (λ y. WordTerminator (S y) (H y)) (word_terminator_at m t p) (word_terminator_at m u w)
unfolding class_of
word_terminator_ready {m} {x} i r = wider-ready _ (either-ready (162 ∷ []) (made-ready to_goto (past-ready (162 ∷ []) (word (codes "goto")) refl (past-ready (20 ∷ []) (sign (codes "->")) refl (ended-ready (10 ∷ []) (sign (codes ";")) refl (label_ready m x) refl) refl) refl)) (either-ready (163 ∷ []) (made-ready to_return (past-ready (163 ∷ []) (word (codes "return")) refl (tok-ready class_of m (10 ∷ []) (sign (codes ";")) refl x) refl)) (either-ready (164 ∷ []) (made-ready to_unreachable (past-ready (164 ∷ []) (word (codes "unreachable")) refl (tok-ready class_of m (10 ∷ []) (sign (codes ";")) refl x) refl)) (either-ready (165 ∷ []) (switch_ready i r) (either-ready (167 ∷ []) (drop_ready i r) (assert_ready i r) refl) refl) refl) refl) refl) refl

pub resumed_ready : (m : ℕ) (x : List Lexeme) → Ready class_of m (flat (173 ∷ 172 ∷ [])) x Resumed Resumed (λ y. Resumed) resumed_at resumed_at
unfolding class_of
resumed_ready m x = wider-ready _ (either-ready (173 ∷ []) (made-ready to_resume (past-ready (173 ∷ []) (word (codes "resume")) refl (tok-ready class_of m (10 ∷ []) (sign (codes ";")) refl x) refl)) (made-ready to_resume (past-ready (172 ∷ []) (word (codes "terminate")) refl (past-ready (1 ∷ []) (sign (codes "(")) refl (ended-ready (10 ∷ []) (sign (codes ";")) refl (ended-ready (2 ∷ []) (sign (codes ")")) refl (tok-ready class_of m any_word name refl x) refl) refl) refl) refl)) refl) refl

pub call_end_ready : (m : ℕ) (x : List Lexeme) → Ready class_of m (flat (10 ∷ 20 ∷ [])) x CallEnd CallEnd (λ y. CallEnd) call_end_at call_end_at
unfolding class_of
call_end_ready m x = wider-ready _ (either-ready (10 ∷ []) (made-ready (λ a. None) (tok-ready class_of m (10 ∷ []) (sign (codes ";")) refl x)) (made-ready Some (past-ready (20 ∷ []) (sign (codes "->")) refl (ended-ready (10 ∷ []) (sign (codes ";")) refl (target_ready m x) refl) refl)) refl) refl

pub path_rest_ready : {m : ℕ} {x : List Lexeme} {T U : Family} {S : List Lexeme → Family} {t u : Readers} {R W : Part Lexeme Placed} {H : List Lexeme → Part Lexeme Placed} {p w : Reader Lexeme Placed} → AllReady m x T U S t u → PlaceKit m x R W H p w
    → Ready class_of m (near [] (10 ∷ 5 ∷ 1 ∷ [])) x (PathRest T R) (PathRest U W) (λ y. PathRest (S y) (H y)) (path_rest_at m t p) (path_rest_at m u w)
unfolding class_of
path_rest_ready {m} {x} i r = wider-ready _ (either-ready (10 ∷ []) (made-ready unit_tail (tok-ready class_of m (10 ∷ []) (sign (codes ";")) refl x)) (either-ready (5 ∷ []) (made-ready FieldTail (ended-ready (10 ∷ []) (sign (codes ";")) refl (fields_ready i r) refl)) (made-ready operand_tail (then-ready (operands_ready i r) (call_end_ready m x) refl)) refl) refl) refl

pub formed_line_ready : {m : ℕ} {x : List Lexeme} {T U : Family} {S : List Lexeme → Family} {t u : Readers} {R W : Part Lexeme Placed} {H : List Lexeme → Part Lexeme Placed} {p w : Reader Lexeme Placed} → AllReady m x T U S t u → PlaceKit m x R W H p w
    → Ready class_of m (near [] formed_value_firsts) x (FormedLine T R) (FormedLine U W) (λ y. FormedLine (S y) (H y)) (formed_line_at m t p) (formed_line_at m u w)
unfolding class_of
formed_line_ready {m} {x} i r = wider-ready _ (made-ready More (ended-ready (10 ∷ []) (sign (codes ";")) refl (formed_value_ready i r) refl)) refl

pub path_line_ready : {m : ℕ} {x : List Lexeme} {T U : Family} {S : List Lexeme → Family} {t u : Readers} {R W : Part Lexeme Placed} {H : List Lexeme → Part Lexeme Placed} {p w : Reader Lexeme Placed} → AllReady m x T U S t u → PlaceKit m x R W H p w
    → Ready class_of m (near [] (43 ∷ 7 ∷ any_word)) x (PathLine T R) (PathLine U W) (λ y. PathLine (S y) (H y)) (path_line_at m t p) (path_line_at m u w)
unfolding class_of
path_line_ready {m} {x} i r = wider-ready _ (made-ready to_path_line (then-ready (value_path_ready i) (path_rest_ready i r) refl)) refl

path_line_moves : {m : ℕ} {x : List Lexeme} {T U : Family} {S : List Lexeme → Family} {t u : Readers} {R W : Part Lexeme Placed} {H : List Lexeme → Part Lexeme Placed} {p w : Reader Lexeme Placed} → AllReady m x T U S t u → PlaceKit m x R W H p w → Moves class_of value_words (path_line_at m t p)
path_line_moves {m} {x} {T} {U} {S} {t} {u} {R} {W} {H} {p} {w} i r = moves-made class_of value_words to_path_line _ (moves-joined class_of value_words (value_path_at m t) (path_rest_at m t p) (value_path_moves i) (left_short (path_rest_ready i r).laws))

formed_line_moves : {m : ℕ} {x : List Lexeme} {T U : Family} {S : List Lexeme → Family} {t u : Readers} {R W : Part Lexeme Placed} {H : List Lexeme → Part Lexeme Placed} {p w : Reader Lexeme Placed} → AllReady m x T U S t u → PlaceKit m x R W H p w → Moves class_of value_words (formed_line_at m t p)
unfolding class_of
formed_line_moves {m} {x} {T} {U} {S} {t} {u} {R} {W} {H} {p} {w} i r = moves-made class_of value_words More _ (moves-made class_of value_words (λ v. v.0) _ (moves-joined class_of value_words (formed_value_at m t p) (tok class_of (10 ∷ [])) (formed_moves i r) (left_short (tok-ready class_of m (10 ∷ []) (sign (codes ";")) refl x).laws)))

-- what two tokens tell of a value

abbrev Sees : Bool → Part Lexeme Value → Type 0
Sees v R = Seen class_of formed_value_firsts value_words colons any v R

marked_sees : {m : ℕ} {x : List Lexeme} {T U : Family} {S : List Lexeme → Family} {t u : Readers} {R W : Part Lexeme Placed} {H : List Lexeme → Part Lexeme Placed} {p w : Reader Lexeme Placed} → AllReady m x T U S t u → PlaceKit m x R W H p w → (y : List Lexeme) → Seen class_of formed_value_firsts value_words colons any true (Marked (S y) (H y))
marked_sees i r y = seen-either (seen-made to_copy (seen-made (λ v. v.1) (behind_any (near (3 ∷ []) place_firsts) formed_value_firsts value_words colons (120 ∷ []) (r.ready.opens_holed y) refl)))
    (seen-either (seen-made to_move (seen-made (λ v. v.1) (behind_any (near (3 ∷ []) place_firsts) formed_value_firsts value_words colons (121 ∷ []) (r.ready.opens_holed y) refl)))
    (seen-made to_const (seen-made (λ v. v.1) (behind_any (near (12 ∷ 7 ∷ []) (43 ∷ 7 ∷ 36 ∷ 37 ∷ 19 ∷ 41 ∷ 40 ∷ 1 ∷ any_word)) formed_value_firsts value_words colons (116 ∷ []) ((constant_ready i).opens_holed y) refl))))

operand_sees : {m : ℕ} {x : List Lexeme} {T U : Family} {S : List Lexeme → Family} {t u : Readers} {R W : Part Lexeme Placed} {H : List Lexeme → Part Lexeme Placed} {p w : Reader Lexeme Placed} → AllReady m x T U S t u → PlaceKit m x R W H p w → (y : List Lexeme) → Seen class_of formed_value_firsts value_words colons any true (OperandOf (S y) (H y))
operand_sees i r y = seen-either (seen-made to_copy (seen-alone (near (3 ∷ []) place_firsts) formed_value_firsts value_words colons (r.ready.opens_holed y) refl)) (marked_sees i r y)

word_sees : {A : Type 0} (set : List ℕ) (R : Part Lexeme A) → fits_behind [] formed_value_firsts colons set (token_shape (1 ∷ [])) ≡ true → Seen class_of formed_value_firsts value_words colons any true (Then (Tok class_of set) (Past class_of (1 ∷ []) R))
word_sees set R e = behind_any (token_shape (1 ∷ [])) formed_value_firsts value_words colons set (past_opens class_of (1 ∷ []) R) e

formed_sees : {m : ℕ} {x : List Lexeme} {T U : Family} {S : List Lexeme → Family} {t u : Readers} {R W : Part Lexeme Placed} {H : List Lexeme → Part Lexeme Placed} {p w : Reader Lexeme Placed} → AllReady m x T U S t u → PlaceKit m x R W H p w → (y : List Lexeme) → Seen class_of formed_value_firsts value_words colons any true (FormedValue (S y) (H y))
formed_sees i r y =
    seen-either (seen-either (seen-made to_used (seen-then _ (operand_sees i r y))) (seen-alone (near [] (1 ∷ [])) formed_value_firsts value_words colons ((tuple_of_ready i r).opens_holed y) refl))
    (seen-either (seen-either (seen-made to_binary (word_sees binaries _ refl)) (seen-either (seen-made to_unary (word_sees (144 ∷ 145 ∷ 146 ∷ []) _ refl))
    (seen-either (seen-made to_measured (word_sees (147 ∷ 148 ∷ []) _ refl)) (seen-made to_sized (word_sees (149 ∷ 150 ∷ []) _ refl)))))
    (seen-either (seen-alone (near (3 ∷ []) (15 ∷ [])) formed_value_firsts value_words colons ((reference_ready i r).opens_holed y) refl) (seen-alone (near [] (3 ∷ [])) formed_value_firsts value_words colons ((array_of_ready i r).opens_holed y) refl)))

path_sees : {m : ℕ} {x : List Lexeme} {T U : Family} {S : List Lexeme → Family} {t u : Readers} {R W : Part Lexeme Placed} {H : List Lexeme → Part Lexeme Placed} {p w : Reader Lexeme Placed} → AllReady m x T U S t u → PlaceKit m x R W H p w → (z : Lexeme → Bool) (y : List Lexeme) → Seen class_of formed_value_firsts value_words colons z false (PathLine (S y) (H y))
path_sees {m} {x} {T} {U} {S} {t} {u} {R} {W} {H} {p} {w} i r z y = seen-made to_path_line (seen-then (PathRest (S y) (H y)) (value_path_seen i formed_value_firsts any refl y))

line_sees : {m : ℕ} {x : List Lexeme} {T U : Family} {S : List Lexeme → Family} {t u : Readers} {R W : Part Lexeme Placed} {H : List Lexeme → Part Lexeme Placed} {p w : Reader Lexeme Placed} → AllReady m x T U S t u → PlaceKit m x R W H p w → (z : Lexeme → Bool) (y : List Lexeme) → Seen class_of formed_value_firsts value_words colons z true (FormedLine (S y) (H y))
line_sees {m} {x} {T} {U} {S} {t} {u} {R} {W} {H} {p} {w} i r z y = seen-made More (seen-made (λ v. v.0) (seen-then (Tok class_of (10 ∷ [])) (formed_sees i r y)))

pub value_line_ready : {m : ℕ} {x : List Lexeme} {T U : Family} {S : List Lexeme → Family} {t u : Readers} {R W : Part Lexeme Placed} {H : List Lexeme → Part Lexeme Placed} {p w : Reader Lexeme Placed} → AllReady m x T U S t u → PlaceKit m x R W H p w
    → Ready class_of m (near [] (15 ∷ 3 ∷ 30 ∷ 31 ∷ 1 ∷ 43 ∷ 7 ∷ any_word)) x (ValueLine T R) (ValueLine U W) (λ y. ValueLine (S y) (H y)) (value_line_at m t p) (value_line_at m u w)
unfolding value_line_at
value_line_ready {m} {x} i r = wider-ready _ (fork-ready formed_value_firsts value_words colons (formed_line_ready i r) (path_line_ready i r) refl (formed_line_moves i r) (path_line_moves i r)
    (line_sees i r _) (path_sees i r _)) refl

pub line_ready : {m : ℕ} {x : List Lexeme} {T U : Family} {S : List Lexeme → Family} {t u : Readers} {R W : Part Lexeme Placed} {H : List Lexeme → Part Lexeme Placed} {p w : Reader Lexeme Placed} → AllReady m x T U S t u → PlaceKit m x R W H p w
    → Ready class_of m (near [] (30 ∷ 31 ∷ 1 ∷ statement_words ++ terminator_words)) x (LinePart T R) (LinePart U W) (λ y. LinePart (S y) (H y)) (line_at m t p) (line_at m u w)
unfolding line_at class_of
line_ready {m} {x} i r = wider-ready _ (either-ready place_firsts (made-ready to_assign_line (then-ready r.ready (past-ready (14 ∷ []) (sign (codes "=")) refl (value_line_ready i r) refl) refl)) (either-ready statement_words (made-ready More (word_statement_ready i r)) (made-ready Last (word_terminator_ready i r)) refl) refl) refl

pub cleanup_line_ready : {m : ℕ} {x : List Lexeme} {T U : Family} {S : List Lexeme → Family} {t u : Readers} {R W : Part Lexeme Placed} {H : List Lexeme → Part Lexeme Placed} {p w : Reader Lexeme Placed} → AllReady m x T U S t u → PlaceKit m x R W H p w
    → Ready class_of m (near [] (173 ∷ 172 ∷ 30 ∷ 31 ∷ 1 ∷ statement_words ++ terminator_words)) x (CleanupLine T R) (CleanupLine U W) (λ y. CleanupLine (S y) (H y)) (cleanup_line_at m t p) (cleanup_line_at m u w)
unfolding cleanup_line_at
cleanup_line_ready {m} {x} i r = wider-ready _ (either-ready (173 ∷ 172 ∷ []) (made-ready Last (resumed_ready m x)) (line_ready i r) refl) refl
