-- The texts of terminators read again, where a label of a call without brackets stands for its next block or for an edge.
use Rattle.std.proofs.Common.{◌≡◌, inl, inr, ℕ, Bool, true, false, List, [], ◌∷◌, ◌++◌, codes, map, refl, ◌∙◌, ap, subst, arith, append_assoc, rules}
use Rattle.std.specs.Fmt.{decimal}
use Rattle.grammar_words.specs.Grammar.{Part, Made, Each}
use Rattle.grammar_words.proofs.Sets.{subset, apart}
use Rattle.grammar_words.specs.Classes.{has, inside, Tok, Past, Ended, Perhaps}
use Rattle.vk_core.specs.declared.ids.BlockId.{BlockId}
use Rattle.mir_ir.specs.declared.tree.Arm.{Arm}
use Rattle.mir_ir.specs.declared.tree.Operand.{Operand}
use Rattle.mir_ir.specs.declared.tree.Terminator.{Terminator}
use Rattle.mir_ir.specs.declared.tree.Terminator.TheVariants as terminator
use Rattle.mir_grammar.specs.declared.limits.Limited.{Limited}
use Rattle.mir_grammar.specs.declared.limits.Passed.{Passed}
use Rattle.mir_grammar.specs.declared.trees.Placed.{Placed}
use Rattle.mir_grammar.specs.Lexemes.{Lexeme, class_of, sign, word}
use Rattle.mir_grammar.specs.Types.{Family, any_word}
use Rattle.mir_grammar.specs.Places.{none_passed}
use Rattle.mir_grammar.specs.Values.{values_of}
use Rattle.mir_grammar.specs.Blocks.{to_block_id, Label, to_label, LabelPart, no_label, edge_label, Edge, with_edge, Bracketed, NextBlock, EndingAt, to_goto, to_return, to_unreachable, to_arm, to_switch, Arrow, ArmPart, SwitchPart}
use Rattle.canonical_text.specs.Places.{label_text}
use Rattle.canonical_text.specs.Operands.{operand_text}
use Rattle.canonical_text.specs.Lines.{arms_text, goto_text, switch_text, terminator_text}
use Rattle.raw_functions.specs.Meant.{terminator_of}
use Rattle.print_laws.specs.Printed.{ArePrintable}
use Rattle.print_laws.proofs.Leads.{all_leads, word_follow}
use Rattle.print_laws.proofs.Fits as fits
use Rattle.print_laws.proofs.Fits.{Fits, fits_join, fits_none, fits_wide, fits_text}
use Rattle.print_laws.proofs.Again.{past_token}
use Rattle.print_laws.proofs.TypeTexts.{Retold, opening_inside, closing_inside, bracket_inside, bracket_end_inside, semicolon_inside}
use Rattle.print_laws.proofs.TypeTold.{number_told}
use Rattle.print_laws.proofs.PlaceTold.{PlacesTold, comma_inside, colon_inside}
use Rattle.print_laws.proofs.Locals.{label_told}
use Rattle.print_laws.proofs.OperandTold.{operand_told}
use Rattle.print_laws.proofs.Told.{Telling, Told, told_made, told_then, told_past, told_ended, told_each, told_sign, Leaves, leaves_tok, leaves_made, leaves_then, leaves_either, leaves_nothing, leaves_past, leaves_ended, told_leaves}
use Rattle.print_laws.proofs.ToldAs.{ToldAs, as_told, as_made, as_value, as_wide, as_into, as_both, as_past, as_ended, as_added, as_with}

pub return_inside : inside class_of (163 ∷ []) (word (codes "return")) ≡ true
unfolding inside class_of
return_inside = refl

pub return_fits : Fits word_follow (1 ∷ []) (codes "return") (word (codes "return") ∷ [])
return_fits = fits.written_word (codes "return") refl (omega arith) refl

pub success_inside : inside class_of (169 ∷ []) (word (codes "success")) ≡ true
unfolding inside class_of
success_inside = refl

pub success_fits : Fits word_follow (1 ∷ []) (codes "success") (word (codes "success") ∷ [])
success_fits = fits.written_word (codes "success") refl (omega arith) refl

unwind_inside : inside class_of (170 ∷ []) (word (codes "unwind")) ≡ true
unfolding inside class_of
unwind_inside = refl

unwind_fits : Fits word_follow (1 ∷ []) (codes "unwind") (word (codes "unwind") ∷ [])
unwind_fits = fits.written_word (codes "unwind") refl (omega arith) refl

goto_inside : inside class_of (162 ∷ []) (word (codes "goto")) ≡ true
unfolding inside class_of
goto_inside = refl

goto_fits : Fits word_follow (1 ∷ []) (codes "goto") (word (codes "goto") ∷ [])
goto_fits = fits.written_word (codes "goto") refl (omega arith) refl

unreachable_inside : inside class_of (164 ∷ []) (word (codes "unreachable")) ≡ true
unfolding inside class_of
unreachable_inside = refl

unreachable_fits : Fits word_follow (1 ∷ []) (codes "unreachable") (word (codes "unreachable") ∷ [])
unreachable_fits = fits.written_word (codes "unreachable") refl (omega arith) refl

switch_inside : inside class_of (165 ∷ []) (word (codes "switchInt")) ≡ true
unfolding inside class_of
switch_inside = refl

switch_fits : Fits word_follow (1 ∷ []) (codes "switchInt") (word (codes "switchInt") ∷ [])
switch_fits = fits.written_word (codes "switchInt") refl (omega arith) refl

otherwise_inside : inside class_of (166 ∷ []) (word (codes "otherwise")) ≡ true
unfolding inside class_of
otherwise_inside = refl

otherwise_fits : Fits word_follow (1 ∷ []) (codes "otherwise") (word (codes "otherwise") ∷ [])
otherwise_fits = fits.written_word (codes "otherwise") refl (omega arith) refl

pub drop_inside : inside class_of (167 ∷ []) (word (codes "drop")) ≡ true
unfolding inside class_of
drop_inside = refl

pub drop_fits : Fits word_follow (1 ∷ []) (codes "drop") (word (codes "drop") ∷ [])
drop_fits = fits.written_word (codes "drop") refl (omega arith) refl

pub assert_inside : inside class_of (168 ∷ []) (word (codes "assert")) ≡ true
unfolding inside class_of
assert_inside = refl

pub assert_fits : Fits word_follow (1 ∷ []) (codes "assert") (word (codes "assert") ∷ [])
assert_fits = fits.written_word (codes "assert") refl (omega arith) refl

continue_inside : inside class_of (171 ∷ 164 ∷ []) (word (codes "continue")) ≡ true
unfolding inside class_of
continue_inside = refl

continue_fits : Fits word_follow (1 ∷ []) (codes "continue") (word (codes "continue") ∷ [])
continue_fits = fits.written_word (codes "continue") refl (omega arith) refl

arrow_inside : inside class_of (20 ∷ []) (sign (codes "->")) ≡ true
unfolding inside class_of
arrow_inside = refl

pub not_inside : inside class_of (17 ∷ []) (sign (codes "!")) ≡ true
unfolding inside class_of
not_inside = refl

arrow_fits : Fits all_leads (7 ∷ []) (codes " -> ") (sign (codes "->") ∷ [])
arrow_fits = fits_join fits.fits_space (fits.spaced fits.arrow refl) refl

-- Labels.

abbrev pub block_id_of : Label → BlockId
block_id_of l = l.value

abbrev pub id_text : BlockId → List ℕ
id_text b = label_text b.0

pub label_part : Told word_follow (1 ∷ []) LabelPart LabelPart block_id_of id_text
unfolding to_label
label_part = told_made to_label block_id_of to_block_id id_text (λ l. refl) (λ n. refl) label_told

-- Edges.

pub edge_leaves : Leaves Edge
edge_leaves = leaves_past (170 ∷ []) refl (leaves_either (leaves_made no_label (leaves_tok (171 ∷ 164 ∷ []) refl)) (leaves_either (leaves_made no_label (leaves_past (172 ∷ []) refl (leaves_past (1 ∷ []) refl (leaves_ended (2 ∷ []) refl (leaves_tok any_word refl)))))
    (leaves_either (leaves_made edge_label (leaves_past (11 ∷ []) refl (leaves_tok (32 ∷ []) refl))) (leaves_made edge_label (leaves_tok (32 ∷ []) refl)))))

edge_end_leaves : Leaves (Ended class_of (Perhaps none_passed (Past class_of (9 ∷ []) Edge)) (4 ∷ []))
edge_end_leaves = leaves_ended (4 ∷ []) refl (leaves_either (leaves_past (9 ∷ []) refl edge_leaves) (leaves_nothing none_passed))

abbrev pub no_edge : Passed
no_edge = no_label (word (codes "continue"))

abbrev of_edge : Passed → Bool
of_edge p = true

continue_reads : (k : List Lexeme) → Edge ((word (codes "unwind") ∷ word (codes "continue") ∷ []) ++ k) no_edge k
continue_reads k = ((word (codes "unwind"), no_edge), refl, (word (codes "continue") ∷ k, (unwind_inside, refl), inl (word (codes "continue"), refl, (continue_inside, refl))))

pub edge_telling : Telling word_follow (1 ∷ []) Edge of_edge (codes "unwind continue") true
edge_telling = record { lexemes = word (codes "unwind") ∷ word (codes "continue") ∷ []; value = no_edge; same = refl; reads = continue_reads; fits = fits_join (fits.spaced unwind_fits refl) continue_fits refl }

-- , unwind continue]
edge_end : Telling all_leads (7 ∷ []) (Ended class_of (Perhaps none_passed (Past class_of (9 ∷ []) Edge)) (4 ∷ [])) of_edge (codes ", unwind continue]") true
unfolding edge_telling
edge_end = record {
  lexemes = sign (codes ",") ∷ word (codes "unwind") ∷ word (codes "continue") ∷ sign (codes "]") ∷ [];
  value = no_edge;
  same = refl;
  reads = λ k. ((no_edge, sign (codes "]")), refl, (sign (codes "]") ∷ k, inl ((sign (codes ","), no_edge), refl, (word (codes "unwind") ∷ word (codes "continue") ∷ sign (codes "]") ∷ k, (comma_inside, refl), continue_reads (sign (codes "]") ∷ k))), (bracket_end_inside, refl)));
  fits = fits_join (fits.spaced fits.comma refl) (fits_join edge_telling.fits fits.bracket_end refl) refl;
}

-- The next block.

abbrev pub bracket_text : List ℕ → BlockId → List ℕ
bracket_text w b = codes "[" ++ (w ++ (codes ": " ++ (id_text b ++ codes ", unwind continue]")))

pub in_brackets : {A : Type 0} {R : Part Lexeme A} {m : A → BlockId} (set w : List ℕ) → inside class_of set (word w) ≡ true → Fits word_follow (1 ∷ []) w (word w ∷ []) → ToldAs word_follow (1 ∷ []) R LabelPart m block_id_of id_text
    → ToldAs all_leads (7 ∷ []) R (Bracketed set) m block_id_of (bracket_text w)
unfolding with_edge
in_brackets set w i f c = as_value with_edge block_id_of (λ v. refl) (as_added (3 ∷ []) (sign (codes "[")) bracket_inside fits.bracket (as_added set (word w) i f
    (as_added (11 ∷ []) (sign (codes ":")) colon_inside (fits.spaced fits.colon refl) (as_with c edge_end refl) refl) refl) refl)

pub bracketed_label : (set : List ℕ) → apart set (12 ∷ []) ≡ true → ToldAs word_follow (1 ∷ []) (Bracketed set) LabelPart block_id_of block_id_of id_text
unfolding with_edge inside
bracketed_label set n = record {
  tell = λ ts rest l h r. let b = h.2 in let w = b.2.2 in let c = w.2.2 in
      subst (λ x. Telling word_follow (1 ∷ []) LabelPart block_id_of (id_text (block_id_of x)) (block_id_of x)) (ap (λ x. record { value = x; passed = l.passed }) (ap (λ (x : Label × Passed). x.0.value) (c.1 ∙ w.1 ∙ b.1) ∙ ap block_id_of h.1))
      (label_part.tell c.2.0 c.2.2.0 c.0.1.0 c.2.2.1 (past_token (11 ∷ []) c.0.0 c.2.0 refl c.2.1.0 (subst ArePrintable c.2.1.1 (past_token set w.0.0 w.2.0 n w.2.1.0 (subst ArePrintable w.2.1.1
      (past_token (3 ∷ []) b.0.0 b.2.0 refl b.2.1.0 (subst ArePrintable b.2.1.1 r)))))));
  left = (leaves_made with_edge (leaves_past (3 ∷ []) refl (leaves_past set n (leaves_past (11 ∷ []) refl (leaves_then (told_leaves label_part) edge_end_leaves))))).leaves;
}

pub next_told : (set w : List ℕ) → apart set (12 ∷ []) ≡ true → inside class_of set (word w) ≡ true → Fits word_follow (1 ∷ []) w (word w ∷ []) → ToldAs all_leads (7 ∷ []) (NextBlock set) (NextBlock set) block_id_of block_id_of (bracket_text w)
next_told set w n i f = as_into (NextBlock set) (λ ts rest a h. inr h) (in_brackets set w i f (as_both (as_told label_part) (bracketed_label set n)))

-- What a terminator is, where the numbers of the cleanup blocks are known.

abbrev pub Resolved : Type 0
Resolved = (ℕ → Bool) → Terminator

-- with these cleanup blocks, whatever others there are
abbrev pub ending_with : (ℕ → Bool) → EndingAt → Resolved
ending_with c e d = terminator_of c e.value

abbrev pub ending_of : EndingAt → Resolved
ending_of e d = terminator_of d e.value

abbrev pub resolved_text : Resolved → List ℕ
resolved_text t = terminator_text (t (λ n. false))

abbrev pub EndingsTold : (ℕ → Bool) → Part Lexeme EndingAt → Part Lexeme EndingAt → Type 0
EndingsTold c R W = ToldAs all_leads (1 ∷ 7 ∷ []) R W (ending_with c) ending_of resolved_text

arrow_told : {A T : Type 0} {s l : List ℕ} {R W : Part Lexeme A} {h : A → T} {f : T → List ℕ} → Told s l R W h f → has s 7 ≡ true → subset l all_leads ≡ true → Told all_leads (7 ∷ []) (Arrow R) (Arrow W) h (λ x. codes " -> " ++ (f x ++ codes ";"))
arrow_told c e i = told_past (20 ∷ []) (sign (codes "->")) arrow_inside refl arrow_fits (told_ended (10 ∷ []) (sign (codes ";")) semicolon_inside refl fits.semicolon c (rw e refl)) i

pub arrow_as : {A B T : Type 0} {s l : List ℕ} {R : Part Lexeme A} {W : Part Lexeme B} {m : A → T} {h : B → T} {f : T → List ℕ} → ToldAs s l R W m h f → has s 7 ≡ true → subset l all_leads ≡ true → ToldAs all_leads (7 ∷ []) (Arrow R) (Arrow W) m h (λ x. codes " -> " ++ (f x ++ codes ";"))
arrow_as c e i = as_past (20 ∷ []) (sign (codes "->")) arrow_inside refl arrow_fits (as_ended (10 ∷ []) (sign (codes ";")) semicolon_inside refl fits.semicolon c (rw e refl)) i

-- Jumps.

abbrev goto_of : BlockId → Resolved
goto_of b d = terminator.Goto b

goto_is : (b : BlockId) → codes "goto" ++ (codes " -> " ++ (id_text b ++ codes ";")) ≡ resolved_text (goto_of b)
unfolding goto_text
goto_is b = refl

pub goto_told : (c : ℕ → Bool) → EndingsTold c (Made to_goto (Past class_of (162 ∷ []) (Arrow LabelPart))) (Made to_goto (Past class_of (162 ∷ []) (Arrow LabelPart)))
unfolding to_goto
goto_told c = as_wide all_leads (1 ∷ 7 ∷ []) refl refl (as_made to_goto to_goto (ending_with c) ending_of goto_of resolved_text (λ l. refl) (λ l. refl) goto_is
    (as_told (told_past (162 ∷ []) (word (codes "goto")) goto_inside refl goto_fits (arrow_told label_part refl refl) refl)))

abbrev return_of : Unit {0} → Resolved
return_of u d = terminator.Return

pub return_told : (c : ℕ → Bool) → EndingsTold c (Made to_return (Past class_of (163 ∷ []) (Tok class_of (10 ∷ [])))) (Made to_return (Past class_of (163 ∷ []) (Tok class_of (10 ∷ []))))
unfolding to_return
return_told c = as_wide all_leads (1 ∷ 7 ∷ []) refl refl (as_made to_return to_return (ending_with c) ending_of return_of resolved_text (λ l. refl) (λ l. refl) (λ u. refl)
    (as_told (told_past (163 ∷ []) (word (codes "return")) return_inside refl return_fits (told_sign (10 ∷ []) (sign (codes ";")) semicolon_inside refl fits.semicolon) refl)))

abbrev unreachable_of : Unit {0} → Resolved
unreachable_of u d = terminator.Unreachable

pub unreachable_told : (c : ℕ → Bool) → EndingsTold c (Made to_unreachable (Past class_of (164 ∷ []) (Tok class_of (10 ∷ [])))) (Made to_unreachable (Past class_of (164 ∷ []) (Tok class_of (10 ∷ []))))
unfolding to_unreachable
unreachable_told c = as_wide all_leads (1 ∷ 7 ∷ []) refl refl (as_made to_unreachable to_unreachable (ending_with c) ending_of unreachable_of resolved_text (λ l. refl) (λ l. refl) (λ u. refl)
    (as_told (told_past (164 ∷ []) (word (codes "unreachable")) unreachable_inside refl unreachable_fits (told_sign (10 ∷ []) (sign (codes ";")) semicolon_inside refl fits.semicolon) refl)))

-- Switches.

abbrev arm_of : Limited Arm → Arm
arm_of a = a.value

arms_map : (as_ : List (Limited Arm)) → values_of as_ ≡ map arm_of as_
arms_map [] = refl
arms_map (a ∷ as_) = ap (λ x. a.value ∷ x) (arms_map as_)

abbrev arm_made : ℕ × BlockId → Arm
arm_made x = record { number = x.0; target = x.1 }

abbrev arm_text : Arm → List ℕ
arm_text a = decimal a.number ++ (codes ": " ++ (id_text a.target ++ codes ", "))

arm_told : Told all_leads (1 ∷ []) ArmPart ArmPart arm_of arm_text
unfolding to_arm
arm_told = told_made to_arm arm_of arm_made arm_text (λ v. refl) (λ x. refl) (told_then number_told (told_past (11 ∷ []) (sign (codes ":")) colon_inside refl (fits.spaced fits.colon refl)
    (told_ended (9 ∷ []) (sign (codes ",")) comma_inside refl (fits.spaced fits.comma refl) label_part refl) refl) refl)

five : (a b c d e : List ℕ) → (a ++ (b ++ (c ++ d))) ++ e ≡ (((a ++ b) ++ c) ++ d) ++ e
five a b c d e = search (rules, append_assoc)

arms_told : Told (1 ∷ []) (1 ∷ []) (Each ArmPart) (Each ArmPart) (map arm_of) arms_text
arms_told = told_each (1 ∷ []) (1 ∷ []) arms_text refl (λ a as_. five (decimal a.number) (codes ": ") (id_text a.target) (codes ", ") (arms_text as_)) arm_told refl refl refl

abbrev switch_of : Operand × (List Arm × BlockId) → Resolved
switch_of x d = terminator.Switch x.0 x.1.0 x.1.1

eight : (a o b r c l d e : List ℕ) → a ++ (o ++ (b ++ ((r ++ (c ++ (l ++ d))) ++ e))) ≡ (((((a ++ o) ++ b) ++ r) ++ c) ++ l) ++ (d ++ e)
eight a o b r c l d e = search (rules, append_assoc)

switch_is : (x : Operand × (List Arm × BlockId)) → codes "switchInt" ++ (codes "(" ++ (operand_text x.0 ++ (codes ")" ++ (codes " -> " ++ ((codes "[" ++ (arms_text x.1.0 ++ (codes "otherwise" ++ (codes ": " ++ (id_text x.1.1 ++ codes "]"))))) ++ codes ";")))))
    ≡ resolved_text (switch_of x)
unfolding switch_text
switch_is x = eight (codes "switchInt(") (operand_text x.0) (codes ") -> [") (arms_text x.1.0) (codes "otherwise: ") (id_text x.1.1) (codes "]") (codes ";")

switch_made : (c : ℕ → Bool) (v : Limited Operand × (List (Limited Arm) × Label)) → ending_with c (to_switch v) ≡ switch_of (v.0.value, (map arm_of v.1.0, v.1.1.value))
unfolding to_switch
switch_made c v = ap (λ x. switch_of (v.0.value, (x, v.1.1.value))) (arms_map v.1.0)

switch_again : (v : Limited Operand × (List (Limited Arm) × Label)) → ending_of (to_switch v) ≡ switch_of (v.0.value, (map arm_of v.1.0, v.1.1.value))
unfolding to_switch
switch_again v = ap (λ x. switch_of (v.0.value, (x, v.1.1.value))) (arms_map v.1.0)

pub switch_told : {T U : Family} {P Q : Part Lexeme Placed} (c : ℕ → Bool) → Retold T U → PlacesTold P Q → EndingsTold c (SwitchPart T P) (SwitchPart U Q)
switch_told c q p = as_wide all_leads (1 ∷ 7 ∷ []) refl refl (as_made to_switch to_switch (ending_with c) ending_of switch_of resolved_text (switch_made c) switch_again switch_is
    (as_told (told_past (165 ∷ []) (word (codes "switchInt")) switch_inside refl switch_fits (told_past (1 ∷ []) (sign (codes "(")) opening_inside refl fits.opening (told_then (operand_told q p)
    (told_past (2 ∷ []) (sign (codes ")")) closing_inside refl fits.closing (arrow_told (told_past (3 ∷ []) (sign (codes "[")) bracket_inside refl fits.bracket (told_then arms_told
    (told_past (166 ∷ []) (word (codes "otherwise")) otherwise_inside refl otherwise_fits (told_past (11 ∷ []) (sign (codes ":")) colon_inside refl (fits.spaced fits.colon refl)
    (told_ended (4 ∷ []) (sign (codes "]")) bracket_end_inside refl fits.bracket_end label_part refl) refl) refl) refl) refl) refl refl) refl) refl) refl) refl)))
