-- The texts of drops, asserts and calls read again.
use Rattle.std.proofs.Common.{◌≡◌, inl, inr, ℕ, Bool, true, false, not, if◌then◌else◌, List, [], ◌∷◌, ◌++◌, codes, map, Option, Some, None, refl, ◌∙◌, ap, subst, append_assoc, rules}
use Rattle.grammar_words.specs.Grammar.{Part}
use Rattle.grammar_words.specs.Classes.{Perhaps_token}
use Rattle.vk_core.specs.declared.ids.BlockId.{BlockId}
use Rattle.mir_ir.specs.declared.places.PlaceExpr.{PlaceExpr}
use Rattle.mir_ir.specs.declared.tree.Callee.{Callee}
use Rattle.mir_ir.specs.declared.tree.Operand.{Operand}
use Rattle.mir_ir.specs.declared.tree.Terminator.TheVariants as terminator
use Rattle.mir_grammar.specs.declared.named.Named.{Named}
use Rattle.mir_grammar.specs.declared.limits.Limited.{Limited}
use Rattle.mir_grammar.specs.declared.trees.Placed.{Placed}
use Rattle.mir_grammar.specs.declared.trees.Target.{Target}
use Rattle.mir_grammar.specs.Lexemes.{Lexeme, class_of, sign, word, text_body}
use Rattle.mir_grammar.specs.Types.{Family}
use Rattle.mir_grammar.specs.Values.{ValuePath}
use Rattle.mir_grammar.specs.Blocks.{Label, Bracketed, bare_target, block_target, edge_target, returns, TargetPart, to_drop, to_assert, Assert, DropPart, Called, to_call, CallOf, TerminatorOf}
use Rattle.canonical_text.specs.declared.positions.Position.TheVariants.{AsValue}
use Rattle.canonical_text.specs.Names.{path_written}
use Rattle.canonical_text.specs.Places.{place_text}
use Rattle.canonical_text.specs.Operands.{operand_text, more_operands, operands_text, quoted}
use Rattle.canonical_text.specs.Lines.{goes_on_text, call_end_text, drop_text, expected_word, assert_text, call_text}
use Rattle.raw_functions.specs.Meant.{next_of}
use Rattle.print_laws.proofs.Leads.{all_leads, word_follow}
use Rattle.print_laws.proofs.Fits as fits
use Rattle.print_laws.proofs.Fits.{Fits, fits_join, fits_none, fits_wide, fits_text}
use Rattle.print_laws.proofs.TypeTexts.{Retold, opening_inside, closing_inside}
use Rattle.print_laws.proofs.PlaceTold.{PlacesTold, comma_inside}
use Rattle.print_laws.proofs.ConstantTold.{text_told}
use Rattle.print_laws.proofs.OperandTold.{operand_of, operand_told, operands_told}
use Rattle.print_laws.proofs.AggregateTold.{values_map, more_told}
use Rattle.print_laws.proofs.LineTold.{spaced_equal, equal_inside}
use Rattle.print_laws.proofs.Told.{Telling, Told, told_either, told_nothing, told_mark, Leaves, leaves_made, leaves_either, told_leaves}
use Rattle.print_laws.proofs.EndingTold.{label_part, edge_leaves, edge_telling, in_brackets, bracketed_label, next_told, goto_told, return_told, unreachable_told, switch_told, arrow_as, drop_inside, drop_fits, assert_inside, assert_fits, return_inside, return_fits, success_inside, success_fits, not_inside, EndingsTold, id_text, bracket_text, block_id_of, Resolved, ending_with, ending_of, resolved_text}
use Rattle.print_laws.proofs.Reserved.{value_keys}
use Rattle.print_laws.proofs.TypeTexts.{path_from}
use Rattle.mir_grammar.specs.Values.{value_words, free_words}
use Rattle.print_laws.proofs.Told.{told_again}
use Rattle.print_laws.proofs.ToldAs.{ToldAs, as_told, as_made, as_wide, as_into, as_then, as_both, as_past}

-- Where a drop or an assert goes on.

goes_on_return : (b : BlockId) → codes " -> " ++ (bracket_text (codes "return") b ++ codes ";") ≡ goes_on_text (codes "return") b.0
unfolding goes_on_text
goes_on_return b = ap (λ x. codes " -> [return: " ++ x) (append_assoc (id_text b) (codes ", unwind continue]") (codes ";"))

goes_on_success : (b : BlockId) → codes " -> " ++ (bracket_text (codes "success") b ++ codes ";") ≡ goes_on_text (codes "success") b.0
unfolding goes_on_text
goes_on_success b = ap (λ x. codes " -> [success: " ++ x) (append_assoc (id_text b) (codes ", unwind continue]") (codes ";"))

-- Drops.

abbrev drop_of : PlaceExpr × BlockId → Resolved
drop_of x d = terminator.Drop x.0 x.1

four : (a b c d : List ℕ) → a ++ (b ++ (c ++ d)) ≡ ((a ++ b) ++ c) ++ d
four a b c d = search (rules, append_assoc)

drop_is : (x : PlaceExpr × BlockId) → codes "drop" ++ (codes "(" ++ (place_text x.0 ++ (codes ")" ++ (codes " -> " ++ (bracket_text (codes "return") x.1 ++ codes ";"))))) ≡ resolved_text (drop_of x)
unfolding drop_text
drop_is x = ap (λ y. codes "drop(" ++ (place_text x.0 ++ (codes ")" ++ y))) (goes_on_return x.1) ∙ four (codes "drop(") (place_text x.0) (codes ")") (goes_on_text (codes "return") x.1.0)

drop_told : {P Q : Part Lexeme Placed} (c : ℕ → Bool) → PlacesTold P Q → EndingsTold c (DropPart P) (DropPart Q)
unfolding to_drop
drop_told c p = as_wide all_leads (1 ∷ 7 ∷ []) refl refl (as_made to_drop to_drop (ending_with c) ending_of drop_of resolved_text (λ v. refl) (λ v. refl) drop_is
    (as_past (167 ∷ []) (word (codes "drop")) drop_inside refl drop_fits (as_past (1 ∷ []) (sign (codes "(")) opening_inside refl fits.opening (as_then (as_told p)
    (as_past (2 ∷ []) (sign (codes ")")) closing_inside refl fits.closing (arrow_as (next_told returns (codes "return") refl return_inside return_fits) refl refl) refl) refl) refl) refl))

-- Asserts.

expected_told : Told (1 ∷ []) (1 ∷ 7 ∷ []) (Perhaps_token class_of (17 ∷ [])) (Perhaps_token class_of (17 ∷ [])) not expected_word
expected_told = told_either (1 ∷ []) (1 ∷ 7 ∷ []) (told_mark (λ t. true) false (17 ∷ []) (sign (codes "!")) (λ a h. refl) not_inside refl fits.exclamation refl) (told_nothing (1 ∷ []) false refl) refl refl refl refl

abbrev Asserted : Type 0
Asserted = Bool × (Operand × (List ℕ × (List Operand × BlockId)))

abbrev assert_of : Asserted → Resolved
assert_of x d = terminator.Assert x.1.0 x.0 x.1.1.0 x.1.1.1.0 x.1.1.1.1

eight : (a b c d e f g h : List ℕ) → a ++ (b ++ (c ++ (d ++ (e ++ (f ++ (g ++ h)))))) ≡ ((((((a ++ b) ++ c) ++ d) ++ e) ++ f) ++ g) ++ h
eight a b c d e f g h = search (rules, append_assoc)

assert_is : (x : Asserted) → codes "assert" ++ (codes "(" ++ (expected_word x.0 ++ (operand_text x.1.0 ++ (codes ", " ++ (quoted x.1.1.0 ++ (more_operands x.1.1.1.0 ++ (codes ")" ++ (codes " -> " ++ (bracket_text (codes "success") x.1.1.1.1 ++ codes ";")))))))))
    ≡ resolved_text (assert_of x)
unfolding assert_text
assert_is x = ap (λ y. codes "assert(" ++ (expected_word x.0 ++ (operand_text x.1.0 ++ (codes ", " ++ (quoted x.1.1.0 ++ (more_operands x.1.1.1.0 ++ (codes ")" ++ y))))))) (goes_on_success x.1.1.1.1)
    ∙ eight (codes "assert(") (expected_word x.0) (operand_text x.1.0) (codes ", ") (quoted x.1.1.0) (more_operands x.1.1.1.0) (codes ")") (goes_on_text (codes "success") x.1.1.1.1.0)

abbrev AssertParts : Type 0
AssertParts = Bool × (Limited Operand × (Lexeme × (List (Limited Operand) × Label)))

assert_made : (c : ℕ → Bool) (v : AssertParts) → ending_with c (to_assert v) ≡ assert_of (not v.0, (v.1.0.value, (text_body v.1.1.0, (map operand_of v.1.1.1.0, v.1.1.1.1.value))))
unfolding to_assert
assert_made c v = ap (λ x. assert_of (not v.0, (v.1.0.value, (text_body v.1.1.0, (x, v.1.1.1.1.value))))) (values_map v.1.1.1.0)

assert_again : (v : AssertParts) → ending_of (to_assert v) ≡ assert_of (not v.0, (v.1.0.value, (text_body v.1.1.0, (map operand_of v.1.1.1.0, v.1.1.1.1.value))))
unfolding to_assert
assert_again v = ap (λ x. assert_of (not v.0, (v.1.0.value, (text_body v.1.1.0, (x, v.1.1.1.1.value))))) (values_map v.1.1.1.0)

assert_told : {T U : Family} {P Q : Part Lexeme Placed} (c : ℕ → Bool) → Retold T U → PlacesTold P Q → EndingsTold c (Assert T P) (Assert U Q)
assert_told c q p = as_wide all_leads (1 ∷ 7 ∷ []) refl refl (as_made to_assert to_assert (ending_with c) ending_of assert_of resolved_text (assert_made c) assert_again assert_is
    (as_past (168 ∷ []) (word (codes "assert")) assert_inside refl assert_fits (as_past (1 ∷ []) (sign (codes "(")) opening_inside refl fits.opening (as_then (as_told expected_told) (as_then (as_told (operand_told q p))
    (as_past (9 ∷ []) (sign (codes ",")) comma_inside refl (fits.spaced fits.comma refl) (as_then (as_told text_told) (as_then (as_told (more_told q p))
    (as_past (2 ∷ []) (sign (codes ")")) closing_inside refl fits.closing (arrow_as (next_told (169 ∷ []) (codes "success") refl success_inside success_fits) refl refl) refl) refl) refl) refl) refl) refl) refl) refl))

-- Calls.

abbrev Going : Type 0
Going = (ℕ → Bool) → Option BlockId

abbrev target_with : (ℕ → Bool) → Limited Target → Going
target_with c t d = next_of c t.value

abbrev target_of : Limited Target → Going
target_of t d = next_of d t.value

abbrev option_text : Option BlockId → List ℕ
option_text (Some b) = bracket_text (codes "return") b
option_text None = codes "unwind continue"

abbrev going_text : Going → List ℕ
going_text g = option_text (g (λ n. false))

abbrev to_some : BlockId → Going
to_some b d = Some b

abbrev to_none : Going
to_none d = None

abbrev TargetTelling : Going → Type 0
TargetTelling g = Telling word_follow (1 ∷ 7 ∷ []) TargetPart target_of (going_text g) g

none_telling : TargetTelling to_none
unfolding edge_target
none_telling = record { lexemes = edge_telling.lexemes; value = edge_target edge_telling.value; same = refl; reads = λ k. inr (inr (edge_telling.value, refl, edge_telling.reads k)); fits = fits_wide edge_telling.fits refl refl }

some_telling : {b : BlockId} → Telling all_leads (7 ∷ []) (Bracketed returns) block_id_of (bracket_text (codes "return") b) b → TargetTelling (to_some b)
unfolding block_target
some_telling k = record { lexemes = k.lexemes; value = block_target k.value; same = ap to_some k.same; reads = λ x. inr (inl (k.value, refl, k.reads x)); fits = fits_wide k.fits refl refl }

bare_telling : (c : ℕ → Bool) (b : BlockId) → Telling all_leads (7 ∷ []) (Bracketed returns) block_id_of (bracket_text (codes "return") b) b → (e : Bool) → TargetTelling (λ d. if e then None else Some b)
bare_telling c b k true = none_telling
bare_telling c b k false = some_telling k

target_told : (c : ℕ → Bool) → ToldAs word_follow (1 ∷ 7 ∷ []) TargetPart TargetPart (target_with c) target_of going_text
unfolding bare_target block_target edge_target
target_told c = record {
  tell = λ ts rest t h r. elim h [
    | inl x ↦ subst (λ y. TargetTelling (target_with c y)) x.1 (bare_telling c x.0.value ((in_brackets returns (codes "return") return_inside return_fits (as_told label_part)).tell ts rest x.0 x.2 r) (c x.0.value.0))
    | inr x ↦ elim x [
      | inl y ↦ subst (λ z. TargetTelling (target_with c z)) y.1 (some_telling ((in_brackets returns (codes "return") return_inside return_fits (bracketed_label returns refl)).tell ts rest y.0 y.2 r))
      | inr y ↦ subst (λ z. TargetTelling (target_with c z)) y.1 none_telling
    ]
  ];
  left = (leaves_either (leaves_made bare_target (told_leaves label_part)) (leaves_either (leaves_made block_target bracketed_leaves) (leaves_made edge_target edge_leaves))).leaves;
}
  where
    bracketed_leaves : Leaves (Bracketed returns)
    bracketed_leaves = record { leaves = (bracketed_label returns refl).left }

abbrev callee_of : Named → Callee
callee_of n = record { path = n.text; argument = n.argument }

callee_told : {T U : Family} → Retold T U → Told word_follow (1 ∷ 7 ∷ []) (ValuePath T) (ValuePath U) callee_of (λ x. path_written AsValue x.path)
callee_told q = told_again callee_of (λ x. path_written AsValue x.path) (λ n. refl) (path_from AsValue value_words free_words value_keys refl refl refl refl q)

abbrev CalledParts : Type 0
CalledParts = PlaceExpr × (Callee × (List Operand × Going))

abbrev call_of : CalledParts → Resolved
call_of x d = terminator.Call x.0 x.1.0 x.1.1.0 (x.1.1.1 d)

call_end_is : (o : Option BlockId) → codes " -> " ++ (option_text o ++ codes ";") ≡ call_end_text o
call_end_is (Some b) = goes_on_return b
call_end_is None = refl

seven : (a b c d e f g : List ℕ) → a ++ (b ++ (c ++ ((d ++ (e ++ f)) ++ g))) ≡ (((((a ++ b) ++ c) ++ d) ++ e) ++ f) ++ g
seven a b c d e f g = search (rules, append_assoc)

call_is : (x : CalledParts) → place_text x.0 ++ (codes " = " ++ (path_written AsValue x.1.0.path ++ ((codes "(" ++ (operands_text x.1.1.0 ++ codes ")")) ++ (codes " -> " ++ (going_text x.1.1.1 ++ codes ";"))))) ≡ resolved_text (call_of x)
unfolding call_text
call_is x = ap (λ y. place_text x.0 ++ (codes " = " ++ (path_written AsValue x.1.0.path ++ ((codes "(" ++ (operands_text x.1.1.0 ++ codes ")")) ++ y)))) (call_end_is (x.1.1.1 (λ n. false)))
    ∙ seven (place_text x.0) (codes " = ") (path_written AsValue x.1.0.path) (codes "(") (operands_text x.1.1.0) (codes ")") (call_end_text (x.1.1.1 (λ n. false)))

call_made : (c : ℕ → Bool) (v : Placed × Called) → ending_with c (to_call v) ≡ call_of (v.0.place, (callee_of v.1.0, (map operand_of v.1.1.0, target_with c v.1.1.1)))
unfolding to_call
call_made c v = ap (λ x. call_of (v.0.place, (callee_of v.1.0, (x, target_with c v.1.1.1)))) (values_map v.1.1.0)

call_again : (v : Placed × Called) → ending_of (to_call v) ≡ call_of (v.0.place, (callee_of v.1.0, (map operand_of v.1.1.0, target_of v.1.1.1)))
unfolding to_call
call_again v = ap (λ x. call_of (v.0.place, (callee_of v.1.0, (x, target_of v.1.1.1)))) (values_map v.1.1.0)

call_told : {T U : Family} {P Q : Part Lexeme Placed} (c : ℕ → Bool) → Retold T U → PlacesTold P Q → EndingsTold c (CallOf T P) (CallOf U Q)
call_told c q p = as_made to_call to_call (ending_with c) ending_of call_of resolved_text (call_made c) call_again call_is
    (as_then (as_told p) (as_past (14 ∷ []) (sign (codes "=")) equal_inside refl spaced_equal (as_then (as_told (callee_told q)) (as_then (as_told (operands_told q p)) (arrow_as (target_told c) refl refl) refl) refl) refl) refl)

-- Terminators.

pub terminator_told : {T U : Family} {P Q : Part Lexeme Placed} (c : ℕ → Bool) → Retold T U → PlacesTold P Q → EndingsTold c (TerminatorOf T P) (TerminatorOf U Q)
terminator_told {T} {U} {P} {Q} c q p = let V = TerminatorOf U Q in as_both (as_into V (λ ts rest a h. inl h) (call_told c q p)) (as_both (as_into V (λ ts rest a h. inr (inl h)) (goto_told c))
    (as_both (as_into V (λ ts rest a h. inr (inr (inl h))) (return_told c)) (as_both (as_into V (λ ts rest a h. inr (inr (inr (inl h)))) (unreachable_told c))
    (as_both (as_into V (λ ts rest a h. inr (inr (inr (inr (inl h))))) (switch_told c q p)) (as_both (as_into V (λ ts rest a h. inr (inr (inr (inr (inr (inl h)))))) (drop_told c p))
    (as_into V (λ ts rest a h. inr (inr (inr (inr (inr (inr h)))))) (assert_told c q p)))))))
