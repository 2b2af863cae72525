-- The text of a rvalue reads again as this rvalue: arrays, tuples and paths.
use Rattle.std.proofs.Common.{◌≡◌, ℕ, Bool, true, false, List, [], ◌∷◌, ◌++◌, codes, map, refl, sym, ◌∙◌, ap, subst, append_assoc, rules}
use Rattle.std.specs.Fmt.{decimal}
use Rattle.grammar_words.specs.Grammar.{Part, Then, Made, Each}
use Rattle.grammar_words.specs.Classes.{inside, Tok, Past, Perhaps_token, Listed, Trailed}
use Rattle.mir_ir.specs.declared.tree.NamedOperand.{NamedOperand}
use Rattle.mir_ir.specs.declared.tree.Operand.{Operand}
use Rattle.mir_ir.specs.declared.tree.Rvalue.{Rvalue}
use Rattle.mir_ir.specs.declared.tree.Rvalue.TheVariants as rvalue
use Rattle.mir_grammar.specs.declared.named.Named.{Named}
use Rattle.mir_grammar.specs.declared.limits.Limited.{Limited}
use Rattle.mir_grammar.specs.declared.trees.Placed.{Placed}
use Rattle.mir_grammar.specs.declared.trees.ArrayTail.{ArrayTail}
use Rattle.mir_grammar.specs.declared.trees.ArrayTail.TheVariants.{Times, Others}
use Rattle.mir_grammar.specs.Lexemes.{Lexeme, class_of, sign}
use Rattle.mir_grammar.specs.Types.{Family, AnyType, any_word}
use Rattle.mir_grammar.specs.Values.{values_of, to_array_of, to_no_array, to_times, ArrayRest, ArrayOf, to_tuple_of, TupleOf, Marked, OperandOf, Operands, FormedValue, value_words, free_words, ValuePath, to_field, Field, Fields, to_path_unit, to_path_tuple, to_path_fields, RvalueOf}
use Rattle.canonical_text.specs.declared.positions.Position.TheVariants.{AsValue}
use Rattle.canonical_text.specs.Names.{path_written}
use Rattle.canonical_text.specs.Operands.{operand_text, operands_text, more_operands}
use Rattle.canonical_text.specs.Rvalues.{in_brackets, repeat_text, comma_of_one_operand, tuple_text, field_text, more_fields, fields_text, aggregate_text, rvalue_text}
use Rattle.print_laws.proofs.Leads.{all_leads, word_follow}
use Rattle.print_laws.proofs.Fits as fits
use Rattle.print_laws.proofs.Fits.{Fits, fits_join, fits_wide, fits_text, fits_none}
use Rattle.print_laws.proofs.Tokens.{word_token}
use Rattle.print_laws.proofs.Reserved.{value_keys}
use Rattle.print_laws.proofs.TypeTexts.{Retold, path_from, opening_inside, closing_inside, bracket_inside, bracket_end_inside, semicolon_inside}
use Rattle.print_laws.proofs.TypeTold.{number_told}
use Rattle.print_laws.proofs.PlaceTold.{PlacesTold, TypesTold, comma_inside, colon_inside}
use Rattle.print_laws.proofs.OperandTold.{operand_of, operand_told, marked_told, operands_told}
use Rattle.print_laws.proofs.RvalueTold.{value_of, ValuesTold, used_told}
use Rattle.print_laws.proofs.TupleTold.{is_one, commas, commas_read, commas_fit}
use Rattle.print_laws.proofs.ValueTold.{four, applied_is, reference_told, operator_told}
use Rattle.mir_grammar.specs.Names.{comma_where}
use Rattle.print_laws.proofs.Told.{Told, told_again, told_tok, told_made, told_wide, told_then, told_either, told_past, told_ended, told_each, told_listed, told_past_made, told_past_either, told_refit, told_sign, Leaves, leaves_tok, leaves_made, leaves_either, leaves_nothing}

pub values_map : (os : List (Limited Operand)) → values_of os ≡ map operand_of os
values_map [] = refl
values_map (o ∷ os) = ap (λ x. o.value ∷ x) (values_map os)

-- Arrays.

data Tail : Type 0 where
  Count : ℕ → Tail
  More : List Operand → Tail

abbrev tail_of : ArrayTail → Tail
tail_of (Times n) = Count n
tail_of (Others os) = More (map operand_of os)

abbrev tail_text : Tail → List ℕ
tail_text (Count n) = codes "; " ++ (decimal n ++ codes "]")
tail_text (More os) = more_operands os ++ codes "]"

pub more_told : {T U : Family} {P Q : Part Lexeme Placed} → Retold T U → PlacesTold P Q → Told (7 ∷ []) (7 ∷ []) (Each (Past class_of (9 ∷ []) (OperandOf T P))) (Each (Past class_of (9 ∷ []) (OperandOf U Q))) (map operand_of) more_operands
more_told q p = told_each (7 ∷ []) (7 ∷ []) more_operands refl (λ o os. refl) (told_past (9 ∷ []) (sign (codes ",")) comma_inside refl (fits.spaced fits.comma refl) (operand_told q p) refl) refl refl refl

rest_told : {T U : Family} {P Q : Part Lexeme Placed} → Retold T U → PlacesTold P Q → Told all_leads (7 ∷ []) (ArrayRest T P) (ArrayRest U Q) tail_of tail_text
unfolding to_times
rest_told q p = told_either all_leads (7 ∷ []) (told_made to_times tail_of Count tail_text (λ l. refl) (λ n. refl) (told_past (10 ∷ []) (sign (codes ";")) semicolon_inside refl (fits.spaced fits.semicolon refl)
    (told_ended (4 ∷ []) (sign (codes "]")) bracket_end_inside refl fits.bracket_end number_told refl) refl))
    (told_made Others tail_of More tail_text (λ os. refl) (λ os. refl) (told_ended (4 ∷ []) (sign (codes "]")) bracket_end_inside refl fits.bracket_end (more_told q p) refl)) refl refl refl refl

abbrev array : Operand × Tail → Rvalue
array (o, Count n) = rvalue.Repeat o n
array (o, More os) = rvalue.Array (o ∷ os)

array_is : (v : Limited Operand × ArrayTail) → value_of (to_array_of v) ≡ array (v.0.value, tail_of v.1)
unfolding to_array_of
array_is (o, Times n) = refl
array_is (o, Others os) = ap (λ x. rvalue.Array (o.value ∷ x)) (values_map os)

five : (a b c d e : List ℕ) → a ++ (b ++ (c ++ (d ++ e))) ≡ (((a ++ b) ++ c) ++ d) ++ e
five a b c d e = search (rules, append_assoc)

inner : (a b c d : List ℕ) → a ++ (b ++ (c ++ d)) ≡ (a ++ (b ++ c)) ++ d
inner a b c d = search (rules, append_assoc)

array_text_is : (x : Operand × Tail) → codes "[" ++ (operand_text x.0 ++ tail_text x.1) ≡ rvalue_text (array x)
unfolding repeat_text in_brackets
array_text_is (o, Count n) = five (codes "[") (operand_text o) (codes "; ") (decimal n) (codes "]")
array_text_is (o, More os) = inner (codes "[") (operand_text o) (more_operands os) (codes "]")

empty_text : (u : Unit {0}) → codes "[" ++ codes "]" ≡ rvalue_text (rvalue.Array [])
unfolding in_brackets
empty_text u = refl

array_told : {T U : Family} {P Q : Part Lexeme Placed} → Retold T U → PlacesTold P Q → ValuesTold (ArrayOf T P) (ArrayOf U Q)
unfolding to_no_array
array_told {T} {U} {P} {Q} q p = told_past_either (3 ∷ []) (Made to_no_array (Tok class_of (4 ∷ []))) (Made to_array_of (Then (OperandOf T P) (ArrayRest T P))) (Made to_no_array (Tok class_of (4 ∷ []))) (Made to_array_of (Then (OperandOf U Q) (ArrayRest U Q)))
    (told_either word_follow (1 ∷ 3 ∷ 7 ∷ [])
    (told_past_made (3 ∷ []) (Tok class_of (4 ∷ [])) (Tok class_of (4 ∷ [])) to_no_array (told_made to_no_array value_of (λ u. rvalue.Array []) rvalue_text (λ l. refl) empty_text
    (told_past (3 ∷ []) (sign (codes "[")) bracket_inside refl fits.bracket (told_sign (4 ∷ []) (sign (codes "]")) bracket_end_inside refl fits.bracket_end) refl)))
    (told_past_made (3 ∷ []) (Then (OperandOf T P) (ArrayRest T P)) (Then (OperandOf U Q) (ArrayRest U Q)) to_array_of (told_made to_array_of value_of array rvalue_text array_is array_text_is
    (told_past (3 ∷ []) (sign (codes "[")) bracket_inside refl fits.bracket (told_then (operand_told q p) (rest_told q p) refl) refl))) refl refl refl refl)

-- Tuples.

comma_is : (os : List Operand) → comma_where (is_one os) ≡ comma_of_one_operand os
comma_is [] = refl
comma_is (o ∷ []) = refl
comma_is (o ∷ u ∷ more) = refl

comma_leaves : Leaves (Perhaps_token class_of (9 ∷ []))
comma_leaves = leaves_either (leaves_made (λ t. true) (leaves_tok (9 ∷ []) refl)) (leaves_nothing false)

marked_list : {T U : Family} {P Q : Part Lexeme Placed} → Retold T U → PlacesTold P Q → Told (7 ∷ []) (1 ∷ 7 ∷ []) (Listed class_of (9 ∷ []) (Marked T P)) (Listed class_of (9 ∷ []) (Marked U Q)) (map operand_of) operands_text
marked_list q p = told_listed (7 ∷ []) (1 ∷ 7 ∷ []) operands_text more_operands refl refl (λ x xs. refl) (λ x xs. refl) (marked_told q p) refl refl refl refl refl

abbrev operands_of : List (Limited Operand) × Bool → List Operand
operands_of v = map operand_of v.0

trailed_told : {T U : Family} {P Q : Part Lexeme Placed} → Retold T U → PlacesTold P Q
    → Told (7 ∷ []) (1 ∷ 7 ∷ []) (Trailed class_of (9 ∷ []) (Marked T P)) (Trailed class_of (9 ∷ []) (Marked U Q)) operands_of (λ os. operands_text os ++ comma_of_one_operand os)
trailed_told {T} {U} {P} {Q} q p = let l = marked_list q p in record {
  tell = λ ts rest v r x.
      let k = l.tell ts r.0 v.0 r.1 x in
      let c = is_one (map operand_of v.0) in
      let fit = fits_join k.fits (commas_fit (is_one (map operand_of v.0))) refl in record {
        lexemes = k.lexemes ++ commas c;
        value = (k.value, c);
        same = k.same;
        reads = λ y. subst (λ z. Trailed class_of (9 ∷ []) (Marked U Q) z (k.value, c) y) (sym (append_assoc k.lexemes (commas c) y)) (commas c ++ y, k.reads (commas c ++ y), commas_read c y);
        fits = fits_text (ap (λ z. operands_text (map operand_of v.0) ++ z) (comma_is (map operand_of v.0))) fit;
      };
  left = λ ts rest v r x. comma_leaves.leaves r.0 rest v.1 r.2 (l.left ts r.0 v.0 r.1 x);
}

tuple_is : (v : List (Limited Operand) × Bool) → value_of (to_tuple_of v) ≡ rvalue.Tuple (operands_of v)
unfolding to_tuple_of
tuple_is v = ap rvalue.Tuple (values_map v.0)

tuple_text_is : (os : List Operand) → codes "(" ++ ((operands_text os ++ comma_of_one_operand os) ++ codes ")") ≡ rvalue_text (rvalue.Tuple os)
unfolding tuple_text
tuple_text_is os = ap (λ x. codes "(" ++ x) (append_assoc (operands_text os) (comma_of_one_operand os) (codes ")")) ∙ four (codes "(") (operands_text os) (comma_of_one_operand os) (codes ")")

tuple_told : {T U : Family} {P Q : Part Lexeme Placed} → Retold T U → PlacesTold P Q → ValuesTold (TupleOf T P) (TupleOf U Q)
tuple_told q p = told_made to_tuple_of value_of rvalue.Tuple rvalue_text tuple_is tuple_text_is (told_wide word_follow (1 ∷ 3 ∷ 7 ∷ []) refl refl
    (told_past (1 ∷ []) (sign (codes "(")) opening_inside refl fits.opening (told_ended (2 ∷ []) (sign (codes ")")) closing_inside refl fits.closing (trailed_told q p) refl) refl))

-- Paths.

abbrev path_of : Named → List ℕ
path_of n = n.text

pub value_path_told : {T U : Family} → Retold T U → Told word_follow (1 ∷ 7 ∷ []) (ValuePath T) (ValuePath U) path_of (path_written AsValue)
value_path_told q = told_again path_of (path_written AsValue) (λ n. refl) (path_from AsValue value_words free_words value_keys refl refl refl refl q)

unit_told : {T U : Family} → Retold T U → ValuesTold (Made to_path_unit (ValuePath T)) (Made to_path_unit (ValuePath U))
unfolding to_path_unit
unit_told q = told_made to_path_unit value_of rvalue.PathUnit rvalue_text (λ n. refl) (λ x. refl) (told_wide word_follow (1 ∷ 3 ∷ 7 ∷ []) refl refl (value_path_told q))

call_is : (v : Named × List (Limited Operand)) → value_of (to_path_tuple v) ≡ rvalue.PathTuple v.0.text (map operand_of v.1)
unfolding to_path_tuple
call_is v = ap (rvalue.PathTuple v.0.text) (values_map v.1)

call_told : {T U : Family} {P Q : Part Lexeme Placed} → Retold T U → PlacesTold P Q → ValuesTold (Made to_path_tuple (Then (ValuePath T) (Operands T P))) (Made to_path_tuple (Then (ValuePath U) (Operands U Q)))
call_told q p = told_made to_path_tuple value_of (λ x. rvalue.PathTuple x.0 x.1) rvalue_text call_is (λ x. applied_is (path_written AsValue x.0) (operands_text x.1)) (told_wide word_follow (1 ∷ 3 ∷ 7 ∷ []) refl refl (told_then (value_path_told q) (operands_told q p) refl))

-- Fields.

abbrev field_of : Limited NamedOperand → NamedOperand
field_of f = f.value

abbrev named : List ℕ × Operand → NamedOperand
named x = record { name = x.0; operand = x.1 }

field_told : {T U : Family} {P Q : Part Lexeme Placed} → Retold T U → PlacesTold P Q → Told word_follow (1 ∷ []) (Field T P) (Field U Q) field_of field_text
unfolding to_field field_text
field_told q p = told_made to_field field_of named field_text (λ v. refl) (λ x. sym (append_assoc x.0 (codes ": ") (operand_text x.1)))
    (told_then (told_tok word_follow (1 ∷ []) any_word (λ (l : Lexeme). l.text) (λ x. x) refl (word_token any_word refl))
    (told_past (11 ∷ []) (sign (codes ":")) colon_inside refl (fits.spaced fits.colon refl) (operand_told q p) refl) refl)

abbrev plain_fields : List NamedOperand → List ℕ
plain_fields [] = []
plain_fields (f ∷ fs) = field_text f ++ more_fields fs

fields_fit : (fs : List NamedOperand) (ls : List Lexeme) → Fits (7 ∷ []) (1 ∷ 7 ∷ []) (plain_fields fs) ls → Fits (7 ∷ []) (7 ∷ []) (fields_text fs) ls
fields_fit [] ls f = record { begins = λ behind h. h; spells = f.spells }
fields_fit (x ∷ fs) ls f = fits_text (sym (append_assoc (codes " ") (field_text x) (more_fields fs))) (fits_join fits.fits_space f refl)

brace_inside : inside class_of (5 ∷ []) (sign (codes "{")) ≡ true
unfolding inside class_of
brace_inside = refl

brace_end_inside : inside class_of (6 ∷ []) (sign (codes "}")) ≡ true
unfolding inside class_of
brace_end_inside = refl

fields_told : {T U : Family} {P Q : Part Lexeme Placed} → Retold T U → PlacesTold P Q → Told all_leads (7 ∷ []) (Fields T P) (Fields U Q) (map field_of) (λ fs. codes " {" ++ (fields_text fs ++ codes " }"))
fields_told q p = told_past (5 ∷ []) (sign (codes "{")) brace_inside refl (fits_join fits.fits_space fits.brace refl) (told_ended (6 ∷ []) (sign (codes "}")) brace_end_inside refl (fits_join fits.fits_space fits.brace_end refl)
    (told_refit (7 ∷ []) (7 ∷ []) fields_text fields_fit (told_listed (7 ∷ []) (1 ∷ 7 ∷ []) plain_fields more_fields refl refl (λ x xs. refl) (λ x xs. refl) (field_told q p) refl refl refl refl refl)) refl) refl

fields_map : (fs : List (Limited NamedOperand)) → values_of fs ≡ map field_of fs
fields_map [] = refl
fields_map (f ∷ fs) = ap (λ x. f.value ∷ x) (fields_map fs)

aggregate_is : (v : Named × List (Limited NamedOperand)) → value_of (to_path_fields v) ≡ rvalue.PathFields v.0.text (map field_of v.1)
unfolding to_path_fields
aggregate_is v = ap (rvalue.PathFields v.0.text) (fields_map v.1)

aggregate_text_is : (x : List ℕ × List NamedOperand) → path_written AsValue x.0 ++ (codes " {" ++ (fields_text x.1 ++ codes " }")) ≡ rvalue_text (rvalue.PathFields x.0 x.1)
unfolding aggregate_text
aggregate_text_is x = four (path_written AsValue x.0) (codes " {") (fields_text x.1) (codes " }")

aggregate_told : {T U : Family} {P Q : Part Lexeme Placed} → Retold T U → PlacesTold P Q → ValuesTold (Made to_path_fields (Then (ValuePath T) (Fields T P))) (Made to_path_fields (Then (ValuePath U) (Fields U Q)))
aggregate_told q p = told_made to_path_fields value_of (λ x. rvalue.PathFields x.0 x.1) rvalue_text aggregate_is aggregate_text_is (told_wide word_follow (1 ∷ 3 ∷ 7 ∷ []) refl refl (told_then (value_path_told q) (fields_told q p) refl))

-- Rvalues.

formed_told : {T U : Family} {P Q : Part Lexeme Placed} → Retold T U → TypesTold (T AnyType) (U AnyType) → PlacesTold P Q → ValuesTold (FormedValue T P) (FormedValue U Q)
formed_told q t p = told_either word_follow (1 ∷ 3 ∷ 7 ∷ []) (told_either word_follow (1 ∷ 3 ∷ 7 ∷ []) (used_told q t p) (tuple_told q p) refl refl refl refl)
    (told_either word_follow (1 ∷ 3 ∷ 7 ∷ []) (operator_told q t p) (told_either word_follow (1 ∷ 3 ∷ 7 ∷ []) (reference_told p) (array_told q p) refl refl refl refl) refl refl refl refl) refl refl refl refl

pub value_told : {T U : Family} {P Q : Part Lexeme Placed} → Retold T U → TypesTold (T AnyType) (U AnyType) → PlacesTold P Q → ValuesTold (RvalueOf T P) (RvalueOf U Q)
value_told q t p = told_either word_follow (1 ∷ 3 ∷ 7 ∷ []) (formed_told q t p)
    (told_either word_follow (1 ∷ 3 ∷ 7 ∷ []) (unit_told q) (told_either word_follow (1 ∷ 3 ∷ 7 ∷ []) (call_told q p) (aggregate_told q p) refl refl refl refl) refl refl refl refl) refl refl refl refl
