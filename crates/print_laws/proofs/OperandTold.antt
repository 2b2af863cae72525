-- The text of an operand reads again as this operand.
use Rattle.std.proofs.Common.{◌≡◌, inl, inr, ℕ, true, List, [], ◌∷◌, ◌++◌, codes, map, refl, arith}
use Rattle.grammar_words.specs.Grammar.{Part, Made}
use Rattle.grammar_words.specs.Classes.{inside, Listed}
use Rattle.mir_ir.specs.declared.tree.Operand.{Operand}
use Rattle.mir_ir.specs.declared.tree.Operand.TheVariants as operand
use Rattle.mir_grammar.specs.declared.limits.Limited.{Limited}
use Rattle.mir_grammar.specs.declared.trees.Placed.{Placed}
use Rattle.mir_grammar.specs.Lexemes.{Lexeme, class_of, sign, word}
use Rattle.mir_grammar.specs.Types.{Family}
use Rattle.mir_grammar.specs.Values.{to_copy, to_move, to_const, Marked, OperandOf, Operands}
use Rattle.canonical_text.specs.Operands.{operand_text, operands_text, more_operands}
use Rattle.print_laws.proofs.Leads.{all_leads, word_follow}
use Rattle.print_laws.proofs.Fits as fits
use Rattle.print_laws.proofs.Fits.{Fits}
use Rattle.print_laws.proofs.TypeTexts.{Retold, const_inside, opening_inside, closing_inside}
use Rattle.print_laws.proofs.PlaceTold.{PlacesTold}
use Rattle.print_laws.proofs.ConstantTold.{constant_told}
use Rattle.print_laws.proofs.Told.{Told, told_made, told_both, told_either, told_into, told_past, told_ended, told_added, told_listed}

abbrev pub operand_of : Limited Operand → Operand
operand_of o = o.value

abbrev pub OperandsTold : Part Lexeme (Limited Operand) → Part Lexeme (Limited Operand) → Type 0
OperandsTold R W = Told word_follow (1 ∷ []) R W operand_of operand_text

copy_inside : inside class_of (120 ∷ []) (word (codes "copy")) ≡ true
unfolding inside class_of
copy_inside = refl

move_inside : inside class_of (121 ∷ []) (word (codes "move")) ≡ true
unfolding inside class_of
move_inside = refl

copy_word : Fits all_leads (1 ∷ []) (codes "copy ") (word (codes "copy") ∷ [])
copy_word = fits.spaced (fits.written_word (codes "copy") refl (omega arith) refl) refl

move_word : Fits all_leads (1 ∷ []) (codes "move ") (word (codes "move") ∷ [])
move_word = fits.spaced (fits.written_word (codes "move") refl (omega arith) refl) refl

pub marked_told : {T U : Family} {P Q : Part Lexeme Placed} → Retold T U → PlacesTold P Q → OperandsTold (Marked T P) (Marked U Q)
unfolding to_copy to_move to_const
marked_told q p = told_either word_follow (1 ∷ []) (told_made to_copy operand_of operand.Copy operand_text (λ x. refl) (λ x. refl) (told_past (120 ∷ []) (word (codes "copy")) copy_inside refl copy_word p refl))
    (told_either word_follow (1 ∷ []) (told_made to_move operand_of operand.Move operand_text (λ x. refl) (λ x. refl) (told_past (121 ∷ []) (word (codes "move")) move_inside refl move_word p refl))
    (told_made to_const operand_of operand.Const operand_text (λ c. refl) (λ c. refl) (told_past (116 ∷ []) (word (codes "const")) const_inside refl fits.const_word (constant_told q) refl)) refl refl refl refl) refl refl refl refl

-- a bare place is a copy
bare_told : {P Q : Part Lexeme Placed} (U : Family) → PlacesTold P Q → OperandsTold (Made to_copy P) (Marked U Q)
unfolding to_copy
bare_told {P} {Q} U p = told_into {V = Marked U Q} (λ ts rest a h. inl h) (told_made to_copy operand_of operand.Copy operand_text (λ x. refl) (λ x. refl) (told_added (120 ∷ []) (word (codes "copy")) copy_inside copy_word p refl))

-- what is printed is marked
pub as_marked : {T U : Family} {P Q : Part Lexeme Placed} → Retold T U → PlacesTold P Q → OperandsTold (OperandOf T P) (Marked U Q)
as_marked {T} {U} q p = told_both word_follow (1 ∷ []) (bare_told U p) (marked_told q p) refl refl refl refl

pub operand_told : {T U : Family} {P Q : Part Lexeme Placed} → Retold T U → PlacesTold P Q → OperandsTold (OperandOf T P) (OperandOf U Q)
operand_told {T} {U} {P} {Q} q p = told_into {V = OperandOf U Q} (λ ts rest a h. inr h) (as_marked q p)

-- a list of operands
pub operand_list : {T U : Family} {P Q : Part Lexeme Placed} (u : List ℕ) → Retold T U → PlacesTold P Q → Told (7 ∷ []) (1 ∷ 7 ∷ []) (Listed class_of (9 ∷ []) (OperandOf T P)) (Listed class_of (9 ∷ []) (OperandOf U Q)) (map operand_of) operands_text
operand_list u q p = told_listed (7 ∷ []) (1 ∷ 7 ∷ []) operands_text more_operands refl refl (λ x xs. refl) (λ x xs. refl) (operand_told q p) refl refl refl refl refl

-- operands in parentheses
pub operands_told : {T U : Family} {P Q : Part Lexeme Placed} → Retold T U → PlacesTold P Q → Told all_leads (7 ∷ []) (Operands T P) (Operands U Q) (map operand_of) (λ os. codes "(" ++ (operands_text os ++ codes ")"))
operands_told q p = told_past (1 ∷ []) (sign (codes "(")) opening_inside refl fits.opening (told_ended (2 ∷ []) (sign (codes ")")) closing_inside refl fits.closing (operand_list [] q p) refl) refl
