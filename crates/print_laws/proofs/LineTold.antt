-- The texts of statements read again.
use Rattle.std.proofs.Common.{◌≡◌, inl, inr, ℕ, true, List, [], ◌∷◌, ◌++◌, codes, Option, Some, None, refl, ◌∙◌, ap, subst, arith, append_assoc, rules}
use Rattle.std.specs.Fmt.{decimal}
use Rattle.grammar_words.specs.Grammar.{Part, Made}
use Rattle.grammar_words.specs.Classes.{inside, Past}
use Rattle.mir_ir.specs.declared.places.PlaceExpr.{PlaceExpr}
use Rattle.mir_ir.specs.declared.tree.Rvalue.{Rvalue}
use Rattle.mir_ir.specs.declared.tree.Statement.{Statement}
use Rattle.mir_ir.specs.declared.tree.Statement.TheVariants as statement
use Rattle.mir_grammar.specs.declared.trees.Placed.{Placed}
use Rattle.mir_grammar.specs.Lexemes.{Lexeme, class_of, sign, word, local_number}
use Rattle.mir_grammar.specs.Types.{Family, AnyType}
use Rattle.mir_grammar.specs.Places.{to_local_id}
use Rattle.mir_grammar.specs.Blocks.{Kept, to_assign, to_live, to_dead, to_variant, to_nothing, to_mention, AssignOf, LocalLine, VariantPart, StatementOf}
use Rattle.canonical_text.specs.Places.{local_text, place_text}
use Rattle.canonical_text.specs.Rvalues.{rvalue_text}
use Rattle.canonical_text.specs.Lines.{assign_text, storage_text, set_variant_text, statement_text}
use Rattle.print_laws.specs.Printed.{ArePrintable}
use Rattle.print_laws.proofs.Leads.{all_leads}
use Rattle.print_laws.proofs.Fits as fits
use Rattle.print_laws.proofs.Fits.{Fits, fits_join}
use Rattle.print_laws.proofs.TypeTexts.{Retold, opening_inside, closing_inside, semicolon_inside}
use Rattle.print_laws.proofs.TypeTold.{number_told}
use Rattle.print_laws.proofs.PlaceTold.{PlacesTold, TypesTold}
use Rattle.print_laws.proofs.Locals.{local_told}
use Rattle.print_laws.proofs.AggregateTold.{value_told}
use Rattle.print_laws.proofs.Told.{Telling, Told, told_made, told_then, told_into, told_past, told_ended, told_wide, Leaves, leaves_tok, leaves_made, leaves_either, leaves_past, leaves_ended, told_leaves}

abbrev pub kept_value : Kept → Option Statement
kept_value k = k.value

abbrev pub kept_text : Option Statement → List ℕ
kept_text None = []
kept_text (Some s) = statement_text s

abbrev KeptTold : Part Lexeme Kept → Part Lexeme Kept → Type 0
KeptTold R W = Told all_leads (1 ∷ 7 ∷ []) R W kept_value kept_text

pub equal_inside : inside class_of (14 ∷ []) (sign (codes "=")) ≡ true
unfolding inside class_of
equal_inside = refl

live_inside : inside class_of (157 ∷ []) (word (codes "StorageLive")) ≡ true
unfolding inside class_of
live_inside = refl

dead_inside : inside class_of (158 ∷ []) (word (codes "StorageDead")) ≡ true
unfolding inside class_of
dead_inside = refl

variant_inside : inside class_of (147 ∷ []) (word (codes "discriminant")) ≡ true
unfolding inside class_of
variant_inside = refl

pub spaced_equal : Fits all_leads (7 ∷ []) (codes " = ") (sign (codes "=") ∷ [])
spaced_equal = fits_join fits.fits_space (fits.spaced fits.equal refl) refl

four : (a b c d : List ℕ) → a ++ (b ++ (c ++ d)) ≡ ((a ++ b) ++ c) ++ d
four a b c d = search (rules, append_assoc)

assign_text_is : (x : PlaceExpr × Rvalue) → place_text x.0 ++ (codes " = " ++ (rvalue_text x.1 ++ codes ";")) ≡ kept_text (Some (statement.Assign x.0 x.1))
unfolding assign_text
assign_text_is x = four (place_text x.0) (codes " = ") (rvalue_text x.1) (codes ";")

assign_told : {T U : Family} {P Q : Part Lexeme Placed} → Retold T U → TypesTold (T AnyType) (U AnyType) → PlacesTold P Q → KeptTold (AssignOf T P) (AssignOf U Q)
unfolding to_assign
assign_told q t p = told_made to_assign kept_value (λ x. Some (statement.Assign x.0 x.1)) kept_text (λ v. refl) assign_text_is
    (told_then p (told_past (14 ∷ []) (sign (codes "=")) equal_inside refl spaced_equal (told_ended (10 ∷ []) (sign (codes ";")) semicolon_inside refl fits.semicolon (value_told q t p) refl) refl) refl)

local_line_told : Told all_leads (7 ∷ []) LocalLine LocalLine local_number (λ n. codes "(" ++ ((local_text n ++ codes ")") ++ codes ";"))
local_line_told = told_past (1 ∷ []) (sign (codes "(")) opening_inside refl fits.opening (told_ended (10 ∷ []) (sign (codes ";")) semicolon_inside refl fits.semicolon (told_ended (2 ∷ []) (sign (codes ")")) closing_inside refl fits.closing local_told refl) refl) refl

storage_is : (w : List ℕ) (n : ℕ) → w ++ (codes "(" ++ ((local_text n ++ codes ")") ++ codes ";")) ≡ storage_text w n
unfolding storage_text
storage_is w n = ap (λ x. w ++ (codes "(" ++ x)) (append_assoc (local_text n) (codes ")") (codes ";")) ∙ four w (codes "(") (local_text n) (codes ");")

live_told : KeptTold (Made to_live (Past class_of (157 ∷ []) LocalLine)) (Made to_live (Past class_of (157 ∷ []) LocalLine))
unfolding to_live
live_told = told_wide all_leads (1 ∷ 7 ∷ []) refl refl (told_made to_live kept_value (λ n. Some (statement.StorageLive (to_local_id n))) kept_text (λ l. refl) (storage_is (codes "StorageLive"))
    (told_past (157 ∷ []) (word (codes "StorageLive")) live_inside refl (fits.written_word (codes "StorageLive") refl (omega arith) refl) local_line_told refl))

dead_told : KeptTold (Made to_dead (Past class_of (158 ∷ []) LocalLine)) (Made to_dead (Past class_of (158 ∷ []) LocalLine))
unfolding to_dead
dead_told = told_wide all_leads (1 ∷ 7 ∷ []) refl refl (told_made to_dead kept_value (λ n. Some (statement.StorageDead (to_local_id n))) kept_text (λ l. refl) (storage_is (codes "StorageDead"))
    (told_past (158 ∷ []) (word (codes "StorageDead")) dead_inside refl (fits.written_word (codes "StorageDead") refl (omega arith) refl) local_line_told refl))

variant_is : (x : PlaceExpr × ℕ) → codes "discriminant" ++ (codes "(" ++ (place_text x.0 ++ (codes ")" ++ (codes " = " ++ (decimal x.1 ++ codes ";"))))) ≡ kept_text (Some (statement.SetVariant x.0 x.1))
unfolding set_variant_text
variant_is x = five (codes "discriminant(") (place_text x.0) (codes ") = ") (decimal x.1) (codes ";")
  where
    five : (a b c d e : List ℕ) → a ++ (b ++ (c ++ (d ++ e))) ≡ (((a ++ b) ++ c) ++ d) ++ e
    five a b c d e = search (rules, append_assoc)

variant_told : {P Q : Part Lexeme Placed} → PlacesTold P Q → KeptTold (VariantPart P) (VariantPart Q)
unfolding to_variant
variant_told p = told_wide all_leads (1 ∷ 7 ∷ []) refl refl (told_made to_variant kept_value (λ x. Some (statement.SetVariant x.0 x.1)) kept_text (λ v. refl) variant_is
    (told_past (147 ∷ []) (word (codes "discriminant")) variant_inside refl (fits.written_word (codes "discriminant") refl (omega arith) refl) (told_past (1 ∷ []) (sign (codes "(")) opening_inside refl fits.opening
    (told_then p (told_past (2 ∷ []) (sign (codes ")")) closing_inside refl fits.closing (told_past (14 ∷ []) (sign (codes "=")) equal_inside refl spaced_equal
    (told_ended (10 ∷ []) (sign (codes ";")) semicolon_inside refl fits.semicolon number_told refl) refl) refl) refl) refl) refl))

-- a statement that is kept, and what any statement leaves
pub statement_told : {T U : Family} {P Q : Part Lexeme Placed} → Retold T U → TypesTold (T AnyType) (U AnyType) → PlacesTold P Q → (ts rest : List Lexeme) (k : Kept) → StatementOf T P ts k rest → ArePrintable ts → (s : Statement) → kept_value k ≡ Some s
    → Telling all_leads (1 ∷ 7 ∷ []) (StatementOf U Q) kept_value (statement_text s) (Some s)
unfolding to_nothing to_mention
statement_told {T} {U} {P} {Q} q t p ts rest k h r s e = subst (λ x. Telling all_leads (1 ∷ 7 ∷ []) (StatementOf U Q) kept_value (kept_text x) x) e (elim h [
  | inl x ↦ (told_into {V = StatementOf U Q} (λ ts rest a y. inl y) (assign_told q t p)).tell ts rest k x r
  | inr x ↦ elim x [
    | inl y ↦ (told_into {V = StatementOf U Q} (λ ts rest a z. inr (inl z)) live_told).tell ts rest k y r
    | inr y ↦ elim y [
      | inl z ↦ (told_into {V = StatementOf U Q} (λ ts rest a v. inr (inr (inl v))) dead_told).tell ts rest k z r
      | inr z ↦ elim z [
        | inl v ↦ absurd (cc (ap kept_value v.1, e))
        | inr v ↦ elim v [
          | inl w ↦ absurd (cc (ap kept_value w.1, e))
          | inr w ↦ (told_into {V = StatementOf U Q} (λ ts rest a o. inr (inr (inr (inr (inr o))))) (variant_told p)).tell ts rest k w r
        ]
      ]
    ]
  ]
])

pub statement_leaves : {T U : Family} {P Q : Part Lexeme Placed} → Retold T U → TypesTold (T AnyType) (U AnyType) → PlacesTold P Q → Leaves (StatementOf T P)
statement_leaves q t p = leaves_either (told_leaves (assign_told q t p)) (leaves_either (told_leaves live_told) (leaves_either (told_leaves dead_told) (leaves_either (leaves_made to_nothing (leaves_past (159 ∷ 160 ∷ []) refl (leaves_tok (10 ∷ []) refl)))
    (leaves_either (leaves_made to_mention (leaves_past (161 ∷ []) refl (leaves_past (1 ∷ []) refl (leaves_ended (10 ∷ []) refl (leaves_ended (2 ∷ []) refl (told_leaves p)))))) (told_leaves (variant_told p))))))
