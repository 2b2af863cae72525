-- The text of a rvalue reads again as this rvalue: measures, references, arrays, tuples and paths.
use Rattle.std.proofs.Common.{◌≡◌, ℕ, Bool, true, false, if◌then◌else◌, List, [], ◌∷◌, ◌++◌, codes, refl, arith, append_assoc, rules}
use Rattle.std.specs.Str.{bytes_eq}
use Rattle.grammar_words.specs.Grammar.{Part, Made, Either}
use Rattle.grammar_words.specs.Classes.{inside, Tok, Past}
use Rattle.mir_ir.specs.declared.types.Ty.{Ty}
use Rattle.mir_ir.specs.declared.places.PlaceExpr.{PlaceExpr}
use Rattle.mir_ir.specs.declared.tree.Operand.{Operand}
use Rattle.mir_ir.specs.declared.tree.Rvalue.{Rvalue}
use Rattle.mir_ir.specs.declared.tree.Rvalue.TheVariants as rvalue
use Rattle.mir_grammar.specs.declared.named.Named.{Named}
use Rattle.mir_grammar.specs.declared.limits.Limited.{Limited}
use Rattle.mir_grammar.specs.declared.trees.Placed.{Placed}
use Rattle.mir_grammar.specs.Lexemes.{Lexeme, class_of, sign, word}
use Rattle.mir_grammar.specs.Types.{Family, AnyType}
use Rattle.mir_grammar.specs.Values.{to_unary, Unary, to_measured, Measured, to_sized, Sized, to_ref_of, to_raw_of, mutable, immutable, Reference, Operator}
use Rattle.canonical_text.specs.Types.{type_text}
use Rattle.canonical_text.specs.Places.{place_text}
use Rattle.canonical_text.specs.Operands.{operand_text}
use Rattle.canonical_text.specs.Rvalues.{applied, rvalue_text}
use Rattle.print_laws.proofs.Leads.{word_follow}
use Rattle.print_laws.proofs.Fits as fits
use Rattle.print_laws.proofs.Fits.{Fits, fits_join, fits_wide, fits_text, fits_none}
use Rattle.print_laws.proofs.TypeTexts.{Retold, opening_inside, closing_inside, mut_inside, const_inside, ampersand_inside}
use Rattle.print_laws.proofs.PlaceTold.{PlacesTold, TypesTold}
use Rattle.print_laws.proofs.OperandTold.{operand_told}
use Rattle.print_laws.proofs.RvalueTold.{value_of, ValuesTold, binary_told}
use Rattle.print_laws.proofs.Told.{Telling, Told, told_made, told_wide, told_then, told_either, told_past, told_ended, told_past_made, told_past_either, leaves_tok, told_each_meaning}

len_inside : inside class_of (147 ∷ 148 ∷ []) (word (codes "Len")) ≡ true
unfolding inside class_of
len_inside = refl

len_fits : Fits word_follow (1 ∷ []) (codes "Len") (word (codes "Len") ∷ [])
len_fits = fits.written_word (codes "Len") refl (omega arith) refl

discriminant_inside : inside class_of (147 ∷ 148 ∷ []) (word (codes "discriminant")) ≡ true
unfolding inside class_of
discriminant_inside = refl

discriminant_fits : Fits word_follow (1 ∷ []) (codes "discriminant") (word (codes "discriminant") ∷ [])
discriminant_fits = fits.written_word (codes "discriminant") refl (omega arith) refl

size_inside : inside class_of (149 ∷ 150 ∷ []) (word (codes "SizeOf")) ≡ true
unfolding inside class_of
size_inside = refl

size_fits : Fits word_follow (1 ∷ []) (codes "SizeOf") (word (codes "SizeOf") ∷ [])
size_fits = fits.written_word (codes "SizeOf") refl (omega arith) refl

align_inside : inside class_of (149 ∷ 150 ∷ []) (word (codes "AlignOf")) ≡ true
unfolding inside class_of
align_inside = refl

align_fits : Fits word_follow (1 ∷ []) (codes "AlignOf") (word (codes "AlignOf") ∷ [])
align_fits = fits.written_word (codes "AlignOf") refl (omega arith) refl

not_inside : inside class_of (144 ∷ 145 ∷ 146 ∷ []) (word (codes "Not")) ≡ true
unfolding inside class_of
not_inside = refl

not_fits : Fits word_follow (1 ∷ []) (codes "Not") (word (codes "Not") ∷ [])
not_fits = fits.written_word (codes "Not") refl (omega arith) refl

neg_inside : inside class_of (144 ∷ 145 ∷ 146 ∷ []) (word (codes "Neg")) ≡ true
unfolding inside class_of
neg_inside = refl

neg_fits : Fits word_follow (1 ∷ []) (codes "Neg") (word (codes "Neg") ∷ [])
neg_fits = fits.written_word (codes "Neg") refl (omega arith) refl

metadata_inside : inside class_of (144 ∷ 145 ∷ 146 ∷ []) (word (codes "PtrMetadata")) ≡ true
unfolding inside class_of
metadata_inside = refl

metadata_fits : Fits word_follow (1 ∷ []) (codes "PtrMetadata") (word (codes "PtrMetadata") ∷ [])
metadata_fits = fits.written_word (codes "PtrMetadata") refl (omega arith) refl

raw_inside : inside class_of (151 ∷ []) (word (codes "raw")) ≡ true
unfolding inside class_of
raw_inside = refl

raw_fits : Fits word_follow (1 ∷ []) (codes "raw") (word (codes "raw") ∷ [])
raw_fits = fits.written_word (codes "raw") refl (omega arith) refl

-- A word and what it is of, in parentheses.

pub four : (a b c d : List ℕ) → a ++ (b ++ (c ++ d)) ≡ ((a ++ b) ++ c) ++ d
four a b c d = search (rules, append_assoc)

pub applied_is : (w inner : List ℕ) → w ++ (codes "(" ++ (inner ++ codes ")")) ≡ applied w inner
unfolding applied
applied_is w inner = four w (codes "(") inner (codes ")")

-- Len or discriminant
abbrev is_len : Lexeme → Bool
is_len l = bytes_eq (codes "Len") l.text

abbrev measure_word : Bool → List ℕ
measure_word true = codes "Len"
measure_word false = codes "discriminant"

measure_telling : (b : Bool) → Telling word_follow (1 ∷ []) (Tok class_of (147 ∷ 148 ∷ [])) is_len (measure_word b) b
measure_telling true = record { lexemes = word (codes "Len") ∷ []; value = word (codes "Len"); same = refl; reads = λ k. (len_inside, refl); fits = len_fits }
measure_telling false = record { lexemes = word (codes "discriminant") ∷ []; value = word (codes "discriminant"); same = refl; reads = λ k. (discriminant_inside, refl); fits = discriminant_fits }

abbrev measured : Bool × PlaceExpr → Rvalue
measured (true, p) = rvalue.Len p
measured (false, p) = rvalue.Discriminant p

measured_by : (b : Bool) (p : PlaceExpr) → (if b then rvalue.Len p else rvalue.Discriminant p) ≡ measured (b, p)
measured_by true p = refl
measured_by false p = refl

measured_is : (v : Lexeme × Placed) → value_of (to_measured v) ≡ measured (is_len v.0, v.1.place)
unfolding to_measured
measured_is v = measured_by (is_len v.0) v.1.place

measured_text : (x : Bool × PlaceExpr) → measure_word x.0 ++ (codes "(" ++ (place_text x.1 ++ codes ")")) ≡ rvalue_text (measured x)
measured_text (true, p) = applied_is (codes "Len") (place_text p)
measured_text (false, p) = applied_is (codes "discriminant") (place_text p)

measured_told : {P Q : Part Lexeme Placed} → PlacesTold P Q → ValuesTold (Measured P) (Measured Q)
measured_told p = told_made to_measured value_of measured rvalue_text measured_is measured_text (told_wide word_follow (1 ∷ 3 ∷ 7 ∷ []) refl refl (told_then (told_each_meaning measure_telling (leaves_tok (147 ∷ 148 ∷ []) refl))
    (told_past (1 ∷ []) (sign (codes "(")) opening_inside refl fits.opening (told_ended (2 ∷ []) (sign (codes ")")) closing_inside refl fits.closing p refl) refl) refl))

-- SizeOf or AlignOf
abbrev is_size : Lexeme → Bool
is_size l = bytes_eq (codes "SizeOf") l.text

abbrev size_word : Bool → List ℕ
size_word true = codes "SizeOf"
size_word false = codes "AlignOf"

size_telling : (b : Bool) → Telling word_follow (1 ∷ []) (Tok class_of (149 ∷ 150 ∷ [])) is_size (size_word b) b
size_telling true = record { lexemes = word (codes "SizeOf") ∷ []; value = word (codes "SizeOf"); same = refl; reads = λ k. (size_inside, refl); fits = size_fits }
size_telling false = record { lexemes = word (codes "AlignOf") ∷ []; value = word (codes "AlignOf"); same = refl; reads = λ k. (align_inside, refl); fits = align_fits }

abbrev sized : Bool × Ty → Rvalue
sized (true, t) = rvalue.SizeOf t
sized (false, t) = rvalue.AlignOf t

sized_by : (b : Bool) (t : Ty) → (if b then rvalue.SizeOf t else rvalue.AlignOf t) ≡ sized (b, t)
sized_by true t = refl
sized_by false t = refl

sized_is : (v : Lexeme × Named) → value_of (to_sized v) ≡ sized (is_size v.0, v.1.ty)
unfolding to_sized
sized_is v = sized_by (is_size v.0) v.1.ty

sized_text : (x : Bool × Ty) → size_word x.0 ++ (codes "(" ++ (type_text x.1 ++ codes ")")) ≡ rvalue_text (sized x)
sized_text (true, t) = applied_is (codes "SizeOf") (type_text t)
sized_text (false, t) = applied_is (codes "AlignOf") (type_text t)

sized_told : (T U : Family) → TypesTold (T AnyType) (U AnyType) → ValuesTold (Sized T) (Sized U)
sized_told T U t = told_made to_sized value_of sized rvalue_text sized_is sized_text (told_wide word_follow (1 ∷ 3 ∷ 7 ∷ []) refl refl (told_then (told_each_meaning size_telling (leaves_tok (149 ∷ 150 ∷ []) refl))
    (told_past (1 ∷ []) (sign (codes "(")) opening_inside refl fits.opening (told_ended (2 ∷ []) (sign (codes ")")) closing_inside refl fits.closing t refl) refl) refl))

-- Not, Neg or PtrMetadata
data Unaries : Type 0 where
  Nots : Unaries
  Negs : Unaries
  Metadatas : Unaries

abbrev unary_by : Bool → Bool → Unaries
unary_by true neg = Nots
unary_by false true = Negs
unary_by false false = Metadatas

abbrev unary_of : Lexeme → Unaries
unary_of l = unary_by (bytes_eq (codes "Not") l.text) (bytes_eq (codes "Neg") l.text)

abbrev unary_word : Unaries → List ℕ
unary_word Nots = codes "Not"
unary_word Negs = codes "Neg"
unary_word Metadatas = codes "PtrMetadata"

unary_telling : (u : Unaries) → Telling word_follow (1 ∷ []) (Tok class_of (144 ∷ 145 ∷ 146 ∷ [])) unary_of (unary_word u) u
unary_telling Nots = record { lexemes = word (codes "Not") ∷ []; value = word (codes "Not"); same = refl; reads = λ k. (not_inside, refl); fits = not_fits }
unary_telling Negs = record { lexemes = word (codes "Neg") ∷ []; value = word (codes "Neg"); same = refl; reads = λ k. (neg_inside, refl); fits = neg_fits }
unary_telling Metadatas = record { lexemes = word (codes "PtrMetadata") ∷ []; value = word (codes "PtrMetadata"); same = refl; reads = λ k. (metadata_inside, refl); fits = metadata_fits }

abbrev unary : Unaries × Operand → Rvalue
unary (Nots, o) = rvalue.Not o
unary (Negs, o) = rvalue.Neg o
unary (Metadatas, o) = rvalue.PtrMetadata o

unary_is_by : (a b : Bool) (o : Operand) → (if a then rvalue.Not o else (if b then rvalue.Neg o else rvalue.PtrMetadata o)) ≡ unary (unary_by a b, o)
unary_is_by true b o = refl
unary_is_by false true o = refl
unary_is_by false false o = refl

unary_is : (v : Lexeme × Limited Operand) → value_of (to_unary v) ≡ unary (unary_of v.0, v.1.value)
unfolding to_unary
unary_is v = unary_is_by (bytes_eq (codes "Not") v.0.text) (bytes_eq (codes "Neg") v.0.text) v.1.value

unary_text : (x : Unaries × Operand) → unary_word x.0 ++ (codes "(" ++ (operand_text x.1 ++ codes ")")) ≡ rvalue_text (unary x)
unary_text (Nots, o) = applied_is (codes "Not") (operand_text o)
unary_text (Negs, o) = applied_is (codes "Neg") (operand_text o)
unary_text (Metadatas, o) = applied_is (codes "PtrMetadata") (operand_text o)

unary_told : {T U : Family} {P Q : Part Lexeme Placed} → Retold T U → PlacesTold P Q → ValuesTold (Unary T P) (Unary U Q)
unary_told q p = told_made to_unary value_of unary rvalue_text unary_is unary_text (told_wide word_follow (1 ∷ 3 ∷ 7 ∷ []) refl refl (told_then (told_each_meaning unary_telling (leaves_tok (144 ∷ 145 ∷ 146 ∷ []) refl))
    (told_past (1 ∷ []) (sign (codes "(")) opening_inside refl fits.opening (told_ended (2 ∷ []) (sign (codes ")")) closing_inside refl fits.closing (operand_told q p) refl) refl) refl))

pub operator_told : {T U : Family} {P Q : Part Lexeme Placed} → Retold T U → TypesTold (T AnyType) (U AnyType) → PlacesTold P Q → ValuesTold (Operator T P) (Operator U Q)
operator_told {T} {U} q t p = told_either word_follow (1 ∷ 3 ∷ 7 ∷ []) (binary_told q p) (told_either word_follow (1 ∷ 3 ∷ 7 ∷ []) (unary_told q p) (told_either word_follow (1 ∷ 3 ∷ 7 ∷ []) (measured_told p) (sized_told T U t) refl refl refl refl) refl refl refl refl) refl refl refl refl

-- References.

abbrev marked_place : Bool × Placed → Bool × PlaceExpr
marked_place v = (v.0, v.1.place)

abbrev mut_text : Bool × PlaceExpr → List ℕ
mut_text (true, p) = codes "mut " ++ place_text p
mut_text (false, p) = place_text p

abbrev raw_place_text : Bool × PlaceExpr → List ℕ
raw_place_text (true, p) = codes "mut " ++ place_text p
raw_place_text (false, p) = codes "const " ++ place_text p

ref_text_is : (x : Bool × PlaceExpr) → codes "&" ++ mut_text x ≡ rvalue_text (rvalue.RefOf x.0 x.1)
ref_text_is (true, p) = refl
ref_text_is (false, p) = refl

raw_text_is : (x : Bool × PlaceExpr) → codes "&" ++ (codes "raw " ++ raw_place_text x) ≡ rvalue_text (rvalue.RawOf x.0 x.1)
raw_text_is (true, p) = refl
raw_text_is (false, p) = refl

mut_told : {P Q : Part Lexeme Placed} → PlacesTold P Q → Told word_follow (1 ∷ 7 ∷ []) (Either (Made mutable (Past class_of (117 ∷ []) P)) (Made immutable P)) (Either (Made mutable (Past class_of (117 ∷ []) Q)) (Made immutable Q)) marked_place mut_text
mut_told p = told_either word_follow (1 ∷ 7 ∷ []) (told_made mutable marked_place (λ x. (true, x)) mut_text (λ x. refl) (λ x. refl) (told_past (117 ∷ []) (word (codes "mut")) mut_inside refl fits.mut_word p refl))
    (told_made immutable marked_place (λ x. (false, x)) mut_text (λ x. refl) (λ x. refl) p) refl refl refl refl

raw_told : {P Q : Part Lexeme Placed} → PlacesTold P Q → Told word_follow (1 ∷ []) (Either (Made mutable (Past class_of (117 ∷ []) P)) (Made immutable (Past class_of (116 ∷ []) P))) (Either (Made mutable (Past class_of (117 ∷ []) Q)) (Made immutable (Past class_of (116 ∷ []) Q))) marked_place raw_place_text
raw_told p = told_either word_follow (1 ∷ []) (told_made mutable marked_place (λ x. (true, x)) raw_place_text (λ x. refl) (λ x. refl) (told_past (117 ∷ []) (word (codes "mut")) mut_inside refl fits.mut_word p refl))
    (told_made immutable marked_place (λ x. (false, x)) raw_place_text (λ x. refl) (λ x. refl) (told_past (116 ∷ []) (word (codes "const")) const_inside refl fits.const_word p refl)) refl refl refl refl

abbrev Muts : Part Lexeme Placed → Part Lexeme (Bool × Placed)
Muts P = Either (Made mutable (Past class_of (117 ∷ []) P)) (Made immutable P)

abbrev Raws : Part Lexeme Placed → Part Lexeme (Bool × Placed)
Raws P = Past class_of (151 ∷ []) (Either (Made mutable (Past class_of (117 ∷ []) P)) (Made immutable (Past class_of (116 ∷ []) P)))

pub reference_told : {P Q : Part Lexeme Placed} → PlacesTold P Q → ValuesTold (Reference P) (Reference Q)
unfolding to_raw_of to_ref_of
reference_told {P} {Q} p = told_past_either (15 ∷ []) (Made to_raw_of (Raws P)) (Made to_ref_of (Muts P)) (Made to_raw_of (Raws Q)) (Made to_ref_of (Muts Q)) (told_either word_follow (1 ∷ 3 ∷ 7 ∷ [])
    (told_past_made (15 ∷ []) (Raws P) (Raws Q) to_raw_of (told_made to_raw_of value_of (λ x. rvalue.RawOf x.0 x.1) rvalue_text (λ v. refl) raw_text_is
    (told_past (15 ∷ []) (sign (codes "&")) ampersand_inside refl fits.ampersand (told_past (151 ∷ []) (word (codes "raw")) raw_inside refl (fits.spaced raw_fits refl) (raw_told p) refl) refl)))
    (told_past_made (15 ∷ []) (Muts P) (Muts Q) to_ref_of (told_made to_ref_of value_of (λ x. rvalue.RefOf x.0 x.1) rvalue_text (λ v. refl) ref_text_is
    (told_past (15 ∷ []) (sign (codes "&")) ampersand_inside refl fits.ampersand (mut_told p) refl))) refl refl refl refl)
