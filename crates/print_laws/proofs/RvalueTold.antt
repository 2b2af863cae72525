-- The text of a rvalue reads again as this rvalue.
use Rattle.std.proofs.Common.{◌≡◌, inl, inr, ℕ, ◌≤◌, true, false, List, [], ◌∷◌, ◌++◌, length, codes, Option, Some, None, refl, arith, append_assoc, append-nil, rules}
use Rattle.std.specs.Str.{bytes_eq}
use Rattle.grammar_words.specs.Grammar.{Part}
use Rattle.grammar_words.specs.Classes.{inside, Tok}
use Rattle.mir_lex.specs.Tokens.{is_word}
use Rattle.mir_ir.specs.declared.types.Ty.{Ty}
use Rattle.mir_ir.specs.declared.tree.BinaryOp.{BinaryOp}
use Rattle.mir_ir.specs.declared.tree.BinaryOp.TheVariants as op
use Rattle.mir_ir.specs.declared.tree.CastKind.{CastKind}
use Rattle.mir_ir.specs.declared.tree.CastKind.TheVariants as cast
use Rattle.mir_ir.specs.declared.tree.Operand.{Operand}
use Rattle.mir_ir.specs.declared.tree.Rvalue.{Rvalue}
use Rattle.mir_ir.specs.declared.tree.Rvalue.TheVariants as rvalue
use Rattle.mir_ir.specs.Names.{name_of_binary, is_binary_named, binary_of_name}
use Rattle.mir_grammar.specs.declared.named.Named.{Named}
use Rattle.mir_grammar.specs.declared.limits.Limited.{Limited}
use Rattle.mir_grammar.specs.declared.trees.Placed.{Placed}
use Rattle.mir_grammar.specs.Lexemes.{Lexeme, class_of, sign, word}
use Rattle.mir_grammar.specs.Types.{Family, AnyType, any_word}
use Rattle.mir_grammar.specs.Values.{to_plain_kind, coercion, to_coercion, Kind, CastTo, to_used, Used, binary_or_add, to_binary, binaries, Binary}
use Rattle.canonical_text.specs.Types.{type_text}
use Rattle.canonical_text.specs.Operands.{operand_text}
use Rattle.canonical_text.specs.Rvalues.{kind_text, cast_text, binary_text, rvalue_text}
use Rattle.print_laws.proofs.Leads.{all_leads, word_follow}
use Rattle.print_laws.proofs.Fits as fits
use Rattle.print_laws.proofs.Fits.{Fits, fits_join, fits_wide}
use Rattle.print_laws.proofs.TypeTexts.{Retold, opening_inside, closing_inside, as_inside}
use Rattle.print_laws.proofs.PlaceTold.{PlacesTold, TypesTold, comma_inside}
use Rattle.print_laws.proofs.OperandTold.{operand_told}
use Rattle.print_laws.proofs.Told.{Telling, Told, told_made, told_wide, told_then, told_either, told_nothing, told_past, told_ended, Leaves, leaves_tok, leaves_made, leaves_then, leaves_either, leaves_nothing, leaves_past, leaves_ended, told_each_meaning}

abbrev pub value_of : Limited Rvalue → Rvalue
value_of v = v.value

abbrev pub ValuesTold : Part Lexeme (Limited Rvalue) → Part Lexeme (Limited Rvalue) → Type 0
ValuesTold R W = Told word_follow (1 ∷ 3 ∷ 7 ∷ []) R W value_of rvalue_text

-- Casts.

ints_inside : inside class_of (152 ∷ 153 ∷ []) (word (codes "IntToInt")) ≡ true
unfolding inside class_of
ints_inside = refl

ints_fits : Fits word_follow (1 ∷ []) (codes "IntToInt") (word (codes "IntToInt") ∷ [])
ints_fits = fits.written_word (codes "IntToInt") refl (omega arith) refl

pointers_inside : inside class_of (152 ∷ 153 ∷ []) (word (codes "PtrToPtr")) ≡ true
unfolding inside class_of
pointers_inside = refl

pointers_fits : Fits word_follow (1 ∷ []) (codes "PtrToPtr") (word (codes "PtrToPtr") ∷ [])
pointers_fits = fits.written_word (codes "PtrToPtr") refl (omega arith) refl

coercion_inside : inside class_of (154 ∷ []) (word (codes "PointerCoercion")) ≡ true
unfolding inside class_of
coercion_inside = refl

coercion_fits : Fits word_follow (1 ∷ []) (codes "PointerCoercion") (word (codes "PointerCoercion") ∷ [])
coercion_fits = fits.written_word (codes "PointerCoercion") refl (omega arith) refl

unsize_inside : inside class_of (155 ∷ 156 ∷ []) (word (codes "Unsize")) ≡ true
unfolding inside class_of
unsize_inside = refl

unsize_fits : Fits word_follow (1 ∷ []) (codes "Unsize") (word (codes "Unsize") ∷ [])
unsize_fits = fits.written_word (codes "Unsize") refl (omega arith) refl

to_const_inside : inside class_of (155 ∷ 156 ∷ []) (word (codes "MutToConstPointer")) ≡ true
unfolding inside class_of
to_const_inside = refl

to_const_fits : Fits word_follow (1 ∷ []) (codes "MutToConstPointer") (word (codes "MutToConstPointer") ∷ [])
to_const_fits = fits.written_word (codes "MutToConstPointer") refl (omega arith) refl

abbrev same_kind : CastKind → CastKind
same_kind k = k

abbrev KindTelling : CastKind → Type 0
KindTelling k = Telling word_follow (1 ∷ []) Kind same_kind (kind_text k) k

coerced : (k : CastKind) (text : List ℕ) → coercion text ≡ k → inside class_of (155 ∷ 156 ∷ []) (word text) ≡ true → (more : List Lexeme)
    → Kind ((word (codes "PointerCoercion") ∷ sign (codes "(") ∷ word text ∷ sign (codes ")") ∷ []) ++ more) k more
unfolding to_coercion
coerced k text e i more = inr (
  (word (codes "PointerCoercion"), k),
  refl,
  (
    sign (codes "(") ∷ word text ∷ sign (codes ")") ∷ more,
    (coercion_inside, refl),
    (
      (sign (codes "("), k),
      refl,
      (
        word text ∷ sign (codes ")") ∷ more,
        (opening_inside, refl),
        ((k, sign (codes ")")), refl, (sign (codes ")") ∷ more, ((word text, false), e, (sign (codes ")") ∷ more, (i, refl), inr (refl, refl))), (closing_inside, refl))),
      ),
    ),
  ),
)

kind_telling : (k : CastKind) → KindTelling k
unfolding to_plain_kind
kind_telling cast.IntToInt = record { lexemes = word (codes "IntToInt") ∷ []; value = cast.IntToInt; same = refl; reads = λ x. inl (word (codes "IntToInt"), refl, (ints_inside, refl)); fits = ints_fits }
kind_telling cast.PtrToPtr = record { lexemes = word (codes "PtrToPtr") ∷ []; value = cast.PtrToPtr; same = refl; reads = λ x. inl (word (codes "PtrToPtr"), refl, (pointers_inside, refl)); fits = pointers_fits }
kind_telling cast.Unsize = record {
  lexemes = word (codes "PointerCoercion") ∷ sign (codes "(") ∷ word (codes "Unsize") ∷ sign (codes ")") ∷ [];
  value = cast.Unsize;
  same = refl;
  reads = coerced cast.Unsize (codes "Unsize") refl unsize_inside;
  fits = fits_wide (fits_join coercion_fits (fits_join fits.opening (fits_join unsize_fits fits.closing refl) refl) refl) refl refl;
}
kind_telling cast.MutToConstPointer = record {
  lexemes = word (codes "PointerCoercion") ∷ sign (codes "(") ∷ word (codes "MutToConstPointer") ∷ sign (codes ")") ∷ [];
  value = cast.MutToConstPointer;
  same = refl;
  reads = coerced cast.MutToConstPointer (codes "MutToConstPointer") refl to_const_inside;
  fits = fits_wide (fits_join coercion_fits (fits_join fits.opening (fits_join to_const_fits fits.closing refl) refl) refl) refl refl;
}

kind_leaves : Leaves Kind
kind_leaves = leaves_either (leaves_made to_plain_kind (leaves_tok (152 ∷ 153 ∷ []) refl)) (leaves_past (154 ∷ []) refl (leaves_past (1 ∷ []) refl (leaves_ended (2 ∷ []) refl (leaves_made to_coercion
    (leaves_then (leaves_tok (155 ∷ 156 ∷ []) refl) (leaves_either (leaves_made (λ t. true) (leaves_past (9 ∷ []) refl (leaves_tok any_word refl))) (leaves_nothing false)))))))

kind_told : Told word_follow (1 ∷ []) Kind Kind same_kind kind_text
kind_told = told_each_meaning kind_telling kind_leaves

spaced_opening : Fits all_leads (7 ∷ []) (codes " (") (sign (codes "(") ∷ [])
spaced_opening = fits_join fits.fits_space fits.opening refl

abbrev cast_of : Option (Named × CastKind) → Option (Ty × CastKind)
cast_of None = None
cast_of (Some v) = Some (v.0.ty, v.1)

abbrev behind_text : Option (Ty × CastKind) → List ℕ
behind_text None = []
behind_text (Some v) = codes " as " ++ (type_text v.0 ++ (codes " (" ++ (kind_text v.1 ++ codes ")")))

cast_to_told : (T U : Family) → TypesTold (T AnyType) (U AnyType) → Told all_leads (7 ∷ []) (CastTo T) (CastTo U) cast_of behind_text
cast_to_told T U t = told_made Some cast_of Some behind_text (λ v. refl) (λ v. refl) (told_past (118 ∷ []) (word (codes "as")) as_inside refl fits.as_word
    (told_then t (told_past (1 ∷ []) (sign (codes "(")) opening_inside refl spaced_opening (told_ended (2 ∷ []) (sign (codes ")")) closing_inside refl fits.closing kind_told refl) refl) refl) refl)

abbrev used : Operand × Option (Ty × CastKind) → Rvalue
used (o, None) = rvalue.Use o
used (o, Some v) = rvalue.Cast o v.0 v.1

used_is : (v : Limited Operand × Option (Named × CastKind)) → value_of (to_used v) ≡ used (v.0.value, cast_of v.1)
unfolding to_used
used_is (o, None) = refl
used_is (o, Some v) = refl

six : (a b c d e f : List ℕ) → a ++ (b ++ (c ++ (d ++ (e ++ f)))) ≡ ((((a ++ b) ++ c) ++ d) ++ e) ++ f
six a b c d e f = search (rules, append_assoc)

used_text : (x : Operand × Option (Ty × CastKind)) → operand_text x.0 ++ behind_text x.1 ≡ rvalue_text (used x)
unfolding cast_text
used_text (o, None) = append-nil (operand_text o)
used_text (o, Some v) = six (operand_text o) (codes " as ") (type_text v.0) (codes " (") (kind_text v.1) (codes ")")

pub used_told : {T U : Family} {P Q : Part Lexeme Placed} → Retold T U → TypesTold (T AnyType) (U AnyType) → PlacesTold P Q → ValuesTold (Used T P) (Used U Q)
used_told {T} {U} q t p = told_made to_used value_of used rvalue_text used_is used_text (told_wide word_follow (1 ∷ 3 ∷ 7 ∷ []) refl refl
    (told_then (operand_told q p) (told_either word_follow (0 ∷ 3 ∷ 4 ∷ 5 ∷ 7 ∷ []) (cast_to_told T U t) (told_nothing word_follow None refl) refl refl refl refl) refl))

-- Operators.

record IsOperator (o : BinaryOp) : Type 0 where
  pub class : inside class_of binaries (word (name_of_binary o)) ≡ true
  pub word_like : is_word (name_of_binary o) ≡ true
  pub short : length (name_of_binary o) ≤ 256
  pub no_impl : bytes_eq (codes "impl") (name_of_binary o) ≡ false
  pub found : binary_or_add (binary_of_name (name_of_binary o)) ≡ o

operator : (o : BinaryOp) → IsOperator o
unfolding inside class_of name_of_binary is_binary_named
operator op.Add = record { class = refl; word_like = refl; short = omega arith; no_impl = refl; found = refl }
operator op.Sub = record { class = refl; word_like = refl; short = omega arith; no_impl = refl; found = refl }
operator op.Mul = record { class = refl; word_like = refl; short = omega arith; no_impl = refl; found = refl }
operator op.Div = record { class = refl; word_like = refl; short = omega arith; no_impl = refl; found = refl }
operator op.Rem = record { class = refl; word_like = refl; short = omega arith; no_impl = refl; found = refl }
operator op.BitXor = record { class = refl; word_like = refl; short = omega arith; no_impl = refl; found = refl }
operator op.BitAnd = record { class = refl; word_like = refl; short = omega arith; no_impl = refl; found = refl }
operator op.BitOr = record { class = refl; word_like = refl; short = omega arith; no_impl = refl; found = refl }
operator op.Shl = record { class = refl; word_like = refl; short = omega arith; no_impl = refl; found = refl }
operator op.Shr = record { class = refl; word_like = refl; short = omega arith; no_impl = refl; found = refl }
operator op.Eq = record { class = refl; word_like = refl; short = omega arith; no_impl = refl; found = refl }
operator op.Lt = record { class = refl; word_like = refl; short = omega arith; no_impl = refl; found = refl }
operator op.Le = record { class = refl; word_like = refl; short = omega arith; no_impl = refl; found = refl }
operator op.Ne = record { class = refl; word_like = refl; short = omega arith; no_impl = refl; found = refl }
operator op.Ge = record { class = refl; word_like = refl; short = omega arith; no_impl = refl; found = refl }
operator op.Gt = record { class = refl; word_like = refl; short = omega arith; no_impl = refl; found = refl }
operator op.Offset = record { class = refl; word_like = refl; short = omega arith; no_impl = refl; found = refl }
operator op.AddWithOverflow = record { class = refl; word_like = refl; short = omega arith; no_impl = refl; found = refl }
operator op.SubWithOverflow = record { class = refl; word_like = refl; short = omega arith; no_impl = refl; found = refl }
operator op.MulWithOverflow = record { class = refl; word_like = refl; short = omega arith; no_impl = refl; found = refl }

abbrev operator_of : Lexeme → BinaryOp
operator_of l = binary_or_add (binary_of_name l.text)

operator_told : Told word_follow (1 ∷ []) (Tok class_of binaries) (Tok class_of binaries) operator_of name_of_binary
operator_told = told_each_meaning (λ o. let i = operator o in record {
  lexemes = word (name_of_binary o) ∷ [];
  value = word (name_of_binary o);
  same = i.found;
  reads = λ k. (i.class, refl);
  fits = fits.written_word (name_of_binary o) i.word_like i.short i.no_impl;
}) (leaves_tok binaries refl)

abbrev binary : BinaryOp × (Operand × Operand) → Rvalue
binary x = rvalue.Binary x.0 x.1.0 x.1.1

five : (a b c d e f : List ℕ) → a ++ (b ++ (c ++ (d ++ (e ++ f)))) ≡ ((((a ++ b) ++ c) ++ d) ++ e) ++ f
five a b c d e f = search (rules, append_assoc)

binary_text_is : (x : BinaryOp × (Operand × Operand)) → name_of_binary x.0 ++ (codes "(" ++ (operand_text x.1.0 ++ (codes ", " ++ (operand_text x.1.1 ++ codes ")")))) ≡ rvalue_text (binary x)
unfolding binary_text
binary_text_is x = five (name_of_binary x.0) (codes "(") (operand_text x.1.0) (codes ", ") (operand_text x.1.1) (codes ")")

pub binary_told : {T U : Family} {P Q : Part Lexeme Placed} → Retold T U → PlacesTold P Q → ValuesTold (Binary T P) (Binary U Q)
unfolding to_binary
binary_told q p = told_made to_binary value_of binary rvalue_text (λ v. refl) binary_text_is (told_wide word_follow (1 ∷ 3 ∷ 7 ∷ []) refl refl
    (told_then operator_told (told_past (1 ∷ []) (sign (codes "(")) opening_inside refl fits.opening (told_then (operand_told q p) (told_past (9 ∷ []) (sign (codes ",")) comma_inside refl (fits.spaced fits.comma refl)
    (told_ended (2 ∷ []) (sign (codes ")")) closing_inside refl fits.closing (operand_told q p) refl) refl) refl) refl) refl))
