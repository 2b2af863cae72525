-- Operators as operations of terms.
use Rattle.std.proofs.Common.{◌≡◌, ℕ, ◌<◌, ◌==◌, ◌&&◌, not, Bool, true, false, cond, List, length, IsTrue, subst, sym, ap, ◌∙◌, refl}
use Rattle.std.specs.Prelude.{Result, Ok, Err}
use Rattle.std.proofs.lemmas.Bool.{eq-eqb}
use Rattle.vk_core.specs.declared.check.CheckClass.{CheckClass}
use Rattle.vk_core.specs.declared.check.CheckClass.TheVariants as class
use Rattle.word_bits.specs.declared.word.Word.{Word}
use Rattle.word_bits.specs.Words.{IsWord, complement, is_lawful, is_less}
use Rattle.mir_ir.specs.declared.tree.BinaryOp.{BinaryOp}
use Rattle.mir_ir.specs.declared.tree.BinaryOp.TheVariants as op
use Rattle.sym_terms.specs.declared.term.Term.{Term}
use Rattle.sym_terms.specs.declared.term.TermOp.{TermOp}
use Rattle.sym_terms.specs.Ops.{is_binary, is_shift as is_term_shift, is_test}
use Rattle.sym_terms.specs.Terms.{AreOperands, IsValue, Keeps, applied, is_shift_width, op_width, truth, value, width_of}
use Rattle.scalar_runs.specs.Kinds.{is_word}
use Rattle.scalar_runs.specs.Operators.{are_operands, is_shift, lawful, operated, operator_value, truth as truth_of}
use Rattle.scalar_runs.proofs.OperandLaws.{both_true, test_of_word}
use Rattle.value_terms.specs.declared.operators.OpTerms.{OpTerms}
use Rattle.value_terms.specs.Made.{IsMade, IsTest, holds}
use Rattle.value_terms.specs.Operators.{FitsOperator, IsOperator, OperatorIs, divides, inverted, is_inverted, is_scalar_op, is_swapped, lawful_op, lawful_value, result_width, term_op, word_value}
use Rattle.value_terms.proofs.MadeLaws.{bit_kept, bit_of_truth, grown_trans, holds_kept}

-- the operation is a shift where the operator is
shift_of : (o : BinaryOp) (signed : Bool) → is_term_shift (term_op o signed) ≡ is_shift o
shift_of op.Add signed = refl
shift_of op.Sub signed = refl
shift_of op.Mul signed = refl
shift_of op.Div true = refl
shift_of op.Div false = refl
shift_of op.Rem true = refl
shift_of op.Rem false = refl
shift_of op.BitXor signed = refl
shift_of op.BitAnd signed = refl
shift_of op.BitOr signed = refl
shift_of op.Shl signed = refl
shift_of op.Shr true = refl
shift_of op.Shr false = refl
shift_of op.Eq signed = refl
shift_of op.Lt true = refl
shift_of op.Lt false = refl
shift_of op.Le true = refl
shift_of op.Le false = refl
shift_of op.Ne signed = refl
shift_of op.Ge true = refl
shift_of op.Ge false = refl
shift_of op.Gt true = refl
shift_of op.Gt false = refl
shift_of op.Offset signed = refl
shift_of op.AddWithOverflow signed = refl
shift_of op.SubWithOverflow signed = refl
shift_of op.MulWithOverflow signed = refl

true_of : (b : Bool) → IsTrue b → b ≡ true
true_of b h = h

pub operands_fit : (count : ℕ) (w : ℕ → ℕ) (o : BinaryOp) (signed : Bool) (a b : ℕ) → a < count → b < count → FitsOperator o (w a) (w b) → AreOperands count w (term_op o signed) a b
operands_fit count w o signed a b ha hb fits =
    (ha, λ binary. hb, λ shift. fits.shift (sym (shift_of o signed) ∙ true_of _ shift), λ binary plain. fits.plain (sym (shift_of o signed) ∙ plain))

-- a swapped operator is no shift
swapped_plain : (o : BinaryOp) → is_swapped o ≡ true → is_shift o ≡ false
swapped_plain op.Gt h = refl
swapped_plain op.Le h = refl
swapped_plain _ h = cc

pub swapped_fit : (count : ℕ) (w : ℕ → ℕ) (o : BinaryOp) (signed : Bool) (a b : ℕ) → is_swapped o ≡ true → a < count → b < count → FitsOperator o (w a) (w b) → AreOperands count w (term_op o signed) b a
swapped_fit count w o signed a b swapped ha hb fits =
    let same : w b ≡ w a = fits.plain (swapped_plain o swapped) in
    operands_fit count w o signed b a hb ha (record { scalar = fits.scalar; plain = λ plain. sym same; shift = λ shift. subst (λ n. IsTrue (is_shift_width n)) (sym same) (fits.shift shift) })

-- an operator that is inverted is a test
pub inverted_test : (o : BinaryOp) (signed : Bool) (w : ℕ) → is_inverted o ≡ true → result_width o signed w ≡ 1
inverted_test op.Ne signed w h = refl
inverted_test op.Ge true w h = refl
inverted_test op.Ge false w h = refl
inverted_test op.Le true w h = refl
inverted_test op.Le false w h = refl
inverted_test _ signed w h = cc

-- what a truth value and a word say of a result
abbrev pub OperatedIs : Bool → Word → Result Word CheckClass → Type 0
OperatedIs t w (Ok v) = (t ≡ true) × (w ≡ v)
OperatedIs t w (Err c) = (c ≡ class.Division) × (t ≡ false)

lawful_is : (t : Bool) (q zero : Word) → OperatedIs t (cond t q zero) (cond t (Ok q) (Err class.Division))
lawful_is true q zero = (refl, refl)
lawful_is false q zero = (refl, refl)

turned : (t : Bool) → complement (truth t) ≡ truth_of (not t)
turned true = refl
turned false = refl

pub operated_is : (o : BinaryOp) (signed : Bool) (a b : Word) → is_scalar_op o ≡ true → OperatedIs (lawful_value o signed a b) (word_value o signed a b) (operated o signed a b)
operated_is op.Add signed a b h = (refl, refl)
operated_is op.Sub signed a b h = (refl, refl)
operated_is op.Mul signed a b h = (refl, refl)
operated_is op.Div true a b h = lawful_is (is_lawful a b true) _ _
operated_is op.Div false a b h = lawful_is (is_lawful a b false) _ _
operated_is op.Rem true a b h = lawful_is (is_lawful a b true) _ _
operated_is op.Rem false a b h = lawful_is (is_lawful a b false) _ _
operated_is op.BitXor signed a b h = (refl, refl)
operated_is op.BitAnd signed a b h = (refl, refl)
operated_is op.BitOr signed a b h = (refl, refl)
operated_is op.Shl signed a b h = (refl, refl)
operated_is op.Shr true a b h = (refl, refl)
operated_is op.Shr false a b h = (refl, refl)
operated_is op.Eq signed a b h = (refl, refl)
operated_is op.Lt true a b h = (refl, refl)
operated_is op.Lt false a b h = (refl, refl)
operated_is op.Le true a b h = (refl, turned (is_less b a true))
operated_is op.Le false a b h = (refl, turned (is_less b a false))
operated_is op.Ne signed a b h = (refl, turned (a.value == b.value))
operated_is op.Ge true a b h = (refl, turned (is_less a b true))
operated_is op.Ge false a b h = (refl, turned (is_less a b false))
operated_is op.Gt true a b h = (refl, refl)
operated_is op.Gt false a b h = (refl, refl)
operated_is op.Offset signed a b h = cc
operated_is op.AddWithOverflow signed a b h = cc
operated_is op.SubWithOverflow signed a b h = cc
operated_is op.MulWithOverflow signed a b h = cc

-- words of fitting widths are operands
widths_fit : (o : BinaryOp) (a b : Word) → (is_shift o ≡ false → b.width ≡ a.width) → (t : Bool) → is_shift o ≡ t → cond t true (b.width == a.width) ≡ true
widths_fit o a b fit true e = refl
widths_fit o a b fit false e = eq-eqb b.width a.width (fit e)

pub words_are_operands : (o : BinaryOp) (a b : Word) → IsWord a → IsWord b → (is_shift o ≡ false → b.width ≡ a.width) → are_operands o a b ≡ true
words_are_operands o a b ha hb fit =
    both_true (is_word a && is_word b) (cond (is_shift o) true (b.width == a.width)) (both_true (is_word a) (is_word b) (test_of_word a ha) (test_of_word b hb)) (widths_fit o a b fit (is_shift o) refl)

pub operator_is : (o : BinaryOp) (signed : Bool) (a b : Word) → IsWord a → IsWord b → FitsOperator o a.width b.width → OperatedIs (lawful_value o signed a b) (word_value o signed a b) (operator_value o signed a b)
operator_is o signed a b ha hb fits =
    subst (λ t. OperatedIs (lawful_value o signed a b) (word_value o signed a b) (cond t (operated o signed a b) (Err class.Invalid))) (sym (words_are_operands o a b ha hb fits.plain)) (operated_is o signed a b fits.scalar)

-- and so terms that have these values say the same
pub terms_say : (terms : List Term) (inputs : ℕ → ℕ) (t : OpTerms) (l : Bool) (w : Word) (r : Result Word CheckClass) → holds terms inputs t.lawful.0 ≡ l → value terms inputs t.word.0 ≡ w → OperatedIs l w r → OperatorIs terms inputs t r
terms_say terms inputs t l w (Ok v) lawful word is = (lawful ∙ is.0, word ∙ is.1)
terms_say terms inputs t l w (Err c) lawful word is = (is.0, lawful ∙ is.1)

pub operator_made : (old mid new : List Term) (o : BinaryOp) (signed : Bool) (a b : ℕ) (t : OpTerms) → a < length old → b < length old → FitsOperator o (width_of old a) (width_of old b)
    → ((inputs : ℕ → ℕ) → IsValue old inputs a) → ((inputs : ℕ → ℕ) → IsValue old inputs b)
    → IsTest old mid t.lawful.0 (λ inputs. lawful_value o signed (value old inputs a) (value old inputs b))
    → IsMade mid new t.word.0 (result_width o signed (width_of mid a)) (λ inputs. word_value o signed (value mid inputs a) (value mid inputs b)) → IsOperator old new o signed a b t
operator_made old mid new o signed a b t ha hb fits va vb lawful word = record {
  grown = grown_trans old mid new lawful.grown word.grown;
  lawful = bit_kept mid new t.lawful.0 word.grown.keeps lawful.bit;
  inside = word.inside;
  width_is = word.width_is ∙ ap (result_width o signed) (lawful.grown.keeps.widths_kept a ha);
  is = λ inputs. terms_say new inputs t _ _ _
      (holds_kept mid new inputs t.lawful.0 word.grown.keeps lawful.bit.inside ∙ lawful.holds_is inputs)
      (word.value_is inputs ∙ ap (λ x. word_value o signed x (value mid inputs b)) (lawful.grown.keeps.values_kept inputs a ha) ∙ ap (λ y. word_value o signed (value old inputs a) y) (lawful.grown.keeps.values_kept inputs b hb))
      (operator_is o signed (value old inputs a) (value old inputs b) (va inputs).is_word (vb inputs).is_word
      (subst (λ n. FitsOperator o n (value old inputs b).width) (sym (va inputs).width_is) (subst (λ n. FitsOperator o (width_of old a) n) (sym (vb inputs).width_is) fits)));
}

-- the widths of the operands in later terms
pub fits_later : (old mid : List Term) (o : BinaryOp) (a b : ℕ) → Keeps old mid → a < length old → b < length old → FitsOperator o (width_of old a) (width_of old b) → FitsOperator o (width_of mid a) (width_of mid b)
fits_later old mid o a b keeps ha hb fits =
    subst (λ n. FitsOperator o n (width_of mid b)) (sym (keeps.widths_kept a ha)) (subst (λ n. FitsOperator o (width_of old a) n) (sym (keeps.widths_kept b hb)) fits)

-- the operation in the order of the operands
pub applied_swapped : (old new : List Term) (o : BinaryOp) (signed : Bool) (a b id : ℕ) (t : TermOp) → t ≡ term_op o signed → is_swapped o ≡ true → FitsOperator o (width_of old a) (width_of old b)
    → IsMade old new id (op_width t (width_of old b)) (λ inputs. applied t (value old inputs b) (value old inputs a))
    → IsMade old new id (result_width o signed (width_of old a)) (λ inputs. applied (term_op o signed) (cond (is_swapped o) (value old inputs b) (value old inputs a)) (cond (is_swapped o) (value old inputs a) (value old inputs b)))
applied_swapped old new o signed a b id t e swapped fits made = record {
  grown = made.grown;
  inside = made.inside;
  width_is = made.width_is ∙ ap (λ x. op_width x (width_of old b)) e ∙ ap (result_width o signed) (fits.plain (swapped_plain o swapped));
  value_is = λ inputs. made.value_is inputs ∙ ap (λ x. applied x (value old inputs b) (value old inputs a)) e
      ∙ ap (λ s. applied (term_op o signed) (cond s (value old inputs b) (value old inputs a)) (cond s (value old inputs a) (value old inputs b))) (sym swapped);
}

pub applied_plain : (old new : List Term) (o : BinaryOp) (signed : Bool) (a b id : ℕ) (t : TermOp) → t ≡ term_op o signed → is_swapped o ≡ false
    → IsMade old new id (op_width t (width_of old a)) (λ inputs. applied t (value old inputs a) (value old inputs b))
    → IsMade old new id (result_width o signed (width_of old a)) (λ inputs. applied (term_op o signed) (cond (is_swapped o) (value old inputs b) (value old inputs a)) (cond (is_swapped o) (value old inputs a) (value old inputs b)))
applied_plain old new o signed a b id t e plain made = record {
  grown = made.grown;
  inside = made.inside;
  width_is = made.width_is ∙ ap (λ x. op_width x (width_of old a)) e;
  value_is = λ inputs. made.value_is inputs ∙ ap (λ x. applied x (value old inputs a) (value old inputs b)) e
      ∙ ap (λ s. applied (term_op o signed) (cond s (value old inputs b) (value old inputs a)) (cond s (value old inputs a) (value old inputs b))) (sym plain);
}

-- and its complement, where the operator is inverted
pub word_inverted : (old mid new : List Term) (o : BinaryOp) (width plain id : ℕ) (x : (ℕ → ℕ) → Word) → is_inverted o ≡ true → IsMade old mid plain width x
    → IsMade mid new id (width_of mid plain) (λ inputs. complement (value mid inputs plain)) → IsMade old new id width (λ inputs. inverted (is_inverted o) (x inputs))
word_inverted old mid new o width plain id x e first second = record {
  grown = grown_trans old mid new first.grown second.grown;
  inside = second.inside;
  width_is = second.width_is ∙ first.width_is;
  value_is = λ inputs. second.value_is inputs ∙ ap complement (first.value_is inputs) ∙ ap (λ t. inverted t (x inputs)) (sym e);
}

pub word_plain : (old new : List Term) (o : BinaryOp) (width id : ℕ) (x : (ℕ → ℕ) → Word) → is_inverted o ≡ false → IsMade old new id width x → IsMade old new id width (λ inputs. inverted (is_inverted o) (x inputs))
word_plain old new o width id x e made = record {
  grown = made.grown;
  inside = made.inside;
  width_is = made.width_is;
  value_is = λ inputs. made.value_is inputs ∙ ap (λ t. inverted t (x inputs)) (sym e);
}

-- the operation of an operator that is known
pub op_at : (o p : BinaryOp) (signed t : Bool) → o ≡ p → signed ≡ t → term_op p t ≡ term_op o signed
op_at o p signed t e f = sym (ap (λ x. term_op x signed) e ∙ ap (term_op p) f)

pub lawful_at : (signed t : Bool) → signed ≡ t → lawful_op t ≡ lawful_op signed
lawful_at signed t e = sym (ap lawful_op e)

lawful_binary : (signed : Bool) → (is_binary (lawful_op signed) ≡ true) × (is_term_shift (lawful_op signed) ≡ false) × (is_test (lawful_op signed) ≡ true)
lawful_binary true = (refl, refl, refl)
lawful_binary false = (refl, refl, refl)

division_plain : (o : BinaryOp) → divides o ≡ true → is_shift o ≡ false
division_plain op.Div h = refl
division_plain op.Rem h = refl
division_plain _ h = cc

none_true : (b : Bool) → b ≡ false → b ≡ true → ⊥
none_true b e f = cc

pub lawful_fit : (count : ℕ) (w : ℕ → ℕ) (o : BinaryOp) (signed : Bool) (a b : ℕ) (t : TermOp) → t ≡ lawful_op signed → divides o ≡ true → a < count → b < count → FitsOperator o (w a) (w b) → AreOperands count w t a b
lawful_fit count w o signed a b t e division ha hb fits =
    subst (λ x. AreOperands count w x a b) (sym e)
    (ha, λ binary. hb, λ shift. absurd (none_true _ (lawful_binary signed).1 (true_of _ shift)), λ binary plain. fits.plain (division_plain o division))

lawful_applied : (signed : Bool) (a b : Word) → applied (lawful_op signed) a b ≡ truth (is_lawful a b signed)
lawful_applied true a b = refl
lawful_applied false a b = refl

lawful_width : (signed : Bool) (w : ℕ) → op_width (lawful_op signed) w ≡ 1
lawful_width true w = refl
lawful_width false w = refl

pub lawful_test : (old new : List Term) (o : BinaryOp) (signed : Bool) (a b id : ℕ) (t : TermOp) → t ≡ lawful_op signed → divides o ≡ true
    → IsMade old new id (op_width t (width_of old a)) (λ inputs. applied t (value old inputs a) (value old inputs b)) → IsTest old new id (λ inputs. lawful_value o signed (value old inputs a) (value old inputs b))
lawful_test old new o signed a b id t e division made = record {
  grown = made.grown;
  bit = record { inside = made.inside; width_is = made.width_is ∙ ap (λ x. op_width x (width_of old a)) e ∙ lawful_width signed (width_of old a) };
  holds_is = λ inputs. ap (λ w. w.value == 1) (made.value_is inputs ∙ ap (λ x. applied x (value old inputs a) (value old inputs b)) e ∙ lawful_applied signed (value old inputs a) (value old inputs b))
      ∙ bit_of_truth (is_lawful (value old inputs a) (value old inputs b) signed) ∙ ap (λ d. cond d (is_lawful (value old inputs a) (value old inputs b) signed) true) (sym division);
}

pub no_division : (old new : List Term) (o : BinaryOp) (signed : Bool) (a b id : ℕ) → divides o ≡ false → IsTest old new id (λ inputs. true) → IsTest old new id (λ inputs. lawful_value o signed (value old inputs a) (value old inputs b))
no_division old new o signed a b id e test = record {
  grown = test.grown;
  bit = test.bit;
  holds_is = λ inputs. test.holds_is inputs ∙ ap (λ d. cond d (is_lawful (value old inputs a) (value old inputs b) signed) true) (sym e);
}
