-- Laws of terms that share an operand, and of terms whose operands change places.
use Rattle.std.proofs.Common.{◌≡◌, ℕ, ◌^◌, ◌<◌, List, length, ap, sym, ◌∙◌, refl, subst, arith, true, false}
use Rattle.std.specs.Prelude.{slice_get, Some}
use Rattle.word_bits.specs.declared.word.Word.{Word}
use Rattle.word_bits.specs.Words.{IsWord, added, subtracted, different_bits}
use Rattle.sym_terms.specs.declared.term.Term.{Term}
use Rattle.sym_terms.specs.declared.term.Term.TheVariants.{Constant, Apply}
use Rattle.sym_terms.specs.declared.term.TermId.{TermId}
use Rattle.sym_terms.specs.declared.term.TermOp.{TermOp}
use Rattle.sym_terms.specs.declared.term.TermOp.TheVariants.{Add, Sub, Xor, Equal, Mul, And, Or, Not, Neg, AddOverflowsUnsigned, AddOverflowsSigned, MulOverflowsUnsigned, MulOverflowsSigned}
use Rattle.sym_terms.specs.declared.simpler.Simpler.{Simpler}
use Rattle.sym_terms.specs.Ops.{is_binary, is_shift, is_commutative, is_associative, is_cancelling}
use Rattle.sym_terms.specs.Folds.{AreFolded}
use Rattle.std.specs.Prelude.{◌==◌}
use Rattle.sym_terms.specs.Terms.{truth, applied, value, op_width, width_of, AreFitting, Fits}
use Rattle.sym_terms.specs.Simpler.{IsKnown, IsOther, IsWithConstant, IsSimpler}
use Rattle.sym_terms.proofs.TermLaws.{IsSimpler-same_value, at_value, at_width}
use Rattle.sym_terms.proofs.ValueWords.{value_word, IsWordOf-applied}
use Rattle.sym_terms.proofs.CommonParts.{applied_comm, applied_assoc, xor_xor, sub_add, add_sub, sub_sub, equal_cancelled, complement-complement, negated-negated}

pub commutative_binary : (op : TermOp) → is_commutative op ≡ true → (is_binary op ≡ true) × (is_shift op ≡ false)
commutative_binary Equal h = (refl, refl)
commutative_binary Add h = (refl, refl)
commutative_binary Mul h = (refl, refl)
commutative_binary And h = (refl, refl)
commutative_binary Or h = (refl, refl)
commutative_binary Xor h = (refl, refl)
commutative_binary AddOverflowsUnsigned h = (refl, refl)
commutative_binary AddOverflowsSigned h = (refl, refl)
commutative_binary MulOverflowsUnsigned h = (refl, refl)
commutative_binary MulOverflowsSigned h = (refl, refl)
commutative_binary _ h = cc

module _ (terms : List Term) (are : AreFitting terms) where
  -- operands that change places
  pub Fits-swapped : (op : TermOp) (a b : TermId) → is_commutative op ≡ true → Fits terms (Apply op a b) → Fits terms (Apply op b a)
  Fits-swapped op a b h fits =
      let kind = commutative_binary op h in
      let plain = kind.1 in
      record {
        fitting = (fits.fitting.1 kind.0, (λ binary. fits.fitting.0), (λ shift. absurd (cc_bool plain shift)), (λ binary unshifted. sym (fits.fitting.3 kind.0 plain)));
        input = tt;
      }
    where
      cc_bool : is_shift op ≡ false → is_shift op ≡ true → ⊥
      cc_bool p q = let r : false ≡ true = sym p ∙ q in cc

  pub swapped_value : (op : TermOp) (a b : TermId) → is_commutative op ≡ true → Fits terms (Apply op a b) → (inputs : ℕ → ℕ) → applied op (value terms inputs a.0) (value terms inputs b.0) ≡ applied op (value terms inputs b.0) (value terms inputs a.0)
  swapped_value op a b h fits inputs =
      let kind = commutative_binary op h in
      let first = value_word terms are inputs a.0 fits.fitting.0 in
      let second = value_word terms are inputs b.0 (fits.fitting.1 kind.0) in
      applied_comm op h (value terms inputs a.0) (value terms inputs b.0) (second.width_is ∙ fits.fitting.3 kind.0 kind.1 ∙ sym first.width_is)

  pub IsSimpler-swapped : (op : TermOp) (a b : TermId) → is_commutative op ≡ true → Fits terms (Apply op a b) → (form : Simpler) → IsSimpler terms (Apply op b a) form → IsSimpler terms (Apply op a b) form
  IsSimpler-swapped op a b h fits form is =
      let kind = commutative_binary op h in
      IsSimpler-same_value terms (Apply op b a) (Apply op a b) (λ inputs. sym (swapped_value op a b h fits inputs)) (ap (op_width op) (fits.fitting.3 kind.0 kind.1)) (λ number width h. tt) form is

  pub IsKnown-swapped : (op : TermOp) (a b : TermId) → is_commutative op ≡ true → Fits terms (Apply op a b) → (id : ℕ) → IsKnown terms (Apply op b a) id → IsKnown terms (Apply op a b) id
  IsKnown-swapped op a b h fits id is =
      let kind = commutative_binary op h in
      record {
        inside = is.inside;
        value_is = λ inputs. is.value_is inputs ∙ sym (swapped_value op a b h fits inputs);
        width_is = is.width_is ∙ ap (op_width op) (fits.fitting.3 kind.0 kind.1);
      }

  -- the operands of an operand
  pub record HasParts (op : TermOp) (p q : TermId) (n : ℕ) : Type 0 where
    pub first : p.0 < length terms
    pub second : q.0 < length terms
    pub one_width : width_of terms q.0 ≡ width_of terms p.0
    pub width_is : width_of terms n ≡ op_width op (width_of terms p.0)
    pub first_word : (inputs : ℕ → ℕ) → IsWord (value terms inputs p.0)
    pub second_word : (inputs : ℕ → ℕ) → IsWord (value terms inputs q.0)
    pub widths : (inputs : ℕ → ℕ) → (value terms inputs q.0).width ≡ (value terms inputs p.0).width
    pub first_below : (inputs : ℕ → ℕ) → (value terms inputs p.0).value < 2 ^ (value terms inputs q.0).width
    pub second_below : (inputs : ℕ → ℕ) → (value terms inputs q.0).value < 2 ^ (value terms inputs p.0).width
    pub value_is : (inputs : ℕ → ℕ) → value terms inputs n ≡ applied op (value terms inputs p.0) (value terms inputs q.0)

  pub parts_of : (op : TermOp) (p q : TermId) (n : ℕ) → n < length terms → is_binary op ≡ true → is_shift op ≡ false → slice_get terms n ≡ Some (Apply op p q) → HasParts op p q n
  parts_of op p q n h binary plain at =
      let inner = are.fitting n (Apply op p q) at in
      let first : p.0 < length terms = omega (arith, inner.0) in
      let second : q.0 < length terms = let below = inner.1 binary in omega arith in
      let width = inner.3 binary plain in
      let widths : (inputs : ℕ → ℕ) → (value terms inputs q.0).width ≡ (value terms inputs p.0).width = λ (inputs : ℕ → ℕ).
      (value_word terms are inputs q.0 second).width_is ∙ width ∙ sym (value_word terms are inputs p.0 first).width_is in
      record {
        first = first;
        second = second;
        one_width = width;
        width_is = at_width terms are n (Apply op p q) at;
        first_word = λ inputs. (value_word terms are inputs p.0 first).is_word;
        second_word = λ inputs. (value_word terms are inputs q.0 second).is_word;
        widths = widths;
        first_below = λ inputs. subst (λ (k : ℕ). (value terms inputs p.0).value < 2 ^ k) (sym (widths inputs)) (value_word terms are inputs p.0 first).is_word.below;
        second_below = λ inputs. subst (λ (k : ℕ). (value terms inputs q.0).value < 2 ^ k) (widths inputs) (value_word terms are inputs q.0 second).is_word.below;
        value_is = at_value terms are n (Apply op p q) at;
      }

  pub xor_second : (a b p q : TermId) → Fits terms (Apply Xor a b) → slice_get terms a.0 ≡ Some (Apply Xor p q) → q ≡ b → IsKnown terms (Apply Xor a b) p.0
  xor_second a b p q fits at e =
      let has = parts_of Xor p q a.0 fits.fitting.0 refl refl at in
      record {
        inside = has.first;
        value_is = λ inputs. sym (ap (λ (w : Word). different_bits w (value terms inputs b.0)) (has.value_is inputs)
            ∙ ap (λ (i : TermId). different_bits (different_bits (value terms inputs p.0) (value terms inputs q.0)) (value terms inputs i.0)) (sym e)
            ∙ xor_xor (value terms inputs p.0) (value terms inputs q.0) (has.first_word inputs) (has.second_below inputs) (has.widths inputs));
        width_is = sym has.width_is;
      }

  pub xor_first : (a b p q : TermId) → Fits terms (Apply Xor a b) → slice_get terms a.0 ≡ Some (Apply Xor p q) → p ≡ b → IsKnown terms (Apply Xor a b) q.0
  xor_first a b p q fits at e =
      let has = parts_of Xor p q a.0 fits.fitting.0 refl refl at in
      record {
        inside = has.second;
        value_is = λ inputs. sym (ap (λ (w : Word). different_bits w (value terms inputs b.0)) (has.value_is inputs)
            ∙ ap (λ (i : TermId). different_bits (different_bits (value terms inputs p.0) (value terms inputs q.0)) (value terms inputs i.0)) (sym e)
            ∙ ap (λ (w : Word). different_bits w (value terms inputs p.0)) (applied_comm Xor refl (value terms inputs p.0) (value terms inputs q.0) (has.widths inputs))
            ∙ xor_xor (value terms inputs q.0) (value terms inputs p.0) (has.second_word inputs) (has.first_below inputs) (sym (has.widths inputs)));
        width_is = has.one_width ∙ sym has.width_is;
      }

  pub sub_add_second : (a b p q : TermId) → Fits terms (Apply Sub a b) → slice_get terms a.0 ≡ Some (Apply Add p q) → q ≡ b → IsKnown terms (Apply Sub a b) p.0
  sub_add_second a b p q fits at e =
      let has = parts_of Add p q a.0 fits.fitting.0 refl refl at in
      record {
        inside = has.first;
        value_is = λ inputs. sym (ap (λ (w : Word). subtracted w (value terms inputs b.0)) (has.value_is inputs)
            ∙ ap (λ (i : TermId). subtracted (added (value terms inputs p.0) (value terms inputs q.0)) (value terms inputs i.0)) (sym e)
            ∙ sub_add (value terms inputs p.0) (value terms inputs q.0) (has.first_word inputs) (has.second_below inputs) (has.widths inputs));
        width_is = sym has.width_is;
      }

  pub sub_add_first : (a b p q : TermId) → Fits terms (Apply Sub a b) → slice_get terms a.0 ≡ Some (Apply Add p q) → p ≡ b → IsKnown terms (Apply Sub a b) q.0
  sub_add_first a b p q fits at e =
      let has = parts_of Add p q a.0 fits.fitting.0 refl refl at in
      record {
        inside = has.second;
        value_is = λ inputs. sym (ap (λ (w : Word). subtracted w (value terms inputs b.0)) (has.value_is inputs)
            ∙ ap (λ (i : TermId). subtracted (added (value terms inputs p.0) (value terms inputs q.0)) (value terms inputs i.0)) (sym e)
            ∙ ap (λ (w : Word). subtracted w (value terms inputs p.0)) (applied_comm Add refl (value terms inputs p.0) (value terms inputs q.0) (has.widths inputs))
            ∙ sub_add (value terms inputs q.0) (value terms inputs p.0) (has.second_word inputs) (has.first_below inputs) (sym (has.widths inputs)));
        width_is = has.one_width ∙ sym has.width_is;
      }

  pub sub_sub_first : (a b p q : TermId) → Fits terms (Apply Sub a b) → slice_get terms b.0 ≡ Some (Apply Sub p q) → p ≡ a → IsKnown terms (Apply Sub a b) q.0
  sub_sub_first a b p q fits at e =
      let has = parts_of Sub p q b.0 (fits.fitting.1 refl) refl refl at in
      record {
        inside = has.second;
        value_is = λ inputs. sym (ap (λ (w : Word). subtracted (value terms inputs a.0) w) (has.value_is inputs)
            ∙ ap (λ (i : TermId). subtracted (value terms inputs i.0) (subtracted (value terms inputs p.0) (value terms inputs q.0))) (sym e)
            ∙ sub_sub (value terms inputs p.0) (value terms inputs q.0) (has.first_word inputs) (has.second_below inputs) (has.widths inputs));
        width_is = has.one_width ∙ sym has.width_is ∙ fits.fitting.3 refl refl;
      }

  pub add_sub_second : (a b p q : TermId) → Fits terms (Apply Add a b) → slice_get terms a.0 ≡ Some (Apply Sub p q) → q ≡ b → IsKnown terms (Apply Add a b) p.0
  add_sub_second a b p q fits at e =
      let has = parts_of Sub p q a.0 fits.fitting.0 refl refl at in
      record {
        inside = has.first;
        value_is = λ inputs. sym (ap (λ (w : Word). added w (value terms inputs b.0)) (has.value_is inputs)
            ∙ ap (λ (i : TermId). added (subtracted (value terms inputs p.0) (value terms inputs q.0)) (value terms inputs i.0)) (sym e)
            ∙ add_sub (value terms inputs p.0) (value terms inputs q.0) (has.first_word inputs) (has.second_below inputs) (has.widths inputs));
        width_is = sym has.width_is;
      }

-- operands of an operand, in the other order
pub parts_swapped : (terms : List Term) (are : AreFitting terms) (op : TermOp) (p q : TermId) (n : ℕ) → is_commutative op ≡ true → HasParts terms are op p q n → HasParts terms are op q p n
parts_swapped terms are op p q n h has = record {
  first = has.second;
  second = has.first;
  one_width = sym has.one_width;
  width_is = has.width_is ∙ ap (op_width op) (sym has.one_width);
  first_word = has.second_word;
  second_word = has.first_word;
  widths = λ inputs. sym (has.widths inputs);
  first_below = has.second_below;
  second_below = has.first_below;
  value_is = λ inputs. has.value_is inputs ∙ applied_comm op h (value terms inputs p.0) (value terms inputs q.0) (has.widths inputs);
}

pub cancelling_binary : (op : TermOp) → is_cancelling op ≡ true → (is_binary op ≡ true) × (is_shift op ≡ false)
cancelling_binary Add h = (refl, refl)
cancelling_binary Sub h = (refl, refl)
cancelling_binary Xor h = (refl, refl)
cancelling_binary _ h = cc

-- an equation of two results with one second operand
pub equal_parts : (terms : List Term) (are : AreFitting terms) (op : TermOp) → is_cancelling op ≡ true → (a b p q r s : TermId) → Fits terms (Apply Equal a b)
    → HasParts terms are op p q a.0 → HasParts terms are op r s b.0 → q ≡ s → IsOther terms (Apply Equal a b) (Apply Equal p r)
equal_parts terms are op h a b p q r s fits left right e =
    let same : width_of terms r.0 ≡ width_of terms p.0 =
    sym right.one_width ∙ ap (λ (i : TermId). width_of terms i.0) (sym e) ∙ left.one_width in
    record {
      fits = record { fitting = (left.first, (λ binary. right.first), (λ shift. absurd (not_shift shift)), (λ binary plain. same)); input = tt };
      agrees = λ number width h. tt;
      value_is = λ inputs.
          let v = value terms inputs in
          let right_is : v b.0 ≡ applied op (v r.0) (v q.0) = right.value_is inputs ∙ ap (λ (i : TermId). applied op (v r.0) (v i.0)) (sym e) in
          let second : (v q.0).width ≡ (v r.0).width = ap (λ (i : TermId). (v i.0).width) e ∙ right.widths inputs in
          let widths : (applied op (v p.0) (v q.0)).width ≡ (applied op (v r.0) (v q.0)).width =
          ap (λ (w : Word). w.width) (sym (left.value_is inputs)) ∙ (value_word terms are inputs a.0 fits.fitting.0).width_is
          ∙ sym (fits.fitting.3 refl refl) ∙ sym (value_word terms are inputs b.0 (fits.fitting.1 refl)).width_is ∙ ap (λ (w : Word). w.width) right_is in
          sym (ap (λ (w : Word). truth (w.value == (v b.0).value)) (left.value_is inputs)
          ∙ ap (λ (w : Word). truth ((applied op (v p.0) (v q.0)).value == w.value)) right_is
          ∙ equal_cancelled (v p.0) (v r.0) (v q.0) (left.first_word inputs) (right.first_word inputs) (left.widths inputs) second (left.second_word inputs).below op h widths);
      width_is = refl;
    }
  where
    not_shift : is_shift Equal ≡ true → ⊥
    not_shift shift = cc

-- an equation of two results with an operand in common
module _ (terms : List Term) (are : AreFitting terms) (op : TermOp) (h : is_cancelling op ≡ true) (a b p q r s : TermId) (fits : Fits terms (Apply Equal a b))
    (at_first : slice_get terms a.0 ≡ Some (Apply op p q)) (at_second : slice_get terms b.0 ≡ Some (Apply op r s)) where
  left_parts : HasParts terms are op p q a.0
  left_parts = parts_of terms are op p q a.0 fits.fitting.0 (cancelling_binary op h).0 (cancelling_binary op h).1 at_first

  right_parts : HasParts terms are op r s b.0
  right_parts = parts_of terms are op r s b.0 (fits.fitting.1 refl) (cancelling_binary op h).0 (cancelling_binary op h).1 at_second

  pub equal_second : q ≡ s → IsOther terms (Apply Equal a b) (Apply Equal p r)
  equal_second = equal_parts terms are op h a b p q r s fits left_parts right_parts

  pub equal_first : is_commutative op ≡ true → p ≡ r → IsOther terms (Apply Equal a b) (Apply Equal q s)
  equal_first g = equal_parts terms are op h a b q p s r fits (parts_swapped terms are op p q a.0 g left_parts) (parts_swapped terms are op r s b.0 g right_parts)

  pub equal_first_second : is_commutative op ≡ true → p ≡ s → IsOther terms (Apply Equal a b) (Apply Equal q r)
  equal_first_second g = equal_parts terms are op h a b q p r s fits (parts_swapped terms are op p q a.0 g left_parts) right_parts

  pub equal_second_first : is_commutative op ≡ true → q ≡ r → IsOther terms (Apply Equal a b) (Apply Equal p s)
  equal_second_first g = equal_parts terms are op h a b p q s r fits left_parts (parts_swapped terms are op r s b.0 g right_parts)

pub associative_binary : (op : TermOp) → is_associative op ≡ true → (is_binary op ≡ true) × (is_shift op ≡ false) × ((w : ℕ) → op_width op w ≡ w)
associative_binary Add h = (refl, refl, (λ w. refl))
associative_binary Mul h = (refl, refl, (λ w. refl))
associative_binary And h = (refl, refl, (λ w. refl))
associative_binary Xor h = (refl, refl, (λ w. refl))
associative_binary _ h = cc

-- one constant after another
module _ (terms : List Term) (are : AreFitting terms) (op : TermOp) (h : is_associative op ≡ true) (a b p q : TermId) (c d : Word) (fits : Fits terms (Apply op a b))
    (at : slice_get terms a.0 ≡ Some (Apply op p q)) (first : slice_get terms q.0 ≡ Some (Constant c)) (second : slice_get terms b.0 ≡ Some (Constant d)) where
  pub AreFolded-both : AreFolded op c d
  AreFolded-both =
      let kind = associative_binary op h in
      let has = parts_of terms are op p q a.0 fits.fitting.0 kind.0 kind.1 at in
      record {
        first = are.fitting q.0 (Constant c) first;
        second = λ binary. are.fitting b.0 (Constant d) second;
        widths = λ binary plain. sym (at_width terms are b.0 (Constant d) second) ∙ fits.fitting.3 kind.0 kind.1 ∙ has.width_is ∙ kind.2 (width_of terms p.0) ∙ sym has.one_width ∙ at_width terms are q.0 (Constant c) first;
      }

  pub IsWithConstant-both : IsWithConstant terms (Apply op a b) op p.0 (applied op c d)
  IsWithConstant-both =
      let kind = associative_binary op h in
      let has = parts_of terms are op p q a.0 fits.fitting.0 kind.0 kind.1 at in
      let folded = AreFolded-both in
      let made = IsWordOf-applied c d folded.first op folded.second folded.widths in
      let inner : c.width ≡ width_of terms p.0 = sym (at_width terms are q.0 (Constant c) first) ∙ has.one_width in
      record {
        inside = has.first;
        constant = made.is_word;
        shift = λ shift. absurd (let r : false ≡ true = sym kind.1 ∙ shift in cc);
        one_width = λ binary plain. made.width_is ∙ kind.2 c.width ∙ inner;
        value_is = λ inputs.
            let x = value terms inputs p.0 in
            let width : c.width ≡ x.width = ap (λ (w : Word). w.width) (sym (at_value terms are q.0 (Constant c) first inputs)) ∙ has.widths inputs in
            applied_assoc op h x c d width
            ∙ ap (λ (w : Word). applied op (applied op x w) d) (sym (at_value terms are q.0 (Constant c) first inputs))
            ∙ ap (λ (w : Word). applied op w d) (sym (has.value_is inputs))
            ∙ ap (applied op (value terms inputs a.0)) (sym (at_value terms are b.0 (Constant d) second inputs));
        width_is = ap (op_width op) (sym (kind.2 (width_of terms p.0)) ∙ sym has.width_is);
      }

-- an operation on one operand twice
pub unary_twice : (terms : List Term) → AreFitting terms → (op : TermOp) → is_binary op ≡ false → (a b p q : TermId) → Fits terms (Apply op a b) → slice_get terms a.0 ≡ Some (Apply op p q) → IsKnown terms (Apply op a b) p.0
unary_twice terms are op h a b p q fits at =
    let inner = are.fitting a.0 (Apply op p q) at in
    let first : p.0 < length terms = let outer = fits.fitting.0 in omega (arith, inner.0) in
    record {
      inside = first;
      value_is = λ inputs. sym (ap (λ (w : Word). applied op w (value terms inputs b.0)) (at_value terms are a.0 (Apply op p q) at inputs)
          ∙ twice op h (value terms inputs p.0) (value terms inputs q.0) (value terms inputs b.0) (value_word terms are inputs p.0 first).is_word);
      width_is = sym (width op h (width_of terms p.0)) ∙ ap (op_width op) (sym (at_width terms are a.0 (Apply op p q) at));
    }
  where
    twice : (o : TermOp) → is_binary o ≡ false → (x y z : Word) → IsWord x → applied o (applied o x y) z ≡ x
    twice Not h x y z is = complement-complement x is
    twice Neg h x y z is = negated-negated x is
    twice _ h x y z is = cc

    width : (o : TermOp) → is_binary o ≡ false → (w : ℕ) → op_width o (op_width o w) ≡ w
    width Not h w = refl
    width Neg h w = refl
    width _ h w = cc
