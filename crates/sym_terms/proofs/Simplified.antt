-- What a simpler form gives.
use Rattle.std.proofs.Common.{◌≡◌, ℕ, List, ap, sym, ◌∙◌, refl, subst, arith, false, IsTrue}
use Rattle.std.specs.Prelude.{slice_get, Some, Result, Ok, Err, OnErr}
use Rattle.word_bits.specs.declared.word.Word.{Word}
use Rattle.sym_terms.specs.declared.term.Term.{Term}
use Rattle.sym_terms.specs.declared.term.Term.TheVariants.{Constant, Apply}
use Rattle.sym_terms.specs.declared.term.TermId.{TermId}
use Rattle.sym_terms.specs.declared.term.TermOp.{TermOp}
use Rattle.sym_terms.specs.declared.laws.Law.{Law}
use Rattle.sym_terms.specs.declared.laws.Law.TheVariants.{First, Value, Applied}
use Rattle.sym_terms.specs.Ops.{is_binary}
use Rattle.sym_terms.specs.Terms.{applied, value, op_width, width_of, AreFitting, Fits, KeepsInputs, IsInserted, is_shift_width}
use Rattle.sym_terms.specs.Laws.{IsLaw, IsLawFitting, IsSameLaw, law_value}
use Rattle.sym_terms.specs.Folds.{AreFolded}
use Rattle.sym_terms.specs.declared.simpler.Simpler.TheVariants.{Other}
use Rattle.sym_terms.proofs.Fitting.{applied_unary}
use Rattle.sym_terms.specs.Simpler.{IsKnown, IsOther, IsWithConstant, IsSimpler, simpler_of}
use Rattle.sym_terms.proofs.Grown.{Keeps-same, Keeps-trans, value_at, width_at}
use Rattle.sym_terms.proofs.ValueWords.{value_word, IsWordOf-applied}

pub IsInserted-Known : (terms : List Term) (term : Term) (id : ℕ) → IsKnown terms term id → IsInserted terms terms term id
IsInserted-Known terms term id known = record { keeps = Keeps-same terms; inside = known.inside; value_is = known.value_is; width_is = known.width_is; inputs = λ number width h agrees. h }

pub IsInserted-Other : (old new : List Term) (term other : Term) (id : ℕ) → IsOther old term other → IsInserted old new other id → IsInserted old new term id
IsInserted-Other old new term other id is made = record {
  keeps = made.keeps;
  inside = made.inside;
  value_is = λ inputs. made.value_is inputs ∙ is.value_is inputs;
  width_is = made.width_is ∙ is.width_is;
  inputs = λ number width h agrees. made.inputs number width h (is.agrees number width agrees);
}

module _ (old mid : List Term) (term : Term) (op : TermOp) (a b : TermId) (c : Word) (is : IsWithConstant old term op a.0 c) (first : IsInserted old mid (Constant c) b.0) where
  pub Fits-WithConstant : Fits mid (Apply op a b)
  Fits-WithConstant = record {
    fitting = (
      omega (arith, is.inside, first.keeps.longer),
      (λ binary. first.inside),
      (λ shift. subst (λ (k : ℕ). IsTrue (is_shift_width k)) (sym (first.keeps.widths_kept a.0 is.inside)) (is.shift shift)),
      (λ binary unshifted. first.width_is ∙ is.one_width binary unshifted ∙ sym (first.keeps.widths_kept a.0 is.inside)),
    );
    input = tt;
  }

  pub IsInserted-WithConstant : (new : List Term) (id : ℕ) → IsInserted mid new (Apply op a b) id → IsInserted old new term id
  IsInserted-WithConstant new id second = record {
    keeps = Keeps-trans old mid new first.keeps second.keeps;
    inside = second.inside;
    value_is = λ inputs. second.value_is inputs
        ∙ ap (λ (w : Word). applied op w (value mid inputs b.0)) (first.keeps.values_kept inputs a.0 is.inside)
        ∙ ap (applied op (value old inputs a.0)) (first.value_is inputs)
        ∙ is.value_is inputs;
    width_is = second.width_is ∙ ap (op_width op) (first.keeps.widths_kept a.0 is.inside) ∙ is.width_is;
    inputs = λ number width h agrees. second.inputs number width (first.inputs number width h tt) tt;
  }

-- a fact at an error
pub OnErr-of : {T E : Type 0} → (r : Result T E) (P : Type 0) → P → OnErr r P
OnErr-of (Ok x) P p = tt
OnErr-of (Err e) P p = p

-- a constant is no input
pub KeepsInputs-Constant : (old mid : List Term) (c : Word) (id : ℕ) → IsInserted old mid (Constant c) id → KeepsInputs old mid
KeepsInputs-Constant old mid c id first = λ number width h. first.inputs number width h tt

-- a law at a term and a constant, or at a term twice
module _ (terms : List Term) (are : AreFitting terms) (op : TermOp) (a b : TermId) (fits : Fits terms (Apply op a b)) where
  by_law : (law : Law) → IsLawFitting op (width_of terms a.0) law → ((inputs : ℕ → ℕ) → law_value law (value terms inputs a.0) ≡ applied op (value terms inputs a.0) (value terms inputs b.0))
      → IsSimpler terms (Apply op a b) (simpler_of a law)
  by_law First fitting same = record { inside = fits.fitting.0; value_is = same; width_is = sym fitting }
  by_law (Value w) fitting same = record { fits = record { fitting = fitting.0; input = tt }; value_is = same; width_is = fitting.1; agrees = λ number width h. tt }
  by_law (Applied o c) fitting same = record {
    inside = fits.fitting.0;
    constant = fitting.0;
    shift = fitting.1;
    one_width = fitting.2;
    value_is = same;
    width_is = fitting.3;
  }

  pub IsSimpler-constant : (law : Law) (c : Word) → slice_get terms b.0 ≡ Some (Constant c) → IsLaw op (width_of terms a.0) c law → IsSimpler terms (Apply op a b) (simpler_of a law)
  IsSimpler-constant law c at is = by_law law is.fitting (λ inputs.
      let x = value_word terms are inputs a.0 fits.fitting.0 in
      is.value_is (value terms inputs a.0) x.is_word x.width_is
      ∙ ap (applied op (value terms inputs a.0)) (sym (value_at terms b.0 (Constant c) at (are.fitting b.0 (Constant c) at) inputs)))

  pub IsSimpler-same : (law : Law) → a ≡ b → IsSameLaw op (width_of terms a.0) law → IsSimpler terms (Apply op a b) (simpler_of a law)
  IsSimpler-same law e is = by_law law is.fitting (λ inputs.
      let x = value_word terms are inputs a.0 fits.fitting.0 in
      is.value_is (value terms inputs a.0) x.is_word x.width_is
      ∙ ap (λ (i : TermId). applied op (value terms inputs a.0) (value terms inputs i.0)) e)

  pub AreFolded-constants : (c d : Word) → slice_get terms a.0 ≡ Some (Constant c) → slice_get terms b.0 ≡ Some (Constant d) → AreFolded op c d
  AreFolded-constants c d at_first at_second = record {
    first = are.fitting a.0 (Constant c) at_first;
    second = λ binary. are.fitting b.0 (Constant d) at_second;
    widths = λ binary unshifted.
        sym (width_at terms b.0 (Constant d) at_second (are.fitting b.0 (Constant d) at_second))
        ∙ fits.fitting.3 binary unshifted
        ∙ width_at terms a.0 (Constant c) at_first (are.fitting a.0 (Constant c) at_first);
  }

  -- two constants
  pub IsSimpler-constants : (c d : Word) → slice_get terms a.0 ≡ Some (Constant c) → slice_get terms b.0 ≡ Some (Constant d) → IsSimpler terms (Apply op a b) (Other (Constant (applied op c d)))
  IsSimpler-constants c d at_first at_second =
      let first : (inputs : ℕ → ℕ) → value terms inputs a.0 ≡ c = λ inputs. value_at terms a.0 (Constant c) at_first (are.fitting a.0 (Constant c) at_first) inputs in
      let second : (inputs : ℕ → ℕ) → value terms inputs b.0 ≡ d = λ inputs. value_at terms b.0 (Constant d) at_second (are.fitting b.0 (Constant d) at_second) inputs in
      let width : width_of terms a.0 ≡ c.width = width_at terms a.0 (Constant c) at_first (are.fitting a.0 (Constant c) at_first) in
      let folded = AreFolded-constants c d at_first at_second in
      let made = IsWordOf-applied c d folded.first op folded.second folded.widths in
      record {
        fits = record { fitting = made.is_word; input = tt };
        value_is = λ inputs. ap (λ (w : Word). applied op w d) (sym (first inputs)) ∙ ap (applied op (value terms inputs a.0)) (sym (second inputs));
        width_is = made.width_is ∙ ap (op_width op) (sym width);
        agrees = λ number width h. tt;
      }

-- an operation that looks at its first operand alone, at a constant
pub IsSimpler-unary : (terms : List Term) → AreFitting terms → (op : TermOp) (a b : TermId) → Fits terms (Apply op a b) → is_binary op ≡ false → (c : Word) → slice_get terms a.0 ≡ Some (Constant c)
    → IsSimpler terms (Apply op a b) (Other (Constant (applied op c c)))
IsSimpler-unary terms are op a b fits unary c at =
    let here = are.fitting a.0 (Constant c) at in
    let value_is : (inputs : ℕ → ℕ) → value terms inputs a.0 ≡ c = λ inputs. value_at terms a.0 (Constant c) at here inputs in
    let made = IsWordOf-applied c c here op (λ binary. here) (λ binary unshifted. refl) in
    record {
      fits = record { fitting = made.is_word; input = tt };
      value_is = λ inputs. ap (λ (w : Word). applied op w c) (sym (value_is inputs)) ∙ applied_unary op (value terms inputs a.0) c (value terms inputs b.0) unary;
      width_is = made.width_is ∙ ap (op_width op) (sym (width_at terms a.0 (Constant c) at here));
      agrees = λ number width h. tt;
    }
