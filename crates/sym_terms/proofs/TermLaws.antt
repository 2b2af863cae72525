-- Laws of casts, slices and choices among terms.
use Rattle.std.proofs.Common.{◌≡◌, ℕ, zero, suc, ◌+◌, ◌-◌, ◌^◌, ◌<◌, ◌≤◌, List, length, ap, sym, ◌∙◌, refl, subst, arith, Bool, true, false, if◌then◌else◌}
use Rattle.std.specs.Prelude.{slice_get, Some, ◌==◌}
use Rattle.std.proofs.lemmas.Bool.{eq-eqb, ne_eqb}
use Rattle.word_bits.specs.declared.word.Word.{Word}
use Rattle.word_bits.specs.Words.{IsWidth, recast}
use Rattle.word_bits.proofs.Cuts.{word_at}
use Rattle.word_bits.proofs.Kept.{IsWord-word, IsWord-word_of, width-word_of}
use Rattle.sym_terms.specs.declared.term.Term.{Term}
use Rattle.sym_terms.specs.declared.term.Term.TheVariants.{Constant, Apply, Cast, Choose, Slice}
use Rattle.sym_terms.specs.declared.term.TermId.{TermId}
use Rattle.sym_terms.specs.declared.term.TermOp.TheVariants.{Not}
use Rattle.sym_terms.specs.declared.simpler.Simpler.{Simpler}
use Rattle.sym_terms.specs.declared.simpler.Simpler.TheVariants.{Known, Other, WithConstant}
use Rattle.sym_terms.specs.Terms.{sliced, term_value, value, term_width, width_of, AreFitting, AgreesWith, Fits}
use Rattle.sym_terms.specs.Simpler.{IsKnown, IsOther, IsSimpler}
use Rattle.sym_terms.proofs.Grown.{value_at, width_at}
use Rattle.sym_terms.proofs.ValueWords.{value_word}
use Rattle.sym_terms.proofs.CastLaws.{recast_same, recast_recast, recast_wider, recast_narrow, sliced_whole, sliced_all, sliced_sliced, sliced_recast}

-- a simpler form of a term is one of each term with its value
pub IsSimpler-same_value : (terms : List Term) (term other : Term) → ((inputs : ℕ → ℕ) → term_value inputs (value terms inputs) term ≡ term_value inputs (value terms inputs) other) → term_width (width_of terms) term ≡ term_width (width_of terms) other
    → ((number width : ℕ) → AgreesWith other number width → AgreesWith term number width) → (form : Simpler) → IsSimpler terms term form → IsSimpler terms other form
IsSimpler-same_value terms term other same width agrees (Known id) is = record { inside = is.inside; value_is = λ inputs. is.value_is inputs ∙ same inputs; width_is = is.width_is ∙ width }
IsSimpler-same_value terms term other same width agrees (Other t) is = record { fits = is.fits; value_is = λ inputs. is.value_is inputs ∙ same inputs; width_is = is.width_is ∙ width; agrees = λ number bits h. is.agrees number bits (agrees number bits h) }
IsSimpler-same_value terms term other same width agrees (WithConstant op a c) is = record {
  inside = is.inside;
  constant = is.constant;
  shift = is.shift;
  one_width = is.one_width;
  value_is = λ inputs. is.value_is inputs ∙ same inputs;
  width_is = is.width_is ∙ width;
}

module _ (terms : List Term) (are : AreFitting terms) where
  pub at_value : (n : ℕ) (term : Term) → slice_get terms n ≡ Some term → (inputs : ℕ → ℕ) → value terms inputs n ≡ term_value inputs (value terms inputs) term
  at_value n term at = value_at terms n term at (are.fitting n term at)

  pub at_width : (n : ℕ) (term : Term) → slice_get terms n ≡ Some term → width_of terms n ≡ term_width (width_of terms) term
  at_width n term at = width_at terms n term at (are.fitting n term at)

  -- casts
  pub cast_same : (a : TermId) (signed : Bool) (width : ℕ) → Fits terms (Cast a signed width) → width_of terms a.0 ≡ width → IsKnown terms (Cast a signed width) a.0
  cast_same a signed width fits e = record {
    inside = fits.fitting.0;
    value_is = λ inputs.
        let x = value_word terms are inputs a.0 fits.fitting.0 in
        sym (ap (recast (value terms inputs a.0) signed) (sym (x.width_is ∙ e)) ∙ recast_same (value terms inputs a.0) x.is_word signed);
    width_is = e;
  }

  pub cast_constant : (a : TermId) (signed : Bool) (width : ℕ) (c : Word) → Fits terms (Cast a signed width) → slice_get terms a.0 ≡ Some (Constant c) → IsOther terms (Cast a signed width) (Constant (recast c signed width))
  cast_constant a signed width c fits at = record {
    fits = record { fitting = IsWord-word_of width _ fits.fitting.1; input = tt };
    agrees = λ number width h. tt;
    value_is = λ inputs. ap (λ (w : Word). recast w signed width) (sym (at_value a.0 (Constant c) at inputs));
    width_is = width-word_of width _;
  }

  pub cast_narrow : (a : TermId) (width : ℕ) → Fits terms (Cast a true width) → width ≤ width_of terms a.0 → IsOther terms (Cast a true width) (Cast a false width)
  cast_narrow a width fits h = record {
    fits = record { fitting = fits.fitting; input = tt };
    agrees = λ number width h. tt;
    value_is = λ inputs.
        let x = value_word terms are inputs a.0 fits.fitting.0 in
        let few : width ≤ (value terms inputs a.0).width = subst (λ (k : ℕ). width ≤ k) (sym x.width_is) h in
        recast_narrow (value terms inputs a.0) x.is_word false width few ∙ sym (recast_narrow (value terms inputs a.0) x.is_word true width few);
    width_is = refl;
  }

  pub cast_cast : (a x : TermId) (first second : Bool) (u width : ℕ) → Fits terms (Cast a second width) → slice_get terms a.0 ≡ Some (Cast x first u) → width ≤ u → IsOther terms (Cast a second width) (Cast x first width)
  cast_cast a x first second u width fits at h =
      let inner = are.fitting a.0 (Cast x first u) at in
      let below : x.0 < length terms = omega (arith, inner.0, fits.fitting.0) in
      record {
        fits = record { fitting = (below, fits.fitting.1); input = tt };
        agrees = λ number width h. tt;
        value_is = λ inputs.
            let v = value_word terms are inputs x.0 below in
            sym (ap (λ (w : Word). recast w second width) (at_value a.0 (Cast x first u) at inputs) ∙ recast_recast (value terms inputs x.0) v.is_word first second u width inner.1 h);
        width_is = refl;
      }

  pub cast_wider : (a x : TermId) (u width : ℕ) → Fits terms (Cast a false width) → slice_get terms a.0 ≡ Some (Cast x false u) → width_of terms x.0 ≤ u → IsOther terms (Cast a false width) (Cast x false width)
  cast_wider a x u width fits at h =
      let inner = are.fitting a.0 (Cast x false u) at in
      let below : x.0 < length terms = omega (arith, inner.0, fits.fitting.0) in
      record {
        fits = record { fitting = (below, fits.fitting.1); input = tt };
        agrees = λ number width h. tt;
        value_is = λ inputs.
            let v = value_word terms are inputs x.0 below in
            let few : (value terms inputs x.0).width ≤ u = subst (λ (k : ℕ). k ≤ u) (sym v.width_is) h in
            sym (ap (λ (w : Word). recast w false width) (at_value a.0 (Cast x false u) at inputs) ∙ recast_wider (value terms inputs x.0) v.is_word u width few);
        width_is = refl;
      }

  -- slices
  pub slice_whole : (a : TermId) (width : ℕ) → Fits terms (Slice a 0 width) → width_of terms a.0 ≡ width → IsKnown terms (Slice a 0 width) a.0
  slice_whole a width fits e = record {
    inside = fits.fitting.0;
    value_is = λ inputs.
        let x = value_word terms are inputs a.0 fits.fitting.0 in
        sym (ap (sliced (value terms inputs a.0) 0) (sym (x.width_is ∙ e)) ∙ sliced_whole (value terms inputs a.0) x.is_word);
    width_is = e;
  }

  slice_width : (a : TermId) (from width : ℕ) → Fits terms (Slice a from width) → IsWidth width
  slice_width a from width fits =
      let x = value_word terms are (λ (k : ℕ). 0) a.0 fits.fitting.0 in
      let few = x.is_word.few_bits in
      let some : 1 ≤ width = fits.fitting.1 in
      let inside : from + width ≤ width_of terms a.0 = fits.fitting.2 in
      record { some_bits = some; few_bits = omega (arith, x.width_is, few) }

  pub slice_constant : (a : TermId) (from width : ℕ) (c : Word) → Fits terms (Slice a from width) → slice_get terms a.0 ≡ Some (Constant c) → IsOther terms (Slice a from width) (Constant (sliced c from width))
  slice_constant a from width c fits at = record {
    fits = record { fitting = IsWord-word width _ (slice_width a from width fits); input = tt };
    agrees = λ number width h. tt;
    value_is = λ inputs. ap (λ (w : Word). sliced w from width) (sym (at_value a.0 (Constant c) at inputs));
    width_is = refl;
  }

  pub slice_first : (a : TermId) (width : ℕ) → Fits terms (Slice a 0 width) → IsOther terms (Slice a 0 width) (Cast a false width)
  slice_first a width fits = record {
    fits = record { fitting = (fits.fitting.0, slice_width a 0 width fits); input = tt };
    agrees = λ number width h. tt;
    value_is = λ inputs. sym (sliced_all (value terms inputs a.0) width);
    width_is = refl;
  }

  pub slice_slice : (a x : TermId) (f u from width : ℕ) → Fits terms (Slice a from width) → slice_get terms a.0 ≡ Some (Slice x f u) → IsOther terms (Slice a from width) (Slice x (f + from) width)
  slice_slice a x f u from width fits at =
      let inner = are.fitting a.0 (Slice x f u) at in
      let below : x.0 < length terms = omega (arith, inner.0, fits.fitting.0) in
      let outer : from + width ≤ u = subst (λ (k : ℕ). from + width ≤ k) (at_width a.0 (Slice x f u) at) fits.fitting.2 in
      let inside : f + u ≤ width_of terms x.0 = inner.2 in
      record {
        fits = record { fitting = (below, fits.fitting.1, omega arith); input = tt };
        agrees = λ number width h. tt;
        value_is = λ inputs. sym (ap (λ (w : Word). sliced w from width) (at_value a.0 (Slice x f u) at inputs) ∙ sliced_sliced (value terms inputs x.0) f u from width outer);
        width_is = refl;
      }

  pub slice_cast : (a x : TermId) (signed : Bool) (u from width : ℕ) → Fits terms (Slice a from width) → slice_get terms a.0 ≡ Some (Cast x signed u) → from + width ≤ width_of terms x.0 → IsOther terms (Slice a from width) (Slice x from width)
  slice_cast a x signed u from width fits at h =
      let inner = are.fitting a.0 (Cast x signed u) at in
      let below : x.0 < length terms = omega (arith, inner.0, fits.fitting.0) in
      let outer : from + width ≤ u = subst (λ (k : ℕ). from + width ≤ k) (at_width a.0 (Cast x signed u) at) fits.fitting.2 in
      record {
        fits = record { fitting = (below, fits.fitting.1, h); input = tt };
        agrees = λ number width h. tt;
        value_is = λ inputs.
            let v = value_word terms are inputs x.0 below in
            let source : from + width ≤ (value terms inputs x.0).width = subst (λ (k : ℕ). from + width ≤ k) (sym v.width_is) h in
            sym (ap (λ (w : Word). sliced w from width) (at_value a.0 (Cast x signed u) at inputs) ∙ sliced_recast (value terms inputs x.0) v.is_word signed u from width outer source);
        width_is = refl;
      }

  -- choices
  pub choose_same : (test a b : TermId) → Fits terms (Choose test a b) → a ≡ b → IsKnown terms (Choose test a b) a.0
  choose_same test a b fits e = record {
    inside = fits.fitting.1;
    value_is = λ inputs. either inputs ((value terms inputs test.0).value == 1);
    width_is = refl;
  }
    where
      either : (inputs : ℕ → ℕ) (t : Bool) → value terms inputs a.0 ≡ (if t then value terms inputs a.0 else value terms inputs b.0)
      either inputs true = refl
      either inputs false = ap (λ (i : TermId). value terms inputs i.0) e

  pub choose_first : (test a b : TermId) (c : Word) → Fits terms (Choose test a b) → slice_get terms test.0 ≡ Some (Constant c) → c.value ≡ 1 → IsKnown terms (Choose test a b) a.0
  choose_first test a b c fits at e = record {
    inside = fits.fitting.1;
    value_is = λ inputs. ap (λ t. if t then value terms inputs a.0 else value terms inputs b.0) (sym (eq-eqb (value terms inputs test.0).value 1 (ap (λ (w : Word). w.value) (at_value test.0 (Constant c) at inputs) ∙ e)));
    width_is = refl;
  }

  pub choose_second : (test a b : TermId) (c : Word) → Fits terms (Choose test a b) → slice_get terms test.0 ≡ Some (Constant c) → (c.value ≡ 1 → ⊥) → IsKnown terms (Choose test a b) b.0
  choose_second test a b c fits at ne = record {
    inside = fits.fitting.2;
    value_is = λ inputs. ap (λ t. if t then value terms inputs a.0 else value terms inputs b.0) (sym (ne_eqb (value terms inputs test.0).value 1 (λ e. ne (sym (ap (λ (w : Word). w.value) (at_value test.0 (Constant c) at inputs)) ∙ e))));
    width_is = fits.fitting.4;
  }

  -- a word of one bit
  bit_cases : (inputs : ℕ → ℕ) (n : ℕ) → n < length terms → width_of terms n ≡ 1 → (value terms inputs n).value < 2
  bit_cases inputs n h e =
      let x = value_word terms are inputs n h in
      let one : (value terms inputs n).width ≡ 1 = x.width_is ∙ e in
      subst (λ (k : ℕ). (value terms inputs n).value < 2 ^ k) one x.is_word.below

  pub choose_not : (test t u a b : TermId) → Fits terms (Choose test a b) → slice_get terms test.0 ≡ Some (Apply Not t u) → IsOther terms (Choose test a b) (Choose t b a)
  choose_not test t u a b fits at =
      let inner = are.fitting test.0 (Apply Not t u) at in
      let below : t.0 < length terms = omega (arith, inner.0, fits.fitting.0) in
      let bit : width_of terms t.0 ≡ 1 = sym (at_width test.0 (Apply Not t u) at) ∙ fits.fitting.3 in
      record {
        fits = record { fitting = (below, fits.fitting.2, fits.fitting.1, bit, sym fits.fitting.4); input = tt };
        agrees = λ number width h. tt;
        value_is = λ inputs.
            let x = value_word terms are inputs t.0 below in
            let turned : (value terms inputs test.0).value ≡ 1 - (value terms inputs t.0).value =
            ap (λ (w : Word). w.value) (at_value test.0 (Apply Not t u) at inputs) ∙ ap (λ k. 2 ^ k - 1 - (value terms inputs t.0).value) (x.width_is ∙ bit) in
            sym (ap (λ k. if k == 1 then value terms inputs a.0 else value terms inputs b.0) turned ∙ either inputs (value terms inputs t.0).value (bit_cases inputs t.0 below bit));
        width_is = fits.fitting.4;
      }
    where
      either : (inputs : ℕ → ℕ) (v : ℕ) → v < 2 → (if (1 - v) == 1 then value terms inputs a.0 else value terms inputs b.0) ≡ (if v == 1 then value terms inputs b.0 else value terms inputs a.0)
      either inputs zero h = refl
      either inputs (suc zero) h = refl
      either inputs (suc (suc n)) h = absurd (omega arith)

  pub choose_test : (test a b : TermId) (c d : Word) → Fits terms (Choose test a b) → slice_get terms a.0 ≡ Some (Constant c) → slice_get terms b.0 ≡ Some (Constant d) → c ≡ word_at 1 1 → d ≡ word_at 1 0 → IsKnown terms (Choose test a b) test.0
  choose_test test a b c d fits at_first at_second e f =
      let bit : width_of terms test.0 ≡ 1 = fits.fitting.3 in
      record {
        inside = fits.fitting.0;
        value_is = λ inputs.
            let x = value_word terms are inputs test.0 fits.fitting.0 in
            let first : value terms inputs a.0 ≡ word_at 1 1 = at_value a.0 (Constant c) at_first inputs ∙ e in
            let second : value terms inputs b.0 ≡ word_at 1 0 = at_value b.0 (Constant d) at_second inputs ∙ f in
            let one : (value terms inputs test.0).width ≡ 1 = x.width_is ∙ bit in
            ap (λ k. record { width = k; value = (value terms inputs test.0).value }) one
            ∙ either (value terms inputs test.0).value (bit_cases inputs test.0 fits.fitting.0 bit)
            ∙ λ j. if (value terms inputs test.0).value == 1 then sym first j else sym second j;
        width_is = bit ∙ sym (at_width a.0 (Constant c) at_first ∙ ap (λ (w : Word). w.width) e);
      }
    where
      either : (v : ℕ) → v < 2 → word_at 1 v ≡ (if v == 1 then word_at 1 1 else word_at 1 0)
      either zero h = refl
      either (suc zero) h = refl
      either (suc (suc n)) h = absurd (omega arith)

  pub choose_again : (test a b x y : TermId) → Fits terms (Choose test a b) → slice_get terms a.0 ≡ Some (Choose test x y) → IsOther terms (Choose test a b) (Choose test x b)
  choose_again test a b x y fits at =
      let inner = are.fitting a.0 (Choose test x y) at in
      let below : x.0 < length terms = omega (arith, inner.1, fits.fitting.1) in
      let width : width_of terms a.0 ≡ width_of terms x.0 = at_width a.0 (Choose test x y) at in
      record {
        fits = record { fitting = (fits.fitting.0, below, fits.fitting.2, fits.fitting.3, fits.fitting.4 ∙ width); input = tt };
        agrees = λ number width h. tt;
        value_is = λ inputs. sym (ap (λ (w : Word). if (value terms inputs test.0).value == 1 then w else value terms inputs b.0) (at_value a.0 (Choose test x y) at inputs) ∙ either ((value terms inputs test.0).value == 1) (value terms inputs x.0) (value terms inputs y.0) (value terms inputs b.0));
        width_is = sym width;
      }
    where
      either : (t : Bool) (p q r : Word) → (if t then (if t then p else q) else r) ≡ (if t then p else r)
      either true p q r = refl
      either false p q r = refl

  pub choose_again_second : (test a b x y : TermId) → Fits terms (Choose test a b) → slice_get terms b.0 ≡ Some (Choose test x y) → IsOther terms (Choose test a b) (Choose test a y)
  choose_again_second test a b x y fits at =
      let inner = are.fitting b.0 (Choose test x y) at in
      let below : y.0 < length terms = omega (arith, inner.2, fits.fitting.2) in
      let width : width_of terms b.0 ≡ width_of terms x.0 = at_width b.0 (Choose test x y) at in
      record {
        fits = record { fitting = (fits.fitting.0, fits.fitting.1, below, fits.fitting.3, inner.4 ∙ sym width ∙ fits.fitting.4); input = tt };
        agrees = λ number width h. tt;
        value_is = λ inputs. sym (ap (λ (w : Word). if (value terms inputs test.0).value == 1 then value terms inputs a.0 else w) (at_value b.0 (Choose test x y) at inputs) ∙ either ((value terms inputs test.0).value == 1) (value terms inputs a.0) (value terms inputs x.0) (value terms inputs y.0));
        width_is = refl;
      }
    where
      either : (t : Bool) (p q r : Word) → (if t then p else (if t then q else r)) ≡ (if t then p else r)
      either true p q r = refl
      either false p q r = refl
