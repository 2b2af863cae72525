-- What a term means depends on earlier terms alone.
use Rattle.std.proofs.Common.{◌≡◌, ℕ, ◌+◌, ◌<◌, ◌≤◌, ap, sym, ◌∙◌, refl, subst, Bool, true, false, IsTrue}
use Rattle.word_bits.specs.declared.word.Word.{Word}
use Rattle.sym_terms.specs.declared.term.Term.{Term}
use Rattle.sym_terms.specs.declared.term.Term.TheVariants.{Constant, Input, Apply, Cast, Choose, Slice}
use Rattle.sym_terms.specs.declared.term.TermOp.{TermOp}
use Rattle.sym_terms.specs.declared.term.TermOp.TheVariants.{Not, Neg}
use Rattle.sym_terms.specs.Ops.{is_binary}
use Rattle.sym_terms.specs.Terms.{applied, term_value, term_width, op_width, IsFitting, is_shift_width}

-- two functions are equal below a number
pub record AgreeBelow {V : Type 0} (n : ℕ) (f g : ℕ → V) : Type 0 where
  pub agree : (i : ℕ) → i < n → f i ≡ g i

-- an operation that looks at its first operand alone
pub applied_unary : (op : TermOp) (a b c : Word) → is_binary op ≡ false → applied op a b ≡ applied op a c
applied_unary Not a b c h = refl
applied_unary Neg a b c h = refl
applied_unary _ a b c h = cc

-- the value of a fitting term, by values that agree
pub term_value-agree : (inputs : ℕ → ℕ) (n : ℕ) (w : ℕ → ℕ) (term : Term) (v u : ℕ → Word) → IsFitting n w term → AgreeBelow n v u → term_value inputs v term ≡ term_value inputs u term
term_value-agree inputs n w (Constant c) v u fits same = refl
term_value-agree inputs n w (Input number width) v u fits same = refl
term_value-agree inputs n w (Apply op a b) v u fits same = rw (same.agree a.0 fits.0) (by (is_binary op) refl)
  where
    by : (t : Bool) → is_binary op ≡ t → applied op (u a.0) (v b.0) ≡ applied op (u a.0) (u b.0)
    by true e = ap (applied op (u a.0)) (same.agree b.0 (fits.1 e))
    by false e = applied_unary op (u a.0) (v b.0) (u b.0) e
term_value-agree inputs n w (Cast a signed width) v u fits same = rw (same.agree a.0 fits.0) refl
term_value-agree inputs n w (Choose test a b) v u fits same = rw (same.agree a.0 fits.1, same.agree b.0 fits.2, same.agree test.0 fits.0) refl
term_value-agree inputs n w (Slice a from width) v u fits same = rw (same.agree a.0 fits.0) refl

-- the width of a fitting term, by widths that agree
pub term_width-agree : (n : ℕ) (w : ℕ → ℕ) (term : Term) (v u : ℕ → ℕ) → IsFitting n w term → AgreeBelow n v u → term_width v term ≡ term_width u term
term_width-agree n w (Constant c) v u fits same = refl
term_width-agree n w (Input number width) v u fits same = refl
term_width-agree n w (Apply op a b) v u fits same = ap (op_width op) (same.agree a.0 fits.0)
term_width-agree n w (Cast a signed width) v u fits same = refl
term_width-agree n w (Choose test a b) v u fits same = same.agree a.0 fits.1
term_width-agree n w (Slice a from width) v u fits same = refl

-- a term fits by widths that agree
pub IsFitting-agree : (n : ℕ) (term : Term) (v u : ℕ → ℕ) → AgreeBelow n v u → IsFitting n v term → IsFitting n u term
IsFitting-agree n (Constant c) v u same fits = fits
IsFitting-agree n (Input number width) v u same fits = fits
IsFitting-agree n (Apply op a b) v u same fits = (
  fits.0,
  fits.1,
  (λ shift. subst (λ (k : ℕ). IsTrue (is_shift_width k)) (same.agree a.0 fits.0) (fits.2 shift)),
  (λ binary other. sym (same.agree b.0 (fits.1 binary)) ∙ fits.3 binary other ∙ same.agree a.0 fits.0),
)
IsFitting-agree n (Cast a signed width) v u same fits = fits
IsFitting-agree n (Choose test a b) v u same fits = (fits.0, fits.1, fits.2, sym (same.agree test.0 fits.0) ∙ fits.3, sym (same.agree b.0 fits.2) ∙ fits.4 ∙ same.agree a.0 fits.1)
IsFitting-agree n (Slice a from width) v u same fits = (fits.0, fits.1, subst (λ (k : ℕ). from + width ≤ k) (same.agree a.0 fits.0) fits.2)
