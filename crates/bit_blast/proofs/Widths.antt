-- The widths of inputs, noted one term after another.
use Rattle.std.proofs.Common.{◌≡◌, ◌==◌, ◌+◌, ◌≤◌, ℕ, Bool, true, false, cond, List, get_or, slice_get, Some, None, sym, ap, ◌∙◌, subst, arith, inl, inr, refl}
use Rattle.std.proofs.lemmas.Bool.{cases_lt, eqb-true, eqb-false}
use Rattle.std.proofs.lemmas.Option.{none-some, same_Some}
use Rattle.sym_terms.specs.declared.term.Term.{Term}
use Rattle.sym_terms.specs.declared.term.Term.TheVariants.{Apply, Cast, Choose, Constant, Input, Slice}
use Rattle.sym_terms.specs.Terms.{AreFitting}
use Rattle.bit_blast.specs.Inputs.{AreFew, HaveWidths, input_of}

input_is : (term : Term) (number width : ℕ) → input_of term ≡ Some (number, width) → term ≡ Input number width
input_is (Input n w) number width e =
    let same : ◌≡◌ {A = ℕ × ℕ} (n, w) (number, width) = same_Some {A = ℕ × ℕ} (n, w) (number, width) e in
    let numbers : n ≡ number = ap (λ (r : ℕ × ℕ). r.0) same in
    let widths : w ≡ width = ap (λ (r : ℕ × ℕ). r.1) same in
    cc
input_is (Constant w) number width e = absurd (none-some {A = ℕ × ℕ} (number, width) e)
input_is (Apply op a b) number width e = absurd (none-some {A = ℕ × ℕ} (number, width) e)
input_is (Cast a signed w) number width e = absurd (none-some {A = ℕ × ℕ} (number, width) e)
input_is (Choose test a b) number width e = absurd (none-some {A = ℕ × ℕ} (number, width) e)
input_is (Slice a from w) number width e = absurd (none-some {A = ℕ × ℕ} (number, width) e)

-- the input in its place
input_at : (terms : List Term) (n : ℕ) (term : Term) (number width : ℕ) → slice_get terms n ≡ Some term → input_of term ≡ Some (number, width) → slice_get terms n ≡ Some (Input number width)
input_at terms n term number width at e = at ∙ ap Some (input_is term number width e)

-- an input of terms that fit has at most 128 bits
pub input_small : (terms : List Term) (n : ℕ) (term : Term) (number width : ℕ) → AreFitting terms → slice_get terms n ≡ Some term → input_of term ≡ Some (number, width) → width ≤ 128
input_small terms n term number width fitting at e = (fitting.fitting n (Input number width) (input_at terms n term number width at e)).few_bits

pub few_set : (old new : List ℕ) (number width : ℕ) → width ≤ 128 → AreFew old → ((k : ℕ) → get_or new k 0 ≡ cond (k == number) width (get_or old k 0)) → AreFew new
few_set old new number width small few set k = subst (λ n. n ≤ 128) (sym (set k)) (by_cases (k == number)) where
  by_cases : (t : Bool) → cond t width (get_or old k 0) ≤ 128
  by_cases true = small
  by_cases false = few k

-- the term with this number is no input
pub have_passed : (terms : List Term) (n : ℕ) (term : Term) (widths : List ℕ) → slice_get terms n ≡ Some term → input_of term ≡ None → HaveWidths terms n widths → HaveWidths terms (n + 1) widths
have_passed terms n term widths at none have m number width below e = elim (cases_lt m n) [
  | inl less ↦ have m number width less e
  | inr upto ↦ (let same : m ≡ n = omega (arith, below, upto) in
      let is : term ≡ Input number width = same_Some term (Input number width) (sym at ∙ ap (slice_get terms) (sym same) ∙ e) in
      absurd (none-some {A = ℕ × ℕ} (number, width) (sym none ∙ ap input_of is)))
]

-- it is this input, whose width is noted
pub have_set : (terms : List Term) (n : ℕ) (term : Term) (number width : ℕ) (old new : List ℕ) → AreFitting terms → slice_get terms n ≡ Some term → input_of term ≡ Some (number, width)
    → ((k : ℕ) → get_or new k 0 ≡ cond (k == number) width (get_or old k 0)) → HaveWidths terms n old → HaveWidths terms (n + 1) new
have_set terms n term number width old new fitting at is set have m other w below e = set other ∙ by_cases (other == number) refl where
  here : slice_get terms n ≡ Some (Input number width)
  here = input_at terms n term number width at is

  by_cases : (t : Bool) → (other == number) ≡ t → cond t width (get_or old other 0) ≡ w
  by_cases true same = sym (fitting.inputs n number width here m w (e ∙ ap (λ (k : ℕ). Some (Input k w)) (eqb-true other number same)))
  by_cases false apart = elim (cases_lt m n) [
    | inl less ↦ have m other w less e
    | inr upto ↦ (let there : m ≡ n = omega (arith, below, upto) in
        let one : Input other w ≡ Input number width = same_Some (Input other w) (Input number width) (sym e ∙ ap (slice_get terms) there ∙ here) in
        let numbers : other ≡ number = cc in
        absurd (eqb-false other number apart numbers))
  ]
