-- Lists of terms that grow.
use Rattle.std.proofs.Common.{◌≡◌, ℕ, suc, ◌<◌, ◌≤◌, List, [], ◌∷◌, ◌++◌, length, take, drop, ap, sym, ◌∙◌, refl, subst, arith, Bool, true, false, not, cond, length-append, get_or, inl, inr, ◌⊎◌}
use Rattle.std.specs.Prelude.{slice_get, Some}
use Rattle.std.proofs.lemmas.Option.{slice_get_within}
use Rattle.std.proofs.lemmas.Bool.{cases_lt}
use Rattle.std.proofs.lemmas.List.{take-append-drop, take-append-le, get_or_push, get_or_append_left}
use Rattle.std.proofs.Math.Seq.{take-append_seam, take-length}
use Rattle.sym_terms.specs.declared.term.Term.{Term}
use Rattle.sym_terms.specs.declared.term.Term.TheVariants.{Input}
use Rattle.sym_terms.specs.Terms.{term_value, value, no_word, term_width, width_of, IsFitting, AreFitting, Fits, KeepsInput, HasOneWidth, AgreesWith, Keeps, IsInserted}
use Rattle.sym_terms.proofs.EvaluatedLemmas.{evaluated-append_below, evaluated-append_at, split_at, slice_get-append_left, slice_get-push}
use Rattle.sym_terms.proofs.Fitting.{AgreeBelow, term_value-agree, term_width-agree, IsFitting-agree}

module _ (terms more : List Term) where
  -- values and widths do not change where the list grows
  pub value-append_below : (inputs : ℕ → ℕ) (n : ℕ) → n < length terms → value (terms ++ more) inputs n ≡ value terms inputs n
  unfolding value
  value-append_below inputs n h = evaluated-append_below (term_value inputs) (λ _. no_word) terms more n h

  pub width_of-append_below : (n : ℕ) → n < length terms → width_of (terms ++ more) n ≡ width_of terms n
  unfolding width_of
  width_of-append_below n h = evaluated-append_below term_width (λ _. 0) terms more n h

  -- the terms before stay
  pub Keeps-append : Keeps terms (terms ++ more)
  Keeps-append = record {
    longer = omega (arith, length-append terms more);
    terms_kept = take-append_seam terms more;
    values_kept = λ inputs id h. value-append_below inputs id h;
    widths_kept = λ id h. width_of-append_below id h;
  }

module _ (front : List Term) (term : Term) (back : List Term) where
  pub value-append_at : (inputs : ℕ → ℕ) → value (front ++ term ∷ back) inputs (length front) ≡ term_value inputs (value front inputs) term
  unfolding value
  value-append_at inputs = evaluated-append_at (term_value inputs) (λ _. no_word) front term back

  pub width_of-append_at : width_of (front ++ term ∷ back) (length front) ≡ term_width (width_of front) term
  unfolding width_of
  width_of-append_at = evaluated-append_at term_width (λ _. 0) front term back

module _ (terms : List Term) (n : ℕ) (term : Term) (at : slice_get terms n ≡ Some term) (fits : IsFitting n (width_of terms) term) where
  -- the value of a term, by those of the terms
  pub value_at : (inputs : ℕ → ℕ) → value terms inputs n ≡ term_value inputs (value terms inputs) term
  value_at inputs =
      let front = take n terms in
      let back = drop (suc n) terms in
      let parts = split_at terms n term at in
      let agree : AgreeBelow n (value front inputs) (value terms inputs) = record {
        agree = λ i h. sym (ap (λ ts. value ts inputs i) parts.1 ∙ value-append_below front (term ∷ back) inputs i (omega arith));
      } in
      ap (λ ts. value ts inputs n) parts.1 ∙ ap (value (front ++ term ∷ back) inputs) (sym parts.0)
      ∙ value-append_at front term back inputs
      ∙ term_value-agree inputs n (width_of terms) term (value front inputs) (value terms inputs) fits agree

  -- and its width
  pub width_at : width_of terms n ≡ term_width (width_of terms) term
  width_at =
      let front = take n terms in
      let back = drop (suc n) terms in
      let parts = split_at terms n term at in
      let agree : AgreeBelow n (width_of front) (width_of terms) = record {
        agree = λ i h. sym (ap (λ ts. width_of ts i) parts.1 ∙ width_of-append_below front (term ∷ back) i (omega arith));
      } in
      ap (λ ts. width_of ts n) parts.1 ∙ ap (width_of (front ++ term ∷ back)) (sym parts.0)
      ∙ width_of-append_at front term back
      ∙ term_width-agree n (width_of terms) term (width_of front) (width_of terms) fits agree

pub AreFitting-empty : AreFitting []
AreFitting-empty = record { fitting = λ n term at. cc; inputs = λ n number width at. cc }

-- an item of a list with one more
item_of_push : (terms : List Term) (term t : Term) (n : ℕ) → slice_get (terms ++ term ∷ []) n ≡ Some t → ((n < length terms) × (slice_get terms n ≡ Some t)) ⊎ ((n ≡ length terms) × (t ≡ term))
item_of_push terms term t n at = by (cases_lt n (length terms))
  where
    by : (n < length terms) ⊎ (length terms ≤ n) → ((n < length terms) × (slice_get terms n ≡ Some t)) ⊎ ((n ≡ length terms) × (t ≡ term))
    by (inl h) = inl (h, sym (slice_get-append_left terms (term ∷ []) n h) ∙ at)
    by (inr h) =
        let within : n < length (terms ++ term ∷ []) = slice_get_within (terms ++ term ∷ []) n t at in
        let last : n ≡ length terms = omega (arith, length-append terms (term ∷ [])) in
        let e : Some t ≡ Some term = sym at ∙ ap (slice_get (terms ++ term ∷ [])) last ∙ slice_get-push terms term in
        inr (last, cc)

-- a term that fits may be added
pub AreFitting-push : (terms : List Term) (term : Term) → AreFitting terms → Fits terms term → AreFitting (terms ++ term ∷ [])
AreFitting-push terms term are fits = record { fitting = λ n t at. fitting n t (item_of_push terms term t n at); inputs = λ n number width at m w other. inputs n number width (item_of_push terms term (Input number width) n at) m w (item_of_push terms term (Input number w) m other) }
  where
    new : List Term
    new = terms ++ term ∷ []

    agree : (n : ℕ) → n ≤ length terms → AgreeBelow n (width_of terms) (width_of new)
    agree n h = record { agree = λ i below. sym (width_of-append_below terms (term ∷ []) i (omega arith)) }

    fitting : (n : ℕ) (t : Term) → ((n < length terms) × (slice_get terms n ≡ Some t)) ⊎ ((n ≡ length terms) × (t ≡ term)) → IsFitting n (width_of new) t
    fitting n t (inl p) = IsFitting-agree n t (width_of terms) (width_of new) (agree n (omega arith)) (are.fitting n t p.1)
    fitting n t (inr p) =
        let at_end : IsFitting n (width_of terms) t = rw (p.0, p.1) fits.fitting in
        IsFitting-agree n t (width_of terms) (width_of new) (agree n (omega arith)) at_end

    inputs : (n number width : ℕ) → ((n < length terms) × (slice_get terms n ≡ Some (Input number width))) ⊎ ((n ≡ length terms) × (Input number width ≡ term))
        → (m w : ℕ) → ((m < length terms) × (slice_get terms m ≡ Some (Input number w))) ⊎ ((m ≡ length terms) × (Input number w ≡ term)) → w ≡ width
    inputs n number width (inl p) m w (inl q) = are.inputs n number width p.1 m w q.1
    inputs n number width (inl p) m w (inr q) = sym (subst (KeepsInput terms) (sym q.1) fits.input n width p.1)
    inputs n number width (inr p) m w (inl q) = subst (KeepsInput terms) (sym p.1) fits.input m w q.1
    inputs n number width (inr p) m w (inr q) = let e : Input number w ≡ Input number width = q.1 ∙ sym p.1 in cc

-- a list with one more keeps the inputs
pub inputs_of_push : (terms : List Term) (term : Term) (number width : ℕ) → HasOneWidth terms number width → AgreesWith term number width → HasOneWidth (terms ++ term ∷ []) number width
inputs_of_push terms term number width h agrees n w at = by (item_of_push terms term (Input number w) n at)
  where
    by : ((n < length terms) × (slice_get terms n ≡ Some (Input number w))) ⊎ ((n ≡ length terms) × (Input number w ≡ term)) → w ≡ width
    by (inl p) = h n w p.1
    by (inr p) = subst (λ (t : Term). AgreesWith t number width) (sym p.1) agrees refl

-- a term at its end is inserted there
pub IsInserted-push : (terms : List Term) (term : Term) → IsInserted terms (terms ++ term ∷ []) term (length terms)
IsInserted-push terms term = record {
  keeps = Keeps-append terms (term ∷ []);
  inside = omega (arith, length-append terms (term ∷ []));
  value_is = λ inputs. value-append_at terms term [] inputs;
  width_is = width_of-append_at terms term [];
  inputs = inputs_of_push terms term;
}

pub Keeps-same : (terms : List Term) → Keeps terms terms
Keeps-same terms = record {
  longer = omega arith;
  terms_kept = take-length terms;
  values_kept = λ inputs id h. refl;
  widths_kept = λ id h. refl;
}

-- a term that is there is inserted already
pub IsInserted-known : (terms : List Term) (term : Term) (n : ℕ) → AreFitting terms → slice_get terms n ≡ Some term → IsInserted terms terms term n
IsInserted-known terms term n are at = record {
  keeps = Keeps-same terms;
  inside = slice_get_within terms n term at;
  value_is = value_at terms n term at (are.fitting n term at);
  width_is = width_at terms n term at (are.fitting n term at);
  inputs = λ number width h agrees. h;
}

pub Keeps-trans : (old mid new : List Term) → Keeps old mid → Keeps mid new → Keeps old new
Keeps-trans old mid new first second = record {
  longer = omega (arith, first.longer, second.longer);
  terms_kept = ap (take (length old)) (sym (take-append-drop (length mid) new))
      ∙ ap (λ xs. take (length old) (xs ++ drop (length mid) new)) second.terms_kept
      ∙ take-append-le (length old) mid (drop (length mid) new) first.longer ∙ first.terms_kept;
  values_kept = λ inputs id h. let below : id < length mid = omega (arith, first.longer) in second.values_kept inputs id below ∙ first.values_kept inputs id h;
  widths_kept = λ id h. let below : id < length mid = omega (arith, first.longer) in second.widths_kept id below ∙ first.widths_kept id h;
}

-- a term that was there or was added at the end
pub IsInserted-at : (old new : List Term) (term : Term) (n : ℕ) → AreFitting old → Fits old term → (new ≡ old) ⊎ (new ≡ old ++ term ∷ []) → slice_get new n ≡ Some term → IsInserted old new term n
IsInserted-at old new term n are fits (inl e) at =
    subst (λ ts. IsInserted old ts term n) (sym e) (IsInserted-known old term n are (sym (ap (λ ts. slice_get ts n) e) ∙ at))
IsInserted-at old new term n are fits (inr e) at =
    subst (λ ts. IsInserted old ts term n) (sym e) (by (item_of_push old term term n (sym (ap (λ ts. slice_get ts n) e) ∙ at)))
  where
    pushed : List Term
    pushed = old ++ term ∷ []

    by : ((n < length old) × (slice_get old n ≡ Some term)) ⊎ ((n ≡ length old) × (term ≡ term)) → IsInserted old pushed term n
    by (inl p) =
        let known = IsInserted-known old term n are p.1 in
        record {
          keeps = Keeps-append old (term ∷ []);
          inside = omega (arith, length-append old (term ∷ []));
          value_is = λ inputs. value-append_below old (term ∷ []) inputs n p.0 ∙ known.value_is inputs;
          width_is = width_of-append_below old (term ∷ []) n p.0 ∙ known.width_is;
          inputs = inputs_of_push old term;
        }
    by (inr p) = subst (λ (k : ℕ). IsInserted old pushed term k) (sym p.0) (IsInserted-push old term)

-- the widths of a list with one more
pub widths_of_push : (terms : List Term) (widths : List ℕ) (term : Term) (width : ℕ) → length widths ≡ length terms → ((n : ℕ) → n < length terms → get_or widths n 0 ≡ width_of terms n)
    → width ≡ term_width (width_of terms) term → (n : ℕ) → n < length (terms ++ term ∷ []) → get_or (widths ++ width ∷ []) n 0 ≡ width_of (terms ++ term ∷ []) n
widths_of_push terms widths term width long noted e n h = by (cases_lt n (length terms))
  where
    by : (n < length terms) ⊎ (length terms ≤ n) → get_or (widths ++ width ∷ []) n 0 ≡ width_of (terms ++ term ∷ []) n
    by (inl below) =
        get_or_append_left widths (width ∷ []) 0 n (omega arith) ∙ noted n below ∙ sym (width_of-append_below terms (term ∷ []) n below)
    by (inr above) =
        let last : n ≡ length terms = omega (arith, length-append terms (term ∷ [])) in
        let end : length widths ≡ n = omega arith in
        get_or_push widths width 0 n end ∙ e ∙ sym (width_of-append_at terms term []) ∙ ap (width_of (terms ++ term ∷ [])) (sym last)

-- what a choice gives that was not taken
pub other_choice : {X : Type 0} → (t : Bool) (x y z : X) → true ≡ not t → z ≡ cond t x y → z ≡ y
other_choice true x y z h e = cc
other_choice false x y z h e = e
