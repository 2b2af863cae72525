-- Sums of two terms of 64 bits.
use Rattle.std.proofs.Common.{◌≡◌, ◌+◌, ◌<◌, ℕ, List, [], ◌∷◌, length, get_or, slice_get, None, vec_len, Vec, Global, sym, ap, ◌∙◌, refl, subst, arith}
use Rattle.std.proofs.lemmas.List.{get_or-map}
use Rattle.region_pool.specs.Clauses.{AreLiterals}
use Rattle.bit_gates.specs.declared.gates.Gates.{Gates}
use Rattle.bit_gates.specs.Made.{AreIn}
use Rattle.bit_blast.specs.Blasted.{AreGatesOf, lists_of}
use Rattle.sym_terms.specs.declared.TermId.{TermId}
use Rattle.sym_terms.specs.declared.term.Term.{Term}
use Rattle.sym_terms.specs.declared.term.Term.TheVariants.{Input, Apply}
use Rattle.sym_terms.specs.declared.term.TermOp.TheVariants.{Add}
use Rattle.sym_terms.specs.Terms.{Fits, Keeps, IsInserted}
use Rattle.sum_circuits.specs.Chain.{IsWide}

pub sum_fits : (terms : List Term) (a b : TermId) → IsWide terms a.0 → IsWide terms b.0 → Fits terms (Apply Add a b)
sum_fits terms a b h k = record {
  fitting = (h.inside, λ s. k.inside, λ s. absurd (cc), λ s t. k.width_is ∙ sym h.width_is);
  input = tt;
}

pub wide_kept : (old new : List Term) (id : ℕ) → Keeps old new → IsWide old id → IsWide new id
wide_kept old new id k h = record {
  inside = omega (arith, k.longer, h.inside);
  width_is = k.widths_kept id h.inside ∙ h.width_is;
}

pub sum_wide : (old new : List Term) (a b : TermId) (id : ℕ) → IsWide old a.0 → IsInserted old new (Apply Add a b) id → IsWide new id
sum_wide old new a b id h i = record { inside = i.inside; width_is = i.width_is ∙ h.width_is }

pub input_wide : (old new : List Term) (number id : ℕ) → IsInserted old new (Input number 64) id → IsWide new id
input_wide old new number id i = record { inside = i.inside; width_is = i.width_is }

-- another input has no width yet
pub second_input_fits : (terms old : List Term) (id : ℕ) → old ≡ [] → IsInserted old terms (Input 0 64) id → Fits terms (Input 1 64)
second_input_fits terms old id e i = record {
  fitting = record { some_bits = omega arith; few_bits = omega arith };
  input = i.inputs 1 64 (λ n w h. absurd (let f : slice_get old n ≡ None = ap (λ (ts : List Term). slice_get ts n) e ∙ no_term n in cc)) (λ same. absurd (omega arith));
}
  where
    no_term : (n : ℕ) → slice_get {X = Term} [] n ≡ None
    no_term n = refl

-- the literals of the only root are of variables of the gates
pub literals_inside : (terms : List Term) (root : TermId) (g : Gates) (word : Vec ℕ Global) (literals : List ℕ) → AreGatesOf terms (root ∷ []) g → word ≡ get_or g.roots.items 0 word → literals ≡ word.items → AreLiterals (vec_len g.inputs + vec_len g.gates) literals
literals_inside terms root g word literals made e el =
    let one : 0 < length g.roots.items = omega (arith, made.one_each) in
    let same : literals ≡ get_or (lists_of g) 0 [] = el ∙ ap (λ (w : Vec ℕ Global). w.items) e ∙ sym (get_or-map (λ (w : Vec ℕ Global). w.items) g.roots.items 0 word [] one) in
    let inside : AreIn (record { inputs = length g.inputs.items; gates = g.gates.items }) literals =
    subst (λ (ls : List ℕ). AreIn (record { inputs = length g.inputs.items; gates = g.gates.items }) ls) (sym same) ((made.each 0 root refl).inside) in
    λ k d l. omega (arith, inside k d l, g.inputs.ok.0, g.gates.ok.0)
