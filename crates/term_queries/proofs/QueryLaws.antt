-- The clauses of a term's gates ask whether the term can be 1.
use Rattle.std.proofs.Common.{Vec, Global, vec_len, ◌≡◌, ℕ, ◌+◌, ◌*◌, ◌<◌, ◌==◌, Bool, true, false, cond, List, [], ◌∷◌, length, get_or, subst, sym, ap, ◌∙◌, refl, arith, IsTrue}
use Rattle.std.proofs.lemmas.List.{get_or-map}
use Rattle.word_bits.specs.declared.word.Word.{Word}
use Rattle.region_pool.specs.Clauses.{AreLiterals, ClauseList}
use Rattle.region_pool.specs.Literals.{IsUnsatisfiable, literal_value}
use Rattle.bit_gates.specs.declared.gate.Gate.{Gate}
use Rattle.bit_gates.specs.declared.gates.Gates.{Gates}
use Rattle.bit_gates.specs.declared.gates.InputBit.{InputBit}
use Rattle.bit_gates.specs.Circuit.{value as gate_value}
use Rattle.bit_gates.specs.Made.{AreIn, number}
use Rattle.bit_gates.specs.Values.{valued}
use Rattle.bit_gates.proofs.ValueLaws.{literal_agrees}
use Rattle.bit_blast.specs.Blasted.{AreGatesOf, IsRoot, lists_of}
use Rattle.bit_blast.specs.Inputs.{input_bits}
use Rattle.clause_form.specs.Form.{AreTrue, HasOneExtension, IsClauseForm, IsComputed}
use Rattle.sym_terms.specs.declared.term.Term.{Term}
use Rattle.sym_terms.specs.declared.term.TermId.{TermId}
use Rattle.sym_terms.specs.Terms.{IsValue, width_of}
use Rattle.term_queries.specs.Numbers.{AreNumbers}
use Rattle.term_queries.specs.Queries.{IsModel, IsQuery, holds}

-- the one literal of a list
one_literal : (ls : List ℕ) → length ls ≡ 1 → ls ≡ get_or ls 0 0 ∷ []
one_literal [] e = absurd (omega (arith, e))
one_literal (x ∷ []) e = refl
one_literal (x ∷ y ∷ ys) e = absurd (omega (arith, e))

one_number : (v : ℕ → Bool) (l : ℕ) → (number v (l ∷ []) == 1) ≡ v l
unfolding number
one_number v l = by_value (v l) where
  by_value : (b : Bool) → (cond b 1 0 + 2 * 0 == 1) ≡ b
  by_value true = refl
  by_value false = refl

-- the literal of a root of one bit is true exactly where the term is 1
pub root_literal : (terms : List Term) (root : ℕ) (inputs : List InputBit) (gates : List Gate) (literals : List ℕ) → width_of terms root ≡ 1 → ((numbers : ℕ → ℕ) → IsValue terms numbers root) → IsRoot inputs gates terms root literals
    → (length literals ≡ 1) × ((numbers : ℕ → ℕ) → gate_value (record { inputs = length inputs; gates = gates }) (input_bits inputs numbers) (get_or literals 0 0) ≡ holds terms numbers root)
root_literal terms root inputs gates literals width values is =
    let long : length literals ≡ 1 = ap (λ (w : Word). w.width) (is.word_is (λ n. 0)) ∙ (values (λ n. 0)).width_is ∙ width in (
      long,
      λ numbers.
          sym (one_number (gate_value (record { inputs = length inputs; gates = gates }) (input_bits inputs numbers)) (get_or literals 0 0))
          ∙ ap (λ ls. number (gate_value (record { inputs = length inputs; gates = gates }) (input_bits inputs numbers)) ls == 1) (sym (one_literal literals long))
          ∙ ap (λ (w : Word). w.value == 1) (is.word_is numbers),
    )

literal_is : (inputs : List InputBit) (gates : List Gate) (bits : ℕ → Bool) (l : ℕ) → gate_value (record { inputs = length inputs; gates = gates }) bits l ≡ literal_value (valued bits (length inputs) gates) l
unfolding gate_value
literal_is inputs gates bits l = refl

true_of_one : (f : ℕ → Bool) (ls : List ℕ) → length ls ≡ 1 → AreTrue f ls → literal_value f (get_or ls 0 0) ≡ true
true_of_one f ls long all = all 0 0 (omega (arith, long))

one_of_true : (f : ℕ → Bool) (ls : List ℕ) → length ls ≡ 1 → literal_value f (get_or ls 0 0) ≡ true → AreTrue f ls
one_of_true f ls long h k d inside =
    let first : k ≡ 0 = omega (arith, long, inside) in
    subst (λ n. IsTrue (literal_value f (get_or ls n d))) (sym first) (ap (literal_value f) (same_default ls d (omega (arith, long))) ∙ h)
  where
    same_default : (ls : List ℕ) (d : ℕ) → 0 < length ls → get_or ls 0 d ≡ get_or ls 0 0
    same_default [] d inside = absurd (omega (arith, inside))
    same_default (x ∷ xs) d inside = refl

pub query_made : (terms : List Term) (root : ℕ) (inputs : List InputBit) (gates : List Gate) (literals : List ℕ) (list : ClauseList) → width_of terms root ≡ 1 → ((numbers : ℕ → ℕ) → IsValue terms numbers root) → IsRoot inputs gates terms root literals
    → IsClauseForm (length inputs) gates literals list → ((bits : ℕ → Bool) → HasOneExtension (length inputs) gates bits) → IsQuery terms root inputs list
query_made terms root inputs gates literals list width values is form one =
    let known = root_literal terms root inputs gates literals width values is in
    record {
      sound = λ model satisfies numbers agrees. sound_at known.0 known.1 model numbers agrees ((form.satisfied model).0 satisfies);
      complete = λ numbers h. complete_at known.0 known.1 numbers h;
    }
  where
    l : ℕ
    l = get_or literals 0 0

    l_inside : length literals ≡ 1 → l < 2 * (length inputs + length gates)
    l_inside long = is.inside 0 0 (omega (arith, long))

    sound_at : length literals ≡ 1 → ((numbers : ℕ → ℕ) → gate_value (record { inputs = length inputs; gates = gates }) (input_bits inputs numbers) l ≡ holds terms numbers root) → (model : ℕ → Bool) (numbers : ℕ → ℕ) → AreNumbers inputs model numbers
        → IsComputed (length inputs) gates model × AreTrue model literals → holds terms numbers root ≡ true
    sound_at long root_is model numbers agrees sat =
        sym (root_is numbers) ∙ literal_is inputs gates (input_bits inputs numbers) l
        ∙ sym (literal_agrees model (valued (input_bits inputs numbers) (length inputs) gates) (length inputs + length gates) l ((one (input_bits inputs numbers)).only model (λ v inside. sym (agrees v inside)) sat.0) (l_inside long))
        ∙ true_of_one model literals long sat.1

    complete_at : length literals ≡ 1 → ((numbers : ℕ → ℕ) → gate_value (record { inputs = length inputs; gates = gates }) (input_bits inputs numbers) l ≡ holds terms numbers root) → (numbers : ℕ → ℕ) → holds terms numbers root ≡ true → IsModel list inputs numbers
    complete_at long root_is numbers h = record {
      model = valued (input_bits inputs numbers) (length inputs) gates;
      satisfies = (form.satisfied (valued (input_bits inputs numbers) (length inputs) gates)).1
          ((one (input_bits inputs numbers)).computed, one_of_true (valued (input_bits inputs numbers) (length inputs) gates) literals long (sym (literal_is inputs gates (input_bits inputs numbers) l) ∙ root_is numbers ∙ h));
      agrees = λ v inside. sym ((one (input_bits inputs numbers)).inputs_kept v inside);
    }

never : (b : Bool) → (b ≡ true → ⊥) → b ≡ false
never true h = absurd (h refl)
never false h = refl

-- a query that nothing satisfies
pub never_holds : (terms : List Term) (root : ℕ) (inputs : List InputBit) (list : ClauseList) → IsQuery terms root inputs list → IsUnsatisfiable list.clauses → (numbers : ℕ → ℕ) → holds terms numbers root ≡ false
never_holds terms root inputs list query none numbers = never (holds terms numbers root) (λ h. let model = query.complete numbers h in none model.model model.satisfies)

-- the literals of the only root
root_of : (terms : List Term) (root : TermId) (g : Gates) (word : Vec ℕ Global) (literals : List ℕ) → AreGatesOf terms (root ∷ []) g → word ≡ get_or g.roots.items 0 word → literals ≡ word.items → IsRoot g.inputs.items g.gates.items terms root.0 literals
root_of terms root g word literals made e el =
    let one : 0 < length g.roots.items = omega (arith, made.one_each) in
    let same : literals ≡ get_or (lists_of g) 0 [] = el ∙ ap (λ (w : Vec ℕ Global). w.items) e ∙ sym (get_or-map (λ (w : Vec ℕ Global). w.items) g.roots.items 0 word [] one) in
    subst (IsRoot g.inputs.items g.gates.items terms root.0) (sym same) (made.each 0 root refl)

pub literals_known : (terms : List Term) (root : TermId) (g : Gates) (word : Vec ℕ Global) (literals : List ℕ) → AreGatesOf terms (root ∷ []) g → word ≡ get_or g.roots.items 0 word → literals ≡ word.items → AreLiterals (vec_len g.inputs + vec_len g.gates) literals
literals_known terms root g word literals made e el =
    let inside : AreIn (record { inputs = length g.inputs.items; gates = g.gates.items }) literals = (root_of terms root g word literals made e el).inside in
    λ k d l. omega (arith, inside k d l, g.inputs.ok.0, g.gates.ok.0)

pub asked : (terms : List Term) (root : TermId) (g : Gates) (word : Vec ℕ Global) (literals : List ℕ) (list : ClauseList) → width_of terms root.0 ≡ 1 → ((numbers : ℕ → ℕ) → IsValue terms numbers root.0) → AreGatesOf terms (root ∷ []) g
    → word ≡ get_or g.roots.items 0 word → literals ≡ word.items → IsClauseForm (vec_len g.inputs) g.gates.items literals list → ((bits : ℕ → Bool) → HasOneExtension (vec_len g.inputs) g.gates.items bits) → IsQuery terms root.0 g.inputs.items list
asked terms root g word literals list width values made e el form one =
    let count : vec_len g.inputs ≡ length g.inputs.items = omega (arith, g.inputs.ok.0) in
    query_made terms root.0 g.inputs.items g.gates.items literals list width values (root_of terms root g word literals made e el)
    (subst (λ n. IsClauseForm n g.gates.items literals list) count form) (subst (λ n. (bits : ℕ → Bool) → HasOneExtension n g.gates.items bits) count one)
