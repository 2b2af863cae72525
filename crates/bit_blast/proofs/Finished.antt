-- Gates of roots.
use Rattle.std.proofs.Common.{◌≡◌, ℕ, ◌+◌, ◌*◌, ◌<◌, Bool, false, eqb, List, [], ◌∷◌, length, get_or, slice_get, Some, sym, ap, ◌∙◌, refl, arith, subst, zero, suc, Vec, Global}
use Rattle.std.specs.Prelude.{map}
use Rattle.std.specs.List.{All}
use Rattle.std.proofs.lemmas.Bool.{eq-eqb}
use Rattle.std.proofs.lemmas.List.{length-map, get_or-map}
use Rattle.std.proofs.lemmas.List.Folds.{list_any_at}
use Rattle.std.proofs.lemmas.List.Elements.{All-head, All-tail, All-get_or, All-map}
use Rattle.region_pool.specs.Blocks.{block_at}
use Rattle.sym_terms.specs.declared.TermId.{TermId}
use Rattle.sym_terms.specs.declared.term.Term.{Term}
use Rattle.sym_terms.specs.Terms.{AreFitting}
use Rattle.bit_gates.specs.declared.gate.Gate.{Gate}
use Rattle.bit_gates.specs.declared.gates.InputBit.{InputBit}
use Rattle.bit_gates.specs.declared.gates.Gates.{Gates}
use Rattle.bit_gates.specs.Circuit.{Circuit, constant_circuit, value}
use Rattle.bit_gates.specs.Made.{AreIn, number, bit}
use Rattle.gate_trim.specs.Reading.{IsEachRead}
use Rattle.gate_trim.specs.Marks.{AreWanted}
use Rattle.gate_trim.specs.Trimmed.{circuit, IsCircuit, IsTrimmed}
use Rattle.sym_terms.specs.Terms.{value as term_at}
use Rattle.bit_blast.specs.Reached.{is_part, is_root}
use Rattle.bit_blast.specs.Inputs.{AreFew, HaveWidths, HavePlaces, ArePlaced, input_bits, AreAtPlaces}
use Rattle.bit_blast.specs.Blasted.{word_at, IsTable, IsBlasted, IsRoot, AreGatesOf, lists_of}
use Rattle.bit_blast.proofs.Arithmetical.{same_word}
use Rattle.bit_blast.proofs.Reaching.{root_is_root}
use Rattle.bit_blast.proofs.Placing.{placed_apart, placed_small, inputs_at_places, inputs_placed}

listed : (blocks : List (List ℕ)) (roots : List TermId) (k : ℕ) (root : TermId) → slice_get roots k ≡ Some root → get_or (map (λ (r : TermId). block_at blocks r.0) roots) k [] ≡ block_at blocks root.0
listed blocks [] k root e = absurd (cc)
listed blocks (x ∷ xs) zero root e = let f : x ≡ root = cc in ap (λ (r : TermId). block_at blocks r.0) f
listed blocks (x ∷ xs) (suc k) root e = listed blocks xs k root e

inside_of : (n : ℕ) (roots : List TermId) (k : ℕ) (root : TermId) → All (λ r. r.0 < n) roots → slice_get roots k ≡ Some root → root.0 < n
inside_of n [] k root h e = absurd (cc)
inside_of n (x ∷ xs) zero root h e = let f : x ≡ root = cc in subst (λ (r : TermId). r.0 < n) f (All-head (λ r. r.0 < n) x xs h)
inside_of n (x ∷ xs) (suc k) root h e = inside_of n xs k root (All-tail (λ r. r.0 < n) x xs h) e

inside_list : (roots : List TermId) (k : ℕ) (root : TermId) → slice_get roots k ≡ Some root → k < length roots
inside_list [] k root e = absurd (cc)
inside_list (x ∷ xs) zero root e = omega arith
inside_list (x ∷ xs) (suc k) root e = omega (arith, inside_list xs k root e)

same_circuit : (m n : ℕ) (x y : List Gate) → m ≡ n → x ≡ y → (let c : Circuit = record { inputs = m; gates = x } in c) ≡ record { inputs = n; gates = y }
same_circuit m n x y e f = rw (e, f) refl

-- the number that a list of bits writes, the lowest bit first
total : List Bool → ℕ
total [] = 0
total (b ∷ bs) = bit b + 2 * total bs

number_total : (v : ℕ → Bool) (xs : List ℕ) → number v xs ≡ total (map v xs)
unfolding number total
number_total v [] = refl
number_total v (x ∷ xs) = ap (λ (k : ℕ). bit (v x) + 2 * k) (number_total v xs)

-- literals with the same values write the same word
pub word_same : (v w : ℕ → Bool) (xs ys : List ℕ) → map v xs ≡ map w ys → word_at v xs ≡ word_at w ys
word_same v w xs ys e =
    same_word (length xs) (length ys) (number v xs) (number w ys)
    (sym (length-map xs v) ∙ ap length e ∙ length-map ys w)
    (number_total v xs ∙ ap total e ∙ sym (number_total w ys))

-- the literals at one place of two lists of words with the same values
pub values_at : (v w : ℕ → Bool) (xs ys : List (List ℕ)) (k : ℕ) → map (map v) xs ≡ map (map w) ys → k < length ys → map v (get_or xs k []) ≡ map w (get_or ys k [])
values_at v w xs ys k e l =
    let long : length xs ≡ length ys = sym (length-map xs (map v)) ∙ ap length e ∙ length-map ys (map w) in
    sym (get_or-map (map v) xs k [] [] (omega arith)) ∙ ap (λ (ls : List (List Bool)). get_or ls k []) e ∙ get_or-map (map w) ys k [] [] l

-- the literals of a root in the circuit that is left
root_is : (c lean : Circuit) (inputs : List InputBit) (gates : List Gate) (terms : List Term) (places : List ℕ) (root : ℕ) (old literals : List ℕ) → lean.inputs ≡ length inputs → lean.gates ≡ gates → IsBlasted c terms places root old → AreAtPlaces (input_bits inputs) terms places
    → AreIn lean literals → ((bits : ℕ → Bool) → map (value lean bits) literals ≡ map (value c bits) old) → IsRoot inputs gates terms root literals
root_is c lean inputs gates terms places root old literals ei eg h are inside same =
    let here : lean ≡ record { inputs = length inputs; gates = gates } = same_circuit lean.inputs (length inputs) lean.gates gates ei eg in
    let P : Circuit → Type 0 = λ k. AreIn k literals × ((numbers : ℕ → ℕ) → word_at (value k (input_bits inputs numbers)) literals ≡ term_at terms numbers root) in
    let r : P (record { inputs = length inputs; gates = gates }) = subst P here (
      inside,
      λ numbers. word_same (value lean (input_bits inputs numbers)) (value c (input_bits inputs numbers)) literals old (same (input_bits inputs numbers)) ∙ h.word_is (input_bits inputs) are numbers,
    ) in
    record { inside = r.0; word_is = r.1 }

pub gates_made : (c : Circuit) (terms : List Term) (roots : List TermId) (widths places : List ℕ) (marks : List Bool) (blocks words : List (List ℕ)) (g : Gates) → c.inputs ≡ length g.inputs.items
    → AreFitting terms → HaveWidths terms (length terms) widths → AreFew widths → ArePlaced widths g.inputs.items places → length marks ≡ length terms → AreWanted (is_root roots) (is_part terms) 0 marks → IsTable c terms places marks (length terms) blocks
    → words ≡ map (λ (r : TermId). block_at blocks r.0) roots → All (λ r. r.0 < length terms) roots → IsTrimmed c words (circuit c.inputs g.gates.items) (lists_of g) → AreGatesOf terms roots g
gates_made c terms roots widths places marks blocks words g ei fit have few placed long reached t el all trimmed =
    let lean : Circuit = circuit c.inputs g.gates.items in
    let here : circuit c.inputs g.gates.items ≡ circuit (length g.inputs.items) g.gates.items = ap (λ (n : ℕ). circuit n g.gates.items) ei in
    let left : IsCircuit (circuit (length g.inputs.items) g.gates.items) = subst (λ (k : Circuit). IsCircuit k) here trimmed.gates in
    let as_many : length (lists_of g) ≡ length words = sym (length-map (lists_of g) (map (value lean (λ k. false)))) ∙ ap length (trimmed.values (λ k. false)) ∙ length-map words (map (value c (λ k. false))) in
    let roots_too : length words ≡ length roots = ap length el ∙ length-map roots (λ (r : TermId). block_at blocks r.0) in
    record {
      apart = placed_apart widths g.inputs.items places placed;
      small = placed_small widths g.inputs.items places few placed;
      first = left.first;
      in_order = left.in_order;
      few = left.few;
      read = subst (λ (k : Circuit). IsEachRead k (lists_of g)) here trimmed.read;
      one_each = sym (length-map g.roots.items (λ word. word.items)) ∙ as_many ∙ roots_too;
      each = λ k root e.
          let l : k < length roots = inside_list roots k root e in
          let low : root.0 < length terms = inside_of (length terms) roots k root all e in
          let old : get_or words k [] ≡ block_at blocks root.0 = ap (λ (ls : List (List ℕ)). get_or ls k []) el ∙ listed blocks roots k root e in
          root_is c lean g.inputs.items g.gates.items terms places root.0 (block_at blocks root.0) (get_or (lists_of g) k []) ei refl
          (t.each root.0 low (reached.rooted root.0 (omega arith) (root_is_root roots k root e)))
          (inputs_at_places terms widths g.inputs.items places fit have placed)
          (All-get_or (AreIn lean) (lists_of g) k [] (omega arith) trimmed.inside)
          (λ bits. values_at (value lean bits) (value c bits) (lists_of g) words k (trimmed.values bits) (omega arith) ∙ ap (map (value c bits)) old);
    }

-- the same circuit, as its parts show it
pub circuit_seen : (c : Circuit) (n : ℕ) (gates : List Gate) → n ≡ c.inputs → gates ≡ c.gates → circuit n gates ≡ c
circuit_seen c n gates ei eg = ap (λ (k : ℕ). circuit k gates) ei ∙ ap (circuit c.inputs) eg

pub trimmed_seen : (c : Circuit) (n : ℕ) (gates next : List Gate) (roots words : List (List ℕ)) → n ≡ c.inputs → gates ≡ c.gates → IsTrimmed (circuit n gates) roots (circuit n next) words → IsTrimmed c roots (circuit c.inputs next) words
trimmed_seen c n gates next roots words ei eg h =
    subst (λ (k : Circuit). IsTrimmed k roots (circuit c.inputs next) words) (circuit_seen c c.inputs gates refl eg)
    (subst (λ (k : ℕ). IsTrimmed (circuit k gates) roots (circuit k next) words) ei h)

-- the words of the roots are of the circuit
pub words_inside : (c : Circuit) (terms : List Term) (roots : List TermId) (places : List ℕ) (marks : List Bool) (blocks words : List (List ℕ)) → length marks ≡ length terms → AreWanted (is_root roots) (is_part terms) 0 marks → IsTable c terms places marks (length terms) blocks
    → words ≡ map (λ (r : TermId). block_at blocks r.0) roots → All (λ r. r.0 < length terms) roots → All (AreIn c) words
words_inside c terms roots places marks blocks words long reached t el all =
    subst (λ (ws : List (List ℕ)). All (AreIn c) ws) (sym el)
    (All-map (AreIn c) (λ (r : TermId). block_at blocks r.0) roots (λ k d l.
    (t.each (get_or roots k d).0 (all k d l) (reached.rooted (get_or roots k d).0 (omega (arith, all k d l)) (list_any_at (λ (r : TermId). eqb r.0 (get_or roots k d).0) roots k d l (eq-eqb (get_or roots k d).0 (get_or roots k d).0 refl)))).inside))

-- room for the inputs in a new circuit
pub room_made : (c : Circuit) (terms : List Term) (widths widths' places places' : List ℕ) (bits : List InputBit) (n : ℕ) → AreFitting terms → HaveWidths terms (length terms) widths → widths' ≡ widths → ArePlaced widths' bits places → places' ≡ places → c ≡ constant_circuit n → n ≡ length bits → HavePlaces terms places' c.inputs
room_made c terms widths widths' places places' bits n fit have ew h ep ec en =
    let same : c.inputs ≡ length bits = ap (λ (k : Circuit). k.inputs) ec ∙ en in
    let here : HavePlaces terms places (length bits) = inputs_placed terms widths bits places fit have (subst (λ (k : List ℕ). ArePlaced k bits places) ew h) in
    subst (λ (k : List ℕ). HavePlaces terms k c.inputs) (sym ep) (subst (λ (k : ℕ). HavePlaces terms places k) (sym same) here)

-- the same table, as a lent list of places and of marks shows it
pub table_seen : (c : Circuit) (terms : List Term) (seen places : List ℕ) (these marks : List Bool) (blocks : List (List ℕ)) → seen ≡ places → these ≡ marks → IsTable c terms seen these (length terms) blocks → IsTable c terms places marks (length terms) blocks
table_seen c terms seen places these marks blocks ep em t =
    subst (λ (p : List ℕ). IsTable c terms p marks (length terms) blocks) ep (subst (λ (m : List Bool). IsTable c terms seen m (length terms) blocks) em t)

-- words that are inside as lists
pub words_seen : (c : Circuit) (seen words : List (Vec ℕ Global)) → seen ≡ words → All (AreIn c) (map (λ (w : Vec ℕ Global). w.items) words) → All (λ (w : Vec ℕ Global). AreIn c w.items) seen
words_seen c seen words e h =
    subst (λ (ws : List (Vec ℕ Global)). All (λ (w : Vec ℕ Global). AreIn c w.items) ws) (sym e)
    (λ k d l. subst (λ (ls : List ℕ). AreIn c ls) (get_or-map (λ (w : Vec ℕ Global). w.items) words k d d.items l) (h k d.items (omega (arith, length-map words (λ (w : Vec ℕ Global). w.items)))))
