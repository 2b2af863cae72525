-- Marks at gates that stand in roots, and at those that marked gates read.
use Rattle.std.proofs.Common.{◌≡◌, ℕ, ◌+◌, ◌-◌, ◌*◌, ◌/◌, ◌<◌, ◌≤◌, Bool, true, false, ◌||◌, List, [], ◌∷◌, ◌++◌, length, take, drop, get_or, replicate, zero, suc, sym, ap, ◌∙◌, refl, arith, subst, inl, inr}
use Rattle.std.specs.List.{list_any}
use Rattle.std.proofs.Math.ListN.{set}
use Rattle.std.proofs.lemmas.Bool.{cases_eq, or_cases, or_left, or_right, eq-eqb, ne_eqb, eqb-true, both_ways, false_from_ne_true}
use Rattle.std.proofs.lemmas.List.{get_or-replicate, length-replicate, get_or-set_other, length-set, drop_all, append-nil, take_all}
use Rattle.std.proofs.lemmas.Grind.{get_or-set_at}
use Rattle.std.proofs.lemmas.List.Folds.{list_any_more}
use Rattle.bit_gates.specs.declared.gate.Gate.{Gate}
use Rattle.bit_gates.specs.declared.gate.Gate.TheVariants.{True, And, Xor, Choose}
use Rattle.bit_gates.specs.Values.{IsGateOf, AreInOrder}
use Rattle.gate_trim.specs.Reading.{is_of, reads, stands_in, gate_reads}
use Rattle.gate_trim.specs.Marks.{AreMarked, HasReader, AreWanted}

or_assoc : (x y z : Bool) → ((x || y) || z) ≡ (x || (y || z))
or_assoc true y z = refl
or_assoc false y z = refl

or_none : (x y : Bool) → y ≡ false → (x || y) ≡ x
or_none true y e = refl
or_none false y e = e

pub marked_none : (marks : List Bool) (test : ℕ → Bool) → ((k : ℕ) → k < length marks → test k ≡ false) → AreMarked marks marks test
marked_none marks test none = record {
  one_each = refl;
  marks = λ k l. sym (or_none (get_or marks k false) (test k) (none k l));
}

pub marked_twice : (a b c : List Bool) (p q : ℕ → Bool) → AreMarked a b p → AreMarked b c q → AreMarked a c (λ k. p k || q k)
marked_twice a b c p q f g = record {
  one_each = g.one_each ∙ f.one_each;
  marks = λ k l.
      g.marks k (omega (arith, f.one_each))
      ∙ ap (λ (x : Bool). x || q k) (f.marks k l)
      ∙ or_assoc (get_or a k false) (p k) (q k);
}

pub marked_thrice : (a b c d : List Bool) (p q r : ℕ → Bool) → AreMarked a b p → AreMarked b c q → AreMarked c d r → AreMarked a d (λ k. p k || q k || r k)
marked_thrice a b c d p q r f g h = marked_twice a c d (λ k. p k || q k) r (marked_twice a b c p q f g) h

-- the same marks by a test that gives the same
pub marked_same : (a b : List Bool) (p q : ℕ → Bool) → ((k : ℕ) → p k ≡ q k) → AreMarked a b p → AreMarked a b q
marked_same a b p q e m = record {
  one_each = m.one_each;
  marks = λ k l. m.marks k l ∙ ap (λ (x : Bool). get_or a k false || x) (e k);
}

-- one mark
pub marked_at : (marks : List Bool) (at : ℕ) (test : ℕ → Bool) → at < length marks → test at ≡ true → ((k : ℕ) → (k ≡ at → ⊥) → test k ≡ false) → AreMarked marks (set marks at true) test
marked_at marks at test inside here others = record {
  one_each = length-set marks at true;
  marks = λ k l. elim (cases_eq k at) [
    | inl e ↦ get_or-set_at marks at k true false e inside ∙ sym (or_right (get_or marks k false) (test k) (ap test e ∙ here))
    | inr ne ↦ get_or-set_other marks at k true false ne ∙ sym (or_none (get_or marks k false) (test k) (others k ne))
  ];
}

-- the gate of one literal
pub marked_one : (marks : List Bool) (inputs literal : ℕ) → inputs ≤ literal / 2 → literal / 2 - inputs < length marks → AreMarked marks (set marks (literal / 2 - inputs) true) (λ k. is_of (inputs + k) literal)
marked_one marks inputs literal above inside =
    marked_at marks (literal / 2 - inputs) (λ k. is_of (inputs + k) literal) inside (eq-eqb (literal / 2) (inputs + (literal / 2 - inputs)) (omega arith))
    (λ k ne. ne_eqb (literal / 2) (inputs + k) (λ e. ne (omega arith)))

-- a literal of no gate
pub marked_low : (marks : List Bool) (inputs literal : ℕ) → literal / 2 < inputs → AreMarked marks marks (λ k. is_of (inputs + k) literal)
marked_low marks inputs literal low = marked_none marks (λ k. is_of (inputs + k) literal) (λ k l. ne_eqb (literal / 2) (inputs + k) (λ e. absurd (omega arith)))

pub marked_high : (marks : List Bool) (inputs literal : ℕ) → length marks ≤ literal / 2 - inputs → AreMarked marks marks (λ k. is_of (inputs + k) literal)
marked_high marks inputs literal high = marked_none marks (λ k. is_of (inputs + k) literal) (λ k l. ne_eqb (literal / 2) (inputs + k) (λ e. absurd (omega arith)))

pub marked_nowhere : (marks : List Bool) → AreMarked marks marks (λ k. false)
marked_nowhere marks = marked_none marks (λ k. false) (λ k l. refl)

-- one more literal of a word, and one more word
pub marked_literal : (a b c : List Bool) (inputs i literal : ℕ) (word : List ℕ) → i < length word → literal ≡ get_or word i 0 → AreMarked a b (λ k. list_any (is_of (inputs + k)) (take i word)) → AreMarked b c (λ k. is_of (inputs + k) literal)
    → AreMarked a c (λ k. list_any (is_of (inputs + k)) (take (i + 1) word))
marked_literal a b c inputs i literal word l e f g =
    marked_same a c (λ k. list_any (is_of (inputs + k)) (take i word) || is_of (inputs + k) literal) (λ k. list_any (is_of (inputs + k)) (take (i + 1) word))
    (λ k. ap (λ (n : ℕ). list_any (is_of (inputs + k)) (take i word) || is_of (inputs + k) n) e ∙ sym (list_any_more (is_of (inputs + k)) word i 0 l))
    (marked_twice a b c (λ k. list_any (is_of (inputs + k)) (take i word)) (λ k. is_of (inputs + k) literal) f g)

pub marked_word : (a b c : List Bool) (inputs i : ℕ) (word : List ℕ) (words : List (List ℕ)) → i < length words → word ≡ get_or words i [] → AreMarked a b (λ k. stands_in (inputs + k) (take i words)) → AreMarked b c (λ k. list_any (is_of (inputs + k)) word)
    → AreMarked a c (λ k. stands_in (inputs + k) (take (i + 1) words))
marked_word a b c inputs i word words l e f g =
    marked_same a c (λ k. stands_in (inputs + k) (take i words) || list_any (is_of (inputs + k)) word) (λ k. stands_in (inputs + k) (take (i + 1) words))
    (λ k. ap (λ (w : List ℕ). stands_in (inputs + k) (take i words) || list_any (is_of (inputs + k)) w) e ∙ sym (list_any_more (λ w. list_any (is_of (inputs + k)) w) words i [] l))
    (marked_twice a b c (λ k. stands_in (inputs + k) (take i words)) (λ k. list_any (is_of (inputs + k)) word) f g)

-- at first the roots alone are marked
pub wanted_at_first : (roots : ℕ → Bool) (reads : ℕ → ℕ → Bool) (count : ℕ) (old marks : List Bool) → old ≡ replicate count false → AreMarked old marks roots → AreWanted roots reads count marks
wanted_at_first roots reads count old marks e m =
    let long : length old ≡ count = ap length e ∙ length-replicate count false in
    let none : (k : ℕ) → k < count → get_or old k false ≡ false = λ k l. ap (λ (x : List Bool). get_or x k false) e ∙ get_or-replicate count k false false l in
    record {
      rooted = λ k l r. m.marks k (omega (arith, m.one_each)) ∙ or_right (get_or old k false) (roots k) r;
      closed = λ k l h. absurd (omega (arith, h.above, h.inside, m.one_each));
      needed = λ k l t. elim (or_cases (get_or old k false) (roots k) (sym (m.marks k (omega (arith, m.one_each))) ∙ t)) [
        | inl was ↦ absurd (both_ways (get_or old k false) (none k (omega (arith, m.one_each))) was)
        | inr r ↦ inl r
      ];
    }

-- what is not marked asks for nothing
pub wanted_passed : (roots : ℕ → Bool) (reads : ℕ → ℕ → Bool) (low k : ℕ) (marks : List Bool) → low ≡ k + 1 → get_or marks k false ≡ false → AreWanted roots reads low marks → AreWanted roots reads k marks
wanted_passed roots reads low k marks e here s = record {
  rooted = s.rooted;
  closed = λ i l h. s.closed i l (later i h);
  needed = λ i l t. elim (s.needed i l t) [
    | inl r ↦ inl r
    | inr h ↦ inr (record { reader = h.reader; above = omega (arith, h.above); inside = h.inside; marked = h.marked; reads_it = h.reads_it })
  ];
}
  where
    later : (i : ℕ) → HasReader reads k marks i → HasReader reads low marks i
    later i h = record {
      reader = h.reader;
      above = elim (cases_eq h.reader k) [
        | inl same ↦ absurd (both_ways (get_or marks k false) here (ap (λ (n : ℕ). get_or marks n false) (sym same) ∙ h.marked))
        | inr other ↦ omega (arith, h.above)
      ];
      inside = h.inside;
      marked = h.marked;
      reads_it = h.reads_it;
    }

-- what is marked has what it reads marked, which are numbers below its own
pub wanted_on : (roots : ℕ → Bool) (reads : ℕ → ℕ → Bool) (low k : ℕ) (old new : List Bool) → low ≡ k + 1 → low ≤ length old → get_or old k false ≡ true → ((i : ℕ) → reads i k ≡ true → i < k) → AreMarked old new (λ i. reads i k) → AreWanted roots reads low old → AreWanted roots reads k new
wanted_on roots reads low k old new e inside here order m s = record {
  rooted = λ i l r. grown i (omega (arith, m.one_each)) (s.rooted i (omega (arith, m.one_each)) r);
  closed = λ i l h. elim (cases_eq h.reader k) [
    | inl same ↦
        (let r : reads i k ≡ true = ap (reads i) (sym same) ∙ h.reads_it in
        m.marks i (omega (arith, m.one_each)) ∙ or_right (get_or old i false) (reads i k) r)
    | inr other ↦
        grown i (omega (arith, m.one_each))
        (s.closed i (omega (arith, m.one_each)) (record {
          reader = h.reader;
          above = omega (arith, h.above);
          inside = omega (arith, h.inside, m.one_each);
          marked = before h.reader h.above (omega (arith, h.inside, m.one_each)) h.marked;
          reads_it = h.reads_it;
        }))
  ];
  needed = λ i l t. elim (or_cases (get_or old i false) (reads i k) (sym (m.marks i (omega (arith, m.one_each))) ∙ t)) [
    | inl was ↦ elim (s.needed i (omega (arith, m.one_each)) was) [
      | inl r ↦ inl r
      | inr h ↦ inr (record {
        reader = h.reader;
        above = omega (arith, h.above);
        inside = omega (arith, h.inside, m.one_each);
        marked = grown h.reader h.inside h.marked;
        reads_it = h.reads_it;
      })
    ]
    | inr now ↦ inr (record { reader = k; above = omega arith; inside = omega (arith, m.one_each); marked = grown k (omega arith) here; reads_it = now })
  ];
}
  where
    grown : (i : ℕ) → i < length old → get_or old i false ≡ true → get_or new i false ≡ true
    grown i l h = m.marks i l ∙ or_left (get_or old i false) (reads i k) h

    before : (i : ℕ) → k ≤ i → i < length old → get_or new i false ≡ true → get_or old i false ≡ true
    before i above l t =
        let none : reads i k ≡ false = false_from_ne_true (reads i k) (λ r. absurd (omega (arith, order i r))) in
        sym (or_none (get_or old i false) (reads i k) none) ∙ sym (m.marks i l) ∙ t

-- a gate in order reads variables before it alone
pub gate_in_order : (at : ℕ) (gates : List Gate) (k : ℕ) → AreInOrder at gates → k < length gates → IsGateOf (at + k) (get_or gates k True)
unfolding AreInOrder
gate_in_order at [] k o l = absurd (omega arith)
gate_in_order at (gate ∷ gates) zero o l =
    let e : at ≡ at + 0 = omega arith in
    subst (λ (n : ℕ). IsGateOf n gate) e o.0
gate_in_order at (gate ∷ gates) (suc k) o l =
    let e : at + 1 + k ≡ at + suc k = omega arith in
    subst (λ (n : ℕ). IsGateOf n (get_or gates k True)) e (gate_in_order (at + 1) gates k o.1 (omega arith))

of_before : (n variable literal : ℕ) → literal < 2 * n → is_of variable literal ≡ true → variable < n
of_before n variable literal l e = omega (arith, eqb-true (literal / 2) variable e)

pub reads_before : (n : ℕ) (gate : Gate) (variable : ℕ) → IsGateOf n gate → reads variable gate ≡ true → variable < n
reads_before n True variable g e = absurd (both_ways false refl e)
reads_before n (And a b) variable g e = elim (or_cases (is_of variable a) (is_of variable b) e) [
  | inl h ↦ of_before n variable a g.0 h
  | inr h ↦ of_before n variable b g.1 h
]
reads_before n (Xor a b) variable g e = elim (or_cases (is_of variable a) (is_of variable b) e) [
  | inl h ↦ of_before n variable a g.0 h
  | inr h ↦ of_before n variable b g.1 h
]
reads_before n (Choose test a b) variable g e = elim (or_cases (is_of variable test || is_of variable a) (is_of variable b) e) [
  | inl h ↦ elim (or_cases (is_of variable test) (is_of variable a) h) [
    | inl h' ↦ of_before n variable test g.0 h'
    | inr h' ↦ of_before n variable a g.1 h'
  ]
  | inr h ↦ of_before n variable b g.2 h
]

-- the gate with this number reads gates before it alone
pub reads_earlier : (inputs : ℕ) (gates : List Gate) (k : ℕ) → AreInOrder inputs gates → k < length gates → (i : ℕ) → gate_reads inputs gates i k ≡ true → i < k
reads_earlier inputs gates k order l i r =
    let low : inputs + i < inputs + k = reads_before (inputs + k) (get_or gates k True) (inputs + i) (gate_in_order inputs gates k order l) r in
    omega arith

-- a list that was lent whole and written back
pub written_back : {X : Type 0} → (count : ℕ) (old new : List X) → length old ≡ count → length new ≡ count → take count (new ++ drop (length new) old) ≡ new
written_back count old new lo ln =
    let none : drop (length new) old ≡ [] = drop_all (length new) old (omega arith) in
    ap (λ k. take count (new ++ k)) none ∙ ap (take count) (append-nil new) ∙ take_all count new (omega arith)

-- the marks that a marked gate asks for
pub wanted_gate : (inputs : ℕ) (gates : List Gate) (roots : ℕ → Bool) (low k : ℕ) (old new : List Bool) → AreInOrder inputs gates → low ≤ length gates → low ≡ k + 1 → length old ≡ length gates → get_or old k false ≡ true → AreMarked old new (λ i. reads (inputs + i) (get_or gates k True)) → AreWanted roots (gate_reads inputs gates) low old → AreWanted roots (gate_reads inputs gates) k new
wanted_gate inputs gates roots low k old new order inside e long here m s = wanted_on roots (gate_reads inputs gates) low k old new e (omega arith) here (reads_earlier inputs gates k order (omega arith)) m s
