-- Gates that have moved.
use Rattle.std.proofs.Common.{◌≡◌, ℕ, ◌+◌, ◌-◌, ◌*◌, ◌/◌, ◌%◌, ◌^◌, ◌<◌, ◌≤◌, Bool, true, false, ◌||◌, eqb, List, [], ◌∷◌, ◌++◌, length, take, get_or, slice_get, Some, sym, ap, ◌∙◌, refl, arith, subst, inl, inr}
use Rattle.std.specs.Prelude.{map, nat_lt}
use Rattle.std.specs.List.{All, list_any}
use Rattle.std.proofs.lemmas.Bool.{cases_lt, or_cases, or_left, or_right, eq-eqb, eqb-true, lt-ltb, le-ltb, both_ways, cond-true, cond-false}
use Rattle.std.proofs.lemmas.List.{get_or_append_left, get_or_push, get_or_default, length_push, map_more}
use Rattle.std.proofs.lemmas.List.Elements.{All-head, All-tail, All-get_or, All-push, All-map, All-weaker}
use Rattle.std.proofs.lemmas.List.Folds.{list_any-append}
use Rattle.region_pool.specs.Literals.{literal_value, negation}
use Rattle.bit_gates.specs.declared.gate.Gate.{Gate}
use Rattle.bit_gates.specs.declared.gate.Gate.TheVariants.{True, And, Xor, Choose}
use Rattle.bit_gates.specs.Values.{signed, differ, gate_value, valued, IsGateOf, AreInOrder}
use Rattle.bit_gates.specs.Circuit.{Circuit, constant_circuit, size, value}
use Rattle.bit_gates.specs.Made.{IsMade, IsConstant, AreIn}
use Rattle.bit_gates.proofs.MadeLaws.{made_there, made-pushed, first-push, AreInOrder-push, truth_is}
use Rattle.bit_gates.proofs.InputLaws.{constant_in_order}
use Rattle.bit_gates.proofs.LiteralLaws.{literal_value_signed, literal_value_positive, signed_inside}
use Rattle.bit_gates.proofs.ValueLaws.{literal_agrees, valued_below}
use Rattle.bit_gates.proofs.NumberLaws.{are_in_kept}
use Rattle.gate_trim.specs.Reading.{is_of, reads, stands_in, gate_reads}
use Rattle.gate_trim.specs.Marks.{AreClosed, AreWanted}
use Rattle.gate_trim.specs.Moves.{moved, moved_gate, IsPassed, IsPushed, IsMovedGate, HasOrigin, AreMoved}
use Rattle.gate_trim.specs.Trimmed.{circuit, IsCircuit, IsTrimmed}
use Rattle.gate_trim.proofs.MarkLaws.{gate_in_order, reads_before}

pub moved_input : (places : List ℕ) (inputs literal : ℕ) → literal / 2 < inputs → moved places inputs literal ≡ literal
moved_input places inputs literal l = cond-true (nat_lt (literal / 2) inputs) literal (signed (get_or places (literal / 2 - inputs) 0) (eqb (literal % 2) 1)) (lt-ltb (literal / 2) inputs l)

pub moved_place : (places : List ℕ) (inputs literal : ℕ) → inputs ≤ literal / 2 → moved places inputs literal ≡ signed (get_or places (literal / 2 - inputs) 0) (eqb (literal % 2) 1)
moved_place places inputs literal l = cond-false (nat_lt (literal / 2) inputs) literal (signed (get_or places (literal / 2 - inputs) 0) (eqb (literal % 2) 1)) (le-ltb (literal / 2) inputs l)

-- a moved literal is of a variable of the new circuit
pub moved_inside : (places : List ℕ) (inputs n literal : ℕ) → inputs ≤ n → literal < 2 * (inputs + length places) → All (λ l. l < 2 * n) places → moved places inputs literal < 2 * n
moved_inside places inputs n literal few l inside = elim (cases_lt (literal / 2) inputs) [
  | inl low ↦ rw (moved_input places inputs literal low) (omega arith)
  | inr high ↦
      rw (moved_place places inputs literal high)
      (signed_inside (get_or places (literal / 2 - inputs) 0) n (eqb (literal % 2) 1) (All-get_or (λ l. l < 2 * n) places (literal / 2 - inputs) 0 (omega arith) inside))
]

pub moved_gate_inside : (places : List ℕ) (inputs n : ℕ) (gate : Gate) → inputs ≤ n → IsGateOf (inputs + length places) gate → All (λ l. l < 2 * n) places → IsGateOf n (moved_gate places inputs gate)
moved_gate_inside places inputs n True few g inside = tt
moved_gate_inside places inputs n (And a b) few g inside = (moved_inside places inputs n a few g.0 inside, moved_inside places inputs n b few g.1 inside)
moved_gate_inside places inputs n (Xor a b) few g inside = (moved_inside places inputs n a few g.0 inside, moved_inside places inputs n b few g.1 inside)
moved_gate_inside places inputs n (Choose test a b) few g inside = (moved_inside places inputs n test few g.0 inside, moved_inside places inputs n a few g.1 inside, moved_inside places inputs n b few g.2 inside)

-- a moved literal has its value where its gate has
pub moved_value : (old new : Circuit) (places : List ℕ) (bits : ℕ → Bool) (literal : ℕ) → new.inputs ≡ old.inputs
    → (old.inputs ≤ literal / 2 → value new bits (get_or places (literal / 2 - old.inputs) 0) ≡ value old bits (2 * (literal / 2)))
    → value new bits (moved places old.inputs literal) ≡ value old bits literal
unfolding value
moved_value old new places bits literal e h = elim (cases_lt (literal / 2) old.inputs) [
  | inl low ↦
      (let agree : (k : ℕ) → k < old.inputs → valued bits new.inputs new.gates k ≡ valued bits old.inputs old.gates k =
      λ k l. valued_below bits new.inputs new.gates k (omega arith) ∙ sym (valued_below bits old.inputs old.gates k l) in
      rw (moved_input places old.inputs literal low)
      (literal_agrees (valued bits new.inputs new.gates) (valued bits old.inputs old.gates) old.inputs literal agree (omega arith)))
  | inr high ↦
      (let whole : 2 * (literal / 2) ≡ literal - literal % 2 = omega arith in
      rw (moved_place places old.inputs literal high)
      (literal_value_signed (valued bits new.inputs new.gates) (get_or places (literal / 2 - old.inputs) 0) (eqb (literal % 2) 1)
      ∙ ap (differ (eqb (literal % 2) 1)) (h high ∙ ap (literal_value (valued bits old.inputs old.gates)) whole)
      ∙ sym (literal_value_positive (valued bits old.inputs old.gates) literal)))
]

of_itself : (literal : ℕ) → is_of (literal / 2) literal ≡ true
of_itself literal = eq-eqb (literal / 2) (literal / 2) refl

pub moved_gate_value : (v w : ℕ → Bool) (places : List ℕ) (inputs : ℕ) (gate : Gate) → ((literal : ℕ) → reads (literal / 2) gate ≡ true → v (moved places inputs literal) ≡ w literal) → gate_value v (moved_gate places inputs gate) ≡ gate_value w gate
moved_gate_value v w places inputs True h = refl
moved_gate_value v w places inputs (And a b) h =
    rw (h a (or_left (is_of (a / 2) a) (is_of (a / 2) b) (of_itself a)), h b (or_right (is_of (b / 2) a) (is_of (b / 2) b) (of_itself b))) refl
moved_gate_value v w places inputs (Xor a b) h =
    rw (h a (or_left (is_of (a / 2) a) (is_of (a / 2) b) (of_itself a)), h b (or_right (is_of (b / 2) a) (is_of (b / 2) b) (of_itself b))) refl
moved_gate_value v w places inputs (Choose test a b) h =
    rw (
      h test (or_left (is_of (test / 2) test || is_of (test / 2) a) (is_of (test / 2) b) (or_left (is_of (test / 2) test) (is_of (test / 2) a) (of_itself test))),
      h a (or_left (is_of (a / 2) test || is_of (a / 2) a) (is_of (a / 2) b) (or_right (is_of (a / 2) test) (is_of (a / 2) a) (of_itself a))),
      h b (or_right (is_of (b / 2) test || is_of (b / 2) a) (is_of (b / 2) b) (of_itself b)),
    ) refl

-- a literal of a gate whose new literal is no negation is moved to one of that variable
of_moved : (places : List ℕ) (inputs j literal : ℕ) → get_or places j 0 % 2 ≡ 0 → is_of (inputs + j) literal ≡ true → is_of (get_or places j 0 / 2) (moved places inputs literal) ≡ true
unfolding negation
of_moved places inputs j literal even e =
    let at : literal / 2 ≡ inputs + j = eqb-true (literal / 2) (inputs + j) e in
    let index : literal / 2 - inputs ≡ j = omega arith in
    let place : moved places inputs literal ≡ signed (get_or places j 0) (eqb (literal % 2) 1) =
    moved_place places inputs literal (omega arith) ∙ ap (λ (n : ℕ). signed (get_or places n 0) (eqb (literal % 2) 1)) index in
    eq-eqb (moved places inputs literal / 2) (get_or places j 0 / 2) (ap (λ (n : ℕ). n / 2) place ∙ half (get_or places j 0) (eqb (literal % 2) 1) even)
  where
    half : (n : ℕ) (negated : Bool) → n % 2 ≡ 0 → signed n negated / 2 ≡ n / 2
    half n true z = rw z (omega arith)
    half n false z = refl

pub reads_moved : (places : List ℕ) (inputs j : ℕ) (gate : Gate) → get_or places j 0 % 2 ≡ 0 → reads (inputs + j) gate ≡ true → reads (get_or places j 0 / 2) (moved_gate places inputs gate) ≡ true
reads_moved places inputs j True even e = e
reads_moved places inputs j (And a b) even e = elim (or_cases (is_of (inputs + j) a) (is_of (inputs + j) b) e) [
  | inl h ↦ or_left (is_of (get_or places j 0 / 2) (moved places inputs a)) (is_of (get_or places j 0 / 2) (moved places inputs b)) (of_moved places inputs j a even h)
  | inr h ↦ or_right (is_of (get_or places j 0 / 2) (moved places inputs a)) (is_of (get_or places j 0 / 2) (moved places inputs b)) (of_moved places inputs j b even h)
]
reads_moved places inputs j (Xor a b) even e = elim (or_cases (is_of (inputs + j) a) (is_of (inputs + j) b) e) [
  | inl h ↦ or_left (is_of (get_or places j 0 / 2) (moved places inputs a)) (is_of (get_or places j 0 / 2) (moved places inputs b)) (of_moved places inputs j a even h)
  | inr h ↦ or_right (is_of (get_or places j 0 / 2) (moved places inputs a)) (is_of (get_or places j 0 / 2) (moved places inputs b)) (of_moved places inputs j b even h)
]
reads_moved places inputs j (Choose test a b) even e =
    let v = get_or places j 0 / 2 in
    elim (or_cases (is_of (inputs + j) test || is_of (inputs + j) a) (is_of (inputs + j) b) e) [
      | inl h ↦ or_left (is_of v (moved places inputs test) || is_of v (moved places inputs a)) (is_of v (moved places inputs b)) (elim (or_cases (is_of (inputs + j) test) (is_of (inputs + j) a) h) [
        | inl h' ↦ or_left (is_of v (moved places inputs test)) (is_of v (moved places inputs a)) (of_moved places inputs j test even h')
        | inr h' ↦ or_right (is_of v (moved places inputs test)) (is_of v (moved places inputs a)) (of_moved places inputs j a even h')
      ])
      | inr h ↦ or_right (is_of v (moved places inputs test) || is_of v (moved places inputs a)) (is_of v (moved places inputs b)) (of_moved places inputs j b even h)
    ]

word_moved : (places : List ℕ) (inputs j : ℕ) (word : List ℕ) → get_or places j 0 % 2 ≡ 0 → list_any (is_of (inputs + j)) word ≡ true → list_any (is_of (get_or places j 0 / 2)) (map (moved places inputs) word) ≡ true
word_moved places inputs j [] even e = e
word_moved places inputs j (x ∷ xs) even e = elim (or_cases (is_of (inputs + j) x) (list_any (is_of (inputs + j)) xs) e) [
  | inl h ↦ or_left (is_of (get_or places j 0 / 2) (moved places inputs x)) (list_any (is_of (get_or places j 0 / 2)) (map (moved places inputs) xs)) (of_moved places inputs j x even h)
  | inr h ↦ or_right (is_of (get_or places j 0 / 2) (moved places inputs x)) (list_any (is_of (get_or places j 0 / 2)) (map (moved places inputs) xs)) (word_moved places inputs j xs even h)
]

pub stands_moved : (places : List ℕ) (inputs j : ℕ) (words : List (List ℕ)) → get_or places j 0 % 2 ≡ 0 → stands_in (inputs + j) words ≡ true → stands_in (get_or places j 0 / 2) (map (map (moved places inputs)) words) ≡ true
stands_moved places inputs j [] even e = e
stands_moved places inputs j (w ∷ ws) even e =
    let v = get_or places j 0 / 2 in
    elim (or_cases (list_any (is_of (inputs + j)) w) (stands_in (inputs + j) ws) e) [
      | inl h ↦ or_left (list_any (is_of v) (map (moved places inputs) w)) (stands_in v (map (map (moved places inputs)) ws)) (word_moved places inputs j w even h)
      | inr h ↦ or_right (list_any (is_of v) (map (moved places inputs) w)) (stands_in v (map (map (moved places inputs)) ws)) (stands_moved places inputs j ws even h)
    ]

-- no gate has moved yet
pub moved_none : (old new : Circuit) (marks : List Bool) (places : List ℕ) → old.inputs + 1 < 2 ^ 60 → new ≡ constant_circuit old.inputs → places ≡ [] → AreMoved old marks 0 new places
moved_none old new marks places few e p = record {
  inputs = ap (λ (c : Circuit). c.inputs) e;
  circuit = subst (λ (c : Circuit). IsCircuit c) (sym e) (record { first = refl; in_order = constant_in_order old.inputs (True ∷ []) refl; few = few });
  one_each = ap length p;
  inside = subst (λ (ls : List ℕ). AreIn new ls) (sym p) (λ k d l. absurd (omega arith));
  values = λ k l marked bits. absurd (omega arith);
  origins = λ k l h. absurd (omega (arith, ap (λ (c : Circuit). length c.gates) e));
  readers = λ k j l marked r even. absurd (omega arith);
}

-- the value of a gate in order
gate_is : (c : Circuit) (k : ℕ) (gate : Gate) (bits : ℕ → Bool) → AreInOrder c.inputs c.gates → k < length c.gates → gate ≡ get_or c.gates k True → value c bits (2 * (c.inputs + k)) ≡ gate_value (value c bits) gate
gate_is c k gate bits order l e =
    let m : IsMade c c (2 * (c.inputs + k)) (λ v. gate_value v gate) = made_there c c.inputs k c.gates gate refl order l (get_or_default c.gates k gate True l ∙ sym e) in
    m.value_is bits

-- an origin among more places
origin_kept : (inputs : ℕ) (marks : List Bool) (n : ℕ) (places : List ℕ) (literal gate : ℕ) → length places ≡ n → HasOrigin inputs marks n places gate → HasOrigin inputs marks (n + 1) (places ++ literal ∷ []) gate
origin_kept inputs marks n places literal gate e h = record {
  origin = h.origin;
  below = omega (arith, h.below);
  marked = h.marked;
  place = get_or_append_left places (literal ∷ []) 0 h.origin (omega (arith, h.below)) ∙ h.place;
}

-- what a marked gate reads has its value where the marked gates before it have theirs
read_value : (old new : Circuit) (marks : List Bool) (n : ℕ) (places : List ℕ) (gate : Gate) (bits : ℕ → Bool) (literal : ℕ) → AreInOrder old.inputs old.gates → n < length old.gates → gate ≡ get_or old.gates n True → length marks ≡ length old.gates → AreClosed (gate_reads old.inputs old.gates) 0 marks → AreMoved old marks n new places → get_or marks n false ≡ true
    → reads (literal / 2) gate ≡ true → value new bits (moved places old.inputs literal) ≡ value old bits literal
read_value old new marks n places gate bits literal order l e long closed m marked r =
    moved_value old new places bits literal m.inputs (λ above.
    let i : ℕ = literal / 2 - old.inputs in
    let same : old.inputs + i ≡ literal / 2 = omega arith in
    let here : reads (old.inputs + i) (get_or old.gates n True) ≡ true = rw (same, ← e) r in
    let low : old.inputs + i < old.inputs + n = reads_before (old.inputs + n) (get_or old.gates n True) (old.inputs + i) (gate_in_order old.inputs old.gates n order l) here in
    let on : get_or marks i false ≡ true = closed i (omega arith) (record { reader = n; above = omega arith; inside = omega arith; marked = marked; reads_it = here }) in
    m.values i (omega arith) on bits ∙ ap (λ (k : ℕ). value old bits (2 * k)) same)

-- one more gate has moved
pub moved_on : (old new next : Circuit) (marks : List Bool) (n : ℕ) (places : List ℕ) (gate : Gate) (literal : ℕ) → AreInOrder old.inputs old.gates → n < length old.gates → gate ≡ get_or old.gates n True → length marks ≡ length old.gates → AreClosed (gate_reads old.inputs old.gates) 0 marks → AreMoved old marks n new places → get_or marks n false ≡ true
    → IsPushed new next places gate literal → AreMoved old marks (n + 1) next (places ++ literal ∷ [])
moved_on old new next marks n places gate literal order l e long closed m marked p =
    let count : length next.gates ≡ length new.gates + 1 = ap length p.gates ∙ length_push new.gates (moved_gate places new.inputs gate) in
    record {
      inputs = p.made.extends.inputs ∙ m.inputs;
      circuit = p.circuit;
      one_each = length_push places literal ∙ ap (λ (k : ℕ). k + 1) m.one_each;
      inside = All-push (λ l. l < 2 * size next) places literal (are_in_kept new next places p.made.extends m.inside) p.made.inside;
      values = λ k h on bits. elim (cases_lt k n) [
        | inl low ↦
            ap (value next bits) (get_or_append_left places (literal ∷ []) 0 k (omega (arith, m.one_each)))
            ∙ p.made.extends.kept bits (get_or places k 0) (All-get_or (λ l. l < 2 * size new) places k 0 (omega (arith, m.one_each)) m.inside)
            ∙ m.values k low on bits
        | inr high ↦
            (let same : k ≡ n = omega arith in
            rw same
            (ap (value next bits) (get_or_push places literal 0 n m.one_each)
            ∙ p.made.value_is bits
            ∙ ap (λ (i : ℕ). gate_value (value new bits) (moved_gate places i gate)) m.inputs
            ∙ moved_gate_value (value new bits) (value old bits) places old.inputs gate (λ read r. read_value old new marks n places gate bits read order l e long closed m marked r)
            ∙ sym (gate_is old n gate bits order l e)))
      ];
      origins = λ k above h. elim (cases_lt k (length new.gates)) [
        | inl low ↦ origin_kept old.inputs marks n places literal k m.one_each (m.origins k above low)
        | inr high ↦ record {
          origin = n;
          below = omega arith;
          marked = marked;
          place = get_or_push places literal 0 n m.one_each ∙ p.literal_is ∙ (let same : 2 * (new.inputs + length new.gates) ≡ 2 * (old.inputs + k) = omega (arith, m.inputs) in same);
        }
      ];
      readers = λ k j h on r even.
          let inside : k < length old.gates = omega arith in
          let low : old.inputs + j < old.inputs + k = reads_before (old.inputs + k) (get_or old.gates k True) (old.inputs + j) (gate_in_order old.inputs old.gates k order inside) r in
          let kept : get_or (places ++ literal ∷ []) j 0 ≡ get_or places j 0 = get_or_append_left places (literal ∷ []) 0 j (omega (arith, m.one_each)) in
          let even' : get_or places j 0 % 2 ≡ 0 = ap (λ (x : ℕ). x % 2) (sym kept) ∙ even in
          ap (λ (x : ℕ). list_any (reads (x / 2)) next.gates) kept
          ∙ ap (λ (gs : List Gate). list_any (reads (get_or places j 0 / 2)) gs) p.gates
          ∙ list_any-append (reads (get_or places j 0 / 2)) new.gates (moved_gate places new.inputs gate ∷ [])
          ∙ elim (cases_lt k n) [
            | inl before ↦ or_left (list_any (reads (get_or places j 0 / 2)) new.gates) (list_any (reads (get_or places j 0 / 2)) (moved_gate places new.inputs gate ∷ [])) (m.readers k j before on r even')
            | inr at ↦
                (let same : k ≡ n = omega arith in
                let here : reads (old.inputs + j) gate ≡ true = ap (reads (old.inputs + j)) (e ∙ ap (λ (x : ℕ). get_or old.gates x True) (sym same)) ∙ r in
                let there : reads (get_or places j 0 / 2) (moved_gate places new.inputs gate) ≡ true =
                ap (λ (i : ℕ). reads (get_or places j 0 / 2) (moved_gate places i gate)) m.inputs ∙ reads_moved places old.inputs j gate even' here in
                or_right (list_any (reads (get_or places j 0 / 2)) new.gates) (list_any (reads (get_or places j 0 / 2)) (moved_gate places new.inputs gate ∷ [])) (or_left (reads (get_or places j 0 / 2) (moved_gate places new.inputs gate)) false there))
          ];
    }

-- one more gate is passed by
pub moved_past : (old new : Circuit) (marks : List Bool) (n : ℕ) (places : List ℕ) (gate : Gate) (literal : ℕ) → AreInOrder old.inputs old.gates → n < length old.gates → gate ≡ get_or old.gates n True → AreMoved old marks n new places
    → literal < 2 * size new → (get_or marks n false ≡ true → gate ≡ True) → ((bits : ℕ → Bool) → value new bits literal ≡ true) → AreMoved old marks (n + 1) new (places ++ literal ∷ [])
moved_past old new marks n places gate literal order l e m inside constant truth = record {
  inputs = m.inputs;
  circuit = m.circuit;
  one_each = length_push places literal ∙ ap (λ (k : ℕ). k + 1) m.one_each;
  inside = All-push (λ l. l < 2 * size new) places literal m.inside inside;
  values = λ k h on bits. elim (cases_lt k n) [
    | inl low ↦ ap (value new bits) (get_or_append_left places (literal ∷ []) 0 k (omega (arith, m.one_each))) ∙ m.values k low on bits
    | inr high ↦
        (let same : k ≡ n = omega arith in
        let is : gate ≡ True = constant (ap (λ (x : ℕ). get_or marks x false) (sym same) ∙ on) in
        rw same
        (ap (value new bits) (get_or_push places literal 0 n m.one_each)
        ∙ truth bits
        ∙ ap (gate_value (value old bits)) (sym is)
        ∙ sym (gate_is old n gate bits order l e)))
  ];
  origins = λ k above h. origin_kept old.inputs marks n places literal k m.one_each (m.origins k above h);
  readers = λ k j h on r even.
      let inside' : k < length old.gates = omega arith in
      let low : old.inputs + j < old.inputs + k = reads_before (old.inputs + k) (get_or old.gates k True) (old.inputs + j) (gate_in_order old.inputs old.gates k order inside') r in
      let kept : get_or (places ++ literal ∷ []) j 0 ≡ get_or places j 0 = get_or_append_left places (literal ∷ []) 0 j (omega (arith, m.one_each)) in
      let even' : get_or places j 0 % 2 ≡ 0 = ap (λ (x : ℕ). x % 2) (sym kept) ∙ even in
      ap (λ (x : ℕ). list_any (reads (x / 2)) new.gates) kept
      ∙ elim (cases_lt k n) [
        | inl before ↦ m.readers k j before on r even'
        | inr at ↦
            (let same : k ≡ n = omega arith in
            let is : gate ≡ True = constant (ap (λ (x : ℕ). get_or marks x false) (sym same) ∙ on) in
            let here : reads (old.inputs + j) True ≡ true = ap (reads (old.inputs + j)) (sym is ∙ e ∙ ap (λ (x : ℕ). get_or old.gates x True) (sym same)) ∙ r in
            absurd (both_ways false refl here))
      ];
}

-- one more gate, by what the step has done with it
pub moved_more : (old new next : Circuit) (marks : List Bool) (wanted : Bool) (n : ℕ) (places : List ℕ) (gate : Gate) (literal : ℕ) → AreInOrder old.inputs old.gates → n < length old.gates → gate ≡ get_or old.gates n True → wanted ≡ get_or marks n false → length marks ≡ length old.gates → AreClosed (gate_reads old.inputs old.gates) 0 marks → AreMoved old marks n new places
    → IsMovedGate new next places wanted gate literal → AreMoved old marks (n + 1) next (places ++ literal ∷ [])
moved_more old new next marks wanted n places gate literal order l e w long closed m step = elim step [
  | inl p ↦ moved_on old new next marks n places gate literal order l e long closed m (sym w ∙ p.0) p.1
  | inr p ↦ subst (λ (c : Circuit). AreMoved old marks (n + 1) c (places ++ literal ∷ [])) (sym p.same) (moved_past old new marks n places gate literal order l e m p.inside (λ h. p.constant (w ∙ h)) p.truth)
]

-- the gate with this number reads what has a place
pub reads_placed : (inputs n m p : ℕ) (gates : List Gate) → AreInOrder inputs gates → n < length gates → m ≡ inputs → p ≡ n → IsGateOf (m + p) (get_or gates n True)
reads_placed inputs n m p gates order l em ep =
    let e : inputs + n ≡ m + p = omega arith in
    subst (λ (k : ℕ). IsGateOf k (get_or gates n True)) e (gate_in_order inputs gates n order l)

-- one more word
pub word_more : (f : List ℕ → List ℕ) (old more words : List (List ℕ)) (i : ℕ) (word literals : List ℕ) → i < length words → word ≡ get_or words i [] → literals ≡ f word → old ≡ map f (take i words) → more ≡ old ++ literals ∷ [] → more ≡ map f (take (i + 1) words)
word_more f old more words i word literals l ew el eo em =
    em ∙ ap (λ (k : List (List ℕ)). k ++ literals ∷ []) eo ∙ ap (λ (w : List ℕ). map f (take i words) ++ w ∷ []) (el ∙ ap f ew) ∙ sym (map_more f words i [] l)

-- the words of moved literals
pub moved_in : (c : Circuit) (places : List ℕ) (inputs : ℕ) (word : List ℕ) → inputs ≤ size c → All (λ l. l < 2 * (inputs + length places)) word → AreIn c places → AreIn c (map (moved places inputs) word)
moved_in c places inputs word few h inside =
    All-map (λ l. l < 2 * size c) (moved places inputs) word
    (All-weaker (λ l. l < 2 * (inputs + length places)) (λ l. moved places inputs l < 2 * size c) (λ x p. moved_inside places inputs (size c) x few p inside) word h)

word_values : (v w : ℕ → Bool) (places : List ℕ) (inputs : ℕ) (word : List ℕ) → ((literal : ℕ) → list_any (is_of (literal / 2)) word ≡ true → v (moved places inputs literal) ≡ w literal) → map v (map (moved places inputs) word) ≡ map w word
word_values v w places inputs [] h = refl
word_values v w places inputs (x ∷ xs) h =
    rw (h x (or_left (is_of (x / 2) x) (list_any (is_of (x / 2)) xs) (of_itself x)), word_values v w places inputs xs (λ literal r. h literal (or_right (is_of (literal / 2) x) (list_any (is_of (literal / 2)) xs) r))) refl

words_values : (v w : ℕ → Bool) (places : List ℕ) (inputs : ℕ) (words : List (List ℕ)) → ((literal : ℕ) → stands_in (literal / 2) words ≡ true → v (moved places inputs literal) ≡ w literal) → map (map v) (map (map (moved places inputs)) words) ≡ map (map w) words
words_values v w places inputs [] h = refl
words_values v w places inputs (x ∷ xs) h =
    rw (
      word_values v w places inputs x (λ literal r. h literal (or_left (list_any (is_of (literal / 2)) x) (stands_in (literal / 2) xs) r)),
      words_values v w places inputs xs (λ literal r. h literal (or_right (list_any (is_of (literal / 2)) x) (stands_in (literal / 2) xs) r)),
    ) refl

word_before : (n variable : ℕ) (word : List ℕ) → All (λ l. l < 2 * n) word → list_any (is_of variable) word ≡ true → variable < n
word_before n variable [] h r = absurd (both_ways false refl r)
word_before n variable (x ∷ xs) h r = elim (or_cases (is_of variable x) (list_any (is_of variable) xs) r) [
  | inl here ↦ omega (arith, eqb-true (x / 2) variable here, All-head (λ l. l < 2 * n) x xs h)
  | inr there ↦ word_before n variable xs (All-tail (λ l. l < 2 * n) x xs h) there
]

words_before : (c : Circuit) (variable : ℕ) (words : List (List ℕ)) → All (AreIn c) words → stands_in variable words ≡ true → variable < size c
words_before c variable [] h r = absurd (both_ways false refl r)
words_before c variable (x ∷ xs) h r = elim (or_cases (list_any (is_of variable) x) (stands_in variable xs) r) [
  | inl here ↦ word_before (size c) variable x (All-head (AreIn c) x xs h) here
  | inr there ↦ words_before c variable xs (All-tail (AreIn c) x xs h) there
]

-- the circuit of the gates that the roots need
pub trimmed_made : (old new : Circuit) (roots words : List (List ℕ)) (marks : List Bool) (places : List ℕ) → length marks ≡ length old.gates → AreWanted (λ k. stands_in (old.inputs + k) roots) (gate_reads old.inputs old.gates) 0 marks → AreMoved old marks (length old.gates) new places → All (AreIn old) roots → words ≡ map (map (moved places old.inputs)) roots → IsTrimmed old roots new words
trimmed_made old new roots words marks places long w m inside e = record {
  gates = m.circuit;
  inside = subst (λ (ws : List (List ℕ)). All (AreIn new) ws) (sym e) (All-map (AreIn new) (map (moved places old.inputs)) roots (All-weaker (AreIn old) (λ word. AreIn new (map (moved places old.inputs) word)) (λ word h. moved_in new places old.inputs word (omega (arith, m.inputs)) (subst (λ (k : ℕ). All (λ l. l < 2 * (old.inputs + k)) word) (sym m.one_each) h) m.inside) roots inside));
  values = λ bits. ap (map (map (value new bits))) e ∙ words_values (value new bits) (value old bits) places old.inputs roots (λ literal r. moved_value old new places bits literal m.inputs (λ above.
      let i : ℕ = literal / 2 - old.inputs in
      let same : old.inputs + i ≡ literal / 2 = omega arith in
      let low : literal / 2 < size old = words_before old (literal / 2) roots inside r in
      let on : get_or marks i false ≡ true = w.rooted i (omega arith) (ap (λ (k : ℕ). stands_in k roots) same ∙ r) in
      m.values i (omega arith) on bits ∙ ap (λ (k : ℕ). value old bits (2 * k)) same));
  read = λ k above l.
      let o : HasOrigin old.inputs marks (length old.gates) places k = m.origins k above l in
      let variable : get_or places o.origin 0 / 2 ≡ new.inputs + k = omega (arith, o.place, m.inputs) in
      let even : get_or places o.origin 0 % 2 ≡ 0 = omega (arith, o.place) in
      elim (w.needed o.origin (omega (arith, o.below)) o.marked) [
        | inl r ↦
            or_right (list_any (reads (new.inputs + k)) new.gates) (stands_in (new.inputs + k) words)
            (ap (stands_in (new.inputs + k)) e ∙ ap (λ (v : ℕ). stands_in v (map (map (moved places old.inputs)) roots)) (sym variable) ∙ stands_moved places old.inputs o.origin roots even r)
        | inr h ↦
            or_left (list_any (reads (new.inputs + k)) new.gates) (stands_in (new.inputs + k) words)
            (ap (λ (v : ℕ). list_any (reads v) new.gates) (sym variable) ∙ m.readers h.reader o.origin (omega (arith, h.inside)) h.marked h.reads_it even)
      ];
}

-- the same, as the steps show it
pub trimmed_from : (old new : Circuit) (roots words : List (List ℕ)) (marks seen : List Bool) (places read : List ℕ) → seen ≡ marks → read ≡ places → length marks ≡ length old.gates
    → AreWanted (λ k. stands_in (old.inputs + k) roots) (gate_reads old.inputs old.gates) 0 marks → AreMoved old seen (length old.gates) new places → All (AreIn old) roots → words ≡ map (map (moved read old.inputs)) roots → IsTrimmed old roots new words
trimmed_from old new roots words marks seen places read es er long w m inside e =
    trimmed_made old new roots words marks places long w (subst (λ (b : List Bool). AreMoved old b (length old.gates) new places) es m) inside
    (e ∙ ap (λ (p : List ℕ). map (map (moved p old.inputs)) roots) er)

-- a moved gate behind the others
pub pushed_gate : (inputs n : ℕ) (gates more : List Gate) (places : List ℕ) (gate next : Gate) → IsCircuit (circuit inputs gates) → IsGateOf (inputs + length places) gate → AreIn (circuit inputs gates) places → next ≡ moved_gate places inputs gate → more ≡ gates ++ next ∷ [] → n ≡ length gates → inputs + n + 1 < 2 ^ 60
    → IsPushed (circuit inputs gates) (circuit inputs more) places gate (2 * (inputs + n))
pushed_gate inputs n gates more places gate next c order inside en em count few =
    let grown : more ≡ gates ++ moved_gate places inputs gate ∷ [] = em ∙ ap (λ (g : Gate). gates ++ g ∷ []) en in
    let of : IsGateOf (inputs + length gates) (moved_gate places inputs gate) = moved_gate_inside places inputs (inputs + length gates) gate (omega arith) order inside in
    record {
      made = made-pushed (circuit inputs gates) inputs n gates more (moved_gate places inputs gate) refl grown count;
      gates = grown;
      literal_is = ap (λ (k : ℕ). 2 * (inputs + k)) count;
      circuit = record {
        first = ap (λ (gs : List Gate). slice_get gs 0) grown ∙ first-push gates True (moved_gate places inputs gate) c.first;
        in_order = subst (λ (gs : List Gate). AreInOrder inputs gs) (sym grown) (AreInOrder-push inputs gates (moved_gate places inputs gate) c.in_order of);
        few = omega (arith, ap length grown, length_push gates (moved_gate places inputs gate));
      };
    }

-- a gate that is not made again
pub passed_gate : (inputs : ℕ) (gates : List Gate) (wanted : Bool) (gate : Gate) → IsCircuit (circuit inputs gates) → (wanted ≡ true → gate ≡ True) → IsPassed (circuit inputs gates) (circuit inputs gates) wanted gate (2 * inputs)
passed_gate inputs gates wanted gate c h =
    let t : IsConstant (circuit inputs gates) (2 * inputs) true = truth_is (circuit inputs gates) inputs gates refl c.first c.in_order in
    record { same = refl; inside = t.inside; constant = h; truth = t.value_is }

one_at_least : (gates : List Gate) → slice_get gates 0 ≡ Some True → 1 ≤ length gates
one_at_least [] e = absurd (cc)
one_at_least (x ∷ xs) e = omega arith

-- the constant alone
pub moved_start : (old : Circuit) (made : List Gate) (marks : List Bool) (places : List ℕ) → IsCircuit old → made ≡ True ∷ [] → places ≡ [] → AreMoved old marks 0 (circuit old.inputs made) places
moved_start old made marks places c em ep =
    moved_none old (circuit old.inputs made) marks places (moved_few old c) (ap (circuit old.inputs) em) ep
  where
    moved_few : (old : Circuit) → IsCircuit old → old.inputs + 1 < 2 ^ 60
    moved_few old c = omega (arith, c.few, one_at_least old.gates c.first)
