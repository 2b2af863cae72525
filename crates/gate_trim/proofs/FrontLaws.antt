-- Gates that have moved to the front of their own list.
use Rattle.std.proofs.Common.{◌≡◌, ◌≢◌, ℕ, ◌+◌, ◌-◌, ◌<◌, ◌≤◌, Bool, false, List, [], ◌∷◌, ◌++◌, length, take, drop, get_or, slice_get, Some, sym, ap, ◌∙◌, refl, arith, subst, inl, inr}
use Rattle.std.specs.Prelude.{map}
use Rattle.std.specs.List.{All}
use Rattle.std.proofs.lemmas.Bool.{cases_lt}
use Rattle.bit_gates.specs.declared.gate.Gate.{Gate}
use Rattle.bit_gates.specs.declared.gate.Gate.TheVariants.{True}
use Rattle.bit_gates.specs.Values.{IsGateOf}
use Rattle.bit_gates.specs.Made.{AreIn}
use Rattle.gate_trim.specs.Reading.{stands_in, gate_reads}
use Rattle.gate_trim.specs.Marks.{AreClosed, AreWanted}
use Rattle.gate_trim.specs.Moves.{moved, IsMovedGate, IsPutBehind, AreMoved}
use Rattle.gate_trim.specs.Trimmed.{circuit, IsCircuit, IsTrimmed}
use Rattle.gate_trim.proofs.MarkLaws.{written_back}
use Rattle.gate_trim.proofs.MoveLaws.{moved_start, moved_more, reads_placed, trimmed_from}

-- the first so many gates of the old list have moved to the front of the new one, and the others stand where they stood
pub record AreInFront (inputs : ℕ) (old : List Gate) (marks : List Bool) (n : ℕ) (gates : List Gate) (kept : ℕ) (places : List ℕ) : Type 0 where
  pub moved : AreMoved (circuit inputs old) marks n (circuit inputs (take kept gates)) places
  pub few : kept ≤ n + (1 - n)
  pub long : length gates ≡ length old
  pub rest : (k : ℕ) → n ≤ k → get_or gates k True ≡ get_or old k True

first_taken : (gates : List Gate) → slice_get gates 0 ≡ Some True → take 1 gates ≡ True ∷ []
first_taken [] e = absurd (cc)
first_taken (x ∷ xs) e = let f : x ≡ True = cc in ap (λ (g : Gate). g ∷ []) f

first_is : (gates : List Gate) (k : ℕ) → slice_get gates 0 ≡ Some True → k ≤ 0 → get_or gates k True ≡ True
first_is gates k e l = let z : k ≡ 0 = omega arith in rw z (here gates e)
  where
    here : (gates : List Gate) → slice_get gates 0 ≡ Some True → get_or gates 0 True ≡ True
    here [] e = refl
    here (x ∷ xs) e = cc

-- none has moved but the constant, which stands where it stood
pub front_start : (inputs : ℕ) (old : List Gate) (marks : List Bool) (places : List ℕ) → IsCircuit (circuit inputs old) → places ≡ [] → AreInFront inputs old marks 0 old 1 places
front_start inputs old marks places c e = record {
  moved = moved_start (circuit inputs old) (take 1 old) marks places c (first_taken old c.first) e;
  few = omega arith;
  long = refl;
  rest = λ k l. refl;
}

-- a gate that is not the constant is not the first
above_first : (inputs : ℕ) (old gates : List Gate) (marks : List Bool) (n kept : ℕ) (places : List ℕ) (gate : Gate) → IsCircuit (circuit inputs old) → AreInFront inputs old marks n gates kept places → gate ≡ get_or gates n True → gate ≢ True → 0 < n
above_first inputs old gates marks n kept places gate c f e other = elim (cases_lt 0 n) [
  | inl l ↦ l
  | inr l ↦ absurd (other (e ∙ f.rest n (omega arith) ∙ first_is old n c.first l))
]

-- there is room for a gate that is not the constant
pub front_room : (inputs : ℕ) (old gates : List Gate) (marks : List Bool) (n kept : ℕ) (places : List ℕ) (gate : Gate) → IsCircuit (circuit inputs old) → AreInFront inputs old marks n gates kept places → n < length old → gate ≡ get_or gates n True → gate ≢ True → kept < length gates
front_room inputs old gates marks n kept places gate c f l e other =
    omega (arith, f.few, f.long, above_first inputs old gates marks n kept places gate c f e other)

-- the gate reads what has a place
pub front_reads : (inputs : ℕ) (old gates : List Gate) (marks : List Bool) (n kept count : ℕ) (places : List ℕ) (gate : Gate) → IsCircuit (circuit inputs old) → AreInFront inputs old marks n gates kept places → n < length old → gate ≡ get_or gates n True → count ≡ length places → IsGateOf (inputs + count) gate
front_reads inputs old gates marks n kept count places gate c f l e ec =
    subst (λ (g : Gate). IsGateOf (inputs + count) g) (sym (e ∙ f.rest n (omega arith)))
    (reads_placed inputs n inputs count old c.in_order l refl (ec ∙ f.moved.one_each))

-- one more gate, by what the step has done with it
pub front_more : (inputs : ℕ) (old gates more : List Gate) (marks : List Bool) (wanted : Bool) (n kept next : ℕ) (places : List ℕ) (gate : Gate) (literal : ℕ) → IsCircuit (circuit inputs old) → n < length old → gate ≡ get_or gates n True → wanted ≡ get_or marks n false → length marks ≡ length old → AreClosed (gate_reads inputs old) 0 marks
    → AreInFront inputs old marks n gates kept places → IsMovedGate (circuit inputs (take kept gates)) (circuit inputs (take next more)) places wanted gate literal → IsPutBehind gates more kept next gate → length more ≡ length gates
    → AreInFront inputs old marks (n + 1) more next (places ++ literal ∷ [])
front_more inputs old gates more marks wanted n kept next places gate literal c l e w long closed f step p el =
    let few : next ≤ n + 1 = elim p.count [
      | inl same ↦ omega (arith, f.few)
      | inr one ↦ omega (arith, f.few, one.1, above_first inputs old gates marks n kept places gate c f e one.0)
    ] in
    record {
      moved = moved_more (circuit inputs old) (circuit inputs (take kept gates)) (circuit inputs (take next more)) marks wanted n places gate literal c.in_order l (e ∙ f.rest n (omega arith)) w long closed f.moved step;
      few = omega (arith, few);
      long = el ∙ f.long;
      rest = λ k above. p.rest k (omega (arith, few)) ∙ f.rest k (omega arith);
    }

-- the circuit of the gates in front, where the whole list was lent and the rest was cut off
pub trimmed_front : (inputs count kept : ℕ) (old shown lent new left : List Gate) (roots words : List (List ℕ)) (marks seen : List Bool) (places read : List ℕ) → shown ≡ old → lent ≡ old → length old ≡ count → length new ≡ length lent → left ≡ take kept (take count (new ++ drop (length new) old)) → seen ≡ marks → read ≡ places → length marks ≡ length shown
    → AreWanted (λ k. stands_in (inputs + k) roots) (gate_reads inputs shown) 0 marks → AreMoved (circuit inputs lent) seen (length lent) (circuit inputs (take kept new)) places → All (AreIn (circuit inputs old)) roots → words ≡ map (map (moved read inputs)) roots → IsTrimmed (circuit inputs old) roots (circuit inputs left) words
trimmed_front inputs count kept old shown lent new left roots words marks seen places read eg el eo en e es er long w m inside ew =
    let same : left ≡ take kept new = e ∙ ap (take kept) (written_back count old new eo (en ∙ ap length el ∙ eo)) in
    let here : AreMoved (circuit inputs old) seen (length old) (circuit inputs (take kept new)) places = subst (λ (gs : List Gate). AreMoved (circuit inputs gs) seen (length gs) (circuit inputs (take kept new)) places) el m in
    trimmed_from (circuit inputs old) (circuit inputs left) roots words marks seen places read es er (long ∙ ap length eg) (subst (λ (gs : List Gate). AreWanted (λ k. stands_in (inputs + k) roots) (gate_reads inputs gs) 0 marks) eg w)
    (subst (λ (gs : List Gate). AreMoved (circuit inputs old) seen (length old) (circuit inputs gs) places) (sym same) here) inside ew
