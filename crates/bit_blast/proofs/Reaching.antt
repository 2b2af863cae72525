-- Terms that the roots reach.
use Rattle.std.proofs.Common.{◌≡◌, ℕ, ◌+◌, ◌<◌, ◌≤◌, Bool, true, false, ◌||◌, ◌&&◌, eqb, List, [], ◌∷◌, length, take, get_or, set, slice_get, Some, zero, suc, sym, ap, ◌∙◌, refl, arith, inl, inr}
use Rattle.std.proofs.lemmas.Bool.{or_cases, or_left, or_right, and_parts, and_from, eq-eqb, ne_eqb, eqb-true, both_ways}
use Rattle.std.proofs.lemmas.List.Folds.{list_any_more}
use Rattle.sym_terms.specs.declared.TermId.{TermId}
use Rattle.sym_terms.specs.declared.term.Term.{Term}
use Rattle.sym_terms.specs.declared.term.Term.TheVariants.{Constant, Input, Apply, Cast, Choose, Slice}
use Rattle.sym_terms.specs.declared.term.TermOp.{TermOp}
use Rattle.sym_terms.specs.Ops.{is_binary}
use Rattle.sym_terms.specs.Terms.{width_of, IsFitting, AreFitting}
use Rattle.gate_trim.specs.Marks.{AreMarked, AreWanted}
use Rattle.gate_trim.proofs.MarkLaws.{marked_at, marked_none, marked_twice, marked_same, wanted_on}
use Rattle.bit_blast.specs.Reached.{has_part, part_of_some, is_part, is_root}

-- the mark of one term
pub marked_term : (marks : List Bool) (id : ℕ) → id < length marks → AreMarked marks (set marks id true) (λ k. eqb id k)
marked_term marks id l = marked_at marks id (λ k. eqb id k) l (eq-eqb id id refl) (λ k ne. ne_eqb id k (λ e. ne (sym e)))

pub marked_no_term : (marks : List Bool) (id : ℕ) → length marks ≤ id → AreMarked marks marks (λ k. eqb id k)
marked_no_term marks id l = marked_none marks (λ k. eqb id k) (λ k h. ne_eqb id k (λ e. absurd (omega arith)))

-- the first operand alone
or_false : (x : Bool) → x ≡ (x || false)
or_false true = refl
or_false false = refl

pub marked_first : (a b : List Bool) (p q : ℕ → Bool) → AreMarked a b p → AreMarked a b (λ k. p k || (false && q k))
marked_first a b p q m = marked_same a b p (λ k. p k || (false && q k)) (λ k. or_false (p k)) m

pub marked_root : (a b c : List Bool) (i : ℕ) (root : TermId) (roots : List TermId) → i < length roots → root ≡ get_or roots i root → AreMarked a b (is_root (take i roots)) → AreMarked b c (λ k. eqb root.0 k) → AreMarked a c (is_root (take (i + 1) roots))
marked_root a b c i root roots l e f g =
    marked_same a c (λ k. is_root (take i roots) k || eqb root.0 k) (is_root (take (i + 1) roots))
    (λ k. ap (λ (r : TermId). is_root (take i roots) k || eqb r.0 k) e ∙ sym (list_any_more (λ (r : TermId). eqb r.0 k) roots i root l))
    (marked_twice a b c (is_root (take i roots)) (λ k. eqb root.0 k) f g)

-- a part stands before its term
pub part_before : (n k : ℕ) (w : ℕ → ℕ) (term : Term) → IsFitting n w term → has_part k term ≡ true → k < n
part_before n k w (Constant c) f e = absurd (both_ways false refl e)
part_before n k w (Input number width) f e = absurd (both_ways false refl e)
part_before n k w (Apply op a b) f e = elim (or_cases (eqb a.0 k) (is_binary op && eqb b.0 k) e) [
  | inl h ↦ omega (arith, f.0, eqb-true a.0 k h)
  | inr h ↦
      (let both = and_parts (is_binary op) (eqb b.0 k) h in
      omega (arith, f.1 both.0, eqb-true b.0 k both.1))
]
part_before n k w (Cast a signed width) f e = omega (arith, f.0, eqb-true a.0 k e)
part_before n k w (Choose test a b) f e = elim (or_cases (eqb test.0 k || eqb a.0 k) (eqb b.0 k) e) [
  | inl h ↦ elim (or_cases (eqb test.0 k) (eqb a.0 k) h) [
    | inl h' ↦ omega (arith, f.0, eqb-true test.0 k h')
    | inr h' ↦ omega (arith, f.1, eqb-true a.0 k h')
  ]
  | inr h ↦ omega (arith, f.2, eqb-true b.0 k h)
]
part_before n k w (Slice a from width) f e = omega (arith, f.0, eqb-true a.0 k e)

pub parts_before : (terms : List Term) (n : ℕ) (term : Term) → AreFitting terms → slice_get terms n ≡ Some term → (k : ℕ) → is_part terms k n ≡ true → k < n
parts_before terms n term fit e k h = part_before n k (width_of terms) term (fit.fitting n term e) (ap (part_of_some k) (sym e) ∙ h)

-- the marks of the parts of a term
pub marked_parts : (old new : List Bool) (terms : List Term) (n : ℕ) (term : Term) → slice_get terms n ≡ Some term → AreMarked old new (λ k. has_part k term) → AreMarked old new (λ k. is_part terms k n)
marked_parts old new terms n term e m = marked_same old new (λ k. has_part k term) (λ k. is_part terms k n) (λ k. ap (part_of_some k) (sym e)) m

-- the parts of a term
pub is_part_of : (terms : List Term) (n k : ℕ) (term : Term) → slice_get terms n ≡ Some term → has_part k term ≡ true → is_part terms k n ≡ true
is_part_of terms n k term e h = ap (part_of_some k) e ∙ h

itself : (n : ℕ) → eqb n n ≡ true
itself n = eq-eqb n n refl

pub first_operand : (terms : List Term) (n : ℕ) (op : TermOp) (a b : TermId) → slice_get terms n ≡ Some (Apply op a b) → is_part terms a.0 n ≡ true
first_operand terms n op a b e = is_part_of terms n a.0 (Apply op a b) e (or_left (eqb a.0 a.0) (is_binary op && eqb b.0 a.0) (itself a.0))

pub second_operand : (terms : List Term) (n : ℕ) (op : TermOp) (a b : TermId) → slice_get terms n ≡ Some (Apply op a b) → is_binary op ≡ true → is_part terms b.0 n ≡ true
second_operand terms n op a b e s = is_part_of terms n b.0 (Apply op a b) e (or_right (eqb a.0 b.0) (is_binary op && eqb b.0 b.0) (and_from (is_binary op) (eqb b.0 b.0) s (itself b.0)))

pub cast_part : (terms : List Term) (n : ℕ) (a : TermId) (signed : Bool) (width : ℕ) → slice_get terms n ≡ Some (Cast a signed width) → is_part terms a.0 n ≡ true
cast_part terms n a signed width e = is_part_of terms n a.0 (Cast a signed width) e (itself a.0)

pub slice_part : (terms : List Term) (n : ℕ) (a : TermId) (from width : ℕ) → slice_get terms n ≡ Some (Slice a from width) → is_part terms a.0 n ≡ true
slice_part terms n a from width e = is_part_of terms n a.0 (Slice a from width) e (itself a.0)

pub test_part : (terms : List Term) (n : ℕ) (test a b : TermId) → slice_get terms n ≡ Some (Choose test a b) → is_part terms test.0 n ≡ true
test_part terms n test a b e = is_part_of terms n test.0 (Choose test a b) e (or_left (eqb test.0 test.0 || eqb a.0 test.0) (eqb b.0 test.0) (or_left (eqb test.0 test.0) (eqb a.0 test.0) (itself test.0)))

pub first_arm : (terms : List Term) (n : ℕ) (test a b : TermId) → slice_get terms n ≡ Some (Choose test a b) → is_part terms a.0 n ≡ true
first_arm terms n test a b e = is_part_of terms n a.0 (Choose test a b) e (or_left (eqb test.0 a.0 || eqb a.0 a.0) (eqb b.0 a.0) (or_right (eqb test.0 a.0) (eqb a.0 a.0) (itself a.0)))

pub second_arm : (terms : List Term) (n : ℕ) (test a b : TermId) → slice_get terms n ≡ Some (Choose test a b) → is_part terms b.0 n ≡ true
second_arm terms n test a b e = is_part_of terms n b.0 (Choose test a b) e (or_right (eqb test.0 b.0 || eqb a.0 b.0) (eqb b.0 b.0) (itself b.0))

-- a root is reached
pub root_is_root : (roots : List TermId) (k : ℕ) (root : TermId) → slice_get roots k ≡ Some root → is_root roots root.0 ≡ true
root_is_root [] k root e = absurd (cc)
root_is_root (x ∷ xs) zero root e =
    let f : x ≡ root = cc in
    or_left (eqb x.0 root.0) (is_root xs root.0) (eq-eqb x.0 root.0 (ap (λ (r : TermId). r.0) f))
root_is_root (x ∷ xs) (suc k) root e = or_right (eqb x.0 root.0) (is_root xs root.0) (root_is_root xs k root e)

-- the marks that a reached term asks for
pub reached_on : (terms : List Term) (roots : ℕ → Bool) (low n : ℕ) (term : Term) (old new : List Bool) → AreFitting terms → slice_get terms n ≡ Some term → low ≤ length old → low ≡ n + 1 → get_or old n false ≡ true → AreMarked old new (λ k. has_part k term) → AreWanted roots (is_part terms) low old → AreWanted roots (is_part terms) n new
reached_on terms roots low n term old new fit e inside el here m s =
    wanted_on roots (is_part terms) low n old new el inside here (parts_before terms n term fit e) (marked_parts old new terms n term e m) s
