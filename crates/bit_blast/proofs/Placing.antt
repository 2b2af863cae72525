-- Where the bits of inputs stand.
use Rattle.std.proofs.Common.{◌≡◌, ◌≢◌, ℕ, ◌+◌, ◌/◌, ◌%◌, ◌^◌, ◌<◌, ◌≤◌, eqb, List, [], ◌∷◌, ◌++◌, length, get_or, slice_get, Some, sym, ap, ◌∙◌, refl, arith, subst, zero, suc, inl, inr, length-append, append_assoc, ◌⊎◌}
use Rattle.std.specs.List.{All, AllPairs}
use Rattle.std.proofs.lemmas.Bool.{cases_lt}
use Rattle.std.proofs.lemmas.List.{get_or_append_left, get_or-append-add, get_or_past, get_or_push, append-nil}
use Rattle.std.proofs.lemmas.List.Elements.{All-append, All-nil, All-push}
use Rattle.std.proofs.lemmas.List.Quantifiers.{all_pairs_push}
use Rattle.sym_terms.specs.declared.term.Term.{Term}
use Rattle.sym_terms.specs.declared.term.Term.TheVariants.{Input}
use Rattle.sym_terms.specs.Terms.{AreFitting}
use Rattle.bit_gates.specs.declared.gates.InputBit.{InputBit}
use Rattle.bit_blast.specs.Inputs.{AreFew, HaveWidths, bits_of, all_bits, ArePlaced, no_bit, input_bits, HavePlaces, AreAtPlaces}

pub length_bits : (number width : ℕ) → length (bits_of number width) ≡ width
length_bits number zero = refl
length_bits number (suc k) = omega (arith, length-append (bits_of number k) (record { number = number; bit = k } ∷ []), length_bits number k)

bit_at : (number width k : ℕ) (d : InputBit) → k < width → get_or (bits_of number width) k d ≡ record { number = number; bit = k }
bit_at number zero k d l = absurd (omega arith)
bit_at number (suc w) k d l = elim (cases_lt k w) [
  | inl h ↦ get_or_append_left (bits_of number w) (record { number = number; bit = w } ∷ []) d k (omega (arith, length_bits number w)) ∙ bit_at number w k d h
  | inr h ↦ (let e : k ≡ w = omega arith in rw e (get_or_push (bits_of number w) (record { number = number; bit = w }) d w (length_bits number w)))
]

-- a bit of an input stands at its place
pub placed_at : (widths : List ℕ) (m q k : ℕ) (d : InputBit) → q < m → k < get_or widths q 0
    → (length (all_bits widths q) + k < length (all_bits widths m)) × (get_or (all_bits widths m) (length (all_bits widths q) + k) d ≡ record { number = q; bit = k })
placed_at widths zero q k d l low = absurd (omega arith)
placed_at widths (suc m) q k d l low = elim (cases_lt q m) [
  | inl h ↦
      (let r = placed_at widths m q k d h low in (
        omega (arith, r.0, length-append (all_bits widths m) (bits_of m (get_or widths m 0))),
        get_or_append_left (all_bits widths m) (bits_of m (get_or widths m 0)) d (length (all_bits widths q) + k) r.0 ∙ r.1,
      ))
  | inr h ↦
      (let e : m ≡ q = omega arith in
      rw e (
        omega (arith, length-append (all_bits widths q) (bits_of q (get_or widths q 0)), length_bits q (get_or widths q 0)),
        get_or-append-add (all_bits widths q) (bits_of q (get_or widths q 0)) k d ∙ bit_at q (get_or widths q 0) k d low,
      ))
]

-- the bits of inputs with smaller numbers, or of this one with smaller places
abbrev IsBefore : List InputBit → ℕ → ℕ → Type 0
IsBefore xs m w = (i : ℕ) (d : InputBit) → i < length xs → ((get_or xs i d).number < m) ⊎ (((get_or xs i d).number ≡ m) × ((get_or xs i d).bit < w))

before_apart : (x : InputBit) (m w : ℕ) → ((x.number < m) ⊎ ((x.number ≡ m) × (x.bit < w))) → x ≢ record { number = m; bit = w }
before_apart x m w (inl h) e = let n : x.number ≡ m = ap (λ (b : InputBit). b.number) e in absurd (omega arith)
before_apart x m w (inr h) e = let n : x.bit ≡ w = ap (λ (b : InputBit). b.bit) e in absurd (omega (arith, h.1))

apart_bits : (xs : List InputBit) (m w : ℕ) → AllPairs (λ x y. x ≢ y) xs → ((i : ℕ) (d : InputBit) → i < length xs → (get_or xs i d).number < m) → AllPairs (λ x y. x ≢ y) (xs ++ bits_of m w) × IsBefore (xs ++ bits_of m w) m w
apart_bits xs m zero p b = subst (λ (k : List InputBit). AllPairs (λ x y. x ≢ y) k × IsBefore k m 0) (sym (append-nil xs)) (p, λ i d l. inl (b i d l))
apart_bits xs m (suc w) p b =
    let r = apart_bits xs m w p b in
    let one : InputBit = record { number = m; bit = w } in
    subst (λ (k : List InputBit). AllPairs (λ x y. x ≢ y) k × IsBefore k m (suc w)) (append_assoc xs (bits_of m w) (one ∷ [])) (
      all_pairs_push (λ x y. x ≢ y) (xs ++ bits_of m w) one r.0 (λ k d l. before_apart (get_or (xs ++ bits_of m w) k d) m w (r.1 k d l)),
      λ i d l. elim (cases_lt i (length (xs ++ bits_of m w))) [
        | inl h ↦ subst (λ (x : InputBit). (x.number < m) ⊎ ((x.number ≡ m) × (x.bit < suc w))) (sym (get_or_append_left (xs ++ bits_of m w) (one ∷ []) d i h)) (wider (get_or (xs ++ bits_of m w) i d) m w (r.1 i d h))
        | inr h ↦
            (let e : length (xs ++ bits_of m w) ≡ i = omega (arith, length-append (xs ++ bits_of m w) (one ∷ [])) in
            subst (λ (x : InputBit). (x.number < m) ⊎ ((x.number ≡ m) × (x.bit < suc w))) (sym (get_or_push (xs ++ bits_of m w) one d i e)) (inr (refl, omega arith)))
      ],
    )
  where
    wider : (x : InputBit) (m w : ℕ) → ((x.number < m) ⊎ ((x.number ≡ m) × (x.bit < w))) → ((x.number < m) ⊎ ((x.number ≡ m) × (x.bit < suc w)))
    wider x m w (inl h) = inl h
    wider x m w (inr h) = inr (h.0, omega (arith, h.1))

-- no bit stands twice
apart_all : (widths : List ℕ) (m : ℕ) → AllPairs (λ x y. x ≢ y) (all_bits widths m) × ((i : ℕ) (d : InputBit) → i < length (all_bits widths m) → (get_or (all_bits widths m) i d).number < m)
apart_all widths zero = (λ i j d l low. absurd (omega arith), λ i d l. absurd (omega arith))
apart_all widths (suc m) =
    let r = apart_all widths m in
    let s = apart_bits (all_bits widths m) m (get_or widths m 0) r.0 r.1 in
    (s.0, λ i d l. below (get_or (all_bits widths m ++ bits_of m (get_or widths m 0)) i d) m (get_or widths m 0) (s.1 i d l))
  where
    below : (x : InputBit) (m w : ℕ) → ((x.number < m) ⊎ ((x.number ≡ m) × (x.bit < w))) → x.number < suc m
    below x m w (inl h) = omega arith
    below x m w (inr h) = omega (arith, h.0)

pub placed_apart : (widths : List ℕ) (bits : List InputBit) (places : List ℕ) → ArePlaced widths bits places → AllPairs (λ x y. x ≢ y) bits
placed_apart widths bits places h = subst (λ (k : List InputBit). AllPairs (λ x y. x ≢ y) k) (sym h.bits_are) (apart_all widths (length widths)).0

-- no bit of an input of few bits is bit 128 or above
small_bits : (number width : ℕ) → width ≤ 128 → All (λ (b : InputBit). b.bit < 128) (bits_of number width)
small_bits number zero h = All-nil (λ (b : InputBit). b.bit < 128)
small_bits number (suc k) h = All-push (λ (b : InputBit). b.bit < 128) (bits_of number k) (record { number = number; bit = k }) (small_bits number k (omega arith)) (omega arith)

small_all : (widths : List ℕ) (m : ℕ) → AreFew widths → All (λ (b : InputBit). b.bit < 128) (all_bits widths m)
small_all widths zero few = All-nil (λ (b : InputBit). b.bit < 128)
small_all widths (suc m) few = All-append (λ (b : InputBit). b.bit < 128) (all_bits widths m) (bits_of m (get_or widths m 0)) (small_all widths m few) (small_bits m (get_or widths m 0) (few m))

pub placed_small : (widths : List ℕ) (bits : List InputBit) (places : List ℕ) → AreFew widths → ArePlaced widths bits places → All (λ (b : InputBit). b.bit < 128) bits
placed_small widths bits places few h = subst (λ (k : List InputBit). All (λ (b : InputBit). b.bit < 128) k) (sym h.bits_are) (small_all widths (length widths) few)

width_inside : (widths : List ℕ) (number width : ℕ) → get_or widths number 0 ≡ width → 1 ≤ width → number < length widths
width_inside widths number width e l = elim (cases_lt number (length widths)) [
  | inl h ↦ h
  | inr h ↦ (let z : get_or widths number 0 ≡ 0 = get_or_past widths number 0 h in absurd (omega arith))
]

room_at : (widths : List ℕ) (m q w : ℕ) → q < m → w ≡ get_or widths q 0 → length (all_bits widths q) + w ≤ length (all_bits widths m)
room_at widths m q zero l e = monotone widths m q (omega arith)
  where
    monotone : (widths : List ℕ) (m q : ℕ) → q ≤ m → length (all_bits widths q) + 0 ≤ length (all_bits widths m)
    monotone widths zero q l = (let z : q ≡ 0 = omega arith in rw z (omega arith))
    monotone widths (suc m) q l = elim (cases_lt q (suc m)) [
      | inl h ↦ omega (arith, monotone widths m q (omega arith), length-append (all_bits widths m) (bits_of m (get_or widths m 0)))
      | inr h ↦ (let e : q ≡ suc m = omega arith in rw e (omega arith))
    ]
room_at widths m q (suc w) l e = let r = placed_at widths m q w no_bit l (omega arith) in omega (arith, r.0)

-- each input has its place
pub inputs_placed : (terms : List Term) (widths : List ℕ) (bits : List InputBit) (places : List ℕ) → AreFitting terms → HaveWidths terms (length terms) widths → ArePlaced widths bits places → HavePlaces terms places (length bits)
inputs_placed terms widths bits places fit have h n number width e =
    let low : n < length terms = some_inside terms n (Input number width) e in
    let w : get_or widths number 0 ≡ width = have n number width low e in
    let some : 1 ≤ width = (fit.fitting n (Input number width) e).some_bits in
    let inside : number < length widths = width_inside widths number width w some in (
      omega (arith, h.one_each),
      rw (h.places_are number inside, h.bits_are) (room_at widths (length widths) number width inside (sym w)),
    )
  where
    some_inside : (xs : List Term) (n : ℕ) (x : Term) → slice_get xs n ≡ Some x → n < length xs
    some_inside [] n x e = absurd (cc)
    some_inside (y ∷ ys) zero x e = omega arith
    some_inside (y ∷ ys) (suc n) x e = omega (arith, some_inside ys n x e)

-- and the bits there are those of its number
pub inputs_at_places : (terms : List Term) (widths : List ℕ) (bits : List InputBit) (places : List ℕ) → AreFitting terms → HaveWidths terms (length terms) widths → ArePlaced widths bits places → AreAtPlaces (input_bits bits) terms places
inputs_at_places terms widths bits places fit have h n number width e numbers k low =
    let inside' : n < length terms = some_inside terms n (Input number width) e in
    let w : get_or widths number 0 ≡ width = have n number width inside' e in
    let some : 1 ≤ width = (fit.fitting n (Input number width) e).some_bits in
    let inside : number < length widths = width_inside widths number width w some in
    let at : get_or bits (get_or places number 0 + k) no_bit ≡ record { number = number; bit = k } =
    rw (h.places_are number inside, h.bits_are) ((placed_at widths (length widths) number k no_bit inside (omega arith)).1) in
    ap (λ (b : InputBit). eqb (numbers b.number / 2 ^ b.bit % 2) 1) at
  where
    some_inside : (xs : List Term) (n : ℕ) (x : Term) → slice_get xs n ≡ Some x → n < length xs
    some_inside [] n x e = absurd (cc)
    some_inside (y ∷ ys) zero x e = omega arith
    some_inside (y ∷ ys) (suc n) x e = omega (arith, some_inside ys n x e)
