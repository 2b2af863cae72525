-- A sort that keeps the order of equal numbers gives the list that `by_number` makes.
use Rattle.std.proofs.Common.{◌≡◌, ◌⊎◌, inl, inr, ℕ, ◌<◌, ◌≤◌, zero, suc, Bool, true, false, not, ◌&&◌, nat_le, cond, filter, if◌then◌else◌, List, [], ◌∷◌, length, get_or, refl, sym, ◌∙◌, ap, arith}
use Rattle.std.specs.List.Sorted.{IsNonDecreasingBy}
use Rattle.std.specs.Ordering.{is_lt, nat_cmp}
use Rattle.std.proofs.lemmas.Bool.{leb-true, leb-false}
use Rattle.mir_ir.specs.declared.tree.Local.{Local}
use Rattle.raw_functions.specs.Meant.{put_by_number, by_number}

abbrev pub key : Local → ℕ
key l = l.id.0

-- each has at least this number
abbrev AtLeast : ℕ → List Local → Type 0
AtLeast n [] = Unit {0}
AtLeast n (l ∷ ls) = (n ≤ key l) × AtLeast n ls

abbrev Rises : List Local → Type 0
Rises [] = Unit {0}
Rises (l ∷ ls) = AtLeast (key l) ls × Rises ls

weaker : (m n : ℕ) (ls : List Local) → m ≤ n → AtLeast n ls → AtLeast m ls
weaker m n [] h a = tt
weaker m n (l ∷ ls) h a = (omega (arith, a.0), weaker m n ls h a.1)

-- where it is put
put_cases : (l m : Local) (ms : List Local) → ((key l ≤ key m) × (put_by_number l (m ∷ ms) ≡ l ∷ m ∷ ms)) ⊎ ((key m < key l) × (put_by_number l (m ∷ ms) ≡ m ∷ put_by_number l ms))
put_cases l m ms = by (nat_le (key l) (key m)) refl
  where
    by : (b : Bool) → nat_le (key l) (key m) ≡ b → ((key l ≤ key m) × ((if b then l ∷ m ∷ ms else m ∷ put_by_number l ms) ≡ l ∷ m ∷ ms)) ⊎ ((key m < key l) × ((if b then l ∷ m ∷ ms else m ∷ put_by_number l ms) ≡ m ∷ put_by_number l ms))
    by true e = inl (leb-true (key l) (key m) e, refl)
    by false e = inr (leb-false (key l) (key m) e, refl)

put_least : (n : ℕ) (l : Local) (ms : List Local) → n ≤ key l → AtLeast n ms → AtLeast n (put_by_number l ms)
put_least n l [] h a = (h, tt)
put_least n l (m ∷ ms) h a = elim (put_cases l m ms) [ inl e ↦ rw e.1 (h, a) | inr e ↦ rw e.1 (a.0, put_least n l ms h a.1) ]

put_rises : (l : Local) (ms : List Local) → Rises ms → Rises (put_by_number l ms)
put_rises l [] r = (tt, tt)
put_rises l (m ∷ ms) r = elim (put_cases l m ms) [
  | inl e ↦ rw e.1 ((e.0, weaker (key l) (key m) ms e.0 r.0), r)
  | inr e ↦ rw e.1 (put_least (key m) l ms (omega (arith, e.0)) r.0, put_rises l ms r.1)
]

sort_rises : (ls : List Local) → Rises (by_number ls)
sort_rises [] = tt
sort_rises (l ∷ ls) = put_rises l (by_number ls) (sort_rises ls)

at_least_by : (n : ℕ) (ls : List Local) → ((j : ℕ) (d : Local) → j < length ls → n ≤ key (get_or ls j d)) → AtLeast n ls
at_least_by n [] h = tt
at_least_by n (l ∷ ls) h = (h zero l (omega arith), at_least_by n ls (λ j d i. h (suc j) d (omega arith)))

rises_by : (ls : List Local) → IsNonDecreasingBy key ls → Rises ls
rises_by [] h = tt
rises_by (l ∷ ls) h = (at_least_by (key l) ls (λ j d i. h zero (suc j) d (omega arith) (omega arith)), rises_by ls (λ i j d a b. h (suc i) (suc j) d (omega arith) (omega arith)))

-- locals of one number
abbrev same : Local → Local → Bool
same x y = not (is_lt (nat_cmp (key x) (key y))) && not (is_lt (nat_cmp (key y) (key x)))

-- what is kept of a list whose first item is kept or not
abbrev kept_first : Bool → Local → List Local → List Local
kept_first b l ls = cond b (l ∷ ls) ls

same_is : (x y : Local) → key x ≡ key y → same x y ≡ true
same_is x y h = grind arith

is_same : (x y : Local) → same x y ≡ true → key x ≡ key y
is_same x y h = grind arith

exchanged : (a b : Bool) (l m : Local) (ls : List Local) → (a ≡ true → b ≡ true → ⊥) → kept_first a m (kept_first b l ls) ≡ kept_first b l (kept_first a m ls)
exchanged true true l m ls h = absurd (h refl refl)
exchanged true false l m ls h = refl
exchanged false true l m ls h = refl
exchanged false false l m ls h = refl

put_kept : (x l : Local) (ms : List Local) → filter (same x) (put_by_number l ms) ≡ filter (same x) (l ∷ ms)
put_kept x l [] = refl
put_kept x l (m ∷ ms) = elim (put_cases l m ms) [
  | inl e ↦ ap (filter (same x)) e.1
  | inr e ↦ ap (filter (same x)) e.1 ∙ ap (kept_first (same x m) m) (put_kept x l ms) ∙ exchanged (same x m) (same x l) l m (filter (same x) ms) (λ p q. absurd (omega (arith, e.0, is_same x m p, is_same x l q)))
]

sort_kept : (x : Local) (ls : List Local) → filter (same x) (by_number ls) ≡ filter (same x) ls
sort_kept x [] = refl
sort_kept x (l ∷ ls) = put_kept x l (by_number ls) ∙ ap (kept_first (same x l) l) (sort_kept x ls)

-- a kept item has at least the number that all have
kept_step : (n : ℕ) (x y l : Local) (rest more : List Local) (b : Bool) → same x l ≡ b → n ≤ key l → (rest ≡ y ∷ more → n ≤ key x) → kept_first b l rest ≡ y ∷ more → n ≤ key x
kept_step n x y l rest more true p a h e = omega (arith, is_same x l p, a)
kept_step n x y l rest more false p a h e = h e

least_kept : (n : ℕ) (x y : Local) (ls more : List Local) → AtLeast n ls → filter (same x) ls ≡ y ∷ more → n ≤ key x
least_kept n x y [] more a e = absurd (cc)
least_kept n x y (l ∷ ls) more a e = kept_step n x y l (filter (same x) ls) more (same x l) refl a.0 (least_kept n x y ls more a.1) e

dropped_first : (b : Bool) (l : Local) (xs ys : List Local) → kept_first b l xs ≡ kept_first b l ys → xs ≡ ys
dropped_first true l xs ys h = cc
dropped_first false l xs ys h = h

kept_here : (x l : Local) (ls : List Local) → key x ≡ key l → filter (same x) (l ∷ ls) ≡ l ∷ filter (same x) ls
kept_here x l ls h = ap (λ b. kept_first b l (filter (same x) ls)) (same_is x l h)

one_order : (xs ys : List Local) → Rises xs → Rises ys → ((x : Local) → filter (same x) xs ≡ filter (same x) ys) → xs ≡ ys
one_order [] [] r s h = refl
one_order [] (y ∷ ys) r s h = let e : [] ≡ y ∷ filter (same y) ys = h y ∙ kept_here y y ys refl in absurd (cc)
one_order (x ∷ xs) [] r s h = let e : [] ≡ x ∷ filter (same x) xs = sym (h x) ∙ kept_here x x xs refl in absurd (cc)
one_order (x ∷ xs) (y ∷ ys) r s h =
    let a : filter (same x) (y ∷ ys) ≡ x ∷ filter (same x) xs = sym (h x) ∙ kept_here x x xs refl in
    let b : filter (same y) (x ∷ xs) ≡ y ∷ filter (same y) ys = h y ∙ kept_here y y ys refl in
    let m : key y ≤ key x = least_kept (key y) x x (y ∷ ys) (filter (same x) xs) (omega arith, s.0) a in
    let n : key x ≤ key y = least_kept (key x) y y (x ∷ xs) (filter (same y) ys) (omega arith, r.0) b in
    let k : key x ≡ key y = omega (arith, m, n) in
    let f : y ∷ filter (same x) ys ≡ x ∷ filter (same x) xs = sym (kept_here x y ys k) ∙ a in
    let e : x ≡ y = cc in
    let t : (z : Local) → filter (same z) xs ≡ filter (same z) ys = λ z. dropped_first (same z x) x (filter (same z) xs) (filter (same z) ys) (h z ∙ ap (λ w. kept_first (same z w) w (filter (same z) ys)) (sym e)) in
    ap (λ w. w ∷ xs) e ∙ ap (λ ls. y ∷ ls) (one_order xs ys r.1 s.1 t)

pub sorted_is : (xs ys : List Local) → IsNonDecreasingBy key ys → ((x : Local) → filter (same x) ys ≡ filter (same x) xs) → ys ≡ by_number xs
sorted_is xs ys h f = one_order ys (by_number xs) (rises_by ys h) (sort_rises xs) (λ x. f x ∙ sym (sort_kept x xs))
