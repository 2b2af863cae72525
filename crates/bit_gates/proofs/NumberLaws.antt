-- The numbers that lists of literals write.
use Rattle.std.proofs.Common.{◌≡◌, ℕ, ◌+◌, ◌-◌, ◌*◌, ◌%◌, ◌^◌, ◌<◌, ◌≤◌, Bool, true, false, not, List, [], ◌∷◌, ◌++◌, length, take, drop, get_or, sym, ap, ◌∙◌, refl, arith, subst, zero, suc, replicate}
use Rattle.std.proofs.Math.Nat.{pow-suc}
use Rattle.std.specs.Prelude.{map}
use Rattle.std.proofs.lemmas.Nat.{mod-mul-add}
use Rattle.region_pool.specs.Literals.{negation}
use Rattle.bit_gates.proofs.LiteralLaws.{negation_inside}
use Rattle.bit_gates.proofs.TestLaws.{value_negation}
use Rattle.std.proofs.lemmas.List.{take_more, take_all}
use Rattle.std.proofs.lemmas.List.Elements.{All-head, All-tail, All-weaker, All-get_or, All-map, All-same, All-replicate, All-take, All-drop}
use Rattle.bit_gates.specs.Circuit.{Circuit, size, value}
use Rattle.bit_gates.specs.Made.{Extends, AreIn, number, bit}

pub bit_below : (b : Bool) → bit b < 2
bit_below true = omega arith
bit_below false = omega arith

pub number_nil : (v : ℕ → Bool) → number v [] ≡ 0
unfolding number
number_nil v = refl

pub number_cons : (v : ℕ → Bool) (x : ℕ) (xs : List ℕ) → number v (x ∷ xs) ≡ bit (v x) + 2 * number v xs
unfolding number
number_cons v x xs = refl

-- literals that were there write the same number afterwards
pub number_kept : (a b : Circuit) (bits : ℕ → Bool) (xs : List ℕ) → Extends a b → AreIn a xs → number (value b bits) xs ≡ number (value a bits) xs
unfolding number
number_kept a b bits [] e h = refl
number_kept a b bits (x ∷ xs) e h =
    rw (e.kept bits x (All-head (λ literal. literal < 2 * size a) x xs h), number_kept a b bits xs e (All-tail (λ literal. literal < 2 * size a) x xs h)) refl

pub are_in_kept : (a b : Circuit) (xs : List ℕ) → Extends a b → AreIn a xs → AreIn b xs
are_in_kept a b xs e h = All-weaker (λ literal. literal < 2 * size a) (λ literal. literal < 2 * size b) (λ x p. omega (arith, e.grown)) xs h

pub number_append : (v : ℕ → Bool) (xs ys : List ℕ) → number v (xs ++ ys) ≡ number v xs + 2 ^ length xs * number v ys
unfolding number
number_append v [] ys = omega arith
number_append v (x ∷ xs) ys =
    let h : number v (xs ++ ys) ≡ number v xs + 2 ^ length xs * number v ys = number_append v xs ys in
    let p : 2 ^ suc (length xs) ≡ 2 ^ length xs * 2 = pow-suc 2 (length xs) in
    rw (h, p) (omega arith)

pub number_push : (v : ℕ → Bool) (xs : List ℕ) (x : ℕ) → number v (xs ++ x ∷ []) ≡ number v xs + 2 ^ length xs * bit (v x)
unfolding number
number_push v xs x =
    let h : number v (xs ++ x ∷ []) ≡ number v xs + 2 ^ length xs * (bit (v x) + 2 * 0) = number_append v xs (x ∷ []) in
    omega arith

pub number_below : (v : ℕ → Bool) (xs : List ℕ) → number v xs < 2 ^ length xs
unfolding number
number_below v [] = omega arith
number_below v (x ∷ xs) =
    let h : number v xs < 2 ^ length xs = number_below v xs in
    let b : bit (v x) < 2 = bit_below (v x) in
    let p : 2 ^ suc (length xs) ≡ 2 ^ length xs * 2 = pow-suc 2 (length xs) in
    rw p (omega arith)

-- one more bit of a list that is read from its front
pub take_next : (xs : List ℕ) (i x : ℕ) → i < length xs → x ≡ get_or xs i 0 → take (i + 1) xs ≡ take i xs ++ x ∷ []
take_next xs i x l e = take_more xs i 0 l ∙ ap (λ (y : ℕ). take i xs ++ y ∷ []) (sym e)

pub in_at : (c : Circuit) (xs : List ℕ) (i x : ℕ) → i < length xs → x ≡ get_or xs i 0 → AreIn c xs → x < 2 * size c
in_at c xs i x l e h = subst (λ (y : ℕ). y < 2 * size c) (sym e) (All-get_or (λ literal. literal < 2 * size c) xs i 0 l h)

pub in_at_later : (a b : Circuit) (xs : List ℕ) (i x : ℕ) → Extends a b → i < length xs → x ≡ get_or xs i 0 → AreIn a xs → x < 2 * size b
in_at_later a b xs i x e l r h = omega (arith, in_at a xs i x l r h, e.grown)

bit_not : (b : Bool) → bit (not b) + bit b ≡ 1
bit_not true = refl
bit_not false = refl

-- ones less a number are written by the negated literals
pub number_negations : (c : Circuit) (bits : ℕ → Bool) (xs : List ℕ) → number (value c bits) (map negation xs) + number (value c bits) xs + 1 ≡ 2 ^ length xs
unfolding number
number_negations c bits [] = refl
number_negations c bits (x ∷ xs) =
    let h : number (value c bits) (map negation xs) + number (value c bits) xs + 1 ≡ 2 ^ length xs = number_negations c bits xs in
    let b : bit (not (value c bits x)) + bit (value c bits x) ≡ 1 = bit_not (value c bits x) in
    let p : 2 ^ suc (length xs) ≡ 2 ^ length xs * 2 = pow-suc 2 (length xs) in
    rw (p, value_negation c bits x) (omega arith)

pub in_negations : (c : Circuit) (xs : List ℕ) → AreIn c xs → AreIn c (map negation xs)
in_negations c xs h =
    All-map (λ literal. literal < 2 * size c) negation xs
    (All-weaker (λ literal. literal < 2 * size c) (λ literal. negation literal < 2 * size c) (λ x p. negation_inside x (size c) p) xs h)

pub number_replicate : (v : ℕ → Bool) (n l : ℕ) → number v (replicate n l) + bit (v l) ≡ bit (v l) * 2 ^ n
unfolding number
number_replicate v zero l = omega arith
number_replicate v (suc n) l =
    let h : number v (replicate n l) + bit (v l) ≡ bit (v l) * 2 ^ n = number_replicate v n l in
    let p : 2 ^ suc n ≡ 2 ^ n * 2 = pow-suc 2 n in
    rw p (omega arith)

-- what is left of a number that is cut to a width
pub cut_is : (s p c t : ℕ) → s + p * c ≡ t → s < p → s ≡ t % p
cut_is s p c t e l =
    let f : c * p + s ≡ t = omega arith in
    rw (← f) (sym (mod-mul-add c p s l))

pub in_same : (c : Circuit) (xs ys : List ℕ) → xs ≡ ys → AreIn c ys → AreIn c xs
in_same c xs ys e h = All-same (λ literal. literal < 2 * size c) xs ys e h

pub in_copies : (c : Circuit) (n l : ℕ) → l < 2 * size c → AreIn c (replicate n l)
in_copies c n l h = All-replicate (λ literal. literal < 2 * size c) n l h

zero_mul : (p : ℕ) → 0 * p ≡ 0
zero_mul p = omega arith

pub number_zero : (m b p : ℕ) → b ≡ 0 → m + b ≡ b * p → m ≡ 0
number_zero m b p z e =
    let f : b * p ≡ 0 = ap (λ (k : ℕ). k * p) z ∙ zero_mul p in
    omega arith

-- a list by its first element and the others
pub list_parts : (ys : List ℕ) → 1 ≤ length ys → get_or ys 0 0 ∷ take (length ys - 1) (drop 1 ys) ≡ ys
list_parts [] l = absurd (omega arith)
list_parts (y ∷ ys) l = ap (λ (k : List ℕ). y ∷ k) (take_all (suc (length ys) - 1) ys (omega arith))

pub list_none : (ys : List ℕ) → length ys < 1 → ys ≡ []
list_none [] l = refl
list_none (y ∷ ys) l = absurd (omega arith)

pub in_rest : (c : Circuit) (ys : List ℕ) (k : ℕ) → AreIn c ys → AreIn c (take k (drop 1 ys))
in_rest c ys k h = All-take (λ literal. literal < 2 * size c) k (drop 1 ys) (All-drop (λ literal. literal < 2 * size c) 1 ys h)

pub in_take : (c : Circuit) (ys : List ℕ) (k : ℕ) → AreIn c ys → AreIn c (take k ys)
in_take c ys k h = All-take (λ literal. literal < 2 * size c) k ys h
