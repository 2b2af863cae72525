-- Patterns of so many bits, and walks along the arms of a `switchInt` with the patterns so far in any order.
use Rattle.std.proofs.Common.{◌≡◌, ℕ, suc, ◌+◌, ◌*◌, ◌/◌, ◌^◌, ◌<◌, ◌≤◌, ◌↔◌, Bool, true, false, ◌&&◌, ◌||◌, ◌==◌, not, leb, nat_eq, nat_lt, List, [], ◌∷◌, ◌++◌, Ok, Err, drop, length, refl, ap, sym, ◌∙◌, arith}
use Rattle.std.specs.Prelude.{if◌then◌else◌, slice_index_or}
use Rattle.std.specs.List.{list_any}
use Rattle.std.proofs.Math.Nat.{div-lt_iff_lt-mul}
use Rattle.std.proofs.Math.Pow.{pow_mono}
use Rattle.std.proofs.Math.Seq.{drop-cons}
use Rattle.std.proofs.lemmas.Bool.{eq-eqb, le-leb, lt-ltb, ltb-false, ltb-true, ne_eqb}
use Rattle.std.proofs.lemmas.Nat.{pow_pos}
use Rattle.indexmap.specs.IndexSet.{insert_key}
use Rattle.mir_ir.specs.declared.tree.Arm.{Arm}
use Rattle.mir_ir.specs.declared.tree.Function.{Function}
use Rattle.type_rules.specs.declared.refusal.TypeKind.TheVariants as kind
use Rattle.type_rules.specs.Refusals.{OrRefused, ◌>>◌, check}
use Rattle.type_rules.specs.Code.{arms_fit, label_fits}
use Rattle.function_types.specs.Steps.{arm_fits}

-- nothing is left of a number behind its bits
behind_bits : (m n p : ℕ) (b : Bool) → nat_lt n p ≡ b → (m < 1) ↔ (n < 1 * p) → (m == 0) ≡ b
behind_bits m n p true e h = eq-eqb m 0 (let below : n < p = ltb-true n p e in let none : m < 1 = h.1 (omega (arith, below)) in omega (arith, none))
behind_bits m n p false e h =
    ne_eqb m 0 (λ (z : m ≡ 0). let above : p ≤ n = ltb-false n p e in let less : n < 1 * p = h.0 (omega (arith, z)) in absurd (omega (arith, above, less)))

pub fits_by_shift : (w n : ℕ) → (n / 2 ^ w == 0) ≡ nat_lt n (2 ^ w)
fits_by_shift w n = behind_bits (n / 2 ^ w) n (2 ^ w) (nat_lt n (2 ^ w)) refl (div-lt_iff_lt-mul (pow_pos w))

-- each number has at most as many bits as there are
pub fits_widest : (w n : ℕ) → 128 ≤ w → n < 2 ^ 128 → leb 128 w ≡ nat_lt n (2 ^ w)
fits_widest w n le lt = let power : 2 ^ 128 ≤ 2 ^ w = pow_mono le in le-leb 128 w le ∙ sym (lt-ltb n (2 ^ w) (omega (arith, power, lt)))

-- the same numbers are among both
abbrev AreAlike : List ℕ → List ℕ → Type 0
AreAlike xs ys = (n : ℕ) → list_any (λ m. n == m) xs ≡ list_any (λ m. n == m) ys

alike_arms : (f : Function) (width : ℕ) (xs ys : List ℕ) (arms : List Arm) → AreAlike xs ys → arms_fit f width xs arms ≡ arms_fit f width ys arms
alike_arms f width xs ys [] same = refl
alike_arms f width xs ys (arm ∷ arms) same =
    (λ i. check (nat_lt arm.number (2 ^ width) && not (same arm.number i)) kind.Mismatch >> (label_fits f arm.target >> arms_fit f width (arm.number ∷ xs) arms))
    ∙ ap (λ r. check (nat_lt arm.number (2 ^ width) && not (list_any (λ m. arm.number == m) ys)) kind.Mismatch >> (label_fits f arm.target >> r))
    (alike_arms f width (arm.number ∷ xs) (arm.number ∷ ys) arms (λ n. ap (λ b. (n == arm.number) || b) (same n)))

last_or_first : (n m : ℕ) (xs : List ℕ) → ((n == m) || list_any (λ k. n == k) xs) ≡ list_any (λ k. n == k) (xs ++ m ∷ [])
last_or_first n m [] = refl
last_or_first n m (x ∷ xs) = swapped (n == m) (n == x) (list_any (λ k. n == k) xs) ∙ ap (λ b. (n == x) || b) (last_or_first n m xs)
  where
    swapped : (a b c : Bool) → (a || (b || c)) ≡ (b || (a || c))
    swapped true true c = refl
    swapped true false c = refl
    swapped false true c = refl
    swapped false false c = refl

abbrev at_arm : Function → ℕ → List ℕ → List Arm → OrRefused (Unit {0}) → OrRefused (Unit {0})
at_arm f width before arms fits = fits >> arms_fit f width before arms

grouped : (a b c : OrRefused (Unit {0})) → (a >> (b >> c)) ≡ ((a >> b) >> c)
grouped (Ok _) b c = refl
grouped (Err why) b c = refl

first_arm : (f : Function) (width : ℕ) (keys : List ℕ) (arms : List Arm) (n : ℕ) (arm other : Arm) (is_new : Bool) → n < length arms → arm ≡ slice_index_or arms n other
    → is_new ≡ not (list_any (λ m. arm.number == m) keys)
    → arms_fit f width keys (drop n arms) ≡ at_arm f width (arm.number ∷ keys) (drop (n + 1) arms) (arm_fits f width is_new arm)
first_arm f width keys arms n arm other is_new lt is new =
    let next : suc n ≡ n + 1 = omega arith in
    ap (arms_fit f width keys) (drop-cons arms n other lt)
    ∙ (λ i. arms_fit f width keys (sym is i ∷ drop (next i) arms))
    ∙ (λ i. check (nat_lt arm.number (2 ^ width) && sym new i) kind.Mismatch >> (label_fits f arm.target >> arms_fit f width (arm.number ∷ keys) (drop (n + 1) arms)))
    ∙ grouped (check (nat_lt arm.number (2 ^ width) && is_new) kind.Mismatch) (label_fits f arm.target) (arms_fit f width (arm.number ∷ keys) (drop (n + 1) arms))

-- an arm that fits leaves the others, with its number among the patterns
pub arm_on : (f : Function) (width : ℕ) (keys later : List ℕ) (arms : List Arm) (n : ℕ) (arm other : Arm) (is_new : Bool) (all : OrRefused (Unit {0})) → n < length arms → arm ≡ slice_index_or arms n other
    → is_new ≡ not (list_any (λ m. arm.number == m) keys) → later ≡ insert_key nat_eq keys arm.number → Ok tt ≡ arm_fits f width is_new arm
    → arms_fit f width keys (drop n arms) ≡ all → arms_fit f width later (drop (n + 1) arms) ≡ all
arm_on f width keys later arms n arm other is_new all lt is new kept fits h =
    sym (sym h ∙ first_arm f width keys arms n arm other is_new lt is new ∙ ap (at_arm f width (arm.number ∷ keys) (drop (n + 1) arms)) (sym fits)
    ∙ alike_arms f width (arm.number ∷ keys) later (drop (n + 1) arms) (by (list_any (λ m. arm.number == m) keys) refl))
  where
    passes : (b : Bool) (r : OrRefused (Unit {0})) → Ok tt ≡ (check (nat_lt arm.number (2 ^ width) && b) kind.Mismatch >> r) → b ≡ true
    passes true r h = refl
    passes false r h = absurd (none (nat_lt arm.number (2 ^ width)) h)
      where
        none : (c : Bool) → Ok tt ≡ (check (c && false) kind.Mismatch >> r) → ⊥
        none true e = cc
        none false e = cc

    by : (b : Bool) → list_any (λ m. arm.number == m) keys ≡ b → AreAlike (arm.number ∷ keys) later
    by true e = absurd (let t = passes is_new (label_fits f arm.target) fits in let u : not true ≡ true = sym (ap not e) ∙ sym new ∙ t in cc)
    by false e = λ k.
        last_or_first k arm.number keys
        ∙ ap (list_any (λ m. k == m)) (sym (kept ∙ (λ i. if e i then keys else keys ++ arm.number ∷ [])))
