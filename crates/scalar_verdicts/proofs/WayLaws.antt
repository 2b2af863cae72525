-- In how many ways a function chooses, up to a limit.
use Rattle.std.proofs.Common.{◌≡◌, ℕ, zero, suc, ◌+◌, ◌*◌, ◌%◌, ◌^◌, ◌<◌, ◌≤◌, Bool, true, false, List, Option, Some, None, get_or, min, subst, sym, ap, ◌∙◌, refl, arith, add-one}
use Rattle.std.specs.Prelude.{leb}
use Rattle.std.proofs.lemmas.Bool.{leb-true, leb-false}
use Rattle.std.proofs.Math.Nat.{le-mul_of_pos_right, min-eq_left, min-eq_right, mod-eq_of_lt, one-le-mul}
use Rattle.std.proofs.Math.Pow.{pow_mono}
use Rattle.std.proofs.lemmas.Nat.{pow_pos}
use Rattle.mir_ir.specs.declared.tree.Block.{Block}
use Rattle.mir_ir.specs.declared.tree.Function.{Function}
use Rattle.mir_ir.specs.declared.tree.Terminator.{Terminator}
use Rattle.mir_ir.specs.declared.tree.Terminator.TheVariants as terminator
use Rattle.scalar_runs.specs.declared.builtins.Builtin.{Builtin}
use Rattle.scalar_runs.specs.declared.builtins.Builtin.TheVariants as builtin
use Rattle.scalar_runs.specs.declared.kinds.ValueKind.{ValueKind}
use Rattle.scalar_runs.specs.declared.kinds.ValueKind.TheVariants as kind
use Rattle.scalar_runs.specs.Builtins.{builtin_of}
use Rattle.scalar_runs.specs.Kinds.{width_of_kind}
use Rattle.scalar_runs.specs.Look.{block_of}
use Rattle.scalar_form.specs.Size.{marked_block, reached_before}
use Rattle.scalar_verdicts.specs.Choices.{block_choices, called_choices, choices_below, terminator_choices, values_of}

few_power : (w : ℕ) → w < 60 → 2 ^ w ≤ 2 ^ 60
few_power w less = let upto : w ≤ 60 = omega (arith, less) in pow_mono upto

pub few_words : (w : ℕ) → w < 60 → 1 * 2 ^ w % 2 ^ 64 ≡ min (2 ^ w) (2 ^ 60)
few_words w less =
    let upto : 2 ^ w ≤ 2 ^ 60 = few_power w less in
    let below : 1 * 2 ^ w < 2 ^ 64 = small (2 ^ w) upto in
    mod-eq_of_lt below ∙ single (2 ^ w) ∙ sym (min-eq_left upto)
  where
    small : (n : ℕ) → n ≤ 2 ^ 60 → 1 * n < 2 ^ 64
    small n upto = omega (arith, upto)

    single : (n : ℕ) → 1 * n ≡ n
    single n = omega arith

pub many_words : (w : ℕ) → 60 ≤ w → 2 ^ 60 ≡ min (2 ^ w) (2 ^ 60)
many_words w more = sym (min-eq_right (pow_mono more))

some_words : (w : ℕ) → 1 ≤ 2 ^ w
some_words w = up (2 ^ w) (pow_pos w) where
  up : (n : ℕ) → 0 < n → 1 ≤ n
  up n some = omega (arith, some)

some_values : (k : ValueKind) → 1 ≤ values_of k
some_values kind.Bool = some_words (width_of_kind kind.Bool)
some_values kind.Char = omega arith
some_values (kind.Int i) = some_words (width_of_kind (kind.Int i))
some_values kind.Unit = some_words (width_of_kind kind.Unit)
some_values kind.Never = some_words (width_of_kind kind.Never)

some_called : (called : Option Builtin) → 1 ≤ called_choices called
some_called None = omega arith
some_called (Some (builtin.Any k)) = some_values k
some_called (Some builtin.Assume) = omega arith
some_called (Some builtin.Assert) = omega arith
some_called (Some builtin.Panic) = omega arith

some_terminator : (last : Terminator) → 1 ≤ terminator_choices last
some_terminator (terminator.Goto target) = omega arith
some_terminator (terminator.Switch o arms otherwise) = omega arith
some_terminator terminator.Return = omega arith
some_terminator terminator.Unreachable = omega arith
some_terminator (terminator.Drop place next) = omega arith
some_terminator (terminator.Assert o expected text shown next) = omega arith
some_terminator (terminator.Call destination callee arguments next) = some_called (builtin_of callee)

some_block : (reached : Bool) (found : Option Block) → 1 ≤ block_choices reached found
some_block true (Some b) = some_terminator b.terminator
some_block true None = omega arith
some_block false (Some b) = omega arith
some_block false None = omega arith

some_below : (f : Function) (n : ℕ) → 1 ≤ choices_below f n
some_below f zero = omega arith
some_below f (suc n) = one-le-mul (some_below f n) (some_block (get_or (reached_before f n) n false) (block_of f n))

upto_left : (a b : ℕ) → 1 ≤ b → a ≤ a * b
upto_left a b some = le-mul_of_pos_right a some

upto_right : (a b : ℕ) → 1 ≤ a → b ≤ a * b
upto_right a b some = subst (λ n. b ≤ n) (swapped b a) (le-mul_of_pos_right b some) where
  swapped : (x y : ℕ) → x * y ≡ y * x
  swapped x y = omega arith

square : (limit : ℕ) (t : Bool) → leb limit 0 ≡ t → min (limit * limit) limit ≡ limit
square limit true e = nothing limit (leb-true limit 0 e) where
  nothing : (n : ℕ) → n ≤ 0 → min (n * n) n ≡ n
  nothing n upto = let none : n ≡ 0 = omega (arith, upto) in ap (λ m. min (m * m) m) none ∙ sym none
square limit false e = min-eq_right (upto_left limit limit (up limit (leb-false limit 0 e))) where
  up : (n : ℕ) → 0 < n → 1 ≤ n
  up n some = omega (arith, some)

-- a product of two that are cut off at a limit
min_product : (a b limit : ℕ) → 1 ≤ a → 1 ≤ b → min (min a limit * min b limit) limit ≡ min (a * b) limit
min_product a b limit some_a some_b = by_order (leb a limit) (leb b limit) refl refl where
  weaker : (x y : ℕ) → x < y → x ≤ y
  weaker x y less = omega (arith, less)

  longer : (x y z : ℕ) → x ≤ y → y ≤ z → x ≤ z
  longer x y z first second = omega (arith, first, second)

  by_order : (s t : Bool) → leb a limit ≡ s → leb b limit ≡ t → min (min a limit * min b limit) limit ≡ min (a * b) limit
  by_order true true g h = ap (λ n. min (n * min b limit) limit) (min-eq_left (leb-true a limit g)) ∙ ap (λ n. min (a * n) limit) (min-eq_left (leb-true b limit h))
  by_order true false g h =
      let more : limit ≤ b = weaker limit b (leb-false b limit h) in
      ap (λ n. min (n * min b limit) limit) (min-eq_left (leb-true a limit g)) ∙ ap (λ n. min (a * n) limit) (min-eq_right more)
      ∙ min-eq_right (upto_right a limit some_a) ∙ sym (min-eq_right (longer limit b (a * b) more (upto_right a b some_a)))
  by_order false true g h =
      let more : limit ≤ a = weaker limit a (leb-false a limit g) in
      ap (λ n. min (n * min b limit) limit) (min-eq_right more) ∙ ap (λ n. min (limit * n) limit) (min-eq_left (leb-true b limit h))
      ∙ min-eq_right (upto_left limit b some_b) ∙ sym (min-eq_right (longer limit a (a * b) more (upto_left a b some_b)))
  by_order false false g h =
      let more_a : limit ≤ a = weaker limit a (leb-false a limit g) in
      let more_b : limit ≤ b = weaker limit b (leb-false b limit h) in
      ap (λ n. min (n * min b limit) limit) (min-eq_right more_a) ∙ ap (λ n. min (limit * n) limit) (min-eq_right more_b)
      ∙ square limit (leb limit 0) refl ∙ sym (min-eq_right (longer limit a (a * b) more_a (upto_left a b some_b)))

-- one block more
pub ways_more : (f : Function) (n : ℕ) (marks next : List Bool) (ways visited product : ℕ) → marks ≡ reached_before f n → next ≡ marked_block marks n (block_of f n) → ways ≡ min (choices_below f n) (2 ^ 60)
    → visited ≡ min (block_choices (get_or marks n false) (block_of f n)) (2 ^ 60) → product ≡ min (ways * visited) (2 ^ 60)
    → record { marks : next ≡ reached_before f (n + 1); ways : product ≡ min (choices_below f (n + 1)) (2 ^ 60) }
ways_more f n marks next ways visited product e marked g h k = record {
  marks = marked ∙ ap (λ ms. marked_block ms n (block_of f n)) e ∙ sym (ap (reached_before f) (add-one n));
  ways = k ∙ ap (λ w. min (w * visited) (2 ^ 60)) g ∙ ap (λ v. min (min (choices_below f n) (2 ^ 60) * v) (2 ^ 60)) (h ∙ ap (λ ms. min (block_choices (get_or ms n false) (block_of f n)) (2 ^ 60)) e)
      ∙ min_product (choices_below f n) (block_choices (get_or (reached_before f n) n false) (block_of f n)) (2 ^ 60) (some_below f n) (some_block (get_or (reached_before f n) n false) (block_of f n))
      ∙ sym (ap (λ m. min (choices_below f m) (2 ^ 60)) (add-one n));
}
