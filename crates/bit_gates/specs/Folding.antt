-- A gate that may have become simpler before it is made.
use Rattle.std.specs.Prelude.{◌≡◌, ℕ, Bool, true, not, ◌*◌, ◌<◌}
use Rattle.bit_gates.specs.declared.fold.Folded.{Folded}
use Rattle.bit_gates.specs.declared.fold.Folded.TheVariants.{Known, Fresh}
use Rattle.region_pool.specs.Literals.{literal_value}
use Rattle.bit_gates.specs.Values.{differ, gate_value, IsGateOf}

-- the value of a folded gate, by the values of literals
abbrev pub folded_value : (ℕ → Bool) → Folded → Bool
folded_value v (Known literal) = v literal
folded_value v (Fresh gate negated) = differ negated (gate_value v gate)

-- its literals are of variables below this number
abbrev pub IsFoldedOf : ℕ → Folded → Type 0
IsFoldedOf count (Known literal) = literal < 2 * count
IsFoldedOf count (Fresh gate negated) = IsGateOf count gate

-- it computes this wherever the literal `truth` is true, and reads no variables but those of the four literals
pub record IsFolding (truth a b c : ℕ) (folded : Folded) (f : (ℕ → Bool) → Bool) : Type 0 where
  pub inside : (count : ℕ) → truth < 2 * count → a < 2 * count → b < 2 * count → c < 2 * count → IsFoldedOf count folded
  pub value_is : (values : ℕ → Bool) → literal_value values truth ≡ true → folded_value (literal_value values) folded ≡ f (literal_value values)

-- the second is the negation of the first
pub record IsTurned (folded turned : Folded) : Type 0 where
  pub inside : (count : ℕ) → IsFoldedOf count folded → IsFoldedOf count turned
  pub value_is : (values : ℕ → Bool) → folded_value (literal_value values) turned ≡ not (folded_value (literal_value values) folded)
