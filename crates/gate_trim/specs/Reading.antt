-- Which variables are read.
use Rattle.std.specs.Prelude.{◌≡◌, ℕ, Bool, true, false, ◌||◌, List, ◌+◌, ◌/◌, ◌<◌, ◌==◌, length, get_or}
use Rattle.std.specs.List.{list_any}
use Rattle.bit_gates.specs.declared.gate.Gate.{Gate}
use Rattle.bit_gates.specs.declared.gate.Gate.TheVariants.{True, And, Xor, Choose}
use Rattle.bit_gates.specs.Circuit.{Circuit}

-- the literal is of the variable
abbrev pub is_of : ℕ → ℕ → Bool
is_of variable literal = literal / 2 == variable

-- the gate reads the variable
abbrev pub reads : ℕ → Gate → Bool
reads variable True = false
reads variable (And a b) = is_of variable a || is_of variable b
reads variable (Xor a b) = is_of variable a || is_of variable b
reads variable (Choose test a b) = is_of variable test || is_of variable a || is_of variable b

-- some word has a literal of the variable
abbrev pub stands_in : ℕ → List (List ℕ) → Bool
stands_in variable words = list_any (λ word. list_any (is_of variable) word) words

-- each gate but the first, which is the constant, is read by a gate or stands in a root
abbrev pub IsEachRead : Circuit → List (List ℕ) → Type 0
IsEachRead c roots =
    (k : ℕ) → 0 < k → k < length c.gates → (list_any (reads (c.inputs + k)) c.gates || stands_in (c.inputs + k) roots) ≡ true

-- the gate with the second number reads that with the first
abbrev pub gate_reads : ℕ → List Gate → ℕ → ℕ → Bool
gate_reads inputs gates k j = reads (inputs + k) (get_or gates j True)
