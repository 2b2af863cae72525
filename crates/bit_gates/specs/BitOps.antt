-- Operations on two words bit by bit.
use Rattle.std.specs.Prelude.{ℕ, Bool, ◌&&◌, ◌||◌, bit_and, bit_or, bit_xor}
use Rattle.bit_gates.specs.declared.words.BitOp.{BitOp}
use Rattle.bit_gates.specs.declared.words.BitOp.TheVariants.{And, Or, Xor}
use Rattle.bit_gates.specs.Values.{differ}

-- what the operation makes of two bits
abbrev pub bit_result : BitOp → Bool → Bool → Bool
bit_result And p q = p && q
bit_result Or p q = p || q
bit_result Xor p q = differ p q

-- what it makes of the numbers that the bits write
abbrev pub word_result : BitOp → ℕ → ℕ → ℕ
word_result And m n = bit_and m n
word_result Or m n = bit_or m n
word_result Xor m n = bit_xor m n
