-- Words that are numbers of a type: a bool is 0 or 1 in one bit, a char is a Unicode scalar value in 32 bits, and an integer has
-- as many bits as its type.
use Rattle.std.specs.Prelude.{◌≡◌, ℕ, ◌<◌, ◌≤◌, ◌^◌, ◌⊎◌}
use Rattle.word_bits.specs.declared.word.Word.{Word}
use Rattle.mir_ir.specs.declared.types.Ty.{Ty, out-Ty}
use Rattle.mir_ir.specs.declared.types.Ty.TheOpen.{Ty-F}
use Rattle.mir_ir.specs.Integers.{width_of}

abbrev pub HasBits : ℕ → Word → Type 0
HasBits bits w = (w.width ≡ bits) × (w.value < 2 ^ bits)

-- the surrogates lie between the two ranges
abbrev pub IsCharacter : ℕ → Type 0
IsCharacter n = (n < 0xd800) ⊎ ((0xe000 ≤ n) × (n < 0x110000))

-- no other type has numbers
abbrev pub IsNumberIn : Ty-F Ty → Word → Type 0
IsNumberIn Ty-F.Bool w = HasBits 1 w
IsNumberIn Ty-F.Char w = HasBits 32 w × IsCharacter w.value
IsNumberIn (Ty-F.Int i) w = HasBits (width_of i) w
IsNumberIn _ w = ⊥

pub record IsNumberOf (t : Ty) (w : Word) : Type 0 where
  pub number : IsNumberIn (out-Ty t) w

abbrev pub HasNumbersIn : Ty-F Ty → Type 0
HasNumbersIn Ty-F.Bool = Unit {0}
HasNumbersIn Ty-F.Char = Unit {0}
HasNumbersIn (Ty-F.Int i) = Unit {0}
HasNumbersIn _ = ⊥

-- an integer type, bool or char
pub record HasNumbers (t : Ty) : Type 0 where
  pub numbers : HasNumbersIn (out-Ty t)
