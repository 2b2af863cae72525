-- Shifts of numbers of so many bits.
use Rattle.std.specs.Prelude.{ℕ, Bool, ◌-◌, ◌*◌, ◌/◌, ◌%◌, ◌^◌, if◌then◌else◌}

-- towards the high bits, cut to the width
abbrev pub shifted_up : ℕ → ℕ → ℕ → ℕ
shifted_up width n by = n * 2 ^ by % 2 ^ width

-- towards the low bits, with ones coming in above, or zeros: the ones are the zeros of the number of ones less this one
abbrev pub shifted_down : Bool → ℕ → ℕ → ℕ → ℕ
shifted_down ones width n by = if ones then 2 ^ width - 1 - (2 ^ width - 1 - n) / 2 ^ by else n / 2 ^ by
