-- Texts and numbers of a tree.
use Rattle.std.specs.Prelude.{ℕ, ℤ, pos, negsuc, ◌&&◌, nat_le, List, if◌then◌else◌, Result, Ok}
use Rattle.toml.specs.Data.{Data, string, integer}
use Rattle.decl_tree.specs.declared.fault.DeclKind.TheVariants as kind
use Rattle.decl_tree.specs.declared.fault.KeyFault.{KeyFault}
use Rattle.decl_tree.specs.Faults.{here}

-- a text
abbrev pub text_in : Data → Result (List ℕ) KeyFault
text_in (string s) = Ok s
text_in _ = here kind.WrongKind

-- a number from low to high
abbrev pub in_range : ℕ → ℕ → ℤ → Result ℕ KeyFault
in_range low high (pos n) = if nat_le low n && nat_le n high then Ok n else here kind.OutOfRange
in_range low high (negsuc n) = here kind.OutOfRange

-- an integer from low to high
abbrev pub number_in : ℕ → ℕ → Data → Result ℕ KeyFault
number_in low high (integer z) = in_range low high z
number_in low high _ = here kind.WrongKind
