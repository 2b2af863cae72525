-- The refusal of a type by a rule.
use Rattle.std.specs.Prelude.{◌≡◌, ℕ, List}
use Rattle.layout_rules.specs.declared.fault.LayoutFault.{LayoutFault}
use Rattle.layout_rules.specs.declared.fault.LayoutFault.TheVariants as fault
use Rattle.layout_rules.specs.declared.fault.LayoutKind.{LayoutKind}

-- this rule and this text, unless memory was not found
abbrev pub IsRefusal : LayoutKind → List ℕ → LayoutFault → Type 0
IsRefusal kind text (fault.Rule k t) = (k ≡ kind) × (t ≡ text)
IsRefusal kind text fault.Memory = Unit {0}
