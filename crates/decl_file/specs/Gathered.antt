-- Keys in their order: the values of all of them, or the first fault.
use Rattle.std.specs.Prelude.{Result, Ok}
use Rattle.decl_tree.specs.declared.fault.KeyFault.{KeyFault}
use Rattle.decl_tree.specs.Faults.{and_then}

-- two values, or the first fault
abbrev pub both : {A B : Type 0} → Result A KeyFault → Result B KeyFault → Result (A × B) KeyFault
both first second = and_then first (λ a. and_then second (λ b. Ok (a, b)))
