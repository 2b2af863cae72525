-- When the types of a program are refused.
use Rattle.std.specs.Prelude.{◌≡◌, Err}
use Rattle.mir_program.specs.Joined.{Joined}
use Rattle.type_rules.specs.Entries.{typing}
use Rattle.mir_types.specs.declared.check.TypeFault.{TypeFault}
use Rattle.mir_types.specs.declared.check.TypeFault.TheVariants as fault

-- the first refusal of typing; want of memory needs no cause
abbrev pub IsTypeFault : Joined → TypeFault → Type 0
IsTypeFault p (fault.Rule kind at) = typing p.functions p.declarations ≡ Err (record { kind = kind; at = at })
IsTypeFault p fault.Memory = Unit {0}
