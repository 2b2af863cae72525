-- What is found of one rule.
use Rattle.std.specs.Prelude.{◌≡◌, List, Result, Ok, Err}
use Rattle.layout_rules.specs.declared.fault.LayoutFault.{LayoutFault}
use Rattle.layout_rules.specs.declared.fault.LayoutFault.TheVariants as fault
use Rattle.layout_rules.specs.declared.fault.LayoutKind.{LayoutKind}
use Rattle.type_layouts.specs.declared.outline.Outline.{Outline}
use Rattle.type_layouts.specs.declared.row.Row.{Row}
use Rattle.layout_rules.specs.Rules.{IsFirst, IsKept}

-- no type breaks the rule, or this is the first that does, or memory was not found
abbrev pub IsJudged : List Outline → List Row → LayoutKind → Result (Unit {0}) LayoutFault → Type 0
IsJudged all rows rule (Ok _) = IsKept all rows rule
IsJudged all rows rule (Err (fault.Rule kind text)) = (kind ≡ rule) × IsFirst all rows rule text
IsJudged all rows rule (Err fault.Memory) = Unit {0}
