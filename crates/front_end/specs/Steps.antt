-- What is told on the way, of a program that two files make.
use Rattle.std.specs.Prelude.{◌≡◌, ◌⊎◌, Some, Result, Ok, Err}
use Rattle.mir_program.specs.Joined.{Joined}
use Rattle.layout_rules.specs.declared.fault.LayoutFault.{LayoutFault}
use Rattle.layout_rules.specs.Rules.{IsLayoutAnswer}
use Rattle.type_rules.specs.Entries.{typing}
use Rattle.type_rules.specs.declared.refusal.Refusal as misfit
use Rattle.typed_program.specs.WellTyped.{IsWellTyped}
use Rattle.front_end.specs.Front.{LayoutsAreKept, types_refusal}
use Rattle.front_end.specs.Refusals.{layout_refusal}
use Rattle.front_end.specs.declared.refusal.Refusal.{Refusal}

-- its types are refused with this
abbrev pub HasMisfit : Joined → Refusal → Type 0
HasMisfit p told = (r : misfit.Refusal) × (typing p.functions p.declarations ≡ Err r) × (told ≡ types_refusal p r)

-- its layouts are refused with this
abbrev pub HasMislayout : Joined → Refusal → Type 0
HasMislayout p told = (fault : LayoutFault) × IsLayoutAnswer p (Err fault) × (layout_refusal fault ≡ Some told)

-- of a program whose layouts keep the rules
abbrev pub IsTyped : Joined → Result Joined Refusal → Type 0
IsTyped p (Ok q) = (q ≡ p) × IsWellTyped p
IsTyped p (Err told) = HasMisfit p told

-- of a program
abbrev pub IsJudged : Joined → Result Joined Refusal → Type 0
IsJudged p (Ok q) = (q ≡ p) × IsWellTyped p
IsJudged p (Err told) = HasMislayout p told ⊎ (LayoutsAreKept p × HasMisfit p told)
