-- A program without functions and declarations keeps the layout rules, and its types fit one another.
use Rattle.std.proofs.Common.{◌≡◌, ℕ, true≢false, List, [], ◌∷◌, refl, sym, subst}
use Rattle.mir_program.specs.Joined.{Joined}
use Rattle.type_layouts.specs.Outlines.{outlines}
use Rattle.type_layouts.specs.Recursion.{Leads, NoneRecursive}
use Rattle.layout_rules.specs.Mentions.{program_rows}
use Rattle.type_rules.specs.Entries.{typing}
use Rattle.typed_program.specs.WellTyped.{IsWellTyped}

abbrev nothing : Joined
nothing = record { functions = []; declarations = record { types = []; traits = []; vtables = []; constants = []; aliases = []; contracts = []; loops = []; units = [] } }

nothing_led : (i k : ℕ) (path : List ℕ) → Leads [] i path k → ⊥
nothing_led i k [] h = true≢false (sym h)
nothing_led i k (j ∷ path) h = true≢false (sym h.0)

none_recursive : NoneRecursive []
none_recursive i r = nothing_led i i r.path r.leads

nothing_is_well : IsWellTyped nothing
unfolding outlines program_rows typing
nothing_is_well = record { layouts = (refl, (none_recursive, (refl, (refl, (refl, (refl, tt)))))); types = refl }

pub empty_is_well : (p : Joined) → p.functions ≡ [] → p.declarations ≡ nothing.declarations → IsWellTyped p
empty_is_well p f d = subst IsWellTyped (λ i. record { functions = sym f i; declarations = sym d i }) nothing_is_well
