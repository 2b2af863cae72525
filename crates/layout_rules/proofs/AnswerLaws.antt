-- What is judged of equal lists is judged of each.
use Rattle.std.proofs.Common.{◌≡◌, List, subst}
use Rattle.mir_ir.specs.declared.declarations.Declarations.{Declarations}
use Rattle.mir_ir.specs.declared.tree.Function.{Function}
use Rattle.mir_program.specs.Joined.{Joined}
use Rattle.type_layouts.specs.declared.outline.Outline.{Outline}
use Rattle.type_layouts.specs.declared.row.Row.{Row}
use Rattle.layout_rules.specs.Mentions.{program_rows}
use Rattle.layout_rules.specs.Rules.{AreKept, outlines_in, rules}

pub kept_of_lists : (all outlines : List Outline) (rows mentioned : List Row) → all ≡ outlines → rows ≡ mentioned → AreKept all rows rules → AreKept outlines mentioned rules
kept_of_lists all outlines rows mentioned p q h =
    subst (λ (a : List Outline). AreKept a mentioned rules) p (subst (λ (r : List Row). AreKept all r rules) q h)

abbrev beside : List Function → Declarations → Joined
beside functions declarations = record { functions = functions; declarations = declarations }

pub kept_of_program : (p : Joined) (functions : List Function) (declarations : Declarations) → functions ≡ p.functions → declarations ≡ p.declarations
    → AreKept (outlines_in (beside functions declarations)) (program_rows (beside functions declarations)) rules → AreKept (outlines_in p) (program_rows p) rules
kept_of_program p functions declarations f d h =
    let e : beside functions declarations ≡ p = λ i. record { functions = f i; declarations = d i } in
    subst (λ (q : Joined). AreKept (outlines_in q) (program_rows q) rules) e h
