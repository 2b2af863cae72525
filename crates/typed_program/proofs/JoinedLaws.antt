-- The functions and the declarations that a program lends are the program.
use Rattle.std.proofs.Common.{◌≡◌, List, map, ◌∙◌}
use Rattle.mir_ir.specs.declared.declarations.Declarations.{Declarations}
use Rattle.mir_ir.specs.declared.tree.Function.{Function}
use Rattle.mir_ir.specs.declared.types.Ty.{Ty}
use Rattle.mir_program.specs.Joined.{Joined}
use Rattle.typed_program.specs.declared.rows.TypeRow.{TypeRow}
use Rattle.typed_program.specs.Numbers.{types_of}
use Rattle.typed_program.specs.Rows.{row_of, rows_of}

pub types_joined : (p : Joined) (functions : List Function) (declarations : Declarations) (types : List Ty) → functions ≡ p.functions → declarations ≡ p.declarations
    → types ≡ types_of (record { functions = functions; declarations = declarations }) → types ≡ types_of p
types_joined p functions declarations types f d h =
    h ∙ (λ i. types_of (record { functions = f i; declarations = d i }))

pub rows_joined : (p : Joined) (declarations : Declarations) (types lent : List Ty) (rows : List TypeRow) → declarations ≡ p.declarations → lent ≡ types → types ≡ types_of p
    → rows ≡ map (row_of declarations.types) lent → rows ≡ rows_of p
unfolding rows_of
rows_joined p declarations types lent rows d l t h =
    h ∙ (λ i. map (row_of (d i).types) ((l ∙ t) i))
