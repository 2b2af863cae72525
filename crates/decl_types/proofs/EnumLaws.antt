-- Lists of variants that are not empty.
use Rattle.std.proofs.Common.{◌≡◌, List, [], ◌∷◌, Ok, refl}
use Rattle.mir_ir.specs.declared.declarations.VariantDecl.{VariantDecl}
use Rattle.decl_types.specs.Enums.{some_variants}

pub some_kept : (vs : List VariantDecl) → (vs ≡ [] → ⊥) → some_variants vs ≡ Ok vs
some_kept [] some = absurd (some refl)
some_kept (v ∷ vs) some = refl
