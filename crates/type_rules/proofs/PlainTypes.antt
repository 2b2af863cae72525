-- The equation of the test whether a declared type is plain.
use Rattle.std.proofs.Common.{◌≡◌, ℕ, suc, Bool, List, ap, ◌∙◌}
use Rattle.mir_ir.specs.declared.types.Ty.{Ty, map-Ty, fold_out-Ty}
use Rattle.mir_ir.specs.declared.types.Ty.TheVariants as ty
use Rattle.mir_ir.specs.declared.types.Ty.TheFolds.{fold-Ty}
use Rattle.mir_ir.specs.declared.declarations.Declarations.{Declarations}
use Rattle.type_rules.specs.Lookup.{type_named}
use Rattle.type_rules.specs.Plain.{declared_plain, plain_level, plain_within}

pub plain_named : (depth : ℕ) (d : Declarations) (path : List ℕ) → plain_within (suc depth) d (ty.Named path) ≡ declared_plain (plain_within depth d) (type_named d path)
plain_named depth d path =
    let named : List ℕ → Bool = λ p. declared_plain (plain_within depth d) (type_named d p) in
    fold_out-Ty Bool (plain_level named) (ty.Named path)
    ∙ ap (λ x. plain_level named (map-Ty Ty Bool (fold-Ty Bool (plain_level named)) x)) (ty.outs-Named path)
