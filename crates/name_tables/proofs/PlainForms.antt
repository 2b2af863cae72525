-- The test whether a type is plain, by its form.
use Rattle.std.proofs.Common.{◌≡◌, ℕ, Bool, List, map, ap, ◌∙◌}
use Rattle.mir_ir.specs.declared.types.Ty.{Ty, out-Ty, map-Ty, fold_out-Ty}
use Rattle.mir_ir.specs.declared.types.Ty.TheOpen.{Ty-F}
use Rattle.mir_ir.specs.declared.types.Ty.TheVariants as ty
use Rattle.mir_ir.specs.declared.declarations.TypeDecl.{TypeDecl}
use Rattle.type_rules.specs.Lookup.{all_true}
use Rattle.type_rules.specs.Plain.{plain_level}
use Rattle.name_tables.specs.Plain.{mark_of, plain_by}

abbrev pub plain_parts : List TypeDecl → List Bool → Ty-F Ty → Ty-F Bool
plain_parts types marks x = map-Ty Ty Bool (plain_by types marks) x

pub plain_by_out : (types : List TypeDecl) (marks : List Bool) (t : Ty) → plain_by types marks t ≡ plain_level (mark_of types marks) (plain_parts types marks (out-Ty t))
unfolding plain_by
plain_by_out types marks t = fold_out-Ty Bool (plain_level (mark_of types marks)) t

module _ (types : List TypeDecl) (marks : List Bool) (t : Ty) where
  at_form : (x : Ty-F Ty) → out-Ty t ≡ x → plain_by types marks t ≡ plain_level (mark_of types marks) (plain_parts types marks x)
  at_form x is = plain_by_out types marks t ∙ ap (λ y. plain_level (mark_of types marks) (plain_parts types marks y)) is

  pub tuple_plain : (items : List Ty) → t ≡ ty.Tuple items → plain_by types marks t ≡ all_true (map (plain_by types marks) items)
  tuple_plain items is = at_form (Ty-F.Tuple items) (ap out-Ty is ∙ ty.outs-Tuple items)

  pub array_plain : (item : Ty) (n : ℕ) → t ≡ ty.Array item n → plain_by types marks t ≡ plain_by types marks item
  array_plain item n is = at_form (Ty-F.Array item n) (ap out-Ty is ∙ ty.outs-Array item n)

  pub named_plain : (path : List ℕ) → t ≡ ty.Named path → plain_by types marks t ≡ mark_of types marks path
  named_plain path is = at_form (Ty-F.Named path) (ap out-Ty is ∙ ty.outs-Named path)
