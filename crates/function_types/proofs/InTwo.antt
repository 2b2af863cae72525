-- The locals of a function in two: its parameters, and the others.
use Rattle.std.proofs.Common.{◌≡◌, ℕ, zero, suc, ◌+◌, List, [], ◌∷◌, Ok, Err, drop, take, refl, ap, ◌∙◌}
use Rattle.mir_ir.specs.declared.tree.Local.{Local}
use Rattle.mir_ir.specs.declared.types.Ty.{Ty}
use Rattle.mir_ir.specs.declared.declarations.Declarations.{Declarations}
use Rattle.type_rules.specs.declared.refusal.TypeKind.TheVariants as kind
use Rattle.type_rules.specs.Refusals.{OrRefused, ◌>>◌, check}
use Rattle.type_rules.specs.Lookup.{knows_traits}
use Rattle.type_rules.specs.Code.{locals_fit, parameter_fits}
use Rattle.function_types.specs.Steps.{in_two, others_fit, parameters_fit}

grouped : (a b c : OrRefused (Unit {0})) → (a >> (b >> c)) ≡ ((a >> b) >> c)
grouped (Ok _) b c = refl
grouped (Err why) b c = refl

alone : (a : OrRefused (Unit {0})) → a ≡ (a >> Ok tt)
alone (Ok _) = refl
alone (Err why) = refl

module _ (d : Declarations) (result : Ty) where
  abbrev behind : List Local → OrRefused (Unit {0})
  behind ls = check (knows_traits d result) kind.UnknownName >> others_fit d result ls

  from : (n count : ℕ) (ls : List Local) → locals_fit d result n count ls ≡ (parameters_fit d n (take count ls) >> behind (drop count ls))
  from n zero [] = refl
  from n zero (l ∷ ls) = refl
  from n (suc count) [] = alone (check (knows_traits d result) kind.UnknownName)
  from n (suc count) (l ∷ ls) =
      ap (λ r. parameter_fits d n l >> r) (from (n + 1) count ls) ∙ grouped (parameter_fits d n l) (parameters_fit d (n + 1) (take count ls)) (behind (drop count ls))

  pub locals_in_two : (count : ℕ) (ls : List Local) → locals_fit d result 1 count ls ≡ in_two d result (take count ls) (drop count ls)
  locals_in_two count ls = from 1 count ls
