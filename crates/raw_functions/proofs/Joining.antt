-- What is made part by part.
use Rattle.std.proofs.Common.{◌≡◌, List, [], ◌∷◌, ◌++◌, Result, Ok, Err, IfOk, IsOkAnd, ◌∙◌, ap}
use Rattle.std.proofs.lemmas.List.{append_assoc}
use Rattle.mir_ir.specs.declared.types.Ty.{Ty}
use Rattle.mir_ir.specs.declared.tree.Local.{Local}
use Rattle.mir_grammar.specs.declared.trees.Declared.{Declared}
use Rattle.raw_functions.specs.Meant.{locals_of, result_type, result_local, others_of, by_number, all_locals}
use Rattle.raw_functions.specs.Steps.{local_zero}

-- parameters, `_0` and the others
pub locals_joined : (ps : List Declared) (written : Ty) (ds : List Declared) (parameters first others locals : List Local) (ty : Ty) → parameters ≡ locals_of ps → ty ≡ result_type written ds
    → others ≡ by_number (others_of ds) → first ≡ parameters ++ local_zero ty ∷ [] → locals ≡ first ++ others → locals ≡ all_locals ps written ds
unfolding all_locals
locals_joined ps written ds parameters first others locals ty p t o f e =
    e ∙ ap (λ l. l ++ others) f ∙ append_assoc parameters (local_zero ty ∷ []) others ∙ ap (λ l. l ++ (local_zero ty ∷ others)) p
    ∙ ap (λ x. locals_of ps ++ (local_zero x ∷ others)) t ∙ ap (λ l. locals_of ps ++ (result_local written ds ∷ l)) o

-- what was made and is added
pub made_of : {A E : Type 0} (made : Result A E) (x : A) (old new : List A) → IfOk made (λ one. one ≡ x) → IsOkAnd made (λ one. new ≡ old ++ one ∷ []) → new ≡ old ++ x ∷ []
made_of (Ok one) x old new e p = p ∙ ap (λ y. old ++ y ∷ []) e
made_of (Err none) x old new e p = absurd p
