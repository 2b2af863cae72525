use Rattle.std.proofs.Common.{◌≡◌, List, [], ◌∷◌, ◌++◌, Bor, refl, ap, ◌∙◌}
use Rattle.mir_ir.specs.declared.types.Ty.{Ty}
use Rattle.program_types.specs.Inside.{types_now}
use Rattle.program_types.proofs.written.Written.push.Goals as goal

pushed : (rs : List (Bor Ty)) (r : Bor Ty) → types_now (rs ++ r ∷ []) ≡ types_now rs ++ r.now ∷ []
pushed [] r = refl
pushed (s ∷ rs) r = ap (λ ts. s.now ∷ ts) (pushed rs r)

pub returns : goal.returns
returns c = ap types_now c.in_ok-push.ensures.items ∙ pushed c.self.inside.types.items c.args.ty ∙ ap (λ ts. ts ++ c.args.ty.now ∷ []) c.self.view_is
