use Rattle.std.proofs.Common.{◌≡◌, ◌∙◌, ℕ, ◌<◌, ◌++◌, IfSome, Some, length, refl, subst, take}
use Rattle.kani_mir.specs.Command.{cut, whole}
use Rattle.kani_mir.proofs.command.conclude.Goals as goal

pub returns-in-Ok-write_all-clause-concludes : goal.returns-in-Ok-write_all-clause-concludes
returns-in-Ok-write_all-clause-concludes g c = whole c.in-Ok.answer c.in-Ok.ensures.right c.status_of.ensures
    (subst (λ bytes. IfSome (g.K.Sink.written c.args.out.now) (λ w. g.K.Sink.written c.write_all.new.sink ≡ Some (w ++ bytes))) (c.as_slice.ensures.value ∙ c.in-Ok-text_of.ensures) c.in-Ok-write_all.ensures.whole)

pub returns-clause-concludes : goal.returns-clause-concludes
returns-clause-concludes g c = cut c.in-Ok.answer c.in-Ok.ensures.right refl c.in-Err-write_all.ensures.cause.failed
    (subst (λ bytes. IfSome (g.K.Sink.written c.args.out.now) (λ w. (n : ℕ) × (n < length bytes) × (g.K.Sink.written c.write_all.new.sink ≡ Some (w ++ take n bytes)))) (c.as_slice.ensures.value ∙ c.in-Ok-text_of.ensures) c.in-Err-write_all.ensures.prefix)
