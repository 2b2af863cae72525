use Rattle.std.proofs.Common.{ℕ, ap, ◌∙◌, ◌++◌, ◌∷◌, [], List, Vec, Global, Result, Ok, Err, OnErr, set}
use Rattle.std.proofs.Math.Seq.{map-set_same}
use Rattle.typed_program.proofs.ItemLaws.{lists_at, lists_set}
use Rattle.typed_program.proofs.files.Files.push.Goals as goal

on_err : {T E P : Type 0} (r : Result T E) → P → OnErr r P
on_err (Ok x) p = tt
on_err (Err e) p = p

pub returns-in_err-push-clause-err : goal.returns-in_err-push-clause-err
returns-in_err-push-clause-err c =
    let files = c.self.inside.files.items in
    on_err c.from_residual.result
    (map-set_same (λ (v : Vec ℕ Global). v.items) files c.args.at c.push.new.self c.index_mut.result.now (c.in_err-push.ensures.items ∙ ap (λ (v : Vec ℕ Global). v.items) c.index_mut.ensures.value) ∙ c.self.view_is)

pub returns-clause-ok : goal.returns-clause-ok
returns-clause-ok c =
    let files = c.self.inside.files.items in
    let old = lists_at files c.args.self.now c.args.at c.index_mut.result.now c.self.view_is c.requires c.index_mut.ensures.value in
    lists_set files c.args.self.now c.args.at c.push.new.self c.self.view_is
    ∙ ap (λ (s : List ℕ). set c.args.self.now c.args.at s) (c.in_ok-push.ensures.items ∙ ap (λ (s : List ℕ). s ++ c.args.number ∷ []) old)
