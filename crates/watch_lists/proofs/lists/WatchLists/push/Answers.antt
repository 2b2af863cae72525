use Rattle.std.proofs.Common.{ap, ◌∙◌, ◌++◌, ◌∷◌, [], List, Vec, Global, Result, Ok, Err, OnErr, set}
use Rattle.std.proofs.Math.Seq.{map-set_same}
use Rattle.watch_lists.specs.declared.lists.Watch.{Watch}
use Rattle.watch_lists.proofs.ListLemmas.{items-set, items-at}
use Rattle.watch_lists.proofs.lists.WatchLists.push.Goals as goal

on_err : {T E P : Type 0} (r : Result T E) → P → OnErr r P
on_err (Ok x) p = tt
on_err (Err e) p = p

pub returns-in_err-push-clause-err : goal.returns-in_err-push-clause-err
returns-in_err-push-clause-err c =
    let lists = c.self.inside.lists.items in
    on_err c.from_residual.result
    (map-set_same (λ (v : Vec Watch Global). v.items) lists c.args.list c.push.new.self c.index_mut.result.now (c.in_err-push.ensures.items ∙ ap (λ (v : Vec Watch Global). v.items) c.index_mut.ensures.value) ∙ c.self.view_is)

pub returns-clause-ok : goal.returns-clause-ok
returns-clause-ok c =
    let lists = c.self.inside.lists.items in
    let old = items-at lists c.args.self.now c.args.list c.index_mut.result.now c.self.view_is c.requires c.index_mut.ensures.value in
    items-set lists c.args.self.now c.args.list c.push.new.self c.self.view_is
    ∙ ap (λ (s : List Watch). set c.args.self.now c.args.list s) (c.in_ok-push.ensures.items ∙ ap (λ (s : List Watch). s ++ c.args.watch ∷ []) old)
