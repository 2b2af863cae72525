use Rattle.std.proofs.Common.{ap, ◌∙◌, List, set}
use Rattle.std.specs.Vec.{with_item}
use Rattle.watch_lists.specs.declared.lists.Watch.{Watch}
use Rattle.watch_lists.proofs.ListLemmas.{items-set, items-at}
use Rattle.watch_lists.proofs.lists.WatchLists.set.Goals as goal

pub returns : goal.returns
returns c =
    let lists = c.self.inside.lists.items in
    let old = items-at lists c.args.self.now c.args.list c.index_mut.result.now c.self.view_is c.requires.list c.index_mut.ensures.value in
    items-set lists c.args.self.now c.args.list (with_item c.index_mut.result.now c.args.at c.args.watch) c.self.view_is
    ∙ ap (λ (s : List Watch). set c.args.self.now c.args.list (set s c.args.at c.args.watch)) old
