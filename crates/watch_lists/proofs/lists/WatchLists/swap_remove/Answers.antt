use Rattle.std.proofs.Common.{◌-◌, ◌<◌, ap, ◌∙◌, List, length, set, take, arith}
use Rattle.watch_lists.specs.declared.lists.Watch.{Watch}
use Rattle.watch_lists.specs.Lists.{swap_removed}
use Rattle.watch_lists.proofs.ListLemmas.{items-set, items-at, read_any}
use Rattle.watch_lists.proofs.lists.WatchLists.swap_remove.Goals as goal

pub returns : goal.returns
returns c =
    let lists = c.self.inside.lists.items in
    let list = c.index_mut.result.now.items in
    let old = items-at lists c.args.self.now c.args.list c.index_mut.result.now c.self.view_is c.requires.list c.index_mut.ensures.value in
    let within : c.args.at < length list = omega (arith, ap length old, c.requires.at) in
    let last = read_any list (length list - 1) c.swap_remove.result (record { clause = 0; blocker = 0 }) (omega arith) in
    items-set lists c.args.self.now c.args.list c.swap_remove.new.self c.self.view_is
    ∙ ap (λ (s : List Watch). set c.args.self.now c.args.list s) (c.swap_remove.ensures.items ∙ ap (λ (w : Watch). take (length list - 1) (set list c.args.at w)) last ∙ ap (λ (s : List Watch). swap_removed s c.args.at) old)
