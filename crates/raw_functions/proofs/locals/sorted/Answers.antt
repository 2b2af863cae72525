use Rattle.std.proofs.Common.{rules}
use Rattle.std.proofs.lemmas.List.Sorted.{IsNonDecreasingBy-from_sort_by_key, answers_always}
use Rattle.raw_functions.proofs.Sorting.{key, sorted_is}
use Rattle.raw_functions.proofs.locals.sorted.Goals as goal

pub returns : goal.returns
returns c = sorted_is c.args.locals.items c.sort_by_key.new.self.items (IsNonDecreasingBy-from_sort_by_key key _ c.in_ok-sort_by_key.ensures.sorted (λ a r q k. search rules)) (c.in_ok-sort_by_key.ensures.stable key (answers_always _ _ _ (λ f a r q k. search rules)))
