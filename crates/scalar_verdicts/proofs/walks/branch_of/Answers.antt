use Rattle.std.proofs.Common.{◌∙◌, arith}
use Rattle.scalar_verdicts.proofs.WalkLaws.{branch_made, walk_room}
use Rattle.scalar_verdicts.proofs.walks.branch_of.Goals as goal

pub overflow_add-result : goal.overflow_add-result
overflow_add-result c = let room = walk_room _ _ _ _ c.requires.form c.requires.walk in omega (arith, room)

pub returns : goal.returns
returns c = branch_made c.args.function.now c.args.walk.now c.args.kind c.args.destination.0 c.args.next c.args.word c.in_ok-values.values.items c.store.new.values c.in_ok-numbers.numbers.items c.put.new.numbers
    c.requires.form c.requires.walk c.requires.chooses c.requires.word (c.in_ok-values.ensures.items ∙ c.as_slice.ensures.value) c.store.ensures (c.in_ok-numbers.ensures.items ∙ c.as_slice-2.ensures.value) c.in_ok-put.ensures
