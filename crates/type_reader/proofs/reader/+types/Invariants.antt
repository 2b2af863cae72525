use Rattle.std.proofs.Common.{◌+◌, ◌*◌, ◌-◌, [], ◌∷◌}
use Rattle.grammar_words.specs.Classes.{inside}
use Rattle.mir_grammar.specs.Lexemes.{class_of}
use Rattle.mir_grammar.specs.Types.{type_at}
use Rattle.type_reader.specs.Parts.{next_argument, path_step}
use Rattle.type_reader.proofs.ItemLaws.{ItemsSoFar}
use Rattle.type_reader.proofs.Loops.{Onward}
use Rattle.type_reader.proofs.reader.+types.Given as goal

abbrev pub decreases-type_at : goal.decreases-type_at
decreases-type_at l = 16 * l.depth + 0

abbrev pub decreases-argument : goal.decreases-argument
decreases-argument l = 16 * l.depth + 1

abbrev pub decreases-more_arguments : goal.decreases-more_arguments
decreases-more_arguments l = 16 * l.depth + 2

abbrev pub decreases-argument_list : goal.decreases-argument_list
decreases-argument_list l = 16 * l.depth + 3

abbrev pub decreases-arguments : goal.decreases-arguments
decreases-arguments l = 16 * l.depth + 4

abbrev pub decreases-arguments_step : goal.decreases-arguments_step
decreases-arguments_step l = 16 * l.depth + 5

abbrev pub decreases-named_step : goal.decreases-named_step
decreases-named_step l = 16 * l.depth + 6

abbrev pub decreases-path_step : goal.decreases-path_step
decreases-path_step l = 16 * l.depth + 7

abbrev pub decreases-path_steps : goal.decreases-path_steps
decreases-path_steps l = 16 * l.depth + 8

abbrev pub decreases-keyed_steps : goal.decreases-keyed_steps
decreases-keyed_steps l = 16 * l.depth + 9

abbrev pub decreases-free_head : goal.decreases-free_head
decreases-free_head l = 16 * l.depth + 1

abbrev pub decreases-free_path : goal.decreases-free_path
decreases-free_path l = 16 * l.depth + 10

abbrev pub decreases-keyed_path : goal.decreases-keyed_path
decreases-keyed_path l = 16 * l.depth + 10

abbrev pub decreases-path_from : goal.decreases-path_from
decreases-path_from l = 16 * l.depth + 11

abbrev pub decreases-qualifier : goal.decreases-qualifier
decreases-qualifier l = 16 * l.depth + 11

abbrev pub decreases-qualified : goal.decreases-qualified
decreases-qualified l = 16 * l.depth + 12

abbrev pub decreases-tuple_items : goal.decreases-tuple_items
decreases-tuple_items l = 16 * l.depth + 1

abbrev pub decreases-tuple : goal.decreases-tuple
decreases-tuple l = 16 * l.depth + 2

abbrev pub decreases-wrapped : goal.decreases-wrapped
decreases-wrapped l = 16 * l.depth + 1

abbrev pub decreases-dyn_type : goal.decreases-dyn_type
decreases-dyn_type l = 16 * l.depth + 11

abbrev pub decreases-formed : goal.decreases-formed
decreases-formed l = 16 * l.depth + 12

abbrev pub decreases-any_type : goal.decreases-any_type
decreases-any_type l = 16 * l.depth + 13

abbrev pub decreases-body : goal.decreases-body
decreases-body l = 16 * l.depth + 14

abbrev pub decreases-more_arguments-loop-alloc : goal.decreases-more_arguments-loop-alloc
decreases-more_arguments-loop-alloc l = l.turns - l.done

abbrev pub decreases-path_steps-loop-alloc : goal.decreases-path_steps-loop-alloc
decreases-path_steps-loop-alloc l = l.turns - l.done

abbrev pub decreases-tuple_items-loop-alloc : goal.decreases-tuple_items-loop-alloc
decreases-tuple_items-loop-alloc l = l.turns - l.done

abbrev pub invariant-more_arguments-loop-alloc : goal.invariant-more_arguments-loop-alloc
invariant-more_arguments-loop-alloc l = Onward (inside class_of (9 ∷ [])) (next_argument (type_at l.turns l.depth)) l.turns (l.fn.first ∷ []) l.tokens l.done l.arguments l.rest

abbrev pub invariant-path_steps-loop-alloc : goal.invariant-path_steps-loop-alloc
invariant-path_steps-loop-alloc l = Onward (inside class_of (12 ∷ 7 ∷ [])) (path_step l.turns (type_at l.turns l.depth)) l.turns l.fn.before l.tokens l.done l.steps l.rest

abbrev pub invariant-tuple_items-loop-alloc : goal.invariant-tuple_items-loop-alloc
invariant-tuple_items-loop-alloc l = ItemsSoFar l.turns (type_at l.turns l.depth) l.tokens l.done l.items.items l.rest
