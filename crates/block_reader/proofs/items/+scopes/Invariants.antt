use Rattle.std.proofs.Common.{◌-◌, ◌+◌, ◌*◌, ◌∷◌, []}
use Rattle.grammar_words.specs.Classes.{inside}
use Rattle.mir_grammar.specs.Lexemes.{class_of}
use Rattle.mir_grammar.specs.Types.{AnyType}
use Rattle.mir_grammar.specs.Functions.{item_words, item_at, to_items}
use Rattle.mir_pieces.specs.Views.{read_view}
use Rattle.value_reader.specs.Levels.{types}
use Rattle.block_reader.specs.Scopes.{scopes, items_part}
use Rattle.block_reader.proofs.Gathering.{Gathered}
use Rattle.block_reader.proofs.items.+scopes.Given as goal

abbrev pub decreases-scope : goal.decreases-scope
decreases-scope l = 8 * l.nest + 0

abbrev pub decreases-item : goal.decreases-item
decreases-item l = 8 * l.nest + 1

abbrev pub decreases-all_items : goal.decreases-all_items
decreases-all_items l = 8 * l.nest + 2

abbrev pub decreases-braced_items : goal.decreases-braced_items
decreases-braced_items l = 8 * l.nest + 3

abbrev pub decreases-scope_inside : goal.decreases-scope_inside
decreases-scope_inside l = 8 * l.nest + 4

abbrev pub invariant-all_items-loop-alloc : goal.invariant-all_items-loop-alloc
invariant-all_items-loop-alloc l = Gathered (to_items) (inside class_of item_words) (item_at l.fn.turns (types l.fn.turns l.fn.depth AnyType) (scopes l.fn.turns l.fn.depth l.fn.nest)) l.fn.turns l.fn.tokens l.done l.found l.left

abbrev pub decreases-all_items-loop-alloc : goal.decreases-all_items-loop-alloc
decreases-all_items-loop-alloc l = l.fn.turns - l.done
