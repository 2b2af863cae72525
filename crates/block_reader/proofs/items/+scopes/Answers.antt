use Rattle.std.proofs.Common.{◌≡◌, ◌≤◌, List, ◌∷◌, [], ◌++◌, refl, ap, sym, ◌∙◌, arith}
use Rattle.grammar_words.specs.Classes.{inside}
use Rattle.mir_grammar.specs.Lexemes.{class_of}
use Rattle.mir_grammar.specs.declared.trees.Declared.{Declared}
use Rattle.mir_grammar.specs.Types.{AnyType}
use Rattle.mir_grammar.specs.Functions.{item_words, item_at, to_items}
use Rattle.mir_pieces.specs.Views.{read_view}
use Rattle.value_reader.specs.Levels.{types}
use Rattle.block_reader.specs.Scopes.{scopes, items_part}
use Rattle.line_reader.proofs.Loops as loops
use Rattle.block_reader.proofs.Gathering as gathering
use Rattle.block_reader.proofs.ScopeLaws.{scope_wrong, scope_deep, scope_found, items_more}
use Rattle.block_reader.proofs.items.+scopes.Goals as goal

no_items_yet : ◌≡◌ {A = List Declared} [] (to_items [])
unfolding to_items
no_items_yet = refl

pub scope-returns-then-not-starts : goal.scope-returns-then-not-starts
scope-returns-then-not-starts t c = scope_wrong c.args.turns c.args.depth c.args.nest c.args.tokens.now _ (sym c.if-not-starts.ensures) c.stop_before.ensures

pub scope-returns-then-nest-eq0 : goal.scope-returns-then-nest-eq0
scope-returns-then-nest-eq0 t c = scope_deep c.args.turns c.args.depth c.args.nest c.args.tokens.now _ (sym c.if-not-starts.ensures) c.if-nest-eq0.true c.stop_before-then-nest-eq0.ensures

pub scope-returns : goal.scope-returns
scope-returns t c = c.in_ok-read.ensures ∙ scope_found c.args.turns c.args.depth c.args.nest c.args.tokens.now (sym c.if-not-starts.ensures) c.if-nest-eq0.false

pub all_items-loop-alloc-init : goal.all_items-loop-alloc-init
all_items-loop-alloc-init t c = gathering.begin (to_items) (inside class_of item_words) (item_at c.args.turns (types c.args.turns c.args.depth AnyType) (scopes c.args.turns c.args.depth c.args.nest)) c.args.turns c.args.tokens.now _ (c.new-found.ensures ∙ no_items_yet)

pub all_items-returns-then-done-turns : goal.all_items-returns-then-done-turns
unfolding items_part
all_items-returns-then-done-turns t c = gathering.spent (to_items) (inside class_of item_words) (item_at c.args.turns (types c.args.turns c.args.depth AnyType) (scopes c.args.turns c.args.depth c.args.nest)) c.args.turns c.args.tokens.now c.loop-alloc.done c.loop-alloc.found c.loop-alloc.left.now c.starts.result _
    c.loop-alloc.invariant c.if-done-turns.true c.starts.ensures c.loop-alloc-test.true c.stop_before.ensures

pub all_items-returns-in-Err : goal.all_items-returns-in-Err
unfolding items_part
all_items-returns-in-Err t c = gathering.fault (to_items) (inside class_of item_words) (item_at c.args.turns (types c.args.turns c.args.depth AnyType) (scopes c.args.turns c.args.depth c.args.nest)) c.args.turns c.args.tokens.now c.loop-alloc.done c.loop-alloc.found c.loop-alloc.left.now c.starts.result _
    c.loop-alloc.invariant c.if-done-turns.false c.starts.ensures c.loop-alloc-test.true (ap read_view (sym c.in-Err.is) ∙ c.in_ok-read.ensures)

pub all_items-overflow_add-done : goal.all_items-overflow_add-done
all_items-overflow_add-done t c = let o : c.loop-alloc.done ≤ c.args.turns = gathering.at_most (to_items) (inside class_of item_words) (item_at c.args.turns (types c.args.turns c.args.depth AnyType) (scopes c.args.turns c.args.depth c.args.nest)) c.args.turns c.args.tokens.now c.loop-alloc.done c.loop-alloc.found c.loop-alloc.left.now c.loop-alloc.invariant in omega (arith, o, c.if-done-turns.false, c.ranges.turns.fits)

pub all_items-loop-alloc-smaller : goal.all_items-loop-alloc-smaller
all_items-loop-alloc-smaller t c = let o : c.loop-alloc.done ≤ c.args.turns = gathering.at_most (to_items) (inside class_of item_words) (item_at c.args.turns (types c.args.turns c.args.depth AnyType) (scopes c.args.turns c.args.depth c.args.nest)) c.args.turns c.args.tokens.now c.loop-alloc.done c.loop-alloc.found c.loop-alloc.left.now c.loop-alloc.invariant in loops.smaller c.args.turns c.loop-alloc.done o c.if-done-turns.false

pub all_items-loop-alloc-preserved : goal.all_items-loop-alloc-preserved
all_items-loop-alloc-preserved t c = gathering.more (to_items) (inside class_of item_words) (item_at c.args.turns (types c.args.turns c.args.depth AnyType) (scopes c.args.turns c.args.depth c.args.nest)) c.args.turns c.args.tokens.now c.loop-alloc.done c.loop-alloc.found c.append.new.self c.loop-alloc.left.now c.in-Ok.read.1.now c.same-left.result.now c.in-Ok.read.0 c.starts.result
    c.loop-alloc.invariant c.if-done-turns.false c.starts.ensures c.loop-alloc-test.true (ap read_view (sym c.in-Ok.is) ∙ c.in_ok-read.ensures) (λ front e. items_more front c.loop-alloc.found c.append.new.self c.in-Ok.read.0 e c.in_ok-append.ensures) c.same-left.ensures

pub all_items-returns : goal.all_items-returns
unfolding items_part
all_items-returns t c = gathering.stopped (to_items) (inside class_of item_words) (item_at c.args.turns (types c.args.turns c.args.depth AnyType) (scopes c.args.turns c.args.depth c.args.nest)) c.args.turns c.args.tokens.now c.loop-alloc.done c.loop-alloc.found c.loop-alloc.left.now c.starts.result c.loop-alloc.invariant c.starts.ensures c.loop-alloc-test.false
