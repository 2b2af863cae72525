use Rattle.std.proofs.Common.{◌∷◌, [], sym, ◌∙◌, ap}
use Rattle.mir_grammar.specs.Lexemes.{class_of}
use Rattle.mir_grammar.specs.Values.{marks, marked_at}
use Rattle.mir_pieces.specs.Views.{read_view}
use Rattle.value_reader.specs.Levels.{places, types}
use Rattle.value_reader.specs.Trailing.{led}
use Rattle.value_reader.proofs.Trails.{trailing_first, trailing_more, trailing_last, trailing_end, trailing_fault, trailing_spent, led_more, led_end}
use Rattle.value_reader.proofs.tuples.marked_behind.Goals as goal

pub loop-alloc-init : goal.loop-alloc-init
loop-alloc-init c = trailing_first class_of marks (9 ∷ []) (marked_at c.args.turns (types c.args.turns c.args.depth) (places c.args.turns c.args.depth)) c.args.turns c.args.tokens.now c.args.first _ _ c.in_ok-push.ensures.items c.new-operands.ensures.items

pub returns-then-done-turns : goal.returns-then-done-turns
returns-then-done-turns c = trailing_spent _ c.loop-alloc.invariant c.if-done-turns.true (sym c.starts.ensures ∙ c.loop-alloc-test.true) c.stop_before.ensures

pub returns-in-Err : goal.returns-in-Err
returns-in-Err c = trailing_fault _ c.loop-alloc.invariant c.if-done-turns.false (sym c.starts.ensures ∙ c.loop-alloc-test.true) (ap read_view (sym c.in-Err.is) ∙ c.in_ok-next.ensures)

pub loop-alloc-preserved : goal.loop-alloc-preserved
loop-alloc-preserved c = rw c.same-left.ensures (trailing_more (led c.push-in-Some.new.self.items) c.in-Ok.rest.now c.in-Some.operand c.loop-alloc.invariant c.if-done-turns.false (sym c.starts.ensures ∙ c.loop-alloc-test.true)
    (rw c.in-Some.is at (ap read_view (sym c.in-Ok.is) ∙ c.in_ok-next.ensures)) (λ v. led_more _ _ _ v c.in_ok-push-in-Some.ensures.items))

pub returns-in-None : goal.returns-in-None
returns-in-None c = trailing_last c.in-Ok.rest.now _ c.loop-alloc.invariant c.if-done-turns.false (sym c.starts.ensures ∙ c.loop-alloc-test.true)
    (rw c.in-None.is at (ap read_view (sym c.in-Ok.is) ∙ c.in_ok-next.ensures)) (led_end _ _ _ c.from_vec.ensures)

pub returns : goal.returns
returns c = trailing_end _ c.loop-alloc.invariant (sym c.starts.ensures ∙ c.loop-alloc-test.false) (led_end _ _ _ c.from_vec-2.ensures)
