use Rattle.std.proofs.Common.{Ok, ap, sym, ◌∙◌, arith}
use Rattle.mir_grammar.specs.Blocks.{cleanup_line_at}
use Rattle.value_reader.specs.Levels.{places, types}
use Rattle.line_reader.specs.Views.{next_of, next_view}
use Rattle.block_reader.specs.Bodies.{cleanup_lines_part}
use Rattle.block_reader.proofs.LineTurns as turns
use Rattle.block_reader.proofs.blocks.cleanup_lines.Goals as goal

pub loop-done-init : goal.loop-done-init
loop-done-init c = turns.begin (cleanup_line_at c.args.turns (types c.args.turns c.args.depth) (places c.args.turns c.args.depth)) c.args.turns c.args.tokens.now _ c.new-found.ensures.items

pub returns-in-Err : goal.returns-in-Err
unfolding cleanup_lines_part
returns-in-Err c = turns.fault (cleanup_line_at c.args.turns (types c.args.turns c.args.depth) (places c.args.turns c.args.depth)) c.args.turns c.args.tokens.now c.loop-done.done c.loop-done.found.items c.loop-done.left.now _ c.loop-done.invariant c.loop-done-test.true (ap next_view (sym c.in-Err.is) ∙ c.in_ok-read.ensures)

pub returns-in-Last : goal.returns-in-Last
unfolding cleanup_lines_part
returns-in-Last c =
    ap (λ f. Ok ((f, c.in-Last.ending), c.in-Ok.read.1.now)) c.from_vec.ensures
    ∙ turns.last (cleanup_line_at c.args.turns (types c.args.turns c.args.depth) (places c.args.turns c.args.depth)) c.args.turns c.args.tokens.now c.loop-done.done c.loop-done.found.items c.loop-done.left.now c.in-Ok.read.1.now c.in-Last.ending c.loop-done.invariant c.loop-done-test.true
    (ap (λ n. Ok (next_of n, c.in-Ok.read.1.now)) (sym c.in-Last.is) ∙ (ap next_view (sym c.in-Ok.is) ∙ c.in_ok-read.ensures))

pub loop-done-preserved : goal.loop-done-preserved
loop-done-preserved c = turns.more (cleanup_line_at c.args.turns (types c.args.turns c.args.depth) (places c.args.turns c.args.depth)) c.args.turns c.args.tokens.now c.loop-done.done c.loop-done.found.items c.push.new.self.items c.loop-done.left.now c.in-Ok.read.1.now c.same-left.result.now c.in-More.kept
    c.loop-done.invariant c.loop-done-test.true (ap (λ n. Ok (next_of n, c.in-Ok.read.1.now)) (sym c.in-More.is) ∙ (ap next_view (sym c.in-Ok.is) ∙ c.in_ok-read.ensures)) c.in_ok-push.ensures.items c.same-left.ensures

pub returns : goal.returns
unfolding cleanup_lines_part
returns c = turns.spent (cleanup_line_at c.args.turns (types c.args.turns c.args.depth) (places c.args.turns c.args.depth)) c.args.turns c.args.tokens.now c.loop-done.done c.loop-done.found.items c.loop-done.left.now _ c.loop-done.invariant c.loop-done-test.false c.stop_before.ensures
