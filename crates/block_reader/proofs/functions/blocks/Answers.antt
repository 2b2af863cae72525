use Rattle.std.proofs.Common.{◌∷◌, [], ◌≤◌, Ok, ap, sym, ◌∙◌, arith}
use Rattle.grammar_words.specs.Classes.{inside}
use Rattle.mir_grammar.specs.Lexemes.{class_of}
use Rattle.mir_grammar.specs.Functions.{block_at}
use Rattle.mir_pieces.specs.Views.{read_view}
use Rattle.value_reader.specs.Levels.{places, types}
use Rattle.grammar_words.proofs.Turns.{so_far_begin}
use Rattle.line_reader.proofs.Loops as loops
use Rattle.block_reader.specs.Signatures.{blocks_part}
use Rattle.block_reader.proofs.functions.blocks.Goals as goal

pub loop-alloc-init : goal.loop-alloc-init
loop-alloc-init c = so_far_begin (inside class_of (32 ∷ [])) (block_at c.args.turns (types c.args.turns c.args.depth) (places c.args.turns c.args.depth)) c.args.turns c.args.tokens.now _ c.new-found.ensures.items

pub returns-then-done-turns : goal.returns-then-done-turns
unfolding blocks_part
returns-then-done-turns c = loops.spent (inside class_of (32 ∷ [])) (block_at c.args.turns (types c.args.turns c.args.depth) (places c.args.turns c.args.depth)) c.args.turns c.args.tokens.now c.loop-alloc.done c.loop-alloc.found.items c.loop-alloc.left.now c.starts.result _
    c.loop-alloc.invariant c.if-done-turns.true c.starts.ensures c.loop-alloc-test.true c.stop_before.ensures

pub returns-in-Err : goal.returns-in-Err
unfolding blocks_part
returns-in-Err c = loops.fault (inside class_of (32 ∷ [])) (block_at c.args.turns (types c.args.turns c.args.depth) (places c.args.turns c.args.depth)) c.args.turns c.args.tokens.now c.loop-alloc.done c.loop-alloc.found.items c.loop-alloc.left.now c.starts.result _
    c.loop-alloc.invariant c.if-done-turns.false c.starts.ensures c.loop-alloc-test.true (ap read_view (sym c.in-Err.is) ∙ c.in_ok-read.ensures)

pub overflow_add-done : goal.overflow_add-done
overflow_add-done c = let o : c.loop-alloc.done ≤ c.args.turns = c.loop-alloc.invariant.0 in omega (arith, o, c.if-done-turns.false, c.ranges.turns.fits)

pub loop-alloc-smaller : goal.loop-alloc-smaller
loop-alloc-smaller c = loops.smaller c.args.turns c.loop-alloc.done c.loop-alloc.invariant.0 c.if-done-turns.false

pub loop-alloc-preserved : goal.loop-alloc-preserved
loop-alloc-preserved c = loops.more (inside class_of (32 ∷ [])) (block_at c.args.turns (types c.args.turns c.args.depth) (places c.args.turns c.args.depth)) c.args.turns c.args.tokens.now c.loop-alloc.done c.loop-alloc.found.items c.push.new.self.items c.loop-alloc.left.now c.in-Ok.read.1.now c.same-left.result.now c.in-Ok.read.0 c.starts.result
    c.loop-alloc.invariant c.if-done-turns.false c.starts.ensures c.loop-alloc-test.true (ap read_view (sym c.in-Ok.is) ∙ c.in_ok-read.ensures) c.in_ok-push.ensures.items c.same-left.ensures

pub returns : goal.returns
unfolding blocks_part
returns c = ap (λ f. Ok (f, c.loop-alloc.left.now)) c.from_vec.ensures ∙ loops.stopped (inside class_of (32 ∷ [])) (block_at c.args.turns (types c.args.turns c.args.depth) (places c.args.turns c.args.depth)) c.args.turns c.args.tokens.now c.loop-alloc.done c.loop-alloc.found.items c.loop-alloc.left.now c.starts.result c.loop-alloc.invariant c.starts.ensures c.loop-alloc-test.false
