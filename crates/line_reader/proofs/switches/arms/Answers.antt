use Rattle.std.proofs.Common.{◌∷◌, [], ◌≤◌, Ok, ap, ◌∙◌, arith}
use Rattle.grammar_words.specs.Classes.{inside}
use Rattle.mir_grammar.specs.Lexemes.{class_of}
use Rattle.mir_grammar.specs.Blocks.{arm_at}
use Rattle.grammar_words.proofs.Turns.{so_far_begin}
use Rattle.line_reader.proofs.Loops as loops
use Rattle.line_reader.proofs.switches.arms.Goals as goal

pub loop-left-init : goal.loop-left-init
loop-left-init c = so_far_begin (inside class_of (35 ∷ [])) arm_at c.args.turns c.args.tokens.now _ c.new-found.ensures.items

pub returns-then-done-turns : goal.returns-then-done-turns
returns-then-done-turns c = loops.spent (inside class_of (35 ∷ [])) arm_at c.args.turns c.args.tokens.now c.loop-left.done c.loop-left.found.items c.loop-left.left.now c.starts.result _
    c.loop-left.invariant c.if-done-turns.true c.starts.ensures c.loop-left-test.true c.stop_before.ensures

pub returns-in-Err : goal.returns-in-Err
returns-in-Err c = loops.fault (inside class_of (35 ∷ [])) arm_at c.args.turns c.args.tokens.now c.loop-left.done c.loop-left.found.items c.loop-left.left.now c.starts.result _
    c.loop-left.invariant c.if-done-turns.false c.starts.ensures c.loop-left-test.true c.in-Err.ensures

pub overflow_add-done : goal.overflow_add-done
overflow_add-done c = let o : c.loop-left.done ≤ c.args.turns = c.loop-left.invariant.0 in omega (arith, o, c.if-done-turns.false, c.ranges.turns.fits)

pub loop-left-smaller : goal.loop-left-smaller
loop-left-smaller c = loops.smaller c.args.turns c.loop-left.done c.loop-left.invariant.0 c.if-done-turns.false

pub loop-left-preserved : goal.loop-left-preserved
loop-left-preserved c = loops.more (inside class_of (35 ∷ [])) arm_at c.args.turns c.args.tokens.now c.loop-left.done c.loop-left.found.items c.push.new.self.items c.loop-left.left.now c.in-Ok.read.1.now c.same-left.result.now c.in-Ok.read.0 c.starts.result
    c.loop-left.invariant c.if-done-turns.false c.starts.ensures c.loop-left-test.true c.in-Ok.ensures c.in_ok-push.ensures.items c.same-left.ensures

pub returns : goal.returns
returns c = ap (λ f. Ok (f, c.loop-left.left.now)) c.from_vec.ensures ∙ loops.stopped (inside class_of (35 ∷ [])) arm_at c.args.turns c.args.tokens.now c.loop-left.done c.loop-left.found.items c.loop-left.left.now c.starts.result c.loop-left.invariant c.starts.ensures c.loop-left-test.false
