use Rattle.std.proofs.Common.{◌≤◌, ◌∷◌, [], ◌++◌, refl, ap, sym, ◌∙◌, arith}
use Rattle.grammar_words.specs.Classes.{inside}
use Rattle.mir_grammar.specs.Lexemes.{class_of}
use Rattle.grammar_words.specs.Classes.{tok}
use Rattle.block_reader.specs.Scopes.{no_value, passed_over}
use Rattle.line_reader.proofs.Loops as loops
use Rattle.block_reader.proofs.Gathering as gathering
use Rattle.block_reader.proofs.items.passed_over.Goals as goal

pub loop-left-init : goal.loop-left-init
loop-left-init c = gathering.begin no_value (inside class_of c.args.set.now) (tok class_of c.args.set.now) c.args.turns c.args.tokens.now tt refl

pub returns-then-done-turns : goal.returns-then-done-turns
unfolding passed_over
returns-then-done-turns c = gathering.spent no_value (inside class_of c.args.set.now) (tok class_of c.args.set.now) c.args.turns c.args.tokens.now c.loop-left.done tt c.loop-left.left.now c.starts.result _
    c.loop-left.invariant c.if-done-turns.true c.starts.ensures c.loop-left-test.true c.stop_before.ensures

pub returns-in-Err : goal.returns-in-Err
unfolding passed_over
returns-in-Err c = gathering.fault no_value (inside class_of c.args.set.now) (tok class_of c.args.set.now) c.args.turns c.args.tokens.now c.loop-left.done tt c.loop-left.left.now c.starts.result _
    c.loop-left.invariant c.if-done-turns.false c.starts.ensures c.loop-left-test.true c.in-Err.ensures

pub overflow_add-done : goal.overflow_add-done
overflow_add-done c = let o : c.loop-left.done ≤ c.args.turns = gathering.at_most no_value (inside class_of c.args.set.now) (tok class_of c.args.set.now) c.args.turns c.args.tokens.now c.loop-left.done tt c.loop-left.left.now c.loop-left.invariant in omega (arith, o, c.if-done-turns.false, c.ranges.turns.fits)

pub loop-left-smaller : goal.loop-left-smaller
loop-left-smaller c = let o : c.loop-left.done ≤ c.args.turns = gathering.at_most no_value (inside class_of c.args.set.now) (tok class_of c.args.set.now) c.args.turns c.args.tokens.now c.loop-left.done tt c.loop-left.left.now c.loop-left.invariant in loops.smaller c.args.turns c.loop-left.done o c.if-done-turns.false

pub loop-left-preserved : goal.loop-left-preserved
loop-left-preserved c = gathering.more no_value (inside class_of c.args.set.now) (tok class_of c.args.set.now) c.args.turns c.args.tokens.now c.loop-left.done tt tt c.loop-left.left.now c.in-Ok.read.1.now c.same-left.result.now c.in-Ok.read.0.now c.starts.result
    c.loop-left.invariant c.if-done-turns.false c.starts.ensures c.loop-left-test.true c.in-Ok.ensures (λ front e. refl) c.same-left.ensures

pub returns : goal.returns
unfolding passed_over
returns c = gathering.stopped no_value (inside class_of c.args.set.now) (tok class_of c.args.set.now) c.args.turns c.args.tokens.now c.loop-left.done tt c.loop-left.left.now c.starts.result c.loop-left.invariant c.starts.ensures c.loop-left-test.false
