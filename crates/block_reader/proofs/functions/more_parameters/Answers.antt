use Rattle.std.proofs.Common.{◌≤◌, ◌∷◌, [], ◌++◌, refl, ap, sym, ◌∙◌, arith}
use Rattle.grammar_words.specs.Classes.{inside}
use Rattle.mir_grammar.specs.Lexemes.{class_of}
use Rattle.grammar_words.specs.Classes.{past}
use Rattle.mir_pieces.specs.Views.{read_view}
use Rattle.block_reader.specs.Signatures.{behind_first, parameter_at}
use Rattle.line_reader.proofs.Loops as loops
use Rattle.block_reader.proofs.Gathering as gathering
use Rattle.block_reader.proofs.functions.more_parameters.Goals as goal

pub loop-alloc-init : goal.loop-alloc-init
loop-alloc-init c = gathering.begin (behind_first c.args.first) (inside class_of (9 ∷ [])) (past class_of (9 ∷ []) (parameter_at c.args.turns c.args.depth)) c.args.turns c.args.tokens.now _ (c.in_ok-push.ensures.ok ∙ ap (λ l. l ++ c.args.first ∷ []) c.new-found.ensures)

pub returns-then-done-turns : goal.returns-then-done-turns
returns-then-done-turns c = gathering.spent (behind_first c.args.first) (inside class_of (9 ∷ [])) (past class_of (9 ∷ []) (parameter_at c.args.turns c.args.depth)) c.args.turns c.args.tokens.now c.loop-alloc.done c.loop-alloc.found c.loop-alloc.left.now c.starts.result _
    c.loop-alloc.invariant c.if-done-turns.true c.starts.ensures c.loop-alloc-test.true c.stop_before.ensures

pub returns-in-Err : goal.returns-in-Err
returns-in-Err c = gathering.fault (behind_first c.args.first) (inside class_of (9 ∷ [])) (past class_of (9 ∷ []) (parameter_at c.args.turns c.args.depth)) c.args.turns c.args.tokens.now c.loop-alloc.done c.loop-alloc.found c.loop-alloc.left.now c.starts.result _
    c.loop-alloc.invariant c.if-done-turns.false c.starts.ensures c.loop-alloc-test.true (ap read_view (sym c.in-Err.is) ∙ c.in_ok-read.ensures)

pub overflow_add-done : goal.overflow_add-done
overflow_add-done c = let o : c.loop-alloc.done ≤ c.args.turns = gathering.at_most (behind_first c.args.first) (inside class_of (9 ∷ [])) (past class_of (9 ∷ []) (parameter_at c.args.turns c.args.depth)) c.args.turns c.args.tokens.now c.loop-alloc.done c.loop-alloc.found c.loop-alloc.left.now c.loop-alloc.invariant in omega (arith, o, c.if-done-turns.false, c.ranges.turns.fits)

pub loop-alloc-smaller : goal.loop-alloc-smaller
loop-alloc-smaller c = let o : c.loop-alloc.done ≤ c.args.turns = gathering.at_most (behind_first c.args.first) (inside class_of (9 ∷ [])) (past class_of (9 ∷ []) (parameter_at c.args.turns c.args.depth)) c.args.turns c.args.tokens.now c.loop-alloc.done c.loop-alloc.found c.loop-alloc.left.now c.loop-alloc.invariant in loops.smaller c.args.turns c.loop-alloc.done o c.if-done-turns.false

pub loop-alloc-preserved : goal.loop-alloc-preserved
loop-alloc-preserved c = gathering.more (behind_first c.args.first) (inside class_of (9 ∷ [])) (past class_of (9 ∷ []) (parameter_at c.args.turns c.args.depth)) c.args.turns c.args.tokens.now c.loop-alloc.done c.loop-alloc.found c.push-in-loop-alloc.new.self c.loop-alloc.left.now c.in-Ok.read.1.now c.same-left.result.now c.in-Ok.read.0 c.starts.result
    c.loop-alloc.invariant c.if-done-turns.false c.starts.ensures c.loop-alloc-test.true (ap read_view (sym c.in-Ok.is) ∙ c.in_ok-read.ensures) (λ front e. c.in_ok-push-2.ensures.ok ∙ ap (λ l. l ++ c.in-Ok.read.0 ∷ []) e) c.same-left.ensures

pub returns : goal.returns
returns c = gathering.stopped (behind_first c.args.first) (inside class_of (9 ∷ [])) (past class_of (9 ∷ []) (parameter_at c.args.turns c.args.depth)) c.args.turns c.args.tokens.now c.loop-alloc.done c.loop-alloc.found c.loop-alloc.left.now c.starts.result c.loop-alloc.invariant c.starts.ensures c.loop-alloc-test.false
