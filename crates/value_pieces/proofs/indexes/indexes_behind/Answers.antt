use Rattle.std.proofs.Common.{◌∷◌, [], refl, sym, ◌∙◌, ap}
use Rattle.grammar_words.specs.Classes.{inside}
use Rattle.mir_grammar.specs.Lexemes.{class_of}
use Rattle.mir_grammar.specs.Places.{index_at, with_steps}
use Rattle.mir_pieces.specs.Views.{read_view}
use Rattle.value_pieces.proofs.Going.{onward_begin, onward_more, onward_end, onward_fault, onward_spent}
use Rattle.value_pieces.proofs.indexes.indexes_behind.Goals as goal

pub loop-left-init : goal.loop-left-init
loop-left-init c = onward_begin (inside class_of (3 ∷ [])) index_at c.args.turns (with_steps c.args.placed) c.args.tokens.now

pub returns-then-done-turns : goal.returns-then-done-turns
returns-then-done-turns c = onward_spent _ c.loop-left.invariant c.if-done-turns.true (sym c.starts.ensures ∙ c.loop-left-test.true) c.stop_before.ensures

pub returns-in-Err : goal.returns-in-Err
returns-in-Err c = onward_fault _ c.loop-left.invariant c.if-done-turns.false (sym c.starts.ensures ∙ c.loop-left-test.true) (ap read_view (sym c.in-Err.is) ∙ c.in_ok-stepped.ensures)

pub loop-left-preserved : goal.loop-left-preserved
loop-left-preserved c = rw c.same-left.ensures (onward_more (with_steps c.in_ok-placed-in-Ok.placed) c.in-Ok.rest.now c.in-Ok.stepped c.loop-left.invariant c.if-done-turns.false (sym c.starts.ensures ∙ c.loop-left-test.true)
    (ap read_view (sym c.in-Ok.is) ∙ c.in_ok-stepped.ensures) (λ as_. ap (λ q. with_steps q as_) (sym c.in_ok-placed-in-Ok.ensures)))

pub returns : goal.returns
returns c = onward_end _ c.loop-left.invariant (sym c.starts.ensures ∙ c.loop-left-test.false) refl
