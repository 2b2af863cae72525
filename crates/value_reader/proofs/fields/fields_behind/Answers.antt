use Rattle.std.proofs.Common.{◌∷◌, [], ◌++◌, sym, ◌∙◌, ap}
use Rattle.grammar_words.specs.Classes.{inside, past}
use Rattle.mir_grammar.specs.Lexemes.{class_of}
use Rattle.mir_grammar.specs.Values.{field_at}
use Rattle.mir_pieces.specs.Views.{read_view}
use Rattle.value_pieces.proofs.Going.{onward_more, onward_end, onward_fault, onward_spent}
use Rattle.value_reader.specs.Levels.{places, types}
use Rattle.value_reader.proofs.Listing.{onward_first, list_more, list_end}
use Rattle.value_reader.proofs.fields.fields_behind.Goals as goal

pub loop-alloc-init : goal.loop-alloc-init
loop-alloc-init c = onward_first (inside class_of (9 ∷ [])) (past class_of (9 ∷ []) (field_at c.args.turns (types c.args.turns c.args.depth) (places c.args.turns c.args.depth))) c.args.turns c.args.tokens.now c.args.first _ _ c.in_ok-push.ensures.items c.new-fields.ensures.items

pub returns-then-done-turns : goal.returns-then-done-turns
returns-then-done-turns c = onward_spent _ c.loop-alloc.invariant c.if-done-turns.true (sym c.starts.ensures ∙ c.loop-alloc-test.true) c.stop_before.ensures

pub returns-in-Err : goal.returns-in-Err
returns-in-Err c = onward_fault _ c.loop-alloc.invariant c.if-done-turns.false (sym c.starts.ensures ∙ c.loop-alloc-test.true) (ap read_view (sym c.in-Err.is) ∙ c.in_ok-field.ensures)

pub loop-alloc-preserved : goal.loop-alloc-preserved
loop-alloc-preserved c = rw c.same-left.ensures (onward_more (λ more. c.push-in-Ok.new.self.items ++ more) c.in-Ok.rest.now c.in-Ok.field c.loop-alloc.invariant c.if-done-turns.false (sym c.starts.ensures ∙ c.loop-alloc-test.true)
    (ap read_view (sym c.in-Ok.is) ∙ c.in_ok-field.ensures) (list_more _ _ _ c.in_ok-push-in-Ok.ensures.items))

pub returns : goal.returns
returns c = onward_end _ c.loop-alloc.invariant (sym c.starts.ensures ∙ c.loop-alloc-test.false) (list_end _ _ c.from_vec.ensures)
