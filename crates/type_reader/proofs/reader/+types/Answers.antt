use Rattle.std.proofs.Common.{◌∙◌, sym, ap, [], ◌∷◌}
use Rattle.grammar_words.specs.Reading.{Got}
use Rattle.grammar_words.specs.Coded.{counted, behind}
use Rattle.grammar_words.proofs.Turns.{counted_ok}
use Rattle.type_reader.proofs.Chains.{read_ok, read_err, token_ok, token_err, made_got, made_fault, stops, gives}
use Rattle.type_reader.proofs.ItemLaws.{items_begin, items_fault, items_last, items_spent, items_more, items_end}
use Rattle.type_reader.proofs.Loops.{onward_more, onward_stop, onward_fault, onward_spent}
use Rattle.type_reader.proofs.PartLaws.{type_found, type_deep, type_wrong, steps_are, arguments_are, next_is, body_any, body_not_mut, body_behind_mut, body_qualified, dyn_got, keyed_got, keyed_fault, qualified_got, qualifier_got, qualifier_fault}
use Rattle.type_reader.proofs.reader.+types.Goals as goal

pub type_at-returns-then-not-starts : goal.type_at-returns-then-not-starts
type_at-returns-then-not-starts t c = stops _ _ _ _ c.stop_before.ensures (type_wrong _ _ _ _ _ c.firsts.ensures (sym c.if-not-starts.ensures))

pub type_at-returns-then-depth-eq0 : goal.type_at-returns-then-depth-eq0
type_at-returns-then-depth-eq0 t c = stops _ _ _ _ c.stop_before-then-depth-eq0.ensures (type_deep _ _ _ _ _ c.firsts.ensures (sym c.if-not-starts.ensures) c.if-depth-eq0.true)

pub type_at-returns : goal.type_at-returns
type_at-returns t c = c.in_ok-read.ensures ∙ ap counted (type_found _ _ _ _ _ c.firsts.ensures (sym c.if-not-starts.ensures) c.if-depth-eq0.false)

pub body-returns-in_ok-read-in-AnyType : goal.body-returns-in_ok-read-in-AnyType
body-returns-in_ok-read-in-AnyType t c = c.in_ok-read-in-AnyType.ensures ∙ ap counted (body_any _ _ _ _ c.in-AnyType.is)

pub body-returns-in_ok-read-in-NotMut : goal.body-returns-in_ok-read-in-NotMut
body-returns-in_ok-read-in-NotMut t c = c.in_ok-read-in-NotMut.ensures ∙ ap counted (body_not_mut _ _ _ _ c.in-NotMut.is)

pub body-returns-in_ok-read-in-Qualified : goal.body-returns-in_ok-read-in-Qualified
body-returns-in_ok-read-in-Qualified t c = c.in_ok-read-in-Qualified.ensures ∙ ap counted (body_qualified _ _ _ _ c.in-Qualified.is)

pub body-returns-in-Err : goal.body-returns-in-Err
body-returns-in-Err t c = read_err _ _ _ _ c.in_ok-read-in-BehindMut.ensures c.in-Err.is (λ why rest e. body_behind_mut _ _ _ _ c.in-BehindMut.is ∙ made_fault _ _ _ _ _ e)

pub body-returns-in_ok-named-in-BehindMut : goal.body-returns-in_ok-named-in-BehindMut
body-returns-in_ok-named-in-BehindMut t c =
    gives _ _ _ (body_behind_mut _ _ _ _ c.in-BehindMut.is ∙ made_got _ _ _ _ _ (read_ok _ _ _ c.in_ok-read-in-BehindMut.ensures c.in-Ok.is) ∙ ap (λ n. Got n c.in-Ok.read.1.now) (sym c.in_ok-named-in-BehindMut.ensures))

pub dyn_type-returns : goal.dyn_type-returns
dyn_type-returns t c = c.in_ok-read-2.ensures ∙ ap counted (sym (dyn_got _ _ _ _ _ _ _ (counted_ok _ _ _ c.in-Ok.ensures) (read_ok _ _ _ c.in_ok-read.ensures c.in-Ok-2.is)))

pub keyed_path-returns-in-Err-2 : goal.keyed_path-returns-in-Err-2
keyed_path-returns-in-Err-2 t c = read_err _ _ _ _ c.in_ok-read.ensures c.in-Err-2.is (λ why rest e. keyed_fault _ _ _ _ _ _ _ _ (counted_ok _ _ _ c.in-Ok.ensures) e)

pub keyed_path-returns : goal.keyed_path-returns
keyed_path-returns t c = gives _ _ _ (keyed_got _ _ _ _ _ _ _ _ _ (counted_ok _ _ _ c.in-Ok.ensures) (read_ok _ _ _ c.in_ok-read.ensures c.in-Ok-2.is) c.in_ok-named.ensures)

pub qualified-returns : goal.qualified-returns
qualified-returns t c =
    gives _ _ _ (qualified_got _ _ _ _ _ _ _ _ _ _ (counted_ok _ _ _ c.in-Ok.ensures) (read_ok _ _ _ c.in_ok-read.ensures c.in-Ok-2.is) (read_ok _ _ _ c.in_ok-read-2.ensures c.in-Ok-3.is) c.in_ok-named.ensures)

pub path_steps-returns-then-done-turns : goal.path_steps-returns-then-done-turns
path_steps-returns-then-done-turns t c =
    stops _ _ _ _ c.stop_before.ensures (ap (behind c.args.before) (steps_are _ _ _) ∙ onward_spent _ _ _ _ _ _ _ _ c.loop-alloc.invariant c.if-done-turns.true (sym c.starts.ensures ∙ c.loop-alloc-test.true))

pub path_steps-returns-in-Err : goal.path_steps-returns-in-Err
path_steps-returns-in-Err t c =
    read_err _ _ _ _ c.in_ok-read.ensures c.in-Err.is (λ why rest e. ap (behind c.args.before) (steps_are _ _ _)
    ∙ onward_fault _ _ _ _ _ _ _ _ _ _ c.loop-alloc.invariant c.if-done-turns.false (sym c.starts.ensures ∙ c.loop-alloc-test.true) e)

pub path_steps-loop-alloc-preserved : goal.path_steps-loop-alloc-preserved
path_steps-loop-alloc-preserved t c =
    onward_more _ _ _ _ _ _ _ _ _ _ _ c.loop-alloc.invariant c.if-done-turns.false (sym c.starts.ensures ∙ c.loop-alloc-test.true)
    (read_ok _ _ _ c.in_ok-read.ensures c.in-Ok.is ∙ ap (Got c.in-Ok.read.0) (sym c.same-rest.ensures)) c.in_ok-push.ensures.ok

pub path_steps-returns : goal.path_steps-returns
path_steps-returns t c = gives _ _ _ (ap (behind c.args.before) (steps_are _ _ _) ∙ onward_stop _ _ _ _ _ _ _ _ c.loop-alloc.invariant (sym c.starts.ensures ∙ c.loop-alloc-test.false))

pub more_arguments-returns-then-done-turns : goal.more_arguments-returns-then-done-turns
more_arguments-returns-then-done-turns t c =
    stops _ _ _ _ c.stop_before.ensures (ap (behind (c.args.first ∷ [])) (arguments_are _ _ _) ∙ onward_spent _ _ _ (c.args.first ∷ []) _ _ _ _ c.loop-alloc.invariant c.if-done-turns.true (sym c.starts.ensures ∙ c.loop-alloc-test.true))

pub more_arguments-returns-in-Err : goal.more_arguments-returns-in-Err
more_arguments-returns-in-Err t c =
    let s = sym c.starts.ensures ∙ c.loop-alloc-test.true in
    read_err _ _ _ _ c.in_ok-read.ensures c.in-Err.is (λ why rest e. ap (behind (c.args.first ∷ [])) (arguments_are _ _ _)
    ∙ onward_fault _ _ _ (c.args.first ∷ []) _ _ _ _ _ _ c.loop-alloc.invariant c.if-done-turns.false s (next_is _ _ _ _ s c.behind_first.ensures e))

pub more_arguments-loop-alloc-preserved : goal.more_arguments-loop-alloc-preserved
more_arguments-loop-alloc-preserved t c =
    let s = sym c.starts.ensures ∙ c.loop-alloc-test.true in
    onward_more _ _ _ (c.args.first ∷ []) _ _ _ _ _ _ _ c.loop-alloc.invariant c.if-done-turns.false s
    (next_is _ _ _ _ s c.behind_first.ensures (read_ok _ _ _ c.in_ok-read.ensures c.in-Ok.is ∙ ap (Got c.in-Ok.read.0) (sym c.same-rest.ensures))) c.in_ok-push-2.ensures.ok

pub more_arguments-returns : goal.more_arguments-returns
more_arguments-returns t c = gives _ _ _ (ap (behind (c.args.first ∷ [])) (arguments_are _ _ _) ∙ onward_stop _ _ _ (c.args.first ∷ []) _ _ _ _ c.loop-alloc.invariant (sym c.starts.ensures ∙ c.loop-alloc-test.false))

pub tuple_items-loop-alloc-init : goal.tuple_items-loop-alloc-init
tuple_items-loop-alloc-init t c = items_begin _ _ _ _ c.new-items.ensures.items

pub tuple_items-returns-in-Err : goal.tuple_items-returns-in-Err
tuple_items-returns-in-Err t c =
    read_err _ _ _ _ c.in_ok-read.ensures c.in-Err.is (λ why rest e. items_fault _ _ _ _ _ _ _ _ c.loop-alloc.invariant (sym c.starts.ensures ∙ c.loop-alloc-test.true) e)

pub tuple_items-returns-then-not-starts : goal.tuple_items-returns-then-not-starts
tuple_items-returns-then-not-starts t c =
    gives _ _ _ (items_last _ _ _ _ _ _ _ _ _ c.loop-alloc.invariant (sym c.starts.ensures ∙ c.loop-alloc-test.true) (read_ok _ _ _ c.in_ok-read.ensures c.in-Ok.is) c.in_ok-push.ensures.items (sym c.if-not-starts.ensures))

pub tuple_items-returns-then-done-turns : goal.tuple_items-returns-then-done-turns
tuple_items-returns-then-done-turns t c =
    stops _ _ _ _ c.stop_before.ensures
    (items_spent _ _ _ _ _ _ _ _ c.loop-alloc.invariant (sym c.starts.ensures ∙ c.loop-alloc-test.true) (read_ok _ _ _ c.in_ok-read.ensures c.in-Ok.is) (sym c.if-not-starts.ensures) c.if-done-turns.true)

pub tuple_items-loop-alloc-preserved : goal.tuple_items-loop-alloc-preserved
tuple_items-loop-alloc-preserved t c =
    items_more _ _ _ _ _ _ _ _ _ _ c.loop-alloc.invariant (sym c.starts.ensures ∙ c.loop-alloc-test.true) (read_ok _ _ _ c.in_ok-read.ensures c.in-Ok.is) c.in_ok-push.ensures.items (sym c.if-not-starts.ensures)
    c.if-done-turns.false c.behind_first-rest.ensures

pub tuple_items-returns : goal.tuple_items-returns
tuple_items-returns t c = c.end_of_items-read.ensures ∙ ap counted (items_end _ _ _ _ _ _ c.loop-alloc.invariant (sym c.starts.ensures ∙ c.loop-alloc-test.false))

pub qualifier-returns-in-Err-token : goal.qualifier-returns-in-Err-token
qualifier-returns-in-Err-token t c =
    token_err _ _ _ _ c.token-2.ensures c.in-Err-token.is (λ why rest e. qualifier_fault _ _ _ _ _ _ _ _ _ (counted_ok _ _ _ c.in-Ok.ensures) (read_ok _ _ _ c.in_ok-read.ensures c.in-Ok-2.is) e)

pub qualifier-returns : goal.qualifier-returns
qualifier-returns t c =
    gives _ _ _ (qualifier_got _ _ _ _ _ _ _ _ _ (counted_ok _ _ _ c.in-Ok.ensures) (read_ok _ _ _ c.in_ok-read.ensures c.in-Ok-2.is) (token_ok _ _ _ c.token-2.ensures c.in-Ok-token.is))
