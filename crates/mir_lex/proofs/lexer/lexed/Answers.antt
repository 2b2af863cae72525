use Rattle.std.proofs.Common.{◌+◌, ◌-◌, sym, ◌∙◌, ap, length, arith, Ok}
use Rattle.mir_lex.specs.Lexing.{lexed, lexed_from}
use Rattle.mir_lex.proofs.Bounds.{found_within, fault_within}
use Rattle.mir_lex.proofs.LexSteps.{lexed_all, lexed_fault, lexed_one, with_before}
use Rattle.mir_lex.proofs.lexer.lexed.Goals as goal

pub returns-then-is_empty : goal.returns-then-is_empty
unfolding lexed
returns-then-is_empty c = ap Ok c.from_vec.ensures ∙ lexed_all _ _ _ _ _ _ _ c.loop-turn-test.true c.loop-turn.invariant c.past_separators-mid.ensures (sym c.is_empty.ensures ∙ c.if-is_empty.true)

pub overflow_add-start : goal.overflow_add-start
overflow_add-start c = let w = found_within _ _ (sym c.token.ensures ∙ c.in-Ok.is) in omega arith

pub overflow_add-result : goal.overflow_add-result
overflow_add-result c = let w = fault_within _ _ (sym c.token.ensures ∙ c.in-Err.is) in omega arith

pub returns-in-Err : goal.returns-in-Err
unfolding lexed
returns-in-Err c = lexed_fault _ _ _ _ _ _ _ _ _ c.loop-turn-test.true c.loop-turn.invariant c.past_separators-mid.ensures (sym c.is_empty.ensures ∙ c.if-is_empty.false) c.saturating_sub-start.ensures (sym c.token.ensures ∙ c.in-Err.is)

pub loop-turn-preserved : goal.loop-turn-preserved
loop-turn-preserved c =
    let text = c.args.text.now in
    ap (λ xs. with_before xs (lexed_from (length text + 1 - (c.loop-turn._turn + 1)) (length text) c.behind-bytes.result.now)) c.in_ok-push-in-Ok.ensures.items
    ∙ lexed_one _ _ _ _ _ _ _ _ _ _ c.loop-turn-test.true c.loop-turn.invariant c.past_separators-mid.ensures (sym c.is_empty.ensures ∙ c.if-is_empty.false) c.saturating_sub-start.ensures (sym c.token.ensures ∙ c.in-Ok.is) c.behind-bytes.ensures
