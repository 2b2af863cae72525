use Rattle.scalar_verdicts.specs.Rounds.{AreOf}
use Rattle.std.proofs.Common.{subst, sym}
use Rattle.scalar_verdicts.proofs.LeftLaws.{empty_list, never_empty, own_are}
use Rattle.scalar_verdicts.proofs.alone.ask_alone.Goals as goal

pub returns-then-is_empty-clause-told : goal.returns-then-is_empty-clause-told
returns-then-is_empty-clause-told c = never_empty _ _ _ _ c.requires.inputs (own_are _ _ _ _ _ c.requires.left c.in_ok-own.ensures) (empty_list _ _ _ c.as_slice.ensures.value c.is_empty.ensures c.if-is_empty.true)

pub ask_own-requires-clause-own : goal.ask_own-requires-clause-own
ask_own-requires-clause-own c = subst (λ xs. AreOf c.args.function.now c.args.terms.now xs c.args.breach) (sym c.as_slice-else-is_empty.ensures.value) (own_are _ _ _ _ _ c.requires.left c.in_ok-own.ensures)
