use Rattle.value_terms.proofs.RvalueLaws.{rvalue_at}
use Rattle.value_terms.proofs.TypedLaws.{not_has, not_typed}
use Rattle.value_terms.proofs.rvalues.not_terms.Goals as goal

pub unary_terms-requires-clause-kind : goal.unary_terms-requires-clause-kind
unary_terms-requires-clause-kind c = not_has _ c.requires.kind

pub returns : goal.returns
returns c = rvalue_at c.args.function.now _ _ _ _ _ _ _ (not_typed _ c.requires.kind) c.in_ok-t.ensures
