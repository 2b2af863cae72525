use Rattle.value_terms.proofs.RvalueLaws.{rvalue_at}
use Rattle.value_terms.proofs.TypedLaws.{neg_has, neg_typed}
use Rattle.value_terms.proofs.rvalues.neg_terms.Goals as goal

pub unary_terms-requires-clause-kind : goal.unary_terms-requires-clause-kind
unary_terms-requires-clause-kind c = neg_has _ c.requires.kind

pub returns : goal.returns
returns c = rvalue_at c.args.function.now _ _ _ _ _ _ _ (neg_typed _ c.requires.kind) c.in_ok-t.ensures
