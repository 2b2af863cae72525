use Rattle.std.proofs.Common.{sym, ◌∙◌}
use Rattle.value_terms.proofs.OperatorLaws.{word_inverted, word_plain}
use Rattle.value_terms.proofs.operators.word_term.Goals as goal

pub returns-in_ok-id : goal.returns-in_ok-id
returns-in_ok-id c = word_inverted c.args.terms.now c.applied_term.new.terms c.apply.new.terms c.args.op _ _ _ _ (sym c.is_inverted.ensures ∙ c.if-is_inverted.true) c.in_ok-plain.ensures c.in_ok-id.ensures

pub returns-else-is_inverted : goal.returns-else-is_inverted
returns-else-is_inverted c = word_plain c.args.terms.now c.applied_term.new.terms c.args.op _ _ _ (sym c.is_inverted.ensures ∙ c.if-is_inverted.false) c.in_ok-plain.ensures
