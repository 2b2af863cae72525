use Rattle.std.proofs.Common.{◌∙◌}
use Rattle.mir_lex.proofs.Numbers.{wide_product, wide_sum, small_enough, too_great_end}
use Rattle.mir_lex.proofs.digits.number_within.Goals as goal

pub returns-in_err-checked_mul-clause-value : goal.returns-in_err-checked_mul-clause-value
returns-in_err-checked_mul-clause-value c = c.from_residual.ensures
    ∙ wide_product _ _ _ _ _ c.requires c.loop-left.invariant c.in-len1-up.len_at_least c.in_err-checked_mul.ensures c.ranges.most.fits

pub returns-in_err-value-clause-value : goal.returns-in_err-value-clause-value
returns-in_err-value-clause-value c = c.from_residual-in_err-value.ensures
    ∙ wide_sum _ _ _ _ _ _ _ c.requires c.loop-left.invariant c.in-len1-up.len_at_least c.in_ok-checked_mul.ensures.1 (c.from.ensures ∙ c.digit_value.ensures) c.in_err-value.ensures c.ranges.most.fits

pub returns-then-value-most-clause-value : goal.returns-then-value-most-clause-value
returns-then-value-most-clause-value c = small_enough _ _ _ _ _ c.loop-left.invariant c.in_default.len_below c.if-value-most.true

pub returns-else-value-most-clause-value : goal.returns-else-value-most-clause-value
returns-else-value-most-clause-value c = too_great_end _ _ _ _ _ c.loop-left.invariant c.in_default.len_below c.if-value-most.false
