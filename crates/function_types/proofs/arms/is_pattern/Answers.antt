use Rattle.function_types.proofs.Patterns.{fits_by_shift, fits_widest}
use Rattle.function_types.proofs.arms.is_pattern.Goals as goal

pub returns-then-width-ge128 : goal.returns-then-width-ge128
returns-then-width-ge128 c = fits_widest c.args.width c.args.number c.if-width-ge128.true c.ranges.number.fits

pub returns-else-width-ge128 : goal.returns-else-width-ge128
returns-else-width-ge128 c = fits_by_shift c.args.width c.args.number
