use Rattle.std.proofs.Common.{length}
use Rattle.scalar_form.proofs.form.+are_locals.Given as goal

abbrev pub decreases-are_locals : goal.decreases-are_locals
decreases-are_locals l = length l.locals.now
