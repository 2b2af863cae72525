use Rattle.std.proofs.Common.{◌+◌, ◌*◌, max}
use Rattle.sym_terms.proofs.terms.Terms.+collecting.Given as goal

abbrev pub decreases-collect : goal.decreases-collect
decreases-collect l = 3 * l.id.0

abbrev pub decreases-collect_both : goal.decreases-collect_both
decreases-collect_both l = 3 * max l.a.0 l.b.0 + 1

abbrev pub decreases-collect_product : goal.decreases-collect_product
decreases-collect_product l = 3 * max l.a.0 l.b.0 + 2

abbrev pub decreases-multiplied_out : goal.decreases-multiplied_out
decreases-multiplied_out l = 3 * max l.a.0 l.b.0 + 1
