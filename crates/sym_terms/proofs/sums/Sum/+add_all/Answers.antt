use Rattle.std.proofs.Common.{List, ℕ, ◌*◌, refl}
use Rattle.sym_terms.specs.declared.sums.Summand.{Summand}
use Rattle.sym_terms.specs.Sums.{Adds, product_value, sum_value}
use Rattle.sym_terms.proofs.SumLaws.{Adds-all_empty, Adds-all_cons, first_rest, empty_list}
use Rattle.sym_terms.proofs.sums.Sum.+add_all.Goals as goal

pub returns-in-empty : goal.returns-in-empty
returns-in-empty t c = λ found. empty_list (λ (xs : List Summand). Adds c.args.self.now.summands c.args.self.now.summands (λ (values : ℕ → ℕ). c.args.coefficient * product_value values c.args.product * sum_value values xs)) c.args.summands.now c.in-empty.len_below
    (Adds-all_empty c.args.self.now.summands c.args.product c.args.coefficient)

pub returns-else-not-add_multiple : goal.returns-else-not-add_multiple
returns-else-not-add_multiple t c = λ found. first_rest (λ (xs : List Summand). Adds c.args.self.now.summands c.add_all.new.self.summands (λ (values : ℕ → ℕ). c.args.coefficient * product_value values c.args.product * sum_value values xs)) c.args.summands.now _ c.in-len1-up.len_at_least
    (Adds-all_cons c.args.product c.args.coefficient _ _ (c.if-not-add_multiple.ensures refl) (c.add_all.ensures found))
