use Rattle.std.proofs.Common.{List, ℕ, ◌*◌, refl}
use Rattle.sym_terms.specs.declared.sums.Summand.{Summand}
use Rattle.sym_terms.specs.Sums.{Adds, sum_value}
use Rattle.sym_terms.proofs.SumLaws.{Adds-product_empty, Adds-product_cons, first_rest, empty_list}
use Rattle.sym_terms.proofs.sums.Sum.+add_product.Goals as goal

pub returns-in-empty : goal.returns-in-empty
returns-in-empty t c = λ found. empty_list (λ (xs : List Summand). Adds c.args.self.now.summands c.args.self.now.summands (λ (values : ℕ → ℕ). c.args.coefficient * (sum_value values xs * sum_value values c.args.second.now))) c.args.first.now c.in-empty.len_below
    (Adds-product_empty c.args.self.now.summands c.args.second.now c.args.coefficient)

pub returns-else-not-add_times : goal.returns-else-not-add_times
returns-else-not-add_times t c = λ found. first_rest (λ (xs : List Summand). Adds c.args.self.now.summands c.add_product.new.self.summands (λ (values : ℕ → ℕ). c.args.coefficient * (sum_value values xs * sum_value values c.args.second.now))) c.args.first.now _ c.in-len1-up.len_at_least
    (Adds-product_cons c.args.coefficient _ _ c.args.second.now (c.if-not-add_times.ensures refl) (c.add_product.ensures found))
