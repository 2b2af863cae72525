use Rattle.std.proofs.Common.{List}
use Rattle.sym_terms.specs.declared.sums.Summand.{Summand}
use Rattle.sym_terms.specs.Sums.{IsNothing}
use Rattle.sym_terms.proofs.SumLaws.{IsNothing-empty, IsNothing-cons, first_rest, empty_list}
use Rattle.sym_terms.proofs.sums.+is_nothing.Goals as goal

pub returns-in-empty : goal.returns-in-empty
returns-in-empty t c = λ found. empty_list (λ (xs : List Summand). IsNothing c.args.width xs) c.args.summands.now c.in-empty.len_below (IsNothing-empty c.args.width)

pub returns-else-first-width-ne0 : goal.returns-else-first-width-ne0
returns-else-first-width-ne0 t c = λ found. first_rest (λ (xs : List Summand). IsNothing c.args.width xs) c.args.summands.now _ c.in-len1-up.len_at_least
    (IsNothing-cons c.args.width c.requires.few_bits _ _ c.if-first-width-ne0.false (c.is_nothing.ensures found))
