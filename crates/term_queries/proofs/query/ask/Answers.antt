use Rattle.std.proofs.Common.{false, get_or}
use Rattle.std.specs.Prelude.{slice_index_or}
use Rattle.term_queries.proofs.QueryLaws.{asked, literals_known, never_holds}
use Rattle.term_queries.proofs.query.ask.Goals as goal

pub clauses-requires-clause-roots : goal.clauses-requires-clause-roots
clauses-requires-clause-roots c = literals_known c.args.terms.now c.args.root c.in_ok-gates.gates c.index.result.now c.as_slice-literals.result.now c.in_ok-gates.ensures c.index.ensures c.as_slice-literals.ensures.value

pub numbers_of-requires-clause-small : goal.numbers_of-requires-clause-small
numbers_of-requires-clause-small c = rw c.as_slice.ensures.value c.in_ok-gates.ensures.small

pub numbers_of-requires-clause-apart : goal.numbers_of-requires-clause-apart
numbers_of-requires-clause-apart c = rw c.as_slice.ensures.value c.in_ok-gates.ensures.apart

pub returns-in-Sat-clause-answer : goal.returns-in-Sat-clause-answer
returns-in-Sat-clause-answer c =
    (asked c.args.terms.now c.args.root c.in_ok-gates.gates c.index.result.now c.as_slice-literals.result.now c.in_ok-list.list c.requires.bit c.term-known.ensures.values c.in_ok-gates.ensures c.index.ensures c.as_slice-literals.ensures.value c.in_ok-list.ensures.form c.clauses.ensures.one_way).sound
    (λ v. slice_index_or c.in-Sat.values.items v false) (rw c.in-Sat.is at c.in_ok-answer.ensures.answer).1 (λ n. get_or c.in_ok-numbers-in-Sat.numbers.items n 0) (rw (c.as_slice.ensures.value, c.as_slice-in-Sat.ensures.value) at c.in_ok-numbers-in-Sat.ensures)

pub returns-in-Unsat-clause-answer : goal.returns-in-Unsat-clause-answer
returns-in-Unsat-clause-answer c =
    never_holds c.args.terms.now c.args.root.0 c.in_ok-gates.gates.inputs.items c.in_ok-list.list
    (asked c.args.terms.now c.args.root c.in_ok-gates.gates c.index.result.now c.as_slice-literals.result.now c.in_ok-list.list c.requires.bit c.term-known.ensures.values c.in_ok-gates.ensures c.index.ensures c.as_slice-literals.ensures.value c.in_ok-list.ensures.form c.clauses.ensures.one_way)
    (rw c.in-Unsat.is at c.in_ok-answer.ensures.sound)

pub returns-clause-answer : goal.returns-clause-answer
returns-clause-answer c = record {
  inputs = c.in_ok-gates.gates.inputs.items;
  list = c.in_ok-list.list;
  query = asked c.args.terms.now c.args.root c.in_ok-gates.gates c.index.result.now c.as_slice-literals.result.now c.in_ok-list.list c.requires.bit c.term-known.ensures.values c.in_ok-gates.ensures c.index.ensures c.as_slice-literals.ensures.value c.in_ok-list.ensures.form c.clauses.ensures.one_way;
  log = c.in-Spent._log;
  spent = (rw c.in-Spent.is at c.in_ok-answer.ensures.answer).0;
  long = (rw c.in-Spent.is at c.in_ok-answer.ensures.answer).1;
}
