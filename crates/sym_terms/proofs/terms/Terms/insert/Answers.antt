use Rattle.std.proofs.Common.{◌≡◌, sym, subst, List}
use Rattle.sym_terms.specs.declared.term.Term.{Term}
use Rattle.sym_terms.specs.Terms.{KeepsInputs}
use Rattle.sym_terms.proofs.Simplified.{IsInserted-WithConstant, KeepsInputs-Constant, OnErr-of}
use Rattle.sym_terms.proofs.terms.Terms.insert.Goals as goal

pub returns-in_ok-id-in-WithConstant-clause-ok : goal.returns-in_ok-id-in-WithConstant-clause-ok
returns-in_ok-id-in-WithConstant-clause-ok c =
    IsInserted-WithConstant c.args.self.now c.share-in-WithConstant.new.self c.args.term c.in-WithConstant.op c.in-WithConstant.a c.in_ok-b-in-WithConstant.b c.in-WithConstant.constant
    c.in-WithConstant.ensures c.in_ok-b-in-WithConstant.ensures.ok c.share-in-WithConstant-2.new.self c.in_ok-id-in-WithConstant.id.0 c.in_ok-id-in-WithConstant.ensures.ok

pub returns-in_err-id-in-WithConstant-clause-err_inputs : goal.returns-in_err-id-in-WithConstant-clause-err_inputs
returns-in_err-id-in-WithConstant-clause-err_inputs c =
    let mid = c.share-in-WithConstant.new.self in
    let kept : KeepsInputs c.args.self.now mid = KeepsInputs-Constant c.args.self.now mid c.in-WithConstant.constant c.in_ok-b-in-WithConstant.b.0 c.in_ok-b-in-WithConstant.ensures.ok in
    let same : c.share-in-WithConstant-2.new.self ≡ mid = c.in_err-id-in-WithConstant.ensures.err in
    OnErr-of c.from_residual-in_err-id-in-WithConstant.result _ (subst (λ (ts : List Term). KeepsInputs c.args.self.now ts) (sym same) kept)
