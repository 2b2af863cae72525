use Rattle.std.proofs.Common.{◌≡◌, ◌+◌, ◌++◌, [], List, ℕ, length, ap, ◌∙◌, refl, arith, vec_len, subst, sym}
use Rattle.bit_gates.specs.declared.gate.Gate.{Gate}
use Rattle.bit_gates.specs.Values.{AreInOrder}
use Rattle.region_pool.specs.Clauses.{ClauseList}
use Rattle.clause_form.specs.Form.{clauses_of, asserted}
use Rattle.clause_form.proofs.FormLaws.{form_made, one_extension}
use Rattle.clause_form.proofs.form.clauses.Goals as goal

pub returns-in_err-add_gates-clause-one_way : goal.returns-in_err-add_gates-clause-one_way
returns-in_err-add_gates-clause-one_way c = λ bits. one_extension _ _ bits c.requires.in_order

pub returns-in_err-assert_all-clause-one_way : goal.returns-in_err-assert_all-clause-one_way
returns-in_err-assert_all-clause-one_way c = λ bits. one_extension _ _ bits c.requires.in_order

pub returns-clause-one_way : goal.returns-clause-one_way
returns-clause-one_way c = λ bits. one_extension _ _ bits c.requires.in_order

pub returns-clause-form : goal.returns-clause-form
returns-clause-form c =
    let empty : c.new-list.result.clauses ≡ [] = ap (λ (l : ClauseList). l.clauses) c.new-list.ensures in
    let count : c.new-list.result.variables ≡ c.len-inputs.result + c.len.result = ap (λ (l : ClauseList). l.variables) c.new-list.ensures in
    form_made c.assert_all.new.list (vec_len c.args.gates.now.inputs) c.args.gates.now.gates.items c.args.roots.now c.requires.in_order
    (omega (arith, c.in_ok-assert_all.ensures.variables, c.in_ok-add_gates.ensures.variables, c.args.gates.now.gates.ok.0))
    c.variables-variables.ensures.literals
    (c.in_ok-assert_all.ensures.ok
    ∙ ap (λ (k : List (List ℕ)). k ++ asserted c.args.roots.now) c.in_ok-add_gates.ensures.ok
    ∙ ap (λ (k : List (List ℕ)). k ++ clauses_of c.len-inputs.result c.as_slice.result.now ++ asserted c.args.roots.now) empty
    ∙ ap (λ (k : ℕ). clauses_of k c.as_slice.result.now ++ asserted c.args.roots.now) c.len-inputs.ensures
    ∙ ap (λ (k : List Gate). clauses_of (vec_len c.args.gates.now.inputs) k ++ asserted c.args.roots.now) c.as_slice.ensures.value)
