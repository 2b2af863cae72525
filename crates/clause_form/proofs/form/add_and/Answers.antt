use Rattle.std.proofs.Common.{arith}
use Rattle.clause_form.proofs.form.add_and.Goals as goal

pub add_three-requires-clause-b_inside : goal.add_three-requires-clause-b_inside
add_three-requires-clause-b_inside c = omega (arith, c.opposite.ensures.inside _ c.requires.a_inside, c.add_two-2.ensures.variables, c.add_two.ensures.variables)

pub add_three-requires-clause-c_inside : goal.add_three-requires-clause-c_inside
add_three-requires-clause-c_inside c = omega (arith, c.opposite-2.ensures.inside _ c.requires.b_inside, c.add_two-2.ensures.variables, c.add_two.ensures.variables)
