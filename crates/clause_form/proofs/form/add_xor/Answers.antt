use Rattle.std.proofs.Common.{arith}
use Rattle.clause_form.proofs.form.add_xor.Goals as goal

pub add_three-requires-2-clause-b_inside : goal.add_three-requires-2-clause-b_inside
add_three-requires-2-clause-b_inside c = omega (arith, c.opposite.ensures.inside _ c.requires.a_inside, c.add_three.ensures.variables)

pub add_three-requires-2-clause-c_inside : goal.add_three-requires-2-clause-c_inside
add_three-requires-2-clause-c_inside c = omega (arith, c.opposite-2.ensures.inside _ c.requires.b_inside, c.add_three.ensures.variables)

pub add_three-requires-3-clause-b_inside : goal.add_three-requires-3-clause-b_inside
add_three-requires-3-clause-b_inside c = omega (arith, c.opposite-3.ensures.inside _ c.requires.a_inside, c.add_three-2.ensures.variables, c.add_three.ensures.variables)

pub add_three-requires-4-clause-c_inside : goal.add_three-requires-4-clause-c_inside
add_three-requires-4-clause-c_inside c = omega (arith, c.opposite-4.ensures.inside _ c.requires.b_inside, c.add_three-3.ensures.variables, c.add_three-2.ensures.variables, c.add_three.ensures.variables)
