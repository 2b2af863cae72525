use Rattle.entry_types.proofs.Bodies.{named_at, none_named}
use Rattle.entry_types.proofs.functions.Functions.body_of.Goals as goal

pub returns-in-None : goal.returns-in-None
returns-in-None c = none_named c.self.inside.named c.args.self.now c.args.name.now c.self.view_is c.in-None.ensures

pub returns-in-Some : goal.returns-in-Some
returns-in-Some c =
    named_at c.self.inside.named c.args.self.now c.args.name.now c.self.view_is c.self.inside.bodies.items c.as_slice.result.now c.in-Some.place _
    c.self.invariant c.as_slice.ensures.value c.in-Some.ensures c.at.ensures
