use Rattle.entry_types.proofs.ParameterTypes.{ref_as_mut_ref, shared_as_mut_ref}
use Rattle.entry_types.proofs.drops.is_mut_reference.Goals as goal

pub returns-then-mutable : goal.returns-then-mutable
returns-then-mutable c =
    ref_as_mut_ref c.args.ty.now c.args.target.now c.in-Ref.own c.get.result.now c.in-Ref.mutable _ c.in-Ref.is c.get.ensures c.if-mutable.true c.same_type.ensures

pub returns-else-mutable : goal.returns-else-mutable
returns-else-mutable c = shared_as_mut_ref c.args.ty.now c.args.target.now c.in-Ref.own c.in-Ref.mutable c.in-Ref.is c.if-mutable.false
