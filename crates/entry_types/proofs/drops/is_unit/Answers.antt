use Rattle.entry_types.proofs.ParameterTypes.{tuple_as_unit}
use Rattle.entry_types.proofs.drops.is_unit.Goals as goal

pub returns-in-Tuple : goal.returns-in-Tuple
returns-in-Tuple c = tuple_as_unit c.args.ty.now c.in-Tuple.items _ _ c.in-Tuple.is c.as_slice.ensures c.are_none.ensures
