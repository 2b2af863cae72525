use Rattle.std.proofs.Common.{ap}
use Rattle.scalar_runs.specs.Values.{kind_of_operand, operand_value}
use Rattle.value_terms.proofs.SlotLaws.{read_copied}
use Rattle.value_terms.proofs.slots.read.Goals as goal

pub returns-in_ok-slot-in-Copy : goal.returns-in_ok-slot-in-Copy
returns-in_ok-slot-in-Copy c = read_copied c.args.function.now c.args.terms.now c.read_local.new.terms c.args.slots.now c.args.operand.now c.in-Copy.place.local.0 _
    (ap (kind_of_operand c.args.function.now) c.in-Copy.is) (λ values. ap (operand_value c.args.function.now values) c.in-Copy.is) c.in_ok-slot-in-Copy.ensures

pub returns-in_ok-slot-in-Move : goal.returns-in_ok-slot-in-Move
returns-in_ok-slot-in-Move c = read_copied c.args.function.now c.args.terms.now c.read_local-in-Move.new.terms c.args.slots.now c.args.operand.now c.in-Move.place.local.0 _
    (ap (kind_of_operand c.args.function.now) c.in-Move.is) (λ values. ap (operand_value c.args.function.now values) c.in-Move.is) c.in_ok-slot-in-Move.ensures
