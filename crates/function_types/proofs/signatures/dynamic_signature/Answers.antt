use Rattle.std.proofs.Common.{ap, bytes_eq, Some, None, ◌∙◌}
use Rattle.std.specs.List.{position_from}
use Rattle.function_types.specs.Views.{method_seen}
use Rattle.function_types.proofs.Dispatch.{dispatched}
use Rattle.function_types.proofs.signatures.dynamic_signature.Goals as goal

pub returns-in_default-method_in : goal.returns-in_default-method_in
returns-in_default-method_in c =
    dispatched c.args.functions.now c.args.declared.now (method_seen c.args.method) c.in-Some.own.now c.in-Some-slot_of.slot c.in-Some-first_vtable.vtable.now None
    c.in-Some.ensures (c.in-Some-slot_of.ensures ∙ ap (position_from (λ own. bytes_eq c.args.method.method.now own) 0) c.as_slice.ensures)
    c.in-Some-first_vtable.ensures c.in_default-method_in.ensures

pub returns : goal.returns
returns c =
    c.method_signature.ensures
    ∙ dispatched c.args.functions.now c.args.declared.now (method_seen c.args.method) c.in-Some.own.now c.in-Some-slot_of.slot c.in-Some-first_vtable.vtable.now (Some c.in-Some-method_in.function.now)
    c.in-Some.ensures (c.in-Some-slot_of.ensures ∙ ap (position_from (λ own. bytes_eq c.args.method.method.now own) 0) c.as_slice.ensures)
    c.in-Some-first_vtable.ensures c.in-Some-method_in.ensures
