use Rattle.mir_types.proofs.Whole.{by_entries, functions_told}
use Rattle.mir_types.proofs.check.first_refusal.Goals as goal

pub returns-in-Ok : goal.returns-in-Ok
returns-in-Ok c = functions_told c.args.functions.now _ c.args.declared.now c.in_ok-entries.entries _ c.table.ensures c.in_ok-entries.ensures c.in-Ok.is c.functions_fit.ensures

pub returns-in-Err : goal.returns-in-Err
returns-in-Err c = by_entries c.args.functions.now c.args.declared.now c.in_ok-entries.entries c.in-Err.refusal c.in_ok-entries.ensures c.in-Err.is
