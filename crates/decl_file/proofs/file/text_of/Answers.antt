use Rattle.std.proofs.Common.{◌∙◌, Some, ap, sym}
use Rattle.decl_file.proofs.Utf8.{a_text, no_text}
use Rattle.decl_file.proofs.file.text_of.Goals as goal

pub returns-in-Err : goal.returns-in-Err
returns-in-Err c = sym (no_text _ c.in-Err.ensures.cases.0)

pub returns-in-Ok : goal.returns-in-Ok
returns-in-Ok c = ap Some c.in-Ok.ensures.cases.0 ∙ sym (a_text _ c.in-Ok.ensures.cases.1)
