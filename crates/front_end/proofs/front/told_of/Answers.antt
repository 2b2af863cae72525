use Rattle.std.proofs.Common.{◌∙◌, sym}
use Rattle.front_end.proofs.Telling.{declarations_told, judged_told, read_of}
use Rattle.front_end.proofs.front.told_of.Goals as goal

pub returns-in-Ok : goal.returns-in-Ok
returns-in-Ok c = judged_told c.args.text.now c.args.file.now c.in_ok-program-in-Ok.program c.in_ok-told-in-Ok.told
    (read_of c.args.text.now c.args.file.now c.in_ok-program-in-Ok.program c.args.functions c.in-Ok.declared c.in_ok-program-in-Ok.ensures c.requires.meant c.in-Ok.ensures.ok)
    c.in_ok-told-in-Ok.ensures

pub returns : goal.returns
returns c = declarations_told c.args.text.now c.args.file.now c.args.functions c.in-Err.fault c.in-Some.refusal c.requires.meant c.in-Err.ensures.err (sym c.declaration_refusal.ensures ∙ c.in-Some.is)
