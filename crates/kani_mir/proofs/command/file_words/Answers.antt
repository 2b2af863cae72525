use Rattle.std.proofs.Common.{◌∙◌, ap, sym}
use Rattle.kani_mir.proofs.CommandLemmas.{verify_words}
use Rattle.kani_mir.proofs.command.file_words.Goals as goal

pub returns-then-is_verify : goal.returns-then-is_verify
returns-then-is_verify c = verify_words c.args.words.now c.command-item.result c.mir-item.result c.declarations-item.result c.in-len3.len_at_least c.in-len3.len_below c.command-item.is c.mir-item.is c.declarations-item.is
    (sym c.as_str.ensures.value ∙ c.is_verify.ensures.0 c.if-is_verify.true)
