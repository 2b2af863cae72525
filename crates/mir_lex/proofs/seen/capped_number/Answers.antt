use Rattle.std.proofs.Common.{◌∙◌, ap}
use Rattle.mir_lex.specs.Bytes.{number_within}
use Rattle.mir_lex.proofs.Numbers.{capped_past, capped_some}
use Rattle.mir_lex.proofs.seen.capped_number.Goals as goal

pub returns-in-None : goal.returns-in-None
returns-in-None c = capped_past _ _ (c.number_within.ensures.value ∙ ap (λ m. number_within 10 m c.args.digits.now) c.from.ensures) c.in-None.is

pub returns-in-Some : goal.returns-in-Some
returns-in-Some c = capped_some _ _ _ (c.number_within.ensures.value ∙ ap (λ m. number_within 10 m c.args.digits.now) c.from.ensures) c.in-Some.is
