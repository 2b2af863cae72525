use Rattle.scalar_verdicts.proofs.WayLaws.{few_words, many_words}
use Rattle.scalar_verdicts.proofs.choices.words.Goals as goal

pub returns-then-width-lt60 : goal.returns-then-width-lt60
returns-then-width-lt60 c = few_words c.args.width c.if-width-lt60.true

pub returns-else-width-lt60 : goal.returns-else-width-lt60
returns-else-width-lt60 c = many_words c.args.width c.if-width-lt60.false
