use Rattle.part_texts.proofs.Adapting.{read_as_written}
use Rattle.part_texts.proofs.laws.texts_are_read.Goals as goal

pub returns : goal.returns
returns c = read_as_written c.args.text.now c.requires
