use Rattle.print_laws.proofs.Texts.{each_text_is_printed}
use Rattle.print_laws.proofs.laws.each_text_is_printed.Goals as goal

pub returns : goal.returns
returns c = each_text_is_printed
