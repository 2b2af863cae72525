use Rattle.print_laws.proofs.Names.{each_type_is_printed}
use Rattle.print_laws.proofs.laws.each_type_is_printed.Goals as goal

pub returns : goal.returns
returns c = each_type_is_printed
