use Rattle.print_laws.proofs.Names.{each_path_reads_again}
use Rattle.print_laws.proofs.laws.each_path_reads_again.Goals as goal

pub returns : goal.returns
returns c = each_path_reads_again
