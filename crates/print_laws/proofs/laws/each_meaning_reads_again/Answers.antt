use Rattle.print_laws.proofs.Parsed.{each_meaning_reads_again}
use Rattle.print_laws.proofs.laws.each_meaning_reads_again.Goals as goal

pub returns : goal.returns
returns c = each_meaning_reads_again
