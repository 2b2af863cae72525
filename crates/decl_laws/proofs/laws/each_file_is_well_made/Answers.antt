use Rattle.decl_laws.proofs.FileMade.{file_made}
use Rattle.decl_laws.proofs.Needed.{made_countable}
use Rattle.decl_laws.proofs.laws.each_file_is_well_made.Goals as goal

pub returns : goal.returns
returns c = record { made = λ d h k. file_made c.args.bytes.now d h k; countable = made_countable }
