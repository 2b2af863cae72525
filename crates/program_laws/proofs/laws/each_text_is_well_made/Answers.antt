use Rattle.program_laws.proofs.WellMade.{means_well_made}
use Rattle.program_laws.proofs.laws.each_text_is_well_made.Goals as goal

pub returns : goal.returns
returns c = record { made = λ fs h. means_well_made c.args.text.now fs c.requires h }
