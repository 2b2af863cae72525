use Rattle.std.proofs.Common.{◌∙◌, sym}
use Rattle.front_end.specs.Front.{by_text}
use Rattle.front_end.proofs.front.typed_of.Goals as goal

pub returns-in-Some : goal.returns-in-Some
returns-in-Some c = by_text c.in-Err.fault c.in-Err.ensures (sym c.text_refusal.ensures ∙ c.in-Some.is)
