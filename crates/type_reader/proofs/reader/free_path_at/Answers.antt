use Rattle.std.proofs.Common.{◌∙◌, ap}
use Rattle.grammar_words.specs.Coded.{counted}
use Rattle.type_reader.proofs.PartLaws.{free_path_is}
use Rattle.type_reader.proofs.reader.free_path_at.Goals as goal

pub returns : goal.returns
returns c = c.in_ok-read.ensures ∙ ap counted (free_path_is _ _ _ _)
