use Rattle.std.proofs.Common.{◌∙◌, ap}
use Rattle.grammar_words.specs.Coded.{counted}
use Rattle.type_reader.proofs.PartLaws.{path_from_is}
use Rattle.type_reader.proofs.reader.path_from_at.Goals as goal

pub returns : goal.returns
returns c = c.in_ok-read.ensures ∙ ap counted (path_from_is _ _ _ _ _)
