use Rattle.std.proofs.Common.{◌∷◌, []}
use Rattle.grammar_words.specs.Reading.{made, pick}
use Rattle.grammar_words.specs.Classes.{inside, past}
use Rattle.mir_grammar.specs.Lexemes.{class_of}
use Rattle.mir_grammar.specs.Values.{mutable, immutable}
use Rattle.value_reader.specs.Levels.{places}
use Rattle.value_reader.proofs.Following.{past_by}
use Rattle.value_reader.proofs.references.raw_place.Goals as goal

pub returns-in_ok-read-in-Ok : goal.returns-in_ok-read-in-Ok
returns-in_ok-read-in-Ok c = past_by class_of (151 ∷ []) (pick (inside class_of (117 ∷ [])) (made mutable (past class_of (117 ∷ []) (places c.args.turns c.args.depth))) (made immutable (past class_of (116 ∷ []) (places c.args.turns c.args.depth)))) c.args.tokens.now c.in-Ok.rest.now _ _ c.in-Ok.ensures c.in_ok-read-in-Ok.ensures
