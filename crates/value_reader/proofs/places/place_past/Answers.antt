use Rattle.mir_grammar.specs.Lexemes.{class_of}
use Rattle.value_reader.specs.Levels.{places}
use Rattle.value_reader.proofs.Following.{past_by}
use Rattle.value_reader.proofs.places.place_past.Goals as goal

pub returns-in_ok-read-in-Ok : goal.returns-in_ok-read-in-Ok
returns-in_ok-read-in-Ok c = past_by class_of c.args.set.now (places c.args.turns c.args.depth) c.args.tokens.now c.in-Ok.rest.now _ _ c.in-Ok.ensures c.in_ok-read-in-Ok.ensures
