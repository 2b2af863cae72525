use Rattle.std.proofs.Common.{◌∷◌, []}
use Rattle.mir_grammar.specs.Lexemes.{class_of}
use Rattle.mir_grammar.specs.Values.{marks, marked_at}
use Rattle.std.specs.Prelude.{Some, None}
use Rattle.grammar_words.specs.Reading.{made, pick, nothing}
use Rattle.grammar_words.specs.Classes.{inside}
use Rattle.value_reader.specs.Levels.{places, types}
use Rattle.value_reader.proofs.Following.{past_by}
use Rattle.value_reader.proofs.tuples.marked_or_end.Goals as goal

pub returns-in_ok-read-in-Ok : goal.returns-in_ok-read-in-Ok
returns-in_ok-read-in-Ok c = past_by class_of (9 ∷ []) (pick (inside class_of marks) (made Some (marked_at c.args.turns (types c.args.turns c.args.depth) (places c.args.turns c.args.depth))) (nothing None)) c.args.tokens.now c.in-Ok.rest.now _ _ c.in-Ok.ensures c.in_ok-read-in-Ok.ensures
