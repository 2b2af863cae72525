use Rattle.std.proofs.Common.{◌∷◌, []}
use Rattle.mir_grammar.specs.Lexemes.{class_of}
use Rattle.mir_grammar.specs.Values.{to_no_array, to_array_of, operand_at, array_rest_at}
use Rattle.grammar_words.specs.Reading.{made, pick, joined}
use Rattle.grammar_words.specs.Classes.{inside, tok}
use Rattle.value_reader.specs.Levels.{places, types}
use Rattle.value_reader.proofs.Following.{past_by}
use Rattle.value_reader.proofs.arrays.array.Goals as goal

pub returns-in_ok-read-in-Ok : goal.returns-in_ok-read-in-Ok
returns-in_ok-read-in-Ok c = past_by class_of (3 ∷ []) (pick (inside class_of (4 ∷ [])) (made to_no_array (tok class_of (4 ∷ []))) (made to_array_of (joined (operand_at c.args.turns (types c.args.turns c.args.depth) (places c.args.turns c.args.depth)) (array_rest_at c.args.turns (types c.args.turns c.args.depth) (places c.args.turns c.args.depth))))) c.args.tokens.now c.in-Ok.rest.now _ _ c.in-Ok.ensures c.in_ok-read-in-Ok.ensures
