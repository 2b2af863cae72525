use Rattle.std.proofs.Common.{◌∷◌, [], Ok, ap, sym, ◌∙◌}
use Rattle.grammar_words.specs.Reading.{joined}
use Rattle.grammar_words.specs.Classes.{tok}
use Rattle.grammar_words.specs.Coded.{counted}
use Rattle.mir_grammar.specs.Lexemes.{class_of}
use Rattle.mir_grammar.specs.Values.{operand_at}
use Rattle.mir_pieces.specs.Views.{read_view}
use Rattle.value_reader.specs.Levels.{places, types}
use Rattle.line_reader.specs.Parts.{asserted, assert_rest_at, shown_and_next_at}
use Rattle.line_reader.proofs.Steps.{past_on, joined_on, stop, got}
use Rattle.line_reader.proofs.asserts.assert_rest.Goals as goal

pub returns-in-Err-2 : goal.returns-in-Err-2
unfolding assert_rest_at
returns-in-Err-2 c =
    let n = shown_and_next_at (operand_at c.args.turns (types c.args.turns c.args.depth) (places c.args.turns c.args.depth)) c.args.turns in
    let f = asserted c.args.negated c.args.operand in
    stop (λ v. f (c.in-Ok-token.read.0.now, v)) n c.in-Ok-token.read.1.now c.in-Err-2.stop (ap read_view (sym c.in-Err-2.is) ∙ c.in_ok-read.ensures)
    ∙ ap counted (sym (past_on f class_of (9 ∷ []) (joined (tok class_of (40 ∷ [])) n) c.args.tokens.now c.in-Ok.read.1.now c.in-Ok.read.0.now c.in-Ok.ensures ∙ joined_on f (tok class_of (40 ∷ [])) n c.in-Ok.read.1.now c.in-Ok-token.read.1.now c.in-Ok-token.read.0.now c.in-Ok-token.ensures))

pub returns : goal.returns
unfolding assert_rest_at
returns c =
    let n = shown_and_next_at (operand_at c.args.turns (types c.args.turns c.args.depth) (places c.args.turns c.args.depth)) c.args.turns in
    let f = asserted c.args.negated c.args.operand in
    ap (λ v. Ok (v, c.in-Ok-2.read.1.now)) c.in_ok-ending.ensures
    ∙ (got (λ v. f (c.in-Ok-token.read.0.now, v)) n c.in-Ok-token.read.1.now c.in-Ok-2.read.1.now c.in-Ok-2.read.0 (ap read_view (sym c.in-Ok-2.is) ∙ c.in_ok-read.ensures)
    ∙ ap counted (sym (past_on f class_of (9 ∷ []) (joined (tok class_of (40 ∷ [])) n) c.args.tokens.now c.in-Ok.read.1.now c.in-Ok.read.0.now c.in-Ok.ensures ∙ joined_on f (tok class_of (40 ∷ [])) n c.in-Ok.read.1.now c.in-Ok-token.read.1.now c.in-Ok-token.read.0.now c.in-Ok-token.ensures)))
