use Rattle.std.proofs.Common.{List, ◌∷◌, [], ap, sym, ◌∙◌}
use Rattle.grammar_words.specs.Reading.{joined}
use Rattle.grammar_words.specs.Coded.{counted}
use Rattle.mir_grammar.specs.declared.named.Named.{Named}
use Rattle.mir_grammar.specs.declared.trees.Declared.{Declared}
use Rattle.mir_grammar.specs.declared.trees.RawBlock.{RawBlock}
use Rattle.mir_grammar.specs.Lexemes.{class_of}
use Rattle.mir_grammar.specs.Functions.{to_function}
use Rattle.mir_pieces.specs.Views.{read_view}
use Rattle.line_reader.proofs.Steps.{past_on, joined_on}
use Rattle.block_reader.specs.Signatures.{name_part, parameters_part, result_part}
use Rattle.block_reader.proofs.functions.signature.Goals as goal

pub returns : goal.returns
returns c =
    let n = name_part c.args.turns c.args.depth in
    let p = parameters_part c.args.turns c.args.depth in
    let r = result_part c.args.turns c.args.depth in
    let f = λ (b : List Declared × (Named × (List Declared × List RawBlock))). to_function (c.in-Ok-2.read.0, b) in
    ap read_view (sym c.in-Ok-4.is) ∙ c.in_ok-read-3.ensures
    ∙ ap counted (sym (past_on to_function class_of (175 ∷ []) (joined n (joined p r)) c.args.tokens.now c.in-Ok.read.1.now c.in-Ok.read.0.now c.in-Ok.ensures
    ∙ (joined_on to_function n (joined p r) c.in-Ok.read.1.now c.in-Ok-2.read.1.now c.in-Ok-2.read.0 (ap read_view (sym c.in-Ok-2.is) ∙ c.in_ok-read.ensures)
    ∙ joined_on f p r c.in-Ok-2.read.1.now c.in-Ok-3.read.1.now c.in-Ok-3.read.0 (ap read_view (sym c.in-Ok-3.is) ∙ c.in_ok-read-2.ensures))))
