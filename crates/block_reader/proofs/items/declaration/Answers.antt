use Rattle.std.proofs.Common.{◌∷◌, [], Ok, ap, sym, ◌∙◌}
use Rattle.grammar_words.specs.Classes.{tok, past}
use Rattle.grammar_words.specs.Coded.{counted}
use Rattle.mir_grammar.specs.Lexemes.{class_of}
use Rattle.mir_grammar.specs.declared.named.Named.{Named}
use Rattle.mir_grammar.specs.Types.{AnyType}
use Rattle.mir_grammar.specs.Functions.{to_declared}
use Rattle.mir_pieces.specs.Views.{read_view}
use Rattle.value_reader.specs.Levels.{types}
use Rattle.line_reader.proofs.Steps.{joined_on, past_on, stop, got}
use Rattle.block_reader.proofs.items.declaration.Goals as goal

pub returns-in-Err-2 : goal.returns-in-Err-2
returns-in-Err-2 c =
    let f = λ (b : Named). to_declared (c.in-Ok.read.0.now, b) in
    let t = types c.args.turns c.args.depth AnyType in
    stop f t c.in-Ok-token.read.1.now c.in-Err-2.stop (ap read_view (sym c.in-Err-2.is) ∙ c.in_ok-read.ensures)
    ∙ ap counted (sym (joined_on to_declared (tok class_of c.args.set.now) (past class_of (11 ∷ []) t) c.args.tokens.now c.in-Ok.read.1.now c.in-Ok.read.0.now c.in-Ok.ensures ∙ past_on f class_of (11 ∷ []) t c.in-Ok.read.1.now c.in-Ok-token.read.1.now c.in-Ok-token.read.0.now c.in-Ok-token.ensures))

pub returns : goal.returns
returns c =
    let f = λ (b : Named). to_declared (c.in-Ok.read.0.now, b) in
    let t = types c.args.turns c.args.depth AnyType in
    ap (λ v. Ok (v, c.in-Ok-2.read.1.now)) c.in_ok-declared.ensures
    ∙ (got f t c.in-Ok-token.read.1.now c.in-Ok-2.read.1.now c.in-Ok-2.read.0 (ap read_view (sym c.in-Ok-2.is) ∙ c.in_ok-read.ensures)
    ∙ ap counted (sym (joined_on to_declared (tok class_of c.args.set.now) (past class_of (11 ∷ []) t) c.args.tokens.now c.in-Ok.read.1.now c.in-Ok.read.0.now c.in-Ok.ensures ∙ past_on f class_of (11 ∷ []) t c.in-Ok.read.1.now c.in-Ok-token.read.1.now c.in-Ok-token.read.0.now c.in-Ok-token.ensures)))
