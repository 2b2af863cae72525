use Rattle.std.proofs.Common.{◌∙◌, ◌^◌, ◌<◌, ap, subst}
use Rattle.mir_lex.specs.Views.{decimal, digits_of}
use Rattle.mir_grammar.specs.Lexemes.{Lexeme}
use Rattle.mir_pieces.proofs.Classing.{value_found, value_missing}
use Rattle.mir_pieces.proofs.piece.Piece.number_value.Goals as goal

pub returns-in-Some : goal.returns-in-Some
returns-in-Some c = value_found c.args.self.now _ _ _ (c.digits_of.ensures ∙ ap (λ (l : Lexeme). digits_of l.text) c.self.view_is) c.number_within.ensures.value c.in-Some.is

pub returns-in-None : goal.returns-in-None
returns-in-None c =
    value_missing c.args.self.now _ _ (subst (λ (l : Lexeme). decimal (digits_of l.text) < 2 ^ 128) c.self.view_is c.self.invariant.1)
    (c.digits_of.ensures ∙ ap (λ (l : Lexeme). digits_of l.text) c.self.view_is) c.number_within.ensures.value c.in-None.is
