-- A token of each class that the productions name.
use Rattle.std.proofs.Common.{◌≡◌, codes, refl}
use Rattle.mir_grammar.specs.Lexemes.{Lexeme, class_of, word, number, number_value, number_type}
use Rattle.mir_ir.specs.Names as names
use Rattle.mir_lex.specs.declared.token.TokenKind.TheVariants as kind

abbrev pub lifetime : Lexeme
lifetime = record { kind = kind.Lifetime; text = codes "'a"; start = 0 }

abbrev pub impl_segment : Lexeme
impl_segment = record { kind = kind.ImplSegment; text = codes "<impl A>"; start = 0 }

abbrev pub plain_number : Lexeme
plain_number = number (codes "1")

abbrev pub name : Lexeme
name = word (codes "a")

pub plain_number_class : class_of plain_number ≡ 35
unfolding class_of number_value number_type names.is_int_named names.name_of_int
plain_number_class = refl
