-- What the code wants of a type.
use Rattle.mir_grammar.specs.Types as grammar
use Rattle.mir_pieces.specs.declared.want.Want.{Want}
use Rattle.mir_pieces.specs.declared.want.Want.TheVariants as want

abbrev pub want_of : Want → grammar.Want
want_of want.AnyType = grammar.AnyType
want_of want.NotMut = grammar.NotMut
want_of want.BehindMut = grammar.BehindMut
want_of want.Qualified = grammar.Qualified
