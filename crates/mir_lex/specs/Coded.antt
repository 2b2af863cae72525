-- What functions of the code answer.
use Rattle.std.specs.Prelude.{ℕ, Bool, ◌&&◌, ◌==◌, List, Result, Ok, Err}
use Rattle.vk_core.specs.declared.text_place.TextPlace.{TextPlace}
use Rattle.mir_lex.specs.declared.token.Token.{Token}
use Rattle.mir_lex.specs.declared.fault.FaultKind.{FaultKind}
use Rattle.mir_lex.specs.declared.fault.FaultKind.TheVariants as fault
use Rattle.mir_lex.specs.declared.fault.LexFault.{LexFault}
use Rattle.mir_lex.specs.declared.fault.LexFault.TheVariants as answer
use Rattle.mir_lex.specs.declared.front.Fault.{Fault}
use Rattle.mir_lex.specs.Bytes.{first_is}
use Rattle.mir_lex.specs.Places.{text_place}

abbrev pub opens_comment : ℕ → List ℕ → Bool
opens_comment byte rest = byte == 47 && first_is (λ c. c == 47) rest

-- a fault at its place
abbrev pub fault_of : FaultKind → TextPlace → LexFault
fault_of fault.BadByte place = answer.BadByte place
fault_of fault.OpenText place = answer.OpenText place
fault_of fault.NumberTooWide place = answer.NumberTooWide place
fault_of fault.NameTooLong place = answer.NameTooLong place

-- the answer for a text
abbrev pub answer_of : List ℕ → Result (List Token) Fault → Result (List Token) LexFault
answer_of text (Ok ts) = Ok ts
answer_of text (Err f) = Err (fault_of f.kind (text_place text f.skip))
