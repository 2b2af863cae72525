-- The answer for a text is right.
use Rattle.std.proofs.Common.{◌≡◌, ℕ, List, length, Ok, Err, refl, sym, subst}
use Rattle.mir_lex.specs.declared.fault.FaultKind.{FaultKind}
use Rattle.mir_lex.specs.declared.fault.FaultKind.TheVariants as fault
use Rattle.mir_lex.specs.Places.{text_place}
use Rattle.mir_lex.specs.Tokens.{Fails, IsLexing}
use Rattle.mir_lex.specs.Lexing.{Lexed, lexed}
use Rattle.mir_lex.specs.Coded.{fault_of, answer_of}
use Rattle.mir_lex.proofs.LexLaws.{Answers, lexed_right}

fault_right : (text : List ℕ) (k : FaultKind) (offset : ℕ) → Fails text k offset → IsLexing text (Err (fault_of k (text_place text offset)))
fault_right text fault.BadByte offset h = (offset, h, refl)
fault_right text fault.OpenText offset h = (offset, h, refl)
fault_right text fault.NumberTooWide offset h = (offset, h, refl)
fault_right text fault.NameTooLong offset h = (offset, h, refl)

right_by : (text : List ℕ) (r : Lexed) → Answers (length text) text r → IsLexing text (answer_of text r)
right_by text (Ok ts) h = h
right_by text (Err f) h = fault_right text f.kind f.skip h

pub answer_right : (text : List ℕ) (r : Lexed) → r ≡ lexed text → IsLexing text (answer_of text r)
answer_right text r h = right_by text r (subst (Answers (length text) text) (sym h) (lexed_right text))
