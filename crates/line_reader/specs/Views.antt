-- What readers of lines answer, seen without references.
use Rattle.std.specs.Prelude.{List, Result, Ok, Err}
use Rattle.std.specs.Borrow.{Bor}
use Rattle.grammar_words.specs.declared.stop.Stop.{Stop}
use Rattle.grammar_words.specs.Grammar as grammar
use Rattle.line_reader.specs.declared.next.Next.{Next}
use Rattle.line_reader.specs.declared.next.Next.TheVariants as code

abbrev pub next_of : {S T : Type 0} → Next S T → grammar.Next S T
next_of (code.More s) = grammar.More s
next_of (code.Last t) = grammar.Last t

-- a line and the tokens behind it, or a stop
abbrev pub next_view : {S T K : Type 0} → Result (Next S T × Bor (List K)) Stop → Result (grammar.Next S T × List K) Stop
next_view (Ok r) = Ok (next_of r.0, r.1.now)
next_view (Err s) = Err s
