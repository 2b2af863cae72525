-- What readers answer, seen without references.
use Rattle.std.specs.Prelude.{List, Result, Ok, Err}
use Rattle.std.specs.Borrow.{Bor}
use Rattle.grammar_words.specs.declared.stop.Stop.{Stop}

-- a value and the tokens behind it, or a stop
abbrev pub read_view : {A K : Type 0} → Result (A × Bor (List K)) Stop → Result (A × List K) Stop
read_view (Ok r) = Ok (r.0, r.1.now)
read_view (Err s) = Err s

-- the same where the value is a token
abbrev pub token_view : {K : Type 0} → Result (Bor K × Bor (List K)) Stop → Result (K × List K) Stop
token_view (Ok r) = Ok (r.0.now, r.1.now)
token_view (Err s) = Err s
