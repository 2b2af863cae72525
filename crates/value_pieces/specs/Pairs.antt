-- What readers of two tokens answer, seen without references.
use Rattle.std.specs.Prelude.{List, Result, Ok, Err}
use Rattle.std.specs.Borrow.{Bor}
use Rattle.grammar_words.specs.declared.stop.Stop.{Stop}

abbrev pub pair_view : {K : Type 0} → Result ((Bor K × Bor K) × Bor (List K)) Stop → Result ((K × K) × List K) Stop
pair_view (Ok r) = Ok ((r.0.0.now, r.0.1.now), r.1.now)
pair_view (Err s) = Err s
