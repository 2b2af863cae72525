-- What the reader of a tuple's items answers, seen without references.
use Rattle.std.specs.Prelude.{Bool, List, Result, Ok, Err}
use Rattle.std.specs.Borrow.{Bor}
use Rattle.std.specs.declared.vec.Vec.{Vec}
use Rattle.std.specs.declared.alloc.Global.{Global}
use Rattle.grammar_words.specs.declared.stop.Stop.{Stop}

abbrev pub items_view : {A K : Type 0} → Result ((Vec A Global × Bool) × Bor (List K)) Stop → Result ((List A × Bool) × List K) Stop
items_view (Ok r) = Ok ((r.0.0.items, r.0.1), r.1.now)
items_view (Err s) = Err s
