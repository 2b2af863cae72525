-- The form of the code: a value and the tokens behind it, or why reading stops and how many tokens are left there.
use Rattle.std.specs.Prelude.{◌≡◌, ℕ, ◌≤◌, ◌-◌, Bool, List, [], ◌∷◌, ◌++◌, length, Result, Ok, Err}
use Rattle.grammar_words.specs.declared.stop.Why.{Why}
use Rattle.grammar_words.specs.declared.stop.Why.TheVariants.{Wrong}
use Rattle.grammar_words.specs.declared.stop.Stop.{Stop}
use Rattle.grammar_words.specs.Reading.{Outcome, Got, Fault, Reader, turned, many}

abbrev pub stop_at : Why → ℕ → Stop
stop_at why left = record { why = why; left = left }

abbrev pub counted : {K A : Type 0} → Outcome K A → Result (A × List K) Stop
counted (Got a rest) = Ok (a, rest)
counted (Fault why rest) = Err (stop_at why (length rest))

-- nothing may stand behind the whole
abbrev pub at_end : {K : Type 0} → List K → Result (Unit {0}) Stop
at_end [] = Ok tt
at_end (t ∷ rest) = Err (stop_at Wrong (length (t ∷ rest)))

-- parts before those that are read
abbrev pub behind : {K A : Type 0} → List A → Outcome K (List A) → Outcome K (List A)
behind front o = turned (λ as_. front ++ as_) o

-- so many of the turns of `many` are made, with these parts, and the rest is still to be read
abbrev pub SoFar : {K A : Type 0} → (K → Bool) → Reader K A → ℕ → List K → ℕ → List A → List K → Type 0
SoFar test p turns ts done front rest = (done ≤ turns) × (behind front (many test p (turns - done) rest) ≡ many test p turns ts)
