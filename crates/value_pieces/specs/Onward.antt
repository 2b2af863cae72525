-- Loops that read a part any number of times, and make something of the parts on the way.
use Rattle.std.specs.Prelude.{◌≡◌, ℕ, ◌≤◌, ◌-◌, Bool, List}
use Rattle.grammar_words.specs.Reading.{Outcome, Reader, turned, many}

-- `done` of the turns of `many` are made, and f makes what is wanted of the parts that are still to be read
pub record Onward {K A B : Type 0} (test : K → Bool) (p : Reader K A) (turns : ℕ) (wanted : Outcome K B) (done : ℕ) (f : List A → B) (rest : List K) : Type 0 where
  pub within : done ≤ turns
  pub goes : turned f (many test p (turns - done) rest) ≡ wanted
