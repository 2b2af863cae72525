-- Loops over parts with a token between each two and perhaps one behind them.
use Rattle.std.specs.Prelude.{◌≡◌, ℕ, ◌≤◌, ◌-◌, Bool, List, ◌++◌, Option, Some, None}
use Rattle.grammar_words.specs.Reading.{Outcome, Reader, turned, made, pick, nothing}
use Rattle.grammar_words.specs.Classes.{inside, past, trail}

-- a token of k, and a part or none
abbrev pub next_or_end : {K A : Type 0} → (K → ℕ) → List ℕ → List ℕ → Reader K A → Reader K (Option A)
next_or_end c b k p = past c k (pick (inside c b) (made Some p) (nothing None))

-- parts before the others
abbrev pub led : {A : Type 0} → List A → List A × Bool → List A × Bool
led front v = (front ++ v.0, v.1)

-- `done` of the turns of `trail` are made, and f makes what is wanted of what is still to be read
pub record Trailing {K A B : Type 0} (c : K → ℕ) (b k : List ℕ) (p : Reader K A) (turns : ℕ) (wanted : Outcome K B) (done : ℕ) (f : List A × Bool → B) (rest : List K) : Type 0 where
  pub within : done ≤ turns
  pub goes : turned f (trail c b k p (turns - done) rest) ≡ wanted
