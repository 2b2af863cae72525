-- What the checker answers.
use Rattle.std.specs.Prelude.{◌≡◌, ◌⊎◌, ℕ, List, ◌<◌, length}
use Rattle.region_pool.specs.Clauses.{ClauseList, AreLiterals}
use Rattle.region_pool.specs.Log.{Line, line_at}
use Rattle.region_pool.specs.Refutation.{FollowsAt, EachFollows, EndsEmpty, Refutes}
use Rattle.refute_check.specs.declared.acceptance.Verdict.{Verdict}
use Rattle.refute_check.specs.declared.acceptance.Verdict.TheVariants.{Refuted, BadLine}

-- what is seen of a checker: the variables of its clauses, and how many variables it has room for
pub record Room : Type 0 where
  pub variables : ℕ
  pub room : ℕ

-- the literals of the lines before this one are of the variables
abbrev pub HaveLiteralsBefore : ℕ → List Line → ℕ → Type 0
HaveLiteralsBefore variables log number = (earlier : ℕ) → earlier < number → AreLiterals variables (line_at log earlier).literals

-- the first line that does not follow
pub record IsFirstBad (input : ClauseList) (log : List Line) (number : ℕ) : Type 0 where
  pub there : number < length log
  pub before : EachFollows input log number
  pub here : ¬ FollowsAt input log number

-- each line follows, but the log does not end in an empty line
pub record LacksEnd (input : ClauseList) (log : List Line) (number : ℕ) : Type 0 where
  pub count : number ≡ length log
  pub follows : EachFollows input log (length log)
  pub ends : ¬ EndsEmpty log

abbrev pub VerdictIs : ClauseList → List Line → Verdict → Type 0
VerdictIs input log Refuted = Refutes input log
VerdictIs input log (BadLine number) = IsFirstBad input log number ⊎ LacksEnd input log number
